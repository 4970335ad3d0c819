-- The state after a line was put in, taken out, or exchanged.
use Rattle.std.proofs.Common.{◌≡◌, ◌≢◌, ℕ, suc, ◌+◌, ◌*◌, ◌<◌, ◌≤◌, ◌⊎◌, inl, inr, List, [], ◌∷◌, ◌++◌, length, refl, sym, ap, ◌∙◌, subst, arith, All}
use Rattle.std.specs.Prelude.{◌↔◌}
use Rattle.std.specs.List.{Contains}
use Rattle.std.specs.List.Sorted.{IsStrictlyIncreasing}
use Rattle.std.proofs.lemmas.List.{length-append}
use Rattle.std.proofs.lemmas.List.Elements.{All-push}
use Rattle.vector_spaces.proofs.Members.{In-all, all-In, contains-In, In-contains}
use Rattle.vector_spaces.proofs.Middles.{in_split, length-middle}
use Rattle.frames.specs.Frames.{Framed, IsFrame}
use Rattle.linear_algebra.specs.Scalars.{Scalars, IsField}
use Rattle.linear_algebra.specs.Spans.{IsIndependent}
use Rattle.matching_state.specs.Bases.{IsKept, IsListed}
use Rattle.matching_state.specs.Chosen.{Chosen}
use Rattle.matching_state.specs.DirectSteps.{IsSwap}
use Rattle.matching_state.specs.LinePlaces.{IsExposed, rank_beside}
use Rattle.matching_state.specs.Overlaps.{InSupport}
use Rattle.matching_state.proofs.Exchanged.{comes_in, exchanged_behind, free_behind, free_is_new, goes_out, lines_fit, swap_made}
use Rattle.matching_state.proofs.Listings.{fewer, listed_independent, listed_problem, same_width}
use Rattle.matching_state.proofs.Orders.{put_in, taken_out}
use Rattle.parity_lines.specs.Problems.{ParityProblem, IsProblem, vectors_at}

-- the state of a set over a frame
abbrev pub state_of : ParityProblem → List ℕ → Framed → Chosen
state_of p M f = record { problem = p; set = M; basis = f.basis; kept = f.kept }

-- K has the members of M but m
abbrev pub IsLess : List ℕ → ℕ → List ℕ → Type 0
IsLess M m K = IsStrictlyIncreasing K × ((l : ℕ) → Contains K l ↔ (Contains M l × (l ≢ m)))

-- N has the members of K, and m
abbrev pub IsMore : List ℕ → ℕ → List ℕ → Type 0
IsMore K m N = IsStrictlyIncreasing N × ((l : ℕ) → Contains N l ↔ (Contains K l ⊎ (l ≡ m)))

-- what the three steps do to the basis
abbrev pub Puts : Scalars → ParityProblem → ℕ → ℕ → Framed → Framed → Type 0
Puts S p line count before after = (L : List ℕ) → length L ≡ count → IsListed S p L before.basis before.kept → IsIndependent S p.dimension (vectors_at p (L ++ line ∷ [])) →
    IsListed S p (L ++ line ∷ []) after.basis after.kept

abbrev pub TakesOut : Scalars → List ℕ → ℕ → Framed → Framed → Type 0
TakesOut S M line before after = (p : ParityProblem) (K : List ℕ) → IsStrictlyIncreasing K → ((l : ℕ) → Contains K l ↔ (Contains M l × (l ≢ line))) → Contains M line →
    IsListed S p M before.basis before.kept → IsListed S p (K ++ line ∷ []) after.basis after.kept

abbrev pub PutsInOrder : Scalars → List ℕ → ℕ → Framed → Framed → Type 0
PutsInOrder S N line before after = (p : ParityProblem) (K : List ℕ) → IsStrictlyIncreasing K → ¬ (Contains K line) → ((l : ℕ) → Contains N l ↔ (Contains K l ⊎ (l ≡ line))) →
    IsListed S p (K ++ line ∷ []) before.basis before.kept → IsListed S p N after.basis after.kept

one_more : (K N : List ℕ) (m : ℕ) → IsStrictlyIncreasing K → ¬ (Contains K m) → IsMore K m N → length N ≡ suc (length K)
one_more K N m k n a =
    let s = in_split m N (In-contains N m ((a.1 m).1 (inr refl))) in
    let e = ap length (put_in N K s.0 s.1 m s.2 a.0 k n a.1) in
    let t = ap length s.2 ∙ length-middle s.0 m s.1 in
    omega arith

one_less : (M K : List ℕ) (m : ℕ) → IsStrictlyIncreasing M → Contains M m → IsLess M m K → length M ≡ suc (length K)
one_less M K m k c a =
    let s = in_split m M (In-contains M m c) in
    let e = ap length (taken_out M K s.0 s.1 m s.2 k a.0 a.1) in
    let t = ap length s.2 ∙ length-middle s.0 m s.1 in
    omega arith

less_within : (n : ℕ) (M K : List ℕ) (m : ℕ) → All (λ l. l < n) M → IsLess M m K → All (λ l. l < n) K
less_within n M K m h a = all-In (λ l. l < n) K (λ l j. In-all (λ l. l < n) M h l (In-contains M l ((a.1 l).0 (contains-In K l j)).0))

more_within : (n : ℕ) (K N : List ℕ) (m : ℕ) → All (λ l. l < n) K → m < n → IsMore K m N → All (λ l. l < n) N
more_within n K N m h l a = all-In (λ k. k < n) N (λ k j. elim ((a.1 k).0 (contains-In N k j)) as (λ _. k < n) [
  | inl c ↦ In-all (λ k. k < n) K h k (In-contains K k c)
  | inr e ↦ subst (λ t. t < n) (sym e) l
])

module _ (S : Scalars) (F : IsField S) (p : ParityProblem) (M : List ℕ) (f : Framed) (K : IsKept S (state_of p M f)) where
  pub problem_is : IsProblem S p
  problem_is = listed_problem S F p M f.basis f.kept K.listed

  pub width_is : IsFrame S f → f.width ≡ p.dimension
  width_is h = same_width S F p M f.basis f.kept K.listed f refl h

  pub set_fits : 2 * length M ≤ p.dimension
  set_fits = lines_fit S F p problem_is M K.independent.line_set.within K.independent.independent

  kept_after : (N : List ℕ) (g : Framed) → IsStrictlyIncreasing N → All (λ m. m < length p.lines) N → IsListed S p N g.basis g.kept → IsKept S (state_of p N g)
  kept_after N g k w h = record {
    independent = record { line_set = record { increasing = k; within = w }; independent = listed_independent S F p N g.basis g.kept h };
    listed = h;
  }

  -- a line is taken out
  pub taken_kept : (line : ℕ) (R : List ℕ) (g : Framed) → Contains M line → IsLess M line R → TakesOut S M line f g → IsKept S (state_of p R g)
  taken_kept line R g c a out =
      kept_after R g a.0 (less_within (length p.lines) M R line K.independent.line_set.within a)
      (fewer S F p R (line ∷ []) g.basis g.kept (out p R a.0 a.1 c K.listed))

  -- a free line is put in
  module _ (line : ℕ) (within : line < length p.lines) (free : rank_beside S p M line ≡ 2) (N : List ℕ) (a : IsMore M line N) where
    behind : IsIndependent S p.dimension (vectors_at p (M ++ line ∷ []))
    behind = free_behind S F p problem_is M K.independent line within free

    pub is_new : ¬ (Contains M line)
    is_new = free_is_new S F p problem_is M K.independent line within free

    pub insert_fits : 2 * length M + 1 < p.dimension
    insert_fits =
        let l = lines_fit S F p problem_is (M ++ line ∷ []) (All-push (λ m. m < length p.lines) M line K.independent.line_set.within within) behind in
        let e = length-append M (line ∷ []) in
        omega arith

    pub insert_room : 2 * length N ≤ p.dimension
    insert_room = let l = insert_fits in let e = one_more M N line K.independent.line_set.increasing is_new a in omega arith

    pub inserted_kept : (g h : Framed) → Puts S p line (length M) f g → PutsInOrder S N line g h → IsKept S (state_of p N h)
    inserted_kept g h put order =
        kept_after N h a.0 (more_within (length p.lines) M N line K.independent.line_set.within within a)
        (order p M K.independent.line_set.increasing is_new a.1 (put M refl K.listed behind))

  -- an exposed line takes the place of another
  module _ (out into : ℕ) (within : into < length p.lines) (exposed : IsExposed S p M into) (support : InSupport S p M into out) (R N : List ℕ) (less : IsLess M out R)
      (more : IsMore R into N) where
    leaves : Contains M out
    leaves = goes_out S F p problem_is M K.independent out into within exposed support

    is_other : ¬ (Contains M into)
    is_other = comes_in S F p problem_is M K.independent out into within exposed support

    is_other_still : ¬ (Contains R into)
    is_other_still c = is_other ((less.1 into).0 c).0

    behind_rest : IsIndependent S p.dimension (vectors_at p (R ++ into ∷ []))
    behind_rest = exchanged_behind S F p problem_is M K.independent out into within exposed support R less.0 less.1

    R_within : All (λ m. m < length p.lines) R
    R_within = less_within (length p.lines) M R out K.independent.line_set.within less

    pub exchange_fits : 2 * length R + 1 < p.dimension
    exchange_fits =
        let l = lines_fit S F p problem_is (R ++ into ∷ []) (All-push (λ m. m < length p.lines) R into R_within within) behind_rest in
        let e = length-append R (into ∷ []) in
        omega arith

    pub exchange_room : 2 * length N ≤ p.dimension
    exchange_room = let l = exchange_fits in let e = one_more R N into less.0 is_other_still more in omega arith

    -- the basis lists the rest, and the line that goes out behind
    pub rest_listed : (g : Framed) → TakesOut S M out f g → IsListed S p R g.basis g.kept
    rest_listed g takes = fewer S F p R (out ∷ []) g.basis g.kept (takes p R less.0 less.1 leaves K.listed)

    pub exchanged_kept : (g h k : Framed) → TakesOut S M out f g → Puts S p into (length R) g h → PutsInOrder S N into h k → IsKept S (state_of p N k)
    exchanged_kept g h k takes put order =
        kept_after N k more.0 (more_within (length p.lines) R N into R_within within more)
        (order p R less.0 is_other_still more.1 (put R refl (rest_listed g takes) behind_rest))

    pub is_swap : IsSwap M out into N
    is_swap = swap_made M R N out into leaves is_other less.1 more.1
