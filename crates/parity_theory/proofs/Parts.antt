-- Parts of the positions: counting by parts, and the bound of a certificate.
use Rattle.std.proofs.Common.{◌≡◌, ◌≢◌, ℕ, ◌+◌, ◌/◌, ◌≤◌, ◌⊎◌, inl, inr, List, [], ◌∷◌, ◌++◌, length, refl, sym, ap, ◌∙◌, arith, append-nil, Bool, true, false, cond, ◌||◌}
use Rattle.std.specs.List.{filter}
use Rattle.std.specs.Prelude.{⊤, nat_eq}
use Rattle.std.proofs.lemmas.Bool.{false≢true}
use Rattle.std.proofs.lemmas.Bool.Decides.{eqb_tells}
use Rattle.std.proofs.lemmas.List.{length-append}
use Rattle.parity_theory.proofs.Duality.{kernel_costs_its_length, part_count}
use Rattle.parity_theory.proofs.Lines.{Misses, vectors}
use Rattle.parity_theory.proofs.Positions.{sub_vectors, sub_filter, filter_only}
use Rattle.vector_spaces.proofs.Bases.{HasRankOver, has_rank_over}
use Rattle.vector_spaces.proofs.Independence.{IsIndependent, counting_bound, independent_right, same_length_independent, sublist_independent}
use Rattle.vector_spaces.proofs.Members.{In}
use Rattle.vector_spaces.proofs.Space.{Field, Space}
use Rattle.vector_spaces.proofs.Sublists.{IsSublist, sub_in}
use Rattle.vector_spaces.proofs.Within.{Within, within_append, within_left, within_members, within_nil, within_right, within_self}

-- whether l is one of the list
unfoldable pub has : List ℕ → ℕ → Bool
has [] l = false
has (m ∷ L) l = nat_eq l m || has L l

pub has_in : (L : List ℕ) (l : ℕ) → has L l ≡ true → In l L
unfolding has
has_in [] l e = absurd (false≢true e)
has_in (m ∷ L) l e = go (eqb_tells l m) (has_in L l)
  where
    go : ((nat_eq l m ≡ true) × (l ≡ m)) ⊎ ((nat_eq l m ≡ false) × (l ≢ m)) → (has L l ≡ true → In l L) → In l (m ∷ L)
    go (inl h) ih = inl h.1
    go (inr h) ih = inr (ih (sym (ap (λ b. b || has L l) h.0) ∙ e))

pub in_has : (L : List ℕ) (l : ℕ) → In l L → has L l ≡ true
unfolding has
in_has [] l i = absurd i
in_has (m ∷ L) l i = go (eqb_tells l m) i (in_has L l)
  where
    go : ((nat_eq l m ≡ true) × (l ≡ m)) ⊎ ((nat_eq l m ≡ false) × (l ≢ m)) → In l (m ∷ L) → (In l L → has L l ≡ true) → has (m ∷ L) l ≡ true
    go (inl h) i ih = ap (λ b. b || has L l) h.0
    go (inr h) (inl q) ih = absurd (h.1 q)
    go (inr h) (inr j) ih = ap (λ b. b || has L l) h.0 ∙ ih j

-- the positions with the rank of their lines over a kernel
abbrev pub PartsOver : {K V : Type 0} {f : Field K} → Space f V → (ℕ → V × V) → List V → List (List ℕ × ℕ) → Type 0
PartsOver s line B [] = ⊤
PartsOver s line B (p ∷ ps) = HasRankOver s B (vectors line p.0) p.1 × PartsOver s line B ps

abbrev pub InPart : ℕ → List (List ℕ × ℕ) → Type 0
InPart l [] = ⊥
InPart l (p ∷ ps) = In l p.0 ⊎ InPart l ps

-- in how many parts l is
abbrev pub hits : ℕ → List (List ℕ × ℕ) → ℕ
hits l [] = 0
hits l (p ∷ ps) = cond (has p.0 l) 1 0 + hits l ps

-- how many lines of I are in the parts, part by part
abbrev pub in_parts : List ℕ → List (List ℕ × ℕ) → ℕ
in_parts I [] = 0
in_parts I (p ∷ ps) = length (filter (has p.0) I) + in_parts I ps

abbrev pub halves : List (List ℕ × ℕ) → ℕ
halves [] = 0
halves (p ∷ ps) = p.1 / 2 + halves ps

pub in_parts-nil : (ps : List (List ℕ × ℕ)) → in_parts [] ps ≡ 0
in_parts-nil [] = refl
in_parts-nil (p ∷ ps) = let e = in_parts-nil ps in omega arith

pub in_parts-cons : (l : ℕ) (I : List ℕ) (ps : List (List ℕ × ℕ)) → in_parts (l ∷ I) ps ≡ hits l ps + in_parts I ps
in_parts-cons l I [] = omega arith
in_parts-cons l I (p ∷ ps) =
    let ih = in_parts-cons l I ps in
    let e : length (filter (has p.0) (l ∷ I)) ≡ cond (has p.0 l) 1 0 + length (filter (has p.0) I) =
    elim (has p.0 l) as (λ b. length (cond b (l ∷ filter (has p.0) I) (filter (has p.0) I)) ≡ cond b 1 0 + length (filter (has p.0) I))
    [ true ↦ omega arith | false ↦ omega arith ] in
    omega arith

pub hits_of : (l : ℕ) (ps : List (List ℕ × ℕ)) → InPart l ps → 1 ≤ hits l ps
hits_of l [] i = absurd i
hits_of l (p ∷ ps) (inl i) = let e : cond {A = ℕ} (has p.0 l) 1 0 ≡ 1 = ap (λ b. cond {A = ℕ} b 1 0) (in_has p.0 l i) in omega arith
hits_of l (p ∷ ps) (inr i) = let e = hits_of l ps i in omega arith

-- each in some part
pub count_by_parts_le : (I : List ℕ) (ps : List (List ℕ × ℕ)) → ((l : ℕ) → In l I → InPart l ps) → length I ≤ in_parts I ps
count_by_parts_le [] ps h = omega arith
count_by_parts_le (l ∷ I) ps h = let e = in_parts-cons l I ps in let k = hits_of l ps (h l (inl refl)) in let ih =
    count_by_parts_le I ps (λ x i. h x (inr i)) in omega arith

-- each in one part
pub count_by_parts : (I : List ℕ) (ps : List (List ℕ × ℕ)) → ((l : ℕ) → In l I → hits l ps ≡ 1) → length I ≡ in_parts I ps
count_by_parts [] ps h = sym (in_parts-nil ps)
count_by_parts (l ∷ I) ps h = let e = in_parts-cons l I ps in let k = h l (inl refl) in let ih = count_by_parts I ps (λ x i. h x (inr i)) in
    omega arith

pub sub_behind : {X : Type 0} (ws us vs : List X) → IsSublist us vs → IsSublist (ws ++ us) (ws ++ vs)
sub_behind [] us vs h = h
sub_behind (w ∷ ws) us vs h = inr (ws ++ us, refl, sub_behind ws us vs h)

module _ {K V : Type 0} {f : Field K} (s : Space f V) (line : ℕ → V × V) where
  pub bound_by_parts : (B : List V) (I : List ℕ) (ps : List (List ℕ × ℕ)) → IsIndependent s (B ++ vectors line I) → PartsOver s line B ps →
      in_parts I ps ≤ halves ps
  bound_by_parts B I [] i h = omega arith
  bound_by_parts B I (p ∷ ps) i h =
      let ih = bound_by_parts B I ps i h.1 in
      let J : List ℕ = filter (has p.0) I in
      let j : IsIndependent s (B ++ vectors line J) = sublist_independent s (B ++ vectors line J) (B ++ vectors line I) i
      (sub_behind B (vectors line J) (vectors line I) (sub_vectors line J I (sub_filter (has p.0) I))) in
      let k : length J + length J ≤ p.1 = part_count s line B J p.0 p.1 j (λ l q. has_in p.0 l (filter_only (has p.0) I l q)) h.0 in
      omega arith

  -- vectors A of the kernel's span that the lines of a set miss count as lines
  pub bound_limits_missing_sets : (B : List V) (ps : List (List ℕ × ℕ)) (I : List ℕ) (A : List V) → IsIndependent s B →
      PartsOver s line B ps → ((l : ℕ) → In l I → InPart l ps) → Within s A B → Misses s line I A →
      length I + length A ≤ length B + halves ps
  bound_limits_missing_sets B ps I A b h c k i = go (has_rank_over s A B (independent_right s (vectors line I) A i))
    where
      go : {n : ℕ} → HasRankOver s A B n → length I + length A ≤ length B + halves ps
      go r =
          let C : List V = r.chosen in
          let inside : Within s (A ++ C) B = within_append s A C B k (within_members s C B r.chosen_in) in
          let less : length (A ++ C) ≤ length B = counting_bound s (A ++ C) B r.independent inside in
          let more : length B ≤ length (A ++ C) = counting_bound s B (A ++ C) b r.spans in
          let t = kernel_costs_its_length s line I A C i r.independent in
          let J : List ℕ = t.0 in
          let w : Within s (vectors line J ++ (A ++ C)) (B ++ vectors line J) =
          within_append s (vectors line J) (A ++ C) (B ++ vectors line J)
          (within_right s (vectors line J) B (vectors line J) (within_self s (vectors line J)))
          (within_left s (A ++ C) B (vectors line J) inside) in
          let e1 : length (vectors line J ++ (A ++ C)) ≡ length (vectors line J) + length (A ++ C) =
          length-append (vectors line J) (A ++ C) in
          let e2 : length (B ++ vectors line J) ≡ length B + length (vectors line J) = length-append B (vectors line J) in
          let e3 : length (A ++ C) ≡ length A + length C = length-append A C in
          let j : IsIndependent s (B ++ vectors line J) =
          same_length_independent s (vectors line J ++ (A ++ C)) (B ++ vectors line J) t.2 w (omega arith) in
          let g = count_by_parts_le J ps (λ l q. c l (sub_in J I t.1 l q)) in
          let d = bound_by_parts B J ps j h in
          let e = t.3 in
          omega arith

  -- what an independent set has is at most the kernel and the halves of the parts
  pub bound_limits_independent_sets : (B : List V) (ps : List (List ℕ × ℕ)) (I : List ℕ) → IsIndependent s B → PartsOver s line B ps →
      ((l : ℕ) → In l I → InPart l ps) → IsIndependent s (vectors line I) → length I ≤ length B + halves ps
  bound_limits_independent_sets B ps I b h c i =
      let m = bound_limits_missing_sets B ps I [] b h c (within_nil s B) (rw (append-nil (vectors line I)) i) in
      omega arith
