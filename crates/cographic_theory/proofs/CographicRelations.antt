-- Relations among the cographic vectors of different edges, entry by entry, and connectedness without the edges.
use Rattle.graph_theory.specs.Labels.{label}
use Rattle.std.proofs.Common.{◌≡◌, ℕ, ◌+◌, ◌*◌, List, [], ◌∷◌, cond, ◌≤◌, length, ◌%◌, ◌≢◌, refl, sym, ap, ◌∙◌, arith, eq-eqb, ne_eqb, subst, map, nat_eq}
use Rattle.std.proofs.lemmas.List.{length-map}
use Rattle.std.proofs.Math.Decide.{ℕ_discrete}
use Rattle.edge_lists.specs.Connections.{Joined}
use Rattle.edge_lists.specs.Occurrences.{count}
use Rattle.edge_lists.proofs.Occurrences.{count-append, count-head, count-map, count-nil, count-other, length-cons, length-nil}
use Rattle.cographic_theory.proofs.Cuts.{EvenOnCycles, TreePaths, apart_dependent, connected_independent, total, total-even}

-- the coefficient of the edge x in a list of edges with coefficients
unfoldable pub coefficient : List ℕ → List ℕ → ℕ → ℕ
coefficient [] cs x = 0
coefficient (s ∷ S) [] x = 0
coefficient (s ∷ S) (c ∷ cs) x = cond (nat_eq s x) c 0 + coefficient S cs x

-- the coefficients of the edges of S, each as often as its edge stands in C
unfoldable pub weight : List ℕ → List ℕ → List ℕ → ℕ
weight C [] cs = 0
weight C (s ∷ S) [] = 0
weight C (s ∷ S) (c ∷ cs) = c * count s C + weight C S cs

coefficient-here : (s : ℕ) (S : List ℕ) (c : ℕ) (cs : List ℕ) → coefficient (s ∷ S) (c ∷ cs) s ≡ c + coefficient S cs s
unfolding coefficient
coefficient-here s S c cs = ap (λ t. cond t c 0 + coefficient S cs s) (eq-eqb s s refl)

coefficient-other : (s : ℕ) (S : List ℕ) (c : ℕ) (cs : List ℕ) (x : ℕ) → s ≢ x → coefficient (s ∷ S) (c ∷ cs) x ≡ coefficient S cs x
unfolding coefficient
coefficient-other s S c cs x n = ap (λ t. cond t c 0 + coefficient S cs x) (ne_eqb s x n) ∙ omega arith

coefficient-none : (S cs : List ℕ) (x : ℕ) → count x S ≡ 0 → coefficient S cs x ≡ 0
unfolding coefficient
coefficient-none [] cs x h = refl
coefficient-none (s ∷ S) [] x h = refl
coefficient-none (s ∷ S) (c ∷ cs) x h = go (ℕ_discrete s x) (λ k. coefficient-none S cs x k)
  where
    go : Dec (s ≡ x) → (count x S ≡ 0 → coefficient S cs x ≡ 0) → coefficient (s ∷ S) (c ∷ cs) x ≡ 0
    go (yes e) ih = absurd (omega (arith, h, ap (λ t. count x (t ∷ S)) e, count-head x S))
    go (no n) ih = coefficient-other s S c cs x n ∙ ih (omega (arith, h, count-other x s S n))

times-zero : (c : ℕ) → c * 0 ≡ 0
times-zero c = omega arith

times-suc : (c n : ℕ) → c * (1 + n) ≡ c + c * n
times-suc c n = grind arith

weight-cons : (x : ℕ) (C S cs : List ℕ) → weight (x ∷ C) S cs ≡ coefficient S cs x + weight C S cs
unfolding weight coefficient
weight-cons x C [] cs = refl
weight-cons x C (s ∷ S) [] = refl
weight-cons x C (s ∷ S) (c ∷ cs) = go (ℕ_discrete x s) (weight-cons x C S cs)
  where
    go : Dec (x ≡ s) → weight (x ∷ C) S cs ≡ coefficient S cs x + weight C S cs
        → c * count s (x ∷ C) + weight (x ∷ C) S cs ≡ coefficient (s ∷ S) (c ∷ cs) x + (c * count s C + weight C S cs)
    go (yes e) ih = omega (
      arith,
      ih,
      subst (λ t. c * count t (x ∷ C) ≡ c + c * count t C) e (ap (λ t. c * t) (count-head x C) ∙ times-suc c (count x C)),
      subst (λ t. coefficient (t ∷ S) (c ∷ cs) x ≡ c + coefficient S cs x) e (coefficient-here x S c cs),
    )
    go (no n) ih = omega (arith, ih, ap (λ t. c * t) (count-other s x C n), coefficient-other s S c cs x (λ e. n (sym e)))

weight-none : (S cs : List ℕ) → weight [] S cs ≡ 0
unfolding weight
weight-none [] cs = refl
weight-none (s ∷ S) [] = refl
weight-none (s ∷ S) (c ∷ cs) = omega (arith, weight-none S cs, ap (λ t. c * t) (count-nil s), times-zero c)

-- summed over C, the coefficients are those of the edges of S as often as they stand in C
pub weight-total : (C S cs : List ℕ) → weight C S cs ≡ total (coefficient S cs) C
unfolding total
weight-total [] S cs = weight-none S cs
weight-total (x ∷ C) S cs = weight-cons x C S cs ∙ ap (λ t. coefficient S cs x + t) (weight-total C S cs)

-- the coefficients of different edges are even where the sums of each edge are
items_even : (S cs : List ℕ) → ((e : ℕ) → count e S ≤ 1) → length cs ≡ length S
    → ((e : ℕ) → 1 ≤ count e S → coefficient S cs e % 2 ≡ 0) → (c : ℕ)
    → 1 ≤ count c cs → c % 2 ≡ 0
items_even S [] D l h c i = absurd (omega (arith, i, count-nil c))
items_even [] (c ∷ cs) D l h d i = absurd (omega (arith, l, length-cons c cs, length-nil ℕ))
items_even (s ∷ S) (c ∷ cs) D l h d i = go (ℕ_discrete c d) (λ j. items_even S cs (λ e. omega (arith, D e, count-append e (s ∷ []) S))
    (omega (arith, l, length-cons c cs, length-cons s S)) rest d j)
  where
    s_out : count s S ≡ 0
    s_out = omega (arith, D s, count-head s S)

    rest : (e : ℕ) → 1 ≤ count e S → coefficient S cs e % 2 ≡ 0
    rest e j =
        let n : s ≢ e = λ q. absurd (omega (arith, j, s_out, ap (λ t. count t S) q)) in
        sym (ap (λ t. t % 2) (coefficient-other s S c cs e n)) ∙ h e (omega (arith, j, count-append e (s ∷ []) S))

    go : Dec (c ≡ d) → (1 ≤ count d cs → d % 2 ≡ 0) → d % 2 ≡ 0
    go (yes q) ih =
        let k : coefficient (s ∷ S) (c ∷ cs) s % 2 ≡ 0 = h s (omega (arith, count-head s S)) in
        omega (arith, q, k, coefficient-here s S c cs, coefficient-none S cs s s_out)
    go (no n) ih = ih (omega (arith, i, count-other d c cs n))

coefficient-map : (f : ℕ → ℕ) (S : List ℕ) → ((e : ℕ) → count e S ≤ 1) → (x : ℕ) → 1 ≤ count x S → coefficient S (map f S) x ≡ f x
coefficient-map f [] D x i = absurd (omega (arith, i, count-nil x))
coefficient-map f (s ∷ S) D x i = go (ℕ_discrete s x) (λ j. coefficient-map f S (λ e. omega (arith, D e, count-append e (s ∷ []) S)) x j)
  where
    go : Dec (s ≡ x) → (1 ≤ count x S → coefficient S (map f S) x ≡ f x) → coefficient (s ∷ S) (f s ∷ map f S) x ≡ f x
    go (yes e) ih = subst (λ t. coefficient (s ∷ S) (f s ∷ map f S) t ≡ f t) e (omega (
      arith,
      coefficient-here s S (f s) (map f S),
      coefficient-none S (map f S) s (omega (arith, D s, count-head s S)),
    ))
    go (no n) ih = coefficient-other s S (f s) (map f S) x n ∙ ih (omega (arith, i, count-other x s S n))

module _ (ends : ℕ → ℕ × ℕ) (E T : List ℕ) (P : TreePaths ends E T)
    (S K : List ℕ) (D : (e : ℕ) → count e S ≤ 1) (sub_K : (e : ℕ) → 1 ≤ count e K → 1 ≤ count e E) (sub_S : (e : ℕ) → 1 ≤ count e S
    → 1 ≤ count e E)
    (apart : (e : ℕ) → 1 ≤ count e K → count e S ≡ 0) (cover : (e : ℕ) → 1 ≤ count e E → count e K ≡ 0 → 1 ≤ count e S) where
  -- the coefficients cs of the edges of S combine their vectors to zero: the entry of the edge g outside the tree is even
  abbrev pub Vanishes : List ℕ → Type 0
  Vanishes cs = (g : ℕ) → 1 ≤ count g E → count g T ≡ 0 → weight (g ∷ P.path g) S cs % 2 ≡ 0

  even_of : (cs : List ℕ) → Vanishes cs → EvenOnCycles ends E T P (coefficient S cs)
  even_of cs h g i n = let k = h g i n in omega (arith, k, weight-cons g (P.path g) S cs, weight-total (P.path g) S cs)

  -- where the edges outside S join the ends of every edge, only even coefficients vanish
  pub represent_independent : ((e : ℕ) → 1 ≤ count e E → Joined ends K (ends e).0 (ends e).1) → (cs : List ℕ) → length cs ≡ length S
      → Vanishes cs → (c : ℕ)
      → 1 ≤ count c cs → c % 2 ≡ 0
  represent_independent all cs l h = items_even S cs D l (λ e i. connected_independent ends E T P K sub_K all
      (coefficient S cs) (even_of cs h)
      (λ e j. ap (λ t. t % 2) (coefficient-none S cs e (apart e j))) e (sub_S e i))

  -- where only even coefficients vanish, the edges outside S join all that the graph joins
  pub represent_connected : ((cs : List ℕ) → length cs ≡ length S → Vanishes cs → (c : ℕ) → 1 ≤ count c cs → c % 2 ≡ 0) → (u v : ℕ)
      → Joined ends E u v
      → Joined ends K u v
  represent_connected ind u v j = go (ℕ_discrete (label (map ends K) u) (label (map ends K) v))
    where
      go : Dec (label (map ends K) u ≡ label (map ends K) v) → Joined ends K u v
      go (yes e) = e
      go (no n) = absurd (clash (apart_dependent ends E T P K u v n j))
        where
          clash : (f : ℕ → ℕ) × EvenOnCycles ends E T P f × ((e : ℕ) → 1 ≤ count e K → f e % 2 ≡ 0) × ¬
              ((e : ℕ) → 1 ≤ count e E → f e % 2 ≡ 0)
              → ⊥
          clash (f, even, on_K, not_all) = not_all each
            where
              cs : List ℕ
              cs = map f S

              near : (e : ℕ) → 1 ≤ count e E → (f e + coefficient S cs e) % 2 ≡ 0
              near e i = decide (ℕ_discrete (count e K) 0)
                where
                  decide : Dec (count e K ≡ 0) → (f e + coefficient S cs e) % 2 ≡ 0
                  decide (yes z) = omega (arith, coefficient-map f S D e (cover e i z))
                  decide (no m) = omega (arith, on_K e (omega arith), coefficient-none S cs e (apart e (omega arith)))

              vanish : Vanishes cs
              vanish g i m = omega (
                arith,
                even g i m,
                weight-cons g (P.path g) S cs,
                weight-total (P.path g) S cs,
                near g i,
                total-even ends f (coefficient S cs) (P.path g) (λ e k. near e (P.sub_T e (P.within g e i m k))),
              )

              each : (e : ℕ) → 1 ≤ count e E → f e % 2 ≡ 0
              each e i = in_S (ℕ_discrete (count e S) 0)
                where
                  in_S : Dec (count e S ≡ 0) → f e % 2 ≡ 0
                  in_S (yes z) = on_K e (outside (ℕ_discrete (count e K) 0))
                    where
                      outside : Dec (count e K ≡ 0) → 1 ≤ count e K
                      outside (yes y) = absurd (omega (arith, cover e i y, z))
                      outside (no m) = omega arith
                  in_S (no m) = ind cs (length-map S f) vanish (f e) (count-map f S e (omega arith))
