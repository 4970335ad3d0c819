-- From a dart to the one after it, and the vertex where it stands.
use Rattle.std.proofs.Common.{◌≡◌, ◌≢◌, ℕ, zero, suc, ◌+◌, ◌*◌, ◌-◌, ◌/◌, ◌%◌, ◌<◌, ◌≤◌, ◌⊎◌, inl, inr, Bool, true, false, List, [], ◌∷◌, ◌++◌, cond, length, length-append, get_or, nat_eq, eq-eqb, ne_eqb, take, drop, refl, sym, ap, subst, ◌∙◌, arith}
use Rattle.std.specs.List.{range_with_len}
use Rattle.std.proofs.Math.Decide.{ℕ_discrete}
use Rattle.std.proofs.lemmas.List.{take_more}
use Rattle.vector_spaces.proofs.Members.{In-get_or}
use Rattle.edge_lists.specs.Connections.{one_component}
use Rattle.edge_lists.specs.Occurrences.{count, count_all, keep}
use Rattle.edge_lists.proofs.EdgeNumbers.{range-more}
use Rattle.edge_lists.proofs.Occurrences.{count_all-cons, count_all-nil, count-nil, count-other, count_of_in}
use Rattle.rotation_theory.specs.CyclicLists.{arc, arcs, empties, head_or, row_arcs}
use Rattle.rotation_theory.specs.Darts.{dart, edge, rev, tail}
use Rattle.rotation_theory.specs.Rotations.{AtVertices}
use Rattle.rotation_theory.proofs.Arcs.{arcs-cons, one_at-is, row_arcs-append}
use Rattle.rotation_theory.proofs.Darts.{edge_dart, edge_rev, rev_rev, tail-dart, tail-second}
use Rattle.rotation_theory.proofs.EmptyLists.{empties-append, empties-cons, empties-nil, empties-none}
use Rattle.rotation_theory.proofs.Vertices.{placed_least}
use Rattle.rotation_system.proofs.DartLists.{split_at_index}

pub head_or-cons : (c : ℕ) (t : List ℕ) (z : ℕ) → head_or (c ∷ t) z ≡ c
unfolding head_or
head_or-cons c t z = refl

head_or-none : (z : ℕ) → head_or [] z ≡ z
unfolding head_or
head_or-none z = refl

-- what comes after a in the cyclic list
pub arc_split : (a : ℕ) (u v : List ℕ) → 1 ≤ arc a (head_or v (head_or (u ++ a ∷ v) 0)) (u ++ a ∷ v)
unfolding arc row_arcs
arc_split a u v =
    let z = head_or (u ++ a ∷ v) 0 in
    let b = head_or v z in
    omega (arith, row_arcs-append a b u (a ∷ v) z, one_at-is a b)

head_drop : (w : List ℕ) (k z : ℕ) → k < length w → head_or (drop k w) z ≡ get_or w k 0
head_drop [] k z l = absurd (omega arith)
head_drop (x ∷ w) zero z l = head_or-cons x w z
head_drop (x ∷ w) (suc k) z l = head_drop w k z (omega arith)

pub drop_none : (w : List ℕ) (k : ℕ) → length w ≤ k → drop k w ≡ []
drop_none [] zero l = refl
drop_none [] (suc k) l = refl
drop_none (x ∷ w) zero l = absurd (omega arith)
drop_none (x ∷ w) (suc k) l = drop_none w k (omega arith)

-- the index after i, or the first where i is the last
abbrev pub IsNext : List ℕ → ℕ → ℕ → Type 0
IsNext w i j = ((i + 1 < length w) × (j ≡ i + 1)) ⊎ ((length w ≤ i + 1) × (j ≡ 0))

pub arc_next : (w : List ℕ) (i j : ℕ) → i < length w → IsNext w i j → 1 ≤ arc (get_or w i 0) (get_or w j 0) w
arc_next w i j l n = subst (λ b. 1 ≤ arc (get_or w i 0) b w) (go n)
    (subst (λ t. 1 ≤ arc (get_or w i 0) (head_or (drop (i + 1) w) (head_or t 0)) t)
    (sym (split_at_index 0 w i l)) (arc_split (get_or w i 0) (take i w) (drop (i + 1) w)))
  where
    go : IsNext w i j → head_or (drop (i + 1) w) (head_or w 0) ≡ get_or w j 0
    go (inl (a, q)) = head_drop w (i + 1) (head_or w 0) a ∙ ap (λ k. get_or w k 0) (sym q)
    go (inr (a, q)) = ap (λ t. head_or t (head_or w 0)) (drop_none w (i + 1) a) ∙ head_or-none (head_or w 0)
        ∙ head_drop w 0 0 (omega arith) ∙ ap (λ k. get_or w k 0) (sym q)

pub arc_in : (a b k : ℕ) (X : List (List ℕ)) → k < length X → arc a b (get_or X k []) ≤ arcs a b X
arc_in a b k [] l = absurd (omega arith)
arc_in a b zero (w ∷ X) l = omega (arith, arcs-cons a b w X)
arc_in a b (suc k) (w ∷ X) l = omega (arith, arcs-cons a b w X, arc_in a b k X (omega arith))

pub count_in : (d k : ℕ) (X : List (List ℕ)) → k < length X → count d (get_or X k []) ≤ count_all d X
count_in d k [] l = absurd (omega arith)
count_in d zero (w ∷ X) l = omega (arith, count_all-cons d w X)
count_in d (suc k) (w ∷ X) l = omega (arith, count_all-cons d w X, count_in d k X (omega arith))

-- a dart stands in the list of the vertex that it leaves
stands_from : (ends : ℕ → ℕ × ℕ) (n d k : ℕ) (X : List (List ℕ)) → AtVertices ends n X → tail ends d ≡ n + k → 1 ≤ count_all d X
    → (k < length X) × (1 ≤ count d (get_or X k []))
stands_from ends n d k [] A q i = absurd (omega (arith, i, count_all-nil d))
stands_from ends n d zero (w ∷ X) (h, m) q i = go (ℕ_discrete (count d w) 0)
  where
    go : Dec (count d w ≡ 0) → (0 < length (w ∷ X)) × (1 ≤ count d w)
    go (no z) = (omega arith, omega arith)
    go (yes z) = absurd (omega (arith, q, placed_least ends (suc n) d X m (omega (arith, i, z, count_all-cons d w X))))
stands_from ends n d (suc k) (w ∷ X) (h, m) q i = go (ℕ_discrete (count d w) 0) (λ j. stands_from ends (suc n) d k X m
    (omega (arith, q)) j)
  where
    go : Dec (count d w ≡ 0) → (1 ≤ count_all d X → (k < length X) × (1 ≤ count d (get_or X k [])))
        → (suc k < length (w ∷ X)) × (1 ≤ count d (get_or X k []))
    go (no z) ih = absurd (omega (arith, q, h d (omega arith)))
    go (yes z) ih = let r = ih (omega (arith, i, z, count_all-cons d w X)) in let l = r.0 in (omega arith, r.1)

pub stands_at : (ends : ℕ → ℕ × ℕ) (d : ℕ) (L : List (List ℕ)) → AtVertices ends 0 L → 1 ≤ count_all d L
    → (tail ends d < length L) × (1 ≤ count d (get_or L (tail ends d) []))
stands_at ends d L A i = stands_from ends 0 d (tail ends d) L A (omega arith) i

-- a list in which a dart stands
pub stands_in : (d : ℕ) (X : List (List ℕ)) → 1 ≤ count_all d X → (k : ℕ) × (k < length X) × (1 ≤ count d (get_or X k []))
stands_in d [] i = absurd (omega (arith, i, count_all-nil d))
stands_in d (w ∷ X) i = go (ℕ_discrete (count d w) 0) (λ j. stands_in d X j)
  where
    go : Dec (count d w ≡ 0) → (1 ≤ count_all d X → (k : ℕ) × (k < length X) × (1 ≤ count d (get_or X k [])))
        → (k : ℕ) × (k < length (w ∷ X)) × (1 ≤ count d (get_or (w ∷ X) k []))
    go (no z) ih = (0, omega arith, omega arith)
    go (yes z) ih = let r = ih (omega (arith, i, z, count_all-cons d w X)) in let l = r.1 in (suc r.0, omega arith, r.2)

-- one vertex more
pub empties_more : (X : List (List ℕ)) (i : ℕ) → i < length X
    → empties (take (i + 1) X) ≡ empties (take i X) + empties (get_or X i [] ∷ [])
empties_more X i l = ap empties (take_more X i [] l) ∙ empties-append (take i X) (get_or X i [] ∷ [])

pub empties_one : (w : List ℕ) → length w ≡ 0 → empties (w ∷ []) ≡ 1
empties_one [] q = empties-nil [] ∙ omega (arith, empties-none)
empties_one (x ∷ w) q = absurd (omega arith)

pub empties_no : (w : List ℕ) → length w ≢ 0 → empties (w ∷ []) ≡ 0
empties_no [] n = absurd (n refl)
empties_no (x ∷ w) n = empties-cons x w [] ∙ empties-none

pub keep-append : (f : ℕ → ℕ) (A B : List ℕ) → keep f (A ++ B) ≡ keep f A ++ keep f B
unfolding keep
keep-append f [] B = refl
keep-append f (e ∷ A) B = go (nat_eq (f e) 0) (keep-append f A B)
  where
    go : (b : Bool) → keep f (A ++ B) ≡ keep f A ++ keep f B
        → cond b (e ∷ keep f (A ++ B)) (keep f (A ++ B)) ≡ cond b (e ∷ keep f A) (keep f A) ++ keep f B
    go true ih = ap (λ t. e ∷ t) ih
    go false ih = ih

pub held_more : (f : ℕ → ℕ) (n : ℕ)
    → length (keep f (range_with_len 0 (n + 1))) ≡ length (keep f (range_with_len 0 n)) + length (keep f (n ∷ []))
held_more f n = ap (λ t. length (keep f t)) (range-more n) ∙ ap length (keep-append f (range_with_len 0 n) (n ∷ []))
    ∙ length-append (keep f (range_with_len 0 n)) (keep f (n ∷ []))

pub keep_one : (f : ℕ → ℕ) (n : ℕ) → f n ≡ 0 → 1 ≡ length (keep f (n ∷ []))
unfolding keep
keep_one f n h = ap (λ b. length (cond b (n ∷ []) [])) (sym (eq-eqb (f n) 0 h))

pub keep_none : (f : ℕ → ℕ) (n : ℕ) → f n ≢ 0 → 0 ≡ length (keep f (n ∷ []))
unfolding keep
keep_none f n h = ap (λ b. length (cond b (n ∷ []) [])) (sym (ne_eqb (f n) 0 h))

pub empties_le : (X : List (List ℕ)) → empties X ≤ length X
unfolding empties
empties_le [] = omega arith
empties_le ([] ∷ X) = omega (arith, empties_le X)
empties_le ((c ∷ w) ∷ X) = omega (arith, empties_le X)

pub one_none : (n : ℕ) → n ≡ 0 → 0 ≡ one_component n
one_none zero q = refl
one_none (suc n) q = absurd (omega arith)

pub one_some : (n : ℕ) → n ≢ 0 → 1 ≡ one_component n
one_some zero q = absurd (q refl)
one_some (suc n) q = refl

pub index_counted : (d : ℕ) (w : List ℕ) → 1 ≤ count d w → (k : ℕ) × (k < length w) × (get_or w k 0 ≡ d)
index_counted d [] i = absurd (omega (arith, i, count-nil d))
index_counted d (x ∷ w) i = go (ℕ_discrete x d) (λ j. index_counted d w j)
  where
    go : Dec (x ≡ d) → (1 ≤ count d w → (k : ℕ) × (k < length w) × (get_or w k 0 ≡ d))
        → (k : ℕ) × (k < length (x ∷ w)) × (get_or (x ∷ w) k 0 ≡ d)
    go (yes q) ih = (0, omega arith, q)
    go (no n) ih = let r = ih (omega (arith, i, count-other d x w n)) in let l = r.1 in (suc r.0, omega arith, r.2)

pub counted_at : (d k : ℕ) (w : List ℕ) → k < length w → get_or w k 0 ≡ d → 1 ≤ count d w
counted_at d k w l q = subst (λ t. 1 ≤ count t w) q (count_of_in (get_or w k 0) w (In-get_or w k 0 l))

pub tail_even : (f : ℕ → ℕ × ℕ) (d : ℕ) → d % 2 ≡ 0 → (f (d / 2)).0 ≡ tail f d
unfolding tail
tail_even f d h = sym (ap (λ b. cond b (f (d / 2)).0 (f (d / 2)).1) (eq-eqb (d % 2) 0 h))

pub tail_odd : (f : ℕ → ℕ × ℕ) (d : ℕ) → d % 2 ≢ 0 → (f (d / 2)).1 ≡ tail f d
unfolding tail
tail_odd f d h = sym (ap (λ b. cond b (f (d / 2)).0 (f (d / 2)).1) (ne_eqb (d % 2) 0 h))

pub rev_even : (d : ℕ) → d % 2 ≡ 0 → d + 1 ≡ rev d
unfolding rev
rev_even d h = sym (ap (λ b. cond b (d + 1) (d - 1)) (eq-eqb (d % 2) 0 h))

pub rev_odd : (d : ℕ) → d % 2 ≢ 0 → d - 1 ≡ rev d
unfolding rev
rev_odd d h = sym (ap (λ b. cond b (d + 1) (d - 1)) (ne_eqb (d % 2) 0 h))

pub held_none : (f : ℕ → ℕ) → 0 ≡ length (keep f (range_with_len 0 0))
unfolding keep
held_none f = refl

-- the darts of an edge, by their numbers
pub second-dart : (e : ℕ) → rev (dart e) ≡ dart e + 1
unfolding rev dart
second-dart e = let z : (2 * e) % 2 ≡ 0 = omega arith in ap (λ t. cond t (2 * e + 1) (2 * e - 1)) (eq-eqb ((2 * e) % 2) 0 z)

even_is : (d e : ℕ) → edge d ≡ e → d % 2 ≡ 0 → d ≡ dart e
unfolding edge dart
even_is d e q h = omega (arith, q, h)

odd_is : (d e : ℕ) → edge d ≡ e → d % 2 ≢ 0 → d ≡ dart e + 1
unfolding edge dart
odd_is d e q h = omega (arith, q, h)

pub first_edge : (p e : ℕ) → p ≡ dart e → edge p ≡ e
first_edge p e q = ap edge q ∙ edge_dart e

pub second_edge : (p e : ℕ) → p ≡ dart e → edge (p + 1) ≡ e
second_edge p e q = ap (λ x. edge (x + 1)) q ∙ ap edge (sym (second-dart e)) ∙ edge_rev (dart e) ∙ edge_dart e

module _ (ends : ℕ → ℕ × ℕ) where
  pub first_leaves : (p e : ℕ) → p ≡ dart e → tail ends p ≡ (ends e).0
  first_leaves p e q = ap (tail ends) q ∙ tail-dart ends e

  pub second_leaves : (p e : ℕ) → p ≡ dart e → tail ends (p + 1) ≡ (ends e).1
  second_leaves p e q = ap (λ x. tail ends (x + 1)) q ∙ ap (tail ends) (sym (second-dart e)) ∙ tail-second ends e

  pub even_leaves : (d e : ℕ) → edge d ≡ e → d % 2 ≡ 0 → tail ends d ≡ (ends e).0
  even_leaves d e q h = first_leaves d e (even_is d e q h)

  pub even_enters : (d e : ℕ) → edge d ≡ e → d % 2 ≡ 0 → tail ends (rev d) ≡ (ends e).1
  even_enters d e q h = ap (λ x. tail ends (rev x)) (even_is d e q h) ∙ tail-second ends e

  pub odd_leaves : (d e : ℕ) → edge d ≡ e → d % 2 ≢ 0 → tail ends d ≡ (ends e).1
  odd_leaves d e q h = ap (tail ends) (odd_is d e q h ∙ sym (second-dart e)) ∙ tail-second ends e

  pub odd_enters : (d e : ℕ) → edge d ≡ e → d % 2 ≢ 0 → tail ends (rev d) ≡ (ends e).0
  odd_enters d e q h = ap (λ x. tail ends (rev x)) (odd_is d e q h ∙ sym (second-dart e)) ∙ ap (tail ends) (rev_rev (dart e))
      ∙ tail-dart ends e
