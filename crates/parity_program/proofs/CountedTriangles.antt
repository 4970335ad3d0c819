-- How many triangles a graph has, by any list of all of them.
use Rattle.std.proofs.Common.{◌≡◌, ℕ, ◌*◌, ◌<◌, ◌≤◌, inl, inr, List, [], ◌∷◌, length, Bool, true, false, ◌&&◌, ◌||◌}
use Rattle.std.proofs.Common.{◌⊎◌, filter, map, refl, sym, ap, ap₂, ◌∙◌, subst, arith}
use Rattle.std.specs.Prelude.{nat_eq, nat_lt}
use Rattle.std.proofs.lemmas.Bool.{ltb-true, lt-ltb, and_parts, and_from, or_left, or_right, eqb-true, eq-eqb, true≢false}
use Rattle.std.proofs.Math.Nat.{suc-mul}
use Rattle.std.proofs.lemmas.Nat.{mul-le}
use Rattle.std.proofs.lemmas.List.{length-append, length-map}
use Rattle.std.specs.List.{flat_map}
use Rattle.std.proofs.lemmas.List.Sums.{length-filter, count_by-le-length}
use Rattle.graph_theory.proofs.Numbers.{numbers_in, numbers_length, numbers_distinct, in_filter, filter_in, filter_distinct, map_distinct}
use Rattle.graph_theory.proofs.Triples.{lexicographic_distinct}
use Rattle.graph_theory.specs.Cacti.{AreTriangles, IsTriangle}
use Rattle.graph_theory.specs.Numbers.{numbers_from}
use Rattle.graph_theory.specs.Walks.{AreAdjacent}
use Rattle.parity_program.proofs.Corners.{adjacent_within}
use Rattle.parity_program.specs.Triangles.{are_adjacent, is_triangle, triples_below, triangle_count}
use Rattle.vector_spaces.proofs.Distinct.{IsDistinct, distinct_append, distinct_same_length}
use Rattle.vector_spaces.proofs.Members.{In, In-map, In_map-from, In-flat_map, In_flat_map-from}

-- so many pieces of one length
pub length-pieces : {X Y : Type 0} (f : X → List Y) (m : ℕ) (xs : List X)
    → ((x : X) → length (f x) ≡ m) → length (flat_map f xs) ≡ length xs * m
length-pieces f m [] h = omega arith
length-pieces f m (x ∷ xs) h =
    let both = length-append (f x) (flat_map f xs) in
    let rest = length-pieces f m xs h in
    let first = h x in
    let product = suc-mul (length xs) m in
    omega (arith, both, rest, first, product)

triples_few : (n : ℕ) → n ≤ 128 → length (triples_below n) ≤ 2097152
triples_few n h =
    let numbers : List ℕ = numbers_from 0 n in
    let many = numbers_length 0 n in
    let all : length (triples_below n) ≡ length numbers * (n * n) =
    length-pieces (λ a. flat_map (λ b. map (λ c. (a, b, c)) numbers) numbers) (n * n) numbers
    (λ a. length-pieces (λ b. map (λ c. (a, b, c)) numbers) n numbers (λ b. length-map numbers (λ c. (a, b, c)) ∙ many)
    ∙ ap (λ k. k * n) many) in
    let cube : length (triples_below n) ≡ n * (n * n) = all ∙ ap (λ k. k * (n * n)) many in
    let square : n * n ≤ 128 * 128 = mul-le n n 128 128 h h in
    let product : n * (n * n) ≤ 128 * (128 * 128) = mul-le n (n * n) 128 (128 * 128) h square in
    omega (arith, cube, product)

-- ---- adjacency

abbrev is_edge : ℕ → ℕ → ℕ × ℕ → Bool
is_edge p q e = (nat_eq e.0 p && nat_eq e.1 q) || (nat_eq e.0 q && nat_eq e.1 p)

pub one_of : (a b : Bool) → (a || b) ≡ true → (a ≡ true) ⊎ (b ≡ true)
one_of true b e = inl refl
one_of false b e = inr e

same_ends : (e : ℕ × ℕ) (p q : ℕ) → (nat_eq e.0 p && nat_eq e.1 q) ≡ true → (p, q) ≡ e
same_ends e p q h =
    let parts = and_parts (nat_eq e.0 p) (nat_eq e.1 q) h in
    ap₂ (λ a b. (a, b)) (sym (eqb-true e.0 p parts.0)) (sym (eqb-true e.1 q parts.1))

adjacent_from : (E : List (ℕ × ℕ)) (p q : ℕ) → are_adjacent E p q ≡ true → AreAdjacent E p q
adjacent_from [] p q h = absurd (true≢false (sym h))
adjacent_from (e ∷ E) p q h = elim (one_of (is_edge p q e) (are_adjacent E p q) h) [
  | inl i ↦ elim (one_of (nat_eq e.0 p && nat_eq e.1 q) (nat_eq e.0 q && nat_eq e.1 p) i) [
    | inl j ↦ inl (inl (same_ends e p q j))
    | inr j ↦ inr (inl (same_ends e q p j))
  ]
  | inr r ↦ elim (adjacent_from E p q r) [ inl i ↦ inl (inr i) | inr i ↦ inr (inr i) ]
]

ends_are : (p q : ℕ) → (nat_eq p p && nat_eq q q) ≡ true
ends_are p q = and_from (nat_eq p p) (nat_eq q q) (eq-eqb p p refl) (eq-eqb q q refl)

adjacent_true : (E : List (ℕ × ℕ)) (p q : ℕ) → AreAdjacent E p q → are_adjacent E p q ≡ true
adjacent_true [] p q (inl i) = absurd i
adjacent_true [] p q (inr i) = absurd i
adjacent_true (e ∷ E) p q (inl (inl i)) =
    or_left (is_edge p q e) (are_adjacent E p q) (subst (λ d. is_edge p q d ≡ true) i (or_left _ _ (ends_are p q)))
adjacent_true (e ∷ E) p q (inr (inl i)) =
    or_left (is_edge p q e) (are_adjacent E p q) (subst (λ d. is_edge p q d ≡ true) i (or_right _ _ (ends_are q p)))
adjacent_true (e ∷ E) p q (inl (inr i)) = or_right (is_edge p q e) (are_adjacent E p q) (adjacent_true E p q (inl i))
adjacent_true (e ∷ E) p q (inr (inr i)) = or_right (is_edge p q e) (are_adjacent E p q) (adjacent_true E p q (inr i))

-- ---- triangles

triangle_from : (E : List (ℕ × ℕ)) (t : ℕ × ℕ × ℕ) → is_triangle E t ≡ true → IsTriangle E t
triangle_from E t h =
    let two = and_parts (nat_lt t.0 t.1 && nat_lt t.1 t.2)
    (are_adjacent E t.0 t.1 && (are_adjacent E t.1 t.2 && are_adjacent E t.0 t.2)) h in
    let rises = and_parts (nat_lt t.0 t.1) (nat_lt t.1 t.2) two.0 in
    let sides = and_parts (are_adjacent E t.0 t.1) (are_adjacent E t.1 t.2 && are_adjacent E t.0 t.2) two.1 in
    let others = and_parts (are_adjacent E t.1 t.2) (are_adjacent E t.0 t.2) sides.1 in
    record {
      rises = (ltb-true t.0 t.1 rises.0, ltb-true t.1 t.2 rises.1);
      sides = (adjacent_from E t.0 t.1 sides.0, adjacent_from E t.1 t.2 others.0, adjacent_from E t.0 t.2 others.1);
    }

triangle_true : (E : List (ℕ × ℕ)) (t : ℕ × ℕ × ℕ) → IsTriangle E t → is_triangle E t ≡ true
triangle_true E t h =
    and_from (nat_lt t.0 t.1 && nat_lt t.1 t.2) (are_adjacent E t.0 t.1 && (are_adjacent E t.1 t.2 && are_adjacent E t.0 t.2))
    (and_from (nat_lt t.0 t.1) (nat_lt t.1 t.2) (lt-ltb t.0 t.1 h.rises.0) (lt-ltb t.1 t.2 h.rises.1))
    (and_from (are_adjacent E t.0 t.1) (are_adjacent E t.1 t.2 && are_adjacent E t.0 t.2) (adjacent_true E t.0 t.1 h.sides.0)
    (and_from (are_adjacent E t.1 t.2) (are_adjacent E t.0 t.2) (adjacent_true E t.1 t.2 h.sides.1) (adjacent_true E t.0 t.2 h.sides.2)))

-- ---- all triples

-- pieces of different members of a list have no common member
pub distinct_pieces : {X Y : Type 0} (f : X → List Y) (xs : List X) → IsDistinct xs → ((x : X) → IsDistinct (f x))
    → ((x y : X) (z : Y) → In z (f x) → In z (f y) → x ≡ y) → IsDistinct (flat_map f xs)
distinct_pieces f [] d each one = tt
distinct_pieces f (x ∷ xs) d each one =
    distinct_append (f x) (flat_map f xs) (each x) (distinct_pieces f xs d.1 each one)
    (λ z i j. let r = In_flat_map-from f xs z j in d.0 (subst (λ w. In w xs) (sym (one x r.0 z i r.2)) r.1))

module _ (n : ℕ) where
  abbrev numbers : List ℕ
  numbers = numbers_from 0 n

  abbrev third : ℕ → ℕ → List (ℕ × ℕ × ℕ)
  third a b = map (λ c. (a, b, c)) numbers

  abbrev second : ℕ → List (ℕ × ℕ × ℕ)
  second a = flat_map (third a) numbers

  is_number : (x : ℕ) → x < n → In x numbers
  is_number x h = numbers_in 0 n x (omega arith) (omega (arith, h))

  in_triples : (t : ℕ × ℕ × ℕ) → t.0 < n → t.1 < n → t.2 < n → In t (triples_below n)
  in_triples t h k l =
      In-flat_map second numbers t.0 t (is_number t.0 h)
      (In-flat_map (third t.0) numbers t.1 t (is_number t.1 k) (In-map (λ c. (t.0, t.1, c)) t.2 numbers (is_number t.2 l)))

  the_third : (a b : ℕ) (t : ℕ × ℕ × ℕ) → In t (third a b) → (t.0 ≡ a) × (t.1 ≡ b)
  the_third a b t i = let r = In_map-from (λ c. (a, b, c)) t numbers i in (ap (λ u. u.0) r.2, ap (λ u. u.1) r.2)

  the_second : (a : ℕ) (t : ℕ × ℕ × ℕ) → In t (second a) → t.0 ≡ a
  the_second a t i = let r = In_flat_map-from (third a) numbers t i in (the_third a r.0 t r.2).0

  triples_distinct : IsDistinct (triples_below n)
  triples_distinct =
      distinct_pieces second numbers (numbers_distinct 0 n)
      (λ a. distinct_pieces (third a) numbers (numbers_distinct 0 n)
      (λ b. map_distinct (λ c. (a, b, c)) numbers (λ c d e. ap (λ t. t.2) e) (numbers_distinct 0 n))
      (λ b c t i j. sym (the_third a b t i).1 ∙ (the_third a c t j).1))
      (λ a b t i j. sym (the_second a t i) ∙ the_second b t j)

module _ (n : ℕ) (E : List (ℕ × ℕ)) (range : (e : ℕ × ℕ) → In e E → (e.0 < n) × (e.1 < n)) where
  is_listed : (t : ℕ × ℕ × ℕ) → IsTriangle E t → In t (filter (is_triangle E) (triples_below n))
  is_listed t h =
      let front = adjacent_within n E range t.0 t.1 h.sides.0 in
      let back = adjacent_within n E range t.1 t.2 h.sides.1 in
      in_filter (is_triangle E) (triples_below n) t (in_triples n t front.0 front.1 back.1) (triangle_true E t h)

  -- a list of all triangles is as long as they are many
  pub counted : (Ts : List (ℕ × ℕ × ℕ)) → AreTriangles E Ts → length Ts ≡ triangle_count n E
  unfolding triangle_count
  counted Ts all =
      distinct_same_length Ts (filter (is_triangle E) (triples_below n)) (lexicographic_distinct Ts all.ordered)
      (filter_distinct (is_triangle E) (triples_below n) (triples_distinct n))
      (λ t i. is_listed t (all.each t i)) (λ t i. all.all t (triangle_from E t (filter_in (is_triangle E) (triples_below n) t i).1))
      ∙ length-filter (is_triangle E) (triples_below n)

-- a graph of at most 128 vertices has fewer than 2^32 of them
pub few : (n : ℕ) (E : List (ℕ × ℕ)) → n ≤ 128 → triangle_count n E ≤ 2097152
unfolding triangle_count
few n E h = let a = count_by-le-length (is_triangle E) (triples_below n) in let b = triples_few n h in omega (arith, a, b)
