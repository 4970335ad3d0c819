-- The gathered triangles are all triangles, in order.
use Rattle.std.proofs.Common.{◌≡◌, ℕ, zero, suc, ◌<◌, inl, inr, List, [], ◌∷◌, ◌++◌, Bool, true, false, ◌&&◌, IsTrue, All, ltb, map, refl, sym, ap, ap₂, subst, ◌∙◌}
use Rattle.std.specs.Prelude.{◌↔◌, if◌then◌else◌}
use Rattle.std.proofs.lemmas.Bool.{ltb-true, lt-ltb, and_parts, and_from}
use Rattle.std.proofs.lemmas.List.{map-append}
use Rattle.vector_spaces.proofs.Members.{In, In-all}
use Rattle.graph_theory.specs.Walks.{AreAdjacent}
use Rattle.graph_theory.specs.Cacti.{corners, IsTriangle, IsBefore, IsLexicographic}
use Rattle.graph_core.specs.Adjacency.{AreTriangleLists}
use Rattle.graph_core.specs.Gathered.{gathered, is_marked, triangle_by, triangles_on, triangles_at}
use Rattle.graph_core.proofs.Gathered.{In-gathered, gathered-In, In-if, In_if-from, Pairwise, Pairwise-gathered, Pairwise-if}

adjacent_within : (n : ℕ) (E : List (ℕ × ℕ)) → All (λ (e : ℕ × ℕ). (e.0 < n) × (e.1 < n)) E → (p q : ℕ) → AreAdjacent E p q →
    (p < n) × (q < n)
adjacent_within n E h p q (inl i) = In-all (λ (e : ℕ × ℕ). (e.0 < n) × (e.1 < n)) E h (p, q) i
adjacent_within n E h p q (inr i) = let r = In-all (λ (e : ℕ × ℕ). (e.0 < n) × (e.1 < n)) E h (q, p) i in (r.1, r.0)

lexicographic : (Ts : List (ℕ × ℕ × ℕ)) → Pairwise IsBefore Ts → IsLexicographic Ts
lexicographic [] h = tt
lexicographic (t ∷ Ts) h = (h.0, lexicographic Ts h.1)

gathered-map : {X Y : Type 0} (f : X → Y) (g : ℕ → List X) (h : ℕ → List Y) → ((k : ℕ) → h k ≡ map f (g k)) → (n : ℕ) →
    gathered h n ≡ map f (gathered g n)
gathered-map f g h same zero = refl
gathered-map f g h same (suc n) = ap₂ (λ xs ys. xs ++ ys) (gathered-map f g h same n) (same n) ∙ sym (map-append f (gathered g n) (g n))

if-map : {X Y : Type 0} (f : X → Y) (b : Bool) (xs : List X) (ys : List Y) → ys ≡ map f xs →
    (if b then ys else []) ≡ map f (if b then xs else [])
if-map f true xs ys e = e
if-map f false xs ys e = refl

module _ (rows : List (List Bool)) (n : ℕ) where
  abbrev is_second : ℕ → ℕ → Bool
  is_second a b = ltb a b && is_marked rows a b

  abbrev is_third : ℕ → ℕ → ℕ → Bool
  is_third a b c = ltb b c && (is_marked rows a c && is_marked rows b c)

  -- the same as triples
  abbrev triple : ℕ → ℕ → ℕ → List (ℕ × ℕ × ℕ)
  triple a b c = if is_third a b c then (a, b, c) ∷ [] else []

  abbrev triples_on : ℕ → ℕ → List (ℕ × ℕ × ℕ)
  triples_on a b = if is_second a b then gathered (triple a b) n else []

  abbrev triples_at : ℕ → List (ℕ × ℕ × ℕ)
  triples_at a = gathered (triples_on a) n

  abbrev triples : List (ℕ × ℕ × ℕ)
  triples = gathered triples_at n

  as_corners : gathered (triangles_at rows n) n ≡ map corners triples
  as_corners = gathered-map corners triples_at (triangles_at rows n) (λ a. gathered-map corners (triples_on a) (triangles_on rows n a)
      (λ b. if-map corners (is_second a b) (gathered (triple a b) n) (gathered (triangle_by rows a b) n)
      (gathered-map corners (triple a b) (triangle_by rows a b)
      (λ c. if-map corners (is_third a b c) ((a, b, c) ∷ []) ((a ∷ b ∷ c ∷ []) ∷ []) refl) n)) n) n

  at_third : (a b c : ℕ) (t : ℕ × ℕ × ℕ) → In t (triple a b c) → IsTrue (is_third a b c) × (t ≡ (a, b, c))
  at_third a b c t i = let r = In_if-from (is_third a b c) ((a, b, c) ∷ []) t i in (r.0, one r.1)
    where
      one : In t ((a, b, c) ∷ []) → t ≡ (a, b, c)
      one (inl e) = e
      one (inr k) = absurd k

  on_second : (a b : ℕ) (t : ℕ × ℕ × ℕ) → In t (triples_on a b) →
      IsTrue (is_second a b) × ((c : ℕ) × (c < n) × IsTrue (is_third a b c) × (t ≡ (a, b, c)))
  on_second a b t i =
      let h = In_if-from (is_second a b) (gathered (triple a b) n) t i in
      let r = gathered-In (triple a b) n t h.1 in
      let s = at_third a b r.0 t r.2 in (h.0, (r.0, r.1, s.0, s.1))

  at_first : (a : ℕ) (t : ℕ × ℕ × ℕ) → In t (triples_at a) → t.0 ≡ a
  at_first a t i = let r = gathered-In (triples_on a) n t i in ap (λ u. u.0) (on_second a r.0 t r.2).1.3

  third_in_order : (a b : ℕ) → Pairwise IsBefore (gathered (triple a b) n)
  third_in_order a b = Pairwise-gathered IsBefore (triple a b) n
      (λ c. Pairwise-if IsBefore (is_third a b c) ((a, b, c) ∷ []) ((λ y k. absurd k), tt))
      (λ j k x y l i m. subst (λ z. IsBefore z y) (sym (at_third a b j x i).1)
      (subst (IsBefore (a, b, j)) (sym (at_third a b k y m).1) (inr (refl, inr (refl, l)))))

  second_in_order : (a : ℕ) → Pairwise IsBefore (triples_at a)
  second_in_order a = Pairwise-gathered IsBefore (triples_on a) n
      (λ b. Pairwise-if IsBefore (is_second a b) (gathered (triple a b) n) (third_in_order a b))
      (λ j k x y l i m. let s = (on_second a j x i).1 in let r = (on_second a k y m).1 in
      subst (λ z. IsBefore z y) (sym s.3) (subst (IsBefore (a, j, s.0)) (sym r.3) (inr (refl, inl l))))

  in_order : IsLexicographic triples
  in_order = lexicographic triples (Pairwise-gathered IsBefore triples_at n second_in_order
      (λ j k x y l i m. inl (subst (λ z. z < y.0) (sym (at_first j x i)) (subst (λ z. j < z) (sym (at_first k y m)) l))))

  module _ (E : List (ℕ × ℕ)) (within : All (λ (e : ℕ × ℕ). (e.0 < n) × (e.1 < n)) E)
      (marks : (a b : ℕ) → a < n → b < n → IsTrue (is_marked rows a b) ↔ AreAdjacent E a b) where
    is_triangle : (t : ℕ × ℕ × ℕ) → In t triples → IsTriangle E t
    is_triangle t i =
        let f = gathered-In triples_at n t i in
        let s = gathered-In (triples_on f.0) n t f.2 in
        let h = on_second f.0 s.0 t s.2 in
        let c = h.1 in
        let second = and_parts (ltb f.0 s.0) (is_marked rows f.0 s.0) h.0 in
        let third = and_parts (ltb s.0 c.0) (is_marked rows f.0 c.0 && is_marked rows s.0 c.0) c.2 in
        let both = and_parts (is_marked rows f.0 c.0) (is_marked rows s.0 c.0) third.1 in subst (IsTriangle E) (sym c.3) (record {
          rises = (ltb-true f.0 s.0 second.0, ltb-true s.0 c.0 third.0);
          sides = ((marks f.0 s.0 f.1 s.1).0 second.1, (marks s.0 c.0 s.1 c.1).0 both.1, (marks f.0 c.0 f.1 c.1).0 both.0);
        })

    triangle_in : (t : ℕ × ℕ × ℕ) → IsTriangle E t → In t triples
    triangle_in t h =
        let ab = adjacent_within n E within t.0 t.1 h.sides.0 in
        let bc = adjacent_within n E within t.1 t.2 h.sides.1 in
        In-gathered triples_at n t.0 t ab.0 (In-gathered (triples_on t.0) n t.1 t ab.1
        (In-if (is_second t.0 t.1) (gathered (triple t.0 t.1) n) t
        (and_from (ltb t.0 t.1) (is_marked rows t.0 t.1) (lt-ltb t.0 t.1 h.rises.0) ((marks t.0 t.1 ab.0 ab.1).1 h.sides.0))
        (In-gathered (triple t.0 t.1) n t.2 t bc.1 (In-if (is_third t.0 t.1 t.2) (t ∷ []) t
        (and_from (ltb t.1 t.2) (is_marked rows t.0 t.2 && is_marked rows t.1 t.2) (lt-ltb t.1 t.2 h.rises.1)
        (and_from (is_marked rows t.0 t.2) (is_marked rows t.1 t.2) ((marks t.0 t.2 ab.0 bc.1).1 h.sides.2)
        ((marks t.1 t.2 bc.0 bc.1).1 h.sides.1)))
        (inl refl)))))

    pub triangle_lists : AreTriangleLists E (gathered (triangles_at rows n) n)
    triangle_lists = record {
      triples = triples;
      triangles = record { each = is_triangle; all = triangle_in; ordered = in_order };
      corners_of = as_corners;
    }
