-- Graphs to which edges and the vertices of darts are put, one after another.
use Rattle.std.proofs.Common.{◌≡◌, ℕ, zero, suc, ◌+◌, ◌-◌, ◌<◌, ◌^◌, List, [], ◌∷◌, ◌++◌, Option, Some, None, length, map, refl, sym, ap, ap₂, ◌∙◌, subst, arith, zero-add, Bool, true, false, cond}
use Rattle.std.specs.Fmt.{decimal}
use Rattle.std.specs.Prelude.{slice_index_or, slice_set}
use Rattle.std.specs.List.{filter, Contains}
use Rattle.std.proofs.lemmas.Fmt.{decimal_injective}
use Rattle.std.proofs.lemmas.List.{append_assoc, length-append, length-map, map_push}
use Rattle.std.proofs.Math.Seq.{get_or-append_seam, set-append_seam}
use Rattle.vector_spaces.proofs.Members.{In, In_map-from, In-contains}
use Rattle.graph_theory.specs.Numbers.{numbers_from}
use Rattle.graph_theory.proofs.Numbers.{in_numbers, numbers_length}
use Rattle.graph_core.specs.NamedGraphs.{NamedGraph, with_vertex}
use Rattle.edge_path_theory.specs.SecondGraph.{joins, later, others}
use Rattle.edge_paths_front.specs.SecondGraphs.{with_dart, with_edges}

-- with one of the edges that are left put last
edge_put : (g h : NamedGraph) (e : ℕ × ℕ) (left all : List (ℕ × ℕ)) → with_edges g (e ∷ left) ≡ with_edges h all →
    with_edges (record g { ends = g.ends ++ e ∷ [] }) left ≡ with_edges h all
edge_put g h e left all q = ap (λ E. record g { ends = E }) (append_assoc g.ends (e ∷ []) left) ∙ q

-- with some of them
edges_put : (g h : NamedGraph) (some left all : List (ℕ × ℕ)) → with_edges g (some ++ left) ≡ with_edges h all →
    with_edges (with_edges g some) left ≡ with_edges h all
edges_put g h some left all q = ap (λ E. record g { ends = E }) (append_assoc g.ends some left) ∙ q

more_numbers : (k c : ℕ) → numbers_from k (suc c) ≡ numbers_from k c ++ (k + c) ∷ []
more_numbers k zero = let e : k ≡ k + zero = omega arith in ap (λ z. z ∷ []) e
more_numbers k (suc c) = ap (λ z. k ∷ z) (more_numbers (suc k) c ∙ ap (λ z. numbers_from (suc k) c ++ z ∷ []) shift)
  where
    shift : suc k + c ≡ k + suc c
    shift = omega arith

one_dart_more : {X : Type 0} (f : ℕ → X) (c : ℕ) → map f (numbers_from 0 (c + 1)) ≡ map f (numbers_from 0 c) ++ f c ∷ []
one_dart_more f c = ap (λ z. map f (numbers_from 0 z)) one
    ∙ ap (map f) (more_numbers 0 c ∙ ap (λ z. numbers_from 0 c ++ z ∷ []) (zero-add c)) ∙ map_push f (numbers_from 0 c) c
  where
    one : c + 1 ≡ suc c
    one = omega arith

-- the numbers that are left, of which the next one is a
next_number : (a b : ℕ) → a < b → numbers_from a (b - a) ≡ a ∷ numbers_from (a + 1) (b - (a + 1))
next_number a b l = ap (numbers_from a) size ∙ ap₂ (λ x y. a ∷ numbers_from x y) from refl
  where
    size : b - a ≡ suc (b - (a + 1))
    size = omega arith

    from : suc a ≡ a + 1
    from = omega arith

filter_true : {X : Type 0} (p : X → Bool) (x : X) (xs : List X) → p x ≡ true → filter p (x ∷ xs) ≡ x ∷ filter p xs
filter_true p x xs e = ap (λ b. cond b (x ∷ filter p xs) (filter p xs)) e

filter_false : {X : Type 0} (p : X → Bool) (x : X) (xs : List X) → p x ≡ false → filter p (x ∷ xs) ≡ filter p xs
filter_false p x xs e = ap (λ b. cond b (x ∷ filter p xs) (filter p xs)) e

-- the decimal of a number is no name of lesser ones
new_name : (d : ℕ) (names : List (List ℕ)) → d < 2 ^ 64 → names ≡ map decimal (numbers_from 0 d) → ¬ (Contains names (decimal d))
new_name d names l e h = let r = In_map-from decimal (decimal d) (numbers_from 0 d)
    (subst (In (decimal d)) e (In-contains names (decimal d) h)) in
    let b = (in_numbers 0 d r.0 r.1).1 in let q = decimal_injective d r.0 l (omega arith) r.2 in omega arith

pub darts_counted : {X : Type 0} (f : ℕ → X) (c : ℕ) → length (map f (numbers_from 0 c)) ≡ c
darts_counted f c = length-map (numbers_from 0 c) f ∙ numbers_length 0 c

-- g with the vertex of dart d put last
module _ (g h : NamedGraph) (d : ℕ) where
  pub named_vertex : (name : List ℕ) → name ≡ decimal d → d < 2 ^ 64 → g.names ≡ map decimal (numbers_from 0 d) →
      (¬ (Contains g.names name) → h ≡ with_vertex g name) → h ≡ with_vertex g (decimal d)
  named_vertex name e l n put = subst (λ z. ¬ (Contains g.names z) → h ≡ with_vertex g z) e put (new_name d g.names l n)

  module _ (is : h ≡ with_vertex g (decimal d)) where
    pub new_vertex : g.names ≡ map decimal (numbers_from 0 d) → d < length h.names
    new_vertex n = let a = ap (λ (z : NamedGraph). length z.names) is ∙ length-append g.names (decimal d ∷ []) in
        let b = ap length n ∙ darts_counted decimal d in omega arith

    module _ (classes : length g.classes ≡ d) where
      pub unclassed : slice_index_or h.classes d None ≡ None
      unclassed = ap (λ (z : NamedGraph). slice_index_or z.classes d None) is
          ∙ ap (λ k. slice_index_or (g.classes ++ None ∷ []) k None) (sym classes) ∙ get_or-append_seam g.classes None [] None

      pub in_class : (new : NamedGraph) (class : ℕ) → new ≡ record h { classes = slice_set h.classes d (Some class) } →
          new ≡ with_dart g d (Some class)
      in_class new class e = e ∙ ap (λ (z : NamedGraph). record z { classes = slice_set z.classes d (Some class) }) is
          ∙ ap (λ z. record g { names = g.names ++ decimal d ∷ []; classes = z })
          (ap (λ k. slice_set (g.classes ++ None ∷ []) k (Some class)) (sym classes) ∙ set-append_seam g.classes None [] (Some class))

-- the graph of the darts below c, and the next dart
pub dart_added : (h new : NamedGraph) (c : ℕ) (left : ℕ → Option ℕ) → h ≡ record {
  names = map decimal (numbers_from 0 c);
  ends = [];
  classes = map left (numbers_from 0 c);
} → new ≡ with_dart h c (left c) → new ≡ record {
  names = map decimal (numbers_from 0 (c + 1));
  ends = [];
  classes = map left (numbers_from 0 (c + 1));
}
dart_added h new c left w e = e ∙ ap (λ (z : NamedGraph). with_dart z c (left c)) w
    ∙ ap₂ (λ x y. record { names = x; ends = []; classes = y }) (sym (one_dart_more decimal c)) (sym (one_dart_more left c))

-- the edges of a loop, while an edge is put
abbrev reverse_pair : ℕ → ℕ × ℕ
reverse_pair e = (e + e, suc (e + e))

pub reverse_put : (g h new : NamedGraph) (e k a b : ℕ) (all : List (ℕ × ℕ)) → e < k → a ≡ e + e → b ≡ e + e + 1 →
    with_edges g (map reverse_pair (numbers_from e (k - e))) ≡ with_edges h all → new ≡ record g { ends = g.ends ++ (a, b) ∷ [] } →
    with_edges new (map reverse_pair (numbers_from (e + 1) (k - (e + 1)))) ≡ with_edges h all
reverse_put g h new e k a b all l p q w n = ap (λ z. with_edges z rest) n ∙ edge_put g h (a, b) rest all
    (ap₂ (λ x y. with_edges g ((x, y) ∷ rest)) p second ∙ sym (ap (λ z. with_edges g (map reverse_pair z)) (next_number e k l)) ∙ w)
  where
    rest : List (ℕ × ℕ)
    rest = map reverse_pair (numbers_from (e + 1) (k - (e + 1)))

    second : b ≡ suc (e + e)
    second = omega arith

module _ (ends : ℕ → ℕ × ℕ) (terminal : ℕ → Bool) where
  next_others : (d n : ℕ) → d < n →
      others ends terminal d (n - d) ≡ later ends terminal d (n - (d + 1)) ++ others ends terminal (d + 1) (n - (d + 1))
  next_others d n l = ap (others ends terminal d) size
      ∙ ap (λ z. later ends terminal d (n - (d + 1)) ++ others ends terminal z (n - (d + 1))) from
    where
      size : n - d ≡ suc (n - (d + 1))
      size = omega arith

      from : suc d ≡ d + 1
      from = omega arith

  pub others_put : (g h new : NamedGraph) (d n : ℕ) (all : List (ℕ × ℕ)) → d < n →
      with_edges g (others ends terminal d (n - d)) ≡ with_edges h all → new ≡ with_edges g (later ends terminal d (n - (d + 1))) →
      with_edges new (others ends terminal (d + 1) (n - (d + 1))) ≡ with_edges h all
  others_put g h new d n all l w e = ap (λ z. with_edges z (others ends terminal (d + 1) (n - (d + 1)))) e
      ∙ edges_put g h (later ends terminal d (n - (d + 1))) (others ends terminal (d + 1) (n - (d + 1))) all
      (sym (ap (with_edges g) (next_others d n l)) ∙ w)

  -- the edges from d to the darts that are left
  abbrev pub from_dart : ℕ → List ℕ → List (ℕ × ℕ)
  from_dart d xs = map (λ x. (d, x)) (filter (joins ends terminal d) xs)

  pub later_put : (g h new : NamedGraph) (d x n : ℕ) (all : List (ℕ × ℕ)) → x < n → joins ends terminal d x ≡ true →
      with_edges g (from_dart d (numbers_from x (n - x))) ≡ with_edges h all → new ≡ record g { ends = g.ends ++ (d, x) ∷ [] } →
      with_edges new (from_dart d (numbers_from (x + 1) (n - (x + 1)))) ≡ with_edges h all
  later_put g h new d x n all l j w e = ap (λ z. with_edges z (from_dart d rest)) e ∙ edge_put g h (d, x) (from_dart d rest) all
      (sym (ap (with_edges g) (ap (from_dart d) (next_number x n l)
      ∙ ap (map (λ y. (d, y))) (filter_true (joins ends terminal d) x rest j))) ∙ w)
    where
      rest : List ℕ
      rest = numbers_from (x + 1) (n - (x + 1))

  pub later_passed : (g h : NamedGraph) (d x n : ℕ) (all : List (ℕ × ℕ)) → x < n → joins ends terminal d x ≡ false →
      with_edges g (from_dart d (numbers_from x (n - x))) ≡ with_edges h all →
      with_edges g (from_dart d (numbers_from (x + 1) (n - (x + 1)))) ≡ with_edges h all
  later_passed g h d x n all l j w = sym (ap (with_edges g) (ap (from_dart d) (next_number x n l)
      ∙ ap (map (λ y. (d, y))) (filter_false (joins ends terminal d) x rest j))) ∙ w
    where
      rest : List ℕ
      rest = numbers_from (x + 1) (n - (x + 1))
