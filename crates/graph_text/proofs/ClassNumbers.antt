-- The class numbers of the graph of which statements speak are below its number of vertices: each class has a name, and no name is in two.
use Rattle.std.proofs.Common.{◌≡◌, ℕ, ◌<◌, ◌≤◌, List, [], ◌∷◌, length, Bool, None, Some, Option, map, get_or, sym, ◌∙◌, arith}
use Rattle.std.specs.Prelude.{slice_index_or}
use Rattle.std.specs.List.{AllByRecursion, position}
use Rattle.std.proofs.lemmas.List.{length-append, length-map, get_or-map, get_or_past}
use Rattle.std.proofs.lemmas.List.Quantifiers.{position-Some}
use Rattle.std.proofs.Math.Decide.{dec_lt}
use Rattle.vector_spaces.proofs.Distinct.{distinct_at_most}
use Rattle.graph_text.specs.Statements.{Statement, vertices, edge, class, names_of, edges_of, classes_of, first_appearances, is_among, graph_of, HasName, AreWithin}
use Rattle.graph_text.proofs.Appearances.{In-appearing}
use Rattle.graph_text.proofs.GraphGrowth.{AreKnown, members_of}
use Rattle.graph_text.proofs.KnownNames.{Names, ClassNames}

-- classes with names have no more classes than names
classes_few : (said : List Statement) → AllByRecursion HasName said → length (classes_of said) ≤ length (members_of (classes_of said))
classes_few [] h = omega arith
classes_few (vertices names ∷ said) h = classes_few said h.1
classes_few (edge first second ∷ said) h = classes_few said h.1
classes_few (class names ∷ said) h =
    let more = classes_few said h.1 in
    let both = length-append names (members_of (classes_of said)) in
    let some : 0 < length names = h.0 in
    omega (arith, more, both, some)

-- what a first place is read at is below the number of places
place_below : {X Y : Type 0} (P : Y → X → Bool) (xs : List X) (d : X) (y : Y) (ys : List Y) (v c : ℕ)
    → slice_index_or (map (λ y. position (P y) xs) ys) v None ≡ Some c → c < length xs
place_below {X = X} {Y = Y} P xs d y ys v c e = by_place (dec_lt v (length ys))
  where
    f : Y → Option ℕ
    f y = position (P y) xs

    by_place : Dec (v < length ys) → c < length xs
    by_place (yes h) =
        let found : position (P (get_or ys v y)) xs ≡ Some c = sym (get_or-map f ys v y None h) ∙ e in
        (position-Some (P (get_or ys v y)) xs c d found).0
    by_place (no h) =
        let past : get_or (map f ys) v None ≡ None = get_or_past (map f ys) v None (omega (arith, h, length-map ys f)) in
        absurd (cc (past, e))

-- a class number is below the number of vertices
pub classes_below : (most : ℕ) (said : List Statement) → AreKnown (names_of said) (edges_of said) (classes_of said) → AreWithin most said
    → (v c : ℕ) → slice_index_or (graph_of said).classes v None ≡ Some c → c < length (graph_of said).names
unfolding graph_of
classes_below most said known within v c e =
    let classes : ClassNames = classes_of said in
    let seen : Names = first_appearances (names_of said) in
    let place : c < length classes = place_below (λ name members. is_among members name) classes [] [] seen v c e in
    let few = classes_few said within.some in
    let members : length (members_of classes) ≤ length seen =
    distinct_at_most (members_of classes) seen within.apart (λ name i. In-appearing name (names_of said) (known.members name i)) in
    omega (arith, place, few, members)
