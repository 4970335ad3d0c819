-- The last exits of a family of the second graph, in order, are a family of edge-disjoint paths as the reply wants it.
use Rattle.std.proofs.Common.{◌≡◌, ℕ, suc, ◌+◌, ◌<◌, inl, inr, List, [], ◌∷◌, map, length, get_or, refl, sym, ap, ap₂, ◌∙◌, subst, arith, Bool}
use Rattle.std.proofs.lemmas.List.{length-map}
use Rattle.std.specs.List.{AllPairs}
use Rattle.vector_spaces.proofs.Members.{In, In-map, In_map-from}
use Rattle.vector_spaces.proofs.Distinct.{IsDistinct}
use Rattle.graph_theory.specs.Paths.{last_of}
use Rattle.path_theory.specs.Families.{path_vertices, IsFamily, IsPathFamily, IsTerminalPath}
use Rattle.path_theory.proofs.Families.{pairs_of, family_as_pairs}
use Rattle.edge_path_theory.specs.Darts.{tail, IsDartFamily, IsEdgePathFamily, IsOrdered}
use Rattle.edge_path_theory.specs.SecondGraph.{IsSecondGraph}
use Rattle.edge_path_theory.specs.Exits.{dart_path, dart_paths, directed, path_of_list}
use Rattle.edge_path_theory.proofs.LastExits.{AreExits, exits_are}
use Rattle.edge_path_theory.proofs.FromSecondGraph.{dart_family}
use Rattle.edge_path_theory.proofs.Orders.{first_darts_differ}
use Rattle.edge_path_theory.proofs.Replies.{IsReply, directed_family, reply_law}
use Rattle.edge_path_theory.proofs.EdgePathsLaw.{darts_as_lists}
use Rattle.edge_paths_front.specs.Replies.{darts_along, exits_along, first_dart, AreInOrder, AreOrderedDarts, IsDartsBefore}

-- from the places of a list to its members
pairs_head : {X : Type 0} (R : X → X → Type 0) (x : X) (xs : List X) → AllPairs R (x ∷ xs) → (y : X) → In y xs → R x y
pairs_head R x xs h y i = let r = at x xs y i in subst (R x) r.2 (h 0 (suc r.0) x (omega arith) (let l = r.1 in omega arith))
  where
    at : {X : Type 0} (d : X) (xs : List X) (y : X) → In y xs → (k : ℕ) × (k < length xs) × (get_or xs k d ≡ y)
    at d [] y i = absurd i
    at d (x ∷ xs) y (inl e) = (0, omega arith, sym e)
    at d (x ∷ xs) y (inr i) = let r = at d xs y i in (suc r.0, (let l = r.1 in omega arith), r.2)

pairs_tail : {X : Type 0} (R : X → X → Type 0) (x : X) (xs : List X) → AllPairs R (x ∷ xs) → AllPairs R xs
pairs_tail R x xs h = λ i j d l k. h (suc i) (suc j) d (omega arith) (omega arith)

ordered_pairs : (ends : ℕ → ℕ × ℕ) (Ps : List (ℕ × List ℕ)) → AllPairs (IsDartsBefore ends) (map path_vertices Ps) → IsOrdered ends Ps
ordered_pairs ends [] h = tt
ordered_pairs ends (p ∷ Ps) h = (
  λ q i. pairs_head (IsDartsBefore ends) (path_vertices p) (map path_vertices Ps) h (path_vertices q) (In-map path_vertices q Ps i),
  ordered_pairs ends Ps (pairs_tail (IsDartsBefore ends) (path_vertices p) (map path_vertices Ps) h),
)

same_firsts : (Ps : List (ℕ × List ℕ)) → map first_dart (map path_vertices Ps) ≡ map (λ (p : ℕ × List ℕ). p.0) Ps
same_firsts [] = refl
same_firsts (p ∷ Ps) = ap (λ z. p.0 ∷ z) (same_firsts Ps)

module _ (m : ℕ) (ends : ℕ → ℕ × ℕ) (terminal : ℕ → Bool) (class : ℕ → ℕ) (E : List (ℕ × ℕ))
    (second : IsSecondGraph m ends terminal E) where
  abbrev left : ℕ → Bool
  left d = terminal (tail ends d)

  abbrev kind : ℕ → ℕ
  kind d = class (tail ends d)

  -- some dart of a path of the second graph is a last exit
  exits_there : (q : ℕ × List ℕ) → IsTerminalPath E left kind q → path_vertices (dart_path ends q) ≡ exits_along ends q
  exits_there q h = go (exits_along ends q) (exits_are ends m terminal E second (tail ends q.0) q.0 q.1 h.linked (inl refl))
    where
      go : (out : List ℕ) → AreExits ends (tail ends q.0) (path_vertices q) (tail ends (last_of q.0 q.1)) out →
          path_vertices (path_of_list out) ≡ out
      go [] r = absurd (h.differ (ap class r.walk))
      go (d ∷ out) r = refl

  -- the lists that the code makes are the dart paths
  along_is : (Ps : List (ℕ × List ℕ)) → ((p : ℕ × List ℕ) → In p Ps → IsTerminalPath E left kind (directed ends p)) →
      map (darts_along ends) (map path_vertices Ps) ≡ map path_vertices (dart_paths ends (map (directed ends) Ps))
  along_is [] h = refl
  along_is (p ∷ Ps) h = ap₂ (λ x y. x ∷ y) (sym (exits_there (directed ends p) (h p (inl refl)))) (along_is Ps (λ q i. h q (inr i)))

  -- a family of the second graph, and its dart paths
  record IsTurned (paths : List (List ℕ)) : Type 0 where
    pairs : List (ℕ × List ℕ)
    paths_are : paths ≡ map path_vertices pairs
    is_family : IsFamily E left kind pairs
    found_are : map (darts_along ends) paths ≡ map path_vertices (dart_paths ends (map (directed ends) pairs))

  turned : (paths : List (List ℕ)) → IsPathFamily E left kind paths → IsTurned paths
  turned paths h = let r = family_as_pairs E left kind paths h in let f = directed_family m ends terminal class E second r.0 r.2 in record {
    pairs = r.0;
    paths_are = r.1;
    is_family = r.2;
    found_are = ap (map (darts_along ends)) r.1
        ∙ along_is r.0 (λ p i. f.paths (directed ends p) (In-map (directed ends) p r.0 i));
  }

  turned_family : (paths : List (List ℕ)) (t : IsTurned paths) →
      IsDartFamily m ends terminal class (dart_paths ends (map (directed ends) t.pairs))
  turned_family paths t = dart_family ends m terminal class E second (map (directed ends) t.pairs)
      (directed_family m ends terminal class E second t.pairs t.is_family)

  -- no list that is found is empty, all begin with darts of the graph, and no two with the same
  pub found_begin : (paths : List (List ℕ)) → IsPathFamily E left kind paths → (ds : List ℕ) → In ds (map (darts_along ends) paths) →
      (0 < length ds) × (first_dart ds < m + m)
  found_begin paths h ds i = let t = turned paths h in
      let r = In_map-from path_vertices ds (dart_paths ends (map (directed ends) t.pairs)) (subst (In ds) t.found_are i) in
      subst (λ z. (0 < length z) × (first_dart z < m + m)) (sym r.2)
      (omega arith, ((turned_family paths t).paths r.0 r.1).below r.0.0 (inl refl))

  pub found_differ : (paths : List (List ℕ)) → IsPathFamily E left kind paths →
      IsDistinct (map first_dart (map (darts_along ends) paths))
  found_differ paths h = let t = turned paths h in let Fs = dart_paths ends (map (directed ends) t.pairs) in
      subst IsDistinct (sym (ap (map first_dart) t.found_are ∙ same_firsts Fs)) (first_darts_differ Fs (turned_family paths t).distinct)

  -- what the caller is told of the lists in order
  pub record IsAnswer (paths Rs : List (List ℕ)) : Type 0 where
    pub family : IsEdgePathFamily m ends terminal class Rs
    pub number : length Rs ≡ length paths
    pub ordered : AreOrderedDarts ends Rs

  answer_of : (paths Rs : List (List ℕ)) (t : IsTurned paths) (Qs : List (ℕ × List ℕ)) → Rs ≡ map path_vertices Qs →
      AllPairs (IsDartsBefore ends) Rs → IsReply m ends terminal class E second t.pairs Qs → IsAnswer paths Rs
  answer_of paths Rs t Qs e o r = record {
    family = subst (IsEdgePathFamily m ends terminal class) (sym e) (darts_as_lists m ends terminal class Qs r.family);
    number = ap length e ∙ length-map Qs path_vertices ∙ r.number ∙ sym (length-map t.pairs path_vertices) ∙ sym (ap length t.paths_are);
    ordered = record {
      upward = λ ds i. let q = In_map-from path_vertices ds Qs (subst (In ds) e i) in (q.0, q.2, r.rises q.0 q.1);
      ordered = o;
    };
  }

  pub answer : (paths Rs : List (List ℕ)) → IsPathFamily E left kind paths → AreInOrder ends (map (darts_along ends) paths) Rs →
      IsAnswer paths Rs
  answer paths Rs h o = answer_of paths Rs t q.0 q.1 o.ordered (reply_law m ends terminal class E second t.pairs q.0 t.is_family
      (ordered_pairs ends q.0 (subst (AllPairs (IsDartsBefore ends)) q.1 o.ordered)) q.2 whole)
    where
      t : IsTurned paths
      t = turned paths h

      Fs : List (ℕ × List ℕ)
      Fs = dart_paths ends (map (directed ends) t.pairs)

      q : (Qs : List (ℕ × List ℕ)) × (Rs ≡ map path_vertices Qs) × ((p : ℕ × List ℕ) → In p Qs → In p Fs)
      q = pairs_of (λ p. In p Fs) Rs (λ ds i. let r = In_map-from path_vertices ds Fs (subst (In ds) t.found_are (o.inside ds i)) in
          (r.0, r.2, r.1))

      whole : (p : ℕ × List ℕ) → In p Fs → In p q.0
      whole p i = let k = In_map-from path_vertices (path_vertices p) q.0 (subst (In (path_vertices p)) q.1
          (o.whole (path_vertices p) (subst (In (path_vertices p)) (sym t.found_are) (In-map path_vertices p Fs i)))) in
          subst (λ z. In z q.0) (sym (ap path_of_list k.2)) k.1
