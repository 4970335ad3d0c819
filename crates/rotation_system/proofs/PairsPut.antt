-- The second edge of a pair put between two faces, and the genus of the pair.
use Rattle.std.proofs.Common.{◌≡◌, ◌≢◌, ℕ, zero, suc, ◌+◌, ◌<◌, ◌≤◌, inl, inr, List, [], ◌∷◌, ◌++◌, Bool, true, false, Some, cond, nat_eq, ◌&&◌, drop, take, length, get_or, refl, sym, ap, subst, ◌∙◌, arith, ne_eqb}
use Rattle.vector_spaces.proofs.Members.{In}
use Rattle.graph_theory.specs.Walks.{edge_at}
use Rattle.edge_lists.specs.EdgePairs.{HaveCommonEnd}
use Rattle.edge_lists.specs.Occurrences.{count, count_all}
use Rattle.edge_lists.proofs.Occurrences.{count-append, count-head, count-nil, count-other, count_all-cons, in_of_count}
use Rattle.rotation_theory.specs.Darts.{dart, rev, tail}
use Rattle.rotation_theory.specs.Genus.{HasFaces, HasGenus}
use Rattle.rotation_theory.specs.Rotations.{AtVertices}
use Rattle.rotation_theory.proofs.Darts.{edge_dart, tail-dart, tail-second}
use Rattle.rotation_theory.proofs.EdgesBetweenWalks.{DartPutAfter, insert_between}
use Rattle.rotation_theory.proofs.FaceWalks.{walks_distinct}
use Rattle.rotation_theory.proofs.Genus.{faces_of_walks, faces_unique}
use Rattle.rotation_theory.proofs.GenusInsertion.{pair_genus}
use Rattle.rotation_theory.proofs.PairInsertion.{vertex_dart}
use Rattle.rotation_system.specs.InsertedEdges.{HoldsMore, second_place}
use Rattle.rotation_system.specs.PlacedDarts.{ArePut, IsPut, IsPutIn}
use Rattle.rotation_system.specs.RotationSystems.{IsRotationSystem, RotationSystem, held}
use Rattle.rotation_system.specs.TwoFaces.{AreApart}
use Rattle.rotation_system.proofs.DartLists.{split_at_index}
use Rattle.rotation_system.proofs.DartSteps.{count_in, counted_at, second-dart, stands_at}
use Rattle.rotation_system.proofs.PutDarts.{set_split, take_long}
use Rattle.rotation_system.proofs.Systems.{genus_same, system_distinct}
use Rattle.rotation_system.proofs.TwoFaces.{apart_turned, corner_held, ends_below}

-- a dart put after p, as the theory has it
put_after : (ends : ℕ → ℕ × ℕ) (L L' : List (List ℕ)) (v x p : ℕ) → IsPutIn L v (Some p) x L' → v ≡ tail ends x
    → DartPutAfter ends x p L L'
put_after ends L L' v x p P q = go P.put
  where
    go : IsPut (Some p) x (get_or L v []) P.list → DartPutAfter ends x p L L'
    go (u, t, s, h) = record {
      U = take v L;
      u = u;
      v = t;
      l1 = P.list;
      Y = drop (v + 1) L;
      was = split_at_index [] L v P.vertex ∙ ap (λ w. take v L ++ w ∷ drop (v + 1) L) s;
      is = P.after ∙ set_split L v P.list P.vertex;
      at = take_long L v P.vertex ∙ q;
      how = h;
    }

-- after different darts, the second place is the one that was named
different_place : (ends : ℕ × ℕ) (x y d : ℕ) → x ≢ y → second_place ends (Some x) (Some y) d ≡ Some y
different_place ends x y d n = ap (λ b. cond (nat_eq ends.0 ends.1 && b) (Some d) (Some y)) (ne_eqb x y n) ∙ go (nat_eq ends.0 ends.1)
  where
    go : (b : Bool) → cond (b && false) (Some d) (Some y) ≡ Some y
    go true = refl
    go false = refl

-- an edge put between two faces makes them one
pub one_again : (r : RotationSystem) → IsRotationSystem r → (e : ℕ) → e < length r.ends → count e (held r) ≡ 0 → (x y : ℕ)
    → AreApart r.lists (rev x) (rev y) → (L' : List (List ℕ))
    → ArePut r.lists (edge_at r.ends e) (Some x) (Some y) (dart e) L' → HasFaces L' 1
one_again r I e l new x y A L' P =
    let k = insert_between ends (length r.lists) (held r) e new (ends_below r I e l) r.lists I.rotation P.middle L' x y first second
    not_new A.one A.other [] A.walks A.first A.second in
    faces_of_walks L' (k.0 ∷ []) k.1
  where
    ends : ℕ → ℕ × ℕ
    ends = edge_at r.ends

    apart : x ≢ y
    apart q = absurd (omega (
      arith,
      walks_distinct rev r.lists (A.one ∷ A.other ∷ []) A.walks (system_distinct r I) (rev y),
      count_all-cons (rev y) A.one (A.other ∷ []),
      count_all-cons (rev y) A.other [],
      subst (λ z. 1 ≤ count (rev z) A.one) q A.first,
      A.second,
    ))

    not_new : y ≢ dart e
    not_new q = absurd (omega (
      arith,
      subst (λ z. 1 ≤ count_all z r.lists) q (corner_held r I y (rev x) (apart_turned r.lists (rev x) (rev y) A)),
      I.rotation.held (dart e),
      ap (λ t. count t (held r)) (edge_dart e),
      new,
    ))

    first : DartPutAfter ends (dart e) x r.lists P.middle
    first = put_after ends r.lists P.middle (ends e).0 (dart e) x P.first (sym (tail-dart ends e))

    placed : IsPutIn P.middle (ends e).1 (Some y) (dart e + 1) L'
    placed = subst (λ o. IsPutIn P.middle (ends e).1 o (dart e + 1) L') (different_place (ends e) x y (dart e) apart) P.second

    second : DartPutAfter ends (rev (dart e)) y P.middle L'
    second = put_after ends P.middle L' (ends e).1 (rev (dart e)) y
        (subst (λ d. IsPutIn P.middle (ends e).1 (Some y) d L') (sym (second-dart e)) placed) (sym (tail-second ends e))

-- a dart whose corner is on one of two faces is a place at its vertex
pub place_at : (r : RotationSystem) → IsRotationSystem r → (x c v : ℕ) → AreApart r.lists (rev x) c → tail (edge_at r.ends) x ≡ v
    → In x (get_or r.lists v [])
place_at r I x c v A q = in_of_count x (get_or r.lists v []) (subst (λ u. 1 ≤ count x (get_or r.lists u [])) q
    (stands_at (edge_at r.ends) x r.lists I.rotation.placed (corner_held r I x c A)).1)

-- the genus is one larger
pub pair_raises : (r r' : RotationSystem) → IsRotationSystem r → (e f : ℕ) → HasFaces r.lists 1 → HasFaces r'.lists 1
    → HoldsMore r (e ∷ f ∷ []) r'
    → (g : ℕ) → HasGenus (length r.lists) (held r) r.lists g → HasGenus (length r'.lists) (held r') r'.lists (g + 1)
pair_raises r r' I e f one again M g h = subst (λ n. HasGenus n (held r') r'.lists (g + 1)) (sym M.vertices)
    (genus_same (length r.lists) (f ∷ e ∷ held r) (held r') r'.lists (g + 1) same (pair_genus (length r.lists) (held r) e f r.lists
    r'.lists g again
    (omega (arith, h.euler, faces_unique r.lists h.F 1 (system_distinct r I) h.faces one))))
  where
    same : (c : ℕ) → count c (f ∷ e ∷ held r) ≡ count c (held r')
    same c = omega (
      arith,
      M.more c,
      count-append c (e ∷ []) (f ∷ []),
      count-append c (f ∷ []) (e ∷ held r),
      count-append c (e ∷ []) (held r),
    )

-- a dart in the list of n leaves n
tail_from : (ends : ℕ → ℕ × ℕ) (n k d : ℕ) (X : List (List ℕ)) → AtVertices ends n X → k < length X → 1 ≤ count d (get_or X k [])
    → tail ends d ≡ n + k
tail_from ends n k d [] A l i = absurd (omega arith)
tail_from ends n zero d (w ∷ X) (h, A) l i = h d i ∙ omega arith
tail_from ends n (suc k) d (w ∷ X) (h, A) l i = tail_from ends (suc n) k d X A (omega arith) i ∙ omega arith

some_in : (K : List ℕ) → 1 ≤ length K → (e : ℕ) × (1 ≤ count e K)
some_in [] i = absurd (omega arith)
some_in (e ∷ K) i = (e, omega (arith, count-append e (e ∷ []) K, counted_at e 0 (e ∷ []) (omega arith) refl))

long_of : (d : ℕ) (w : List ℕ) → 1 ≤ count d w → 0 < length w
long_of d [] i = absurd (omega (arith, i, count-nil d))
long_of d (x ∷ w) i = omega arith

some_held : (e : ℕ) (K : List ℕ) → 1 ≤ count e K → 1 ≤ length K
some_held e [] i = absurd (omega (arith, i, count-nil e))
some_held e (x ∷ K) i = omega arith

-- the first dart of a vertex, where an edge is held
module _ (r : RotationSystem) (I : IsRotationSystem r) (v : ℕ) (l : v < length r.lists) (w : List ℕ) (q : w ≡ get_or r.lists v []) where
  pub vertex_held : 1 ≤ length (held r) → 0 < length w
  vertex_held i =
      let (e, j) = some_in (held r) i in
      let (d, m, t) = vertex_dart (edge_at r.ends) (length r.lists) (held r) e j r.lists I.rotation I.connected v l in
      long_of d w (subst (λ s. 1 ≤ count d s) (sym q) (subst (λ u. 1 ≤ count d (get_or r.lists u [])) t
      (stands_at (edge_at r.ends) d r.lists I.rotation.placed m).1))

  first_stands : 0 < length w → 1 ≤ count (get_or w 0 0) (get_or r.lists v [])
  first_stands k = subst (λ s. 1 ≤ count (get_or w 0 0) s) q (counted_at (get_or w 0 0) 0 w k refl)

  pub first_held : 0 < length w → 1 ≤ count_all (get_or w 0 0) r.lists
  first_held k = omega (arith, first_stands k, count_in (get_or w 0 0) v r.lists l)

  pub first_tail : 0 < length w → tail (edge_at r.ends) (get_or w 0 0) ≡ v
  first_tail k = tail_from (edge_at r.ends) 0 v (get_or w 0 0) r.lists I.rotation.placed l (first_stands k) ∙ omega arith

-- the ends of two edges that meet, where the first three pairs of ends differ
pub last_meet : (ends : ℕ → ℕ × ℕ) (e f : ℕ) (a b : ℕ × ℕ) → a ≡ ends e → b ≡ ends f → HaveCommonEnd ends e f → a.0 ≢ b.0 → a.0 ≢ b.1
    → a.1 ≢ b.0 → (ends e).1 ≡ (ends f).1
last_meet ends e f a b p q h m n k = go h
  where
    go : HaveCommonEnd ends e f → (ends e).1 ≡ (ends f).1
    go (inl (inl s)) = absurd (m (ap (λ x. x.0) p ∙ s ∙ sym (ap (λ x. x.0) q)))
    go (inl (inr s)) = absurd (n (ap (λ x. x.0) p ∙ s ∙ sym (ap (λ x. x.1) q)))
    go (inr (inl s)) = absurd (k (ap (λ x. x.1) p ∙ s ∙ sym (ap (λ x. x.0) q)))
    go (inr (inr s)) = s

-- one edge more, and then another
pub holds_both : (r s t : RotationSystem) (e f : ℕ) → HoldsMore r (e ∷ []) s → HoldsMore s (f ∷ []) t → HoldsMore r (e ∷ f ∷ []) t
holds_both r s t e f M N = record {
  ends = N.ends ∙ M.ends;
  vertices = N.vertices ∙ M.vertices;
  more = λ c. omega (arith, N.more c, M.more c, count-append c (e ∷ []) (f ∷ []));
}

pub not_held : (r s : RotationSystem) (e f : ℕ) → HoldsMore r (e ∷ []) s → e ≢ f → count f (held r) ≡ 0 → count f (held s) ≡ 0
not_held r s e f M n z = omega (arith, M.more f, z, count-other f e [] n, count-nil f)

pub one_held : (r s : RotationSystem) (e : ℕ) → HoldsMore r (e ∷ []) s → 1 ≤ length (held s)
one_held r s e M = some_held e (held s) (omega (arith, M.more e, count-head e []))
