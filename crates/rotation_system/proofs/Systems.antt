-- The edges that a rotation system holds, and a system with one edge more.
use Rattle.std.proofs.Common.{◌≡◌, ℕ, ◌+◌, ◌-◌, ◌*◌, ◌/◌, ◌<◌, ◌≤◌, All, Bool, IsTrue, List, [], ◌∷◌, Option, cond, eq-eqb, length, get_or, refl, sym, ap, subst, ◌∙◌, arith}
use Rattle.std.proofs.Math.Decide.{ℕ_discrete}
use Rattle.vector_spaces.proofs.Members.{In-all, In-get_or}
use Rattle.graph_theory.specs.Walks.{edge_at}
use Rattle.edge_lists.specs.Connections.{AreBelow, one_component}
use Rattle.edge_lists.specs.EdgeNumbers.{edge_numbers}
use Rattle.edge_lists.specs.Occurrences.{count, count_all, keep}
use Rattle.edge_lists.proofs.Connections.{joined_more}
use Rattle.edge_lists.proofs.EdgeNumbers.{numbers_all, numbers_below, numbers_single}
use Rattle.edge_lists.proofs.Occurrences.{AllDistinct, count-append, count-head, count-kept, count-not_kept, count-there, count-other, kept_passes}
use Rattle.edge_lists.proofs.SameEdges.{same_length}
use Rattle.rotation_theory.specs.Darts.{dart, edge, rev, tail}
use Rattle.rotation_theory.specs.CyclicLists.{arc, arcs}
use Rattle.rotation_theory.specs.Genus.{HasFaces, HasGenus}
use Rattle.rotation_theory.specs.Rotations.{IsRotation}
use Rattle.rotation_theory.proofs.Darts.{edge_dart, edge_rev, tail-dart}
use Rattle.rotation_theory.proofs.EdgeInsertion.{EdgePut, insert_rotation}
use Rattle.rotation_theory.proofs.Genus.{faces_unique, genus_total}
use Rattle.rotation_theory.proofs.GenusInsertion.{genus_not_lower}
use Rattle.rotation_theory.proofs.Vertices.{rotation_distinct}
use Rattle.rotation_system.specs.RotationSystems.{BeginsWithLeast, IsRotationSystem, RotationSystem, held}
use Rattle.rotation_system.specs.InsertedEdges.{HoldsMore}
use Rattle.rotation_system.specs.PlacedDarts.{ArePut}
use Rattle.std.specs.Prelude.{◌↔◌}
use Rattle.rotation_system.proofs.DartSteps.{arc_in, count_in, stands_at}
use Rattle.rotation_system.proofs.PutDarts.{edge_put}

abbrev pub system : List (ℕ × ℕ) → List (List ℕ) → RotationSystem
system E L = record { ends = E; lists = L }

-- a rotation of the same edges
pub rotation_same : (ends : ℕ → ℕ × ℕ) (V : ℕ) (H H' : List ℕ) (L : List (List ℕ)) → ((c : ℕ) → count c H ≡ count c H')
    → IsRotation ends V H L → IsRotation ends V H' L
rotation_same ends V H H' L q R = record {
  graph = record { single = λ e. omega (arith, q e, R.graph.single e); below = λ e i. R.graph.below e (omega (arith, q e, i)) };
  long = R.long;
  placed = R.placed;
  held = λ d. R.held d ∙ q (edge d);
}

pub genus_same : (V : ℕ) (H H' : List ℕ) (L : List (List ℕ)) (g : ℕ) → ((c : ℕ) → count c H ≡ count c H') → HasGenus V H L g
    → HasGenus V H' L g
genus_same V H H' L g q h = record { F = h.F; faces = h.faces; euler = omega (arith, h.euler, same_length H H' q) }

pub held_below : (E : List (ℕ × ℕ)) (L : List (List ℕ)) (c : ℕ) → 1 ≤ count c (held (system E L)) → c < length E
held_below E L c i = numbers_below E c (kept_passes (λ e. 1 - count_all (dart e) L) c (edge_numbers E) i).1

-- the lists hold the edges of which they are a rotation
pub held_count : (E : List (ℕ × ℕ)) (V : ℕ) (H : List ℕ) (L : List (List ℕ)) → IsRotation (edge_at E) V H L
    → ((c : ℕ) → 1 ≤ count c H → c < length E) → (c : ℕ) → count c (held (system E L)) ≡ count c H
held_count E V H L R b c = go (ℕ_discrete (count c H) 0)
  where
    k : count_all (dart c) L ≡ count c H
    k = R.held (dart c) ∙ ap (λ t. count t H) (edge_dart c)

    go : Dec (count c H ≡ 0) → count c (held (system E L)) ≡ count c H
    go (yes z) = count-not_kept (λ e. 1 - count_all (dart e) L) c (edge_numbers E) (λ q. omega (arith, q, k, z)) ∙ sym z
    go (no n) = omega (
      arith,
      count-kept (λ e. 1 - count_all (dart e) L) c (edge_numbers E) (omega (arith, k, n)),
      numbers_all E c (b c (omega arith)),
      numbers_single E c,
      R.graph.single c,
    )

-- a system that holds each edge holds them all, in order
keep_all : (f : ℕ → ℕ) (E : List ℕ) → ((c : ℕ) → 1 ≤ count c E → f c ≡ 0) → keep f E ≡ E
unfolding keep
keep_all f [] h = refl
keep_all f (e ∷ E) h = ap (λ b. cond b (e ∷ keep f E) (keep f E)) (eq-eqb (f e) 0 (h e (omega (arith, count-head e E))))
    ∙ ap (λ t. e ∷ t) (keep_all f E (λ c i. h c (count-there c e E i)))

pub all_held : (r : RotationSystem) → ((e : ℕ) → e < length r.ends → 1 ≤ count e (held r)) → held r ≡ edge_numbers r.ends
all_held r h = keep_all (λ e. 1 - count_all (dart e) r.lists) (edge_numbers r.ends) (λ c i.
    (kept_passes (λ e. 1 - count_all (dart e) r.lists) c (edge_numbers r.ends) (h c (numbers_below r.ends c i))).0)

-- a dart in the lists is below twice the number of edges
pub dart_below : (r : RotationSystem) → IsRotationSystem r → (d : ℕ) → 1 ≤ count_all d r.lists → d < 2 * length r.ends
unfolding edge
dart_below r I d i = let l = held_below r.ends r.lists (edge d) (omega (arith, I.rotation.held d, i)) in omega arith

module _ (r : RotationSystem) (I : IsRotationSystem r) (e : ℕ) (l : e < length r.ends) (new : count e (held r) ≡ 0)
    (p q : Option ℕ) (L' : List (List ℕ)) (P : ArePut r.lists (edge_at r.ends e) p q (dart e) L') where
  abbrev ends : ℕ → ℕ × ℕ
  ends = edge_at r.ends

  abbrev V : ℕ
  V = length r.lists

  below : AreBelow V (ends e)
  below = In-all (AreBelow V) r.ends I.below (ends e) (In-get_or r.ends e (0, 0) l)

  put : (B : EdgePut ends e r.lists) × (B.L2 ≡ L')
  put = edge_put ends e r.lists L' p q P

  rotation : IsRotation ends V (e ∷ held r) L'
  rotation = subst (IsRotation ends V (e ∷ held r)) put.1 (insert_rotation ends V (held r) e new below r.lists I.rotation put.0)

  same : (c : ℕ) → count c (e ∷ held r) ≡ count c (held (system r.ends L'))
  same c = sym (held_count r.ends V (e ∷ held r) L' rotation in_ends c)
    where
      in_ends : (c : ℕ) → 1 ≤ count c (e ∷ held r) → c < length r.ends
      in_ends c i = go (ℕ_discrete (count c (held r)) 0)
        where
          go : Dec (count c (held r) ≡ 0) → c < length r.ends
          go (no n) = held_below r.ends r.lists c (omega arith)
          go (yes z) = pick (ℕ_discrete e c)
            where
              pick : Dec (e ≡ c) → c < length r.ends
              pick (yes q) = omega (arith, q, l)
              pick (no n) = absurd (omega (arith, i, z, count-other c e (held r) n))

  pub holds_more : HoldsMore r (e ∷ []) (system r.ends L')
  holds_more = record { ends = refl; vertices = rotation.long; more = λ c. sym (same c) ∙ count-append c (e ∷ []) (held r) }

  pub system_with : All BeginsWithLeast L' → IsRotationSystem (system r.ends L')
  system_with least = record {
    few = I.few;
    vertices = omega (arith, rotation.long, I.vertices);
    below = subst (λ n. All (AreBelow n) r.ends) (sym rotation.long) I.below;
    rotation = subst (λ n. IsRotation ends n (held (system r.ends L')) L') (sym rotation.long)
        (rotation_same ends V (e ∷ held r) (held (system r.ends L')) L' same rotation);
    connected = λ u v a b. joined_more ends (held r) (held (system r.ends L')) (λ c i. omega
        (arith, same c, count-there c e (held r) i)) u v
        (I.connected u v (omega (arith, a, rotation.long)) (omega (arith, b, rotation.long)));
    least = least;
  }

  pub genus_kept : (g g' : ℕ) → HasGenus V (held r) r.lists g → HasGenus (length L') (held (system r.ends L')) L' g' → g ≤ g'
  genus_kept g g' h k = genus_not_lower ends V (held r) e new below r.lists I.rotation put.0 g g' h
      (subst (λ t. HasGenus V (e ∷ held r) t g') (sym put.1) (genus_same V (held (system r.ends L')) (e ∷ held r) L' g' (λ c. sym (same c))
      (subst (λ n. HasGenus n (held (system r.ends L')) L' g') rotation.long k)))

pub system_distinct : (r : RotationSystem) → IsRotationSystem r → AllDistinct r.lists
system_distinct r I = rotation_distinct (edge_at r.ends) (length r.lists) (held r) r.lists I.rotation

-- the edge of a dart in the lists, and its reverse
pub edge_below : (r : RotationSystem) → IsRotationSystem r → (d : ℕ) → 1 ≤ count_all d r.lists → edge d < length r.ends
edge_below r I d i = held_below r.ends r.lists (edge d) (omega (arith, I.rotation.held d, i))

pub rev_held : (r : RotationSystem) → IsRotationSystem r → (d : ℕ) → 1 ≤ count_all d r.lists → 1 ≤ count_all (rev d) r.lists
rev_held r I d i = omega (arith, i, I.rotation.held d, I.rotation.held (rev d), ap (λ e. count e (held r)) (edge_rev d))

-- the genus by Euler's formula, from the number of faces
pub record GenusBy (r : RotationSystem) (faces k m : ℕ) : Type 0 where
  pub vertices : length r.lists ≤ k + 2 * m
  pub fits : faces ≤ k + 2 * m - length r.lists
  pub genus : HasGenus (length r.lists) (held r) r.lists ((k + 2 * m - length r.lists - faces) / 2)

pub genus_by : (r : RotationSystem) → IsRotationSystem r → (faces k m : ℕ) → HasFaces r.lists faces → k ≡ length (held r)
    → m ≡ one_component (length r.lists) → GenusBy r faces k m
genus_by r I faces k m h q s = record {
  vertices = omega (arith, euler);
  fits = omega (arith, euler);
  genus = subst (HasGenus (length r.lists) (held r) r.lists) (sym (omega (arith, euler))) t.1;
}
  where
    t : (g : ℕ) × HasGenus (length r.lists) (held r) r.lists g
    t = genus_total (edge_at r.ends) (length r.lists) (held r) r.lists I.rotation I.connected

    euler : length r.lists + faces + (t.0 + t.0) ≡ k + (m + m)
    euler = omega (arith, q, s, t.1.euler, faces_unique r.lists t.1.F faces (system_distinct r I) t.1.faces h)

-- the first dart of an edge stands in the list of its first end, or nowhere
pub dart_counted : (r : RotationSystem) → IsRotationSystem r → (e v : ℕ) (w : List ℕ) (d : ℕ) (b : Bool) → v < length r.lists
    → v ≡ (edge_at r.ends e).0 → w ≡ get_or r.lists v [] → d ≡ dart e → IsTrue b ↔ (1 ≤ count d w)
    → IsTrue b ↔ (1 ≤ count_all (dart e) r.lists)
dart_counted r I e v w d b l q s t h = (
  λ a. let i : 1 ≤ count (dart e) (get_or r.lists v []) = subst (λ x. 1 ≤ count x (get_or r.lists v [])) t
      (subst (λ x. 1 ≤ count d x) s (h.0 a)) in omega (arith, i, count_in (dart e) v r.lists l),
  λ i. h.1 (subst (λ x. 1 ≤ count d x) (sym s) (subst (λ x. 1 ≤ count x (get_or r.lists v [])) (sym t)
      (subst (λ x. 1 ≤ count (dart e) (get_or r.lists x [])) (tail-dart (edge_at r.ends) e ∙ sym q)
      (stands_at (edge_at r.ends) (dart e) r.lists I.rotation.placed i).1))),
)

-- what follows the reverse of a dart, and what comes before it
pub next_arc : (r : RotationSystem) → IsRotationSystem r → (a b v : ℕ) (w : List ℕ) → v < length r.lists → w ≡ get_or r.lists v []
    → 1 ≤ arc a b w → 1 ≤ arcs a b r.lists
next_arc r I a b v w l q i = let k : 1 ≤ arc a b (get_or r.lists v []) = subst (λ t. 1 ≤ arc a b t) q i in
    omega (arith, k, arc_in a b v r.lists l)

pub stands_there : (r : RotationSystem) → IsRotationSystem r → (d v : ℕ) (w : List ℕ) → 1 ≤ count_all d r.lists
    → v ≡ tail (edge_at r.ends) d → w ≡ get_or r.lists v [] → 1 ≤ count d w
stands_there r I d v w i q s = subst (λ t. 1 ≤ count d t) (sym s) (subst (λ x. 1 ≤ count d (get_or r.lists x [])) (sym q)
    (stands_at (edge_at r.ends) d r.lists I.rotation.placed i).1)

-- the system that the code makes: the ends are those of r, and the lists have the edge put in
module _ (r : RotationSystem) (I : IsRotationSystem r) (e : ℕ) (l : e < length r.ends) (new : count e (held r) ≡ 0) (p q : Option ℕ)
    (L' : List (List ℕ)) (P : ArePut r.lists (edge_at r.ends e) p q (dart e) L') (E : List (ℕ × ℕ)) (s : E ≡ r.ends) where
  pub inserted_system : All BeginsWithLeast L' → IsRotationSystem (record { ends = E; lists = L' })
  inserted_system least = subst (λ F. IsRotationSystem (record { ends = F; lists = L' })) (sym s) (system_with r I e l new p q L' P least)

  pub inserted_holds : HoldsMore r (e ∷ []) (record { ends = E; lists = L' })
  inserted_holds = subst (λ F. HoldsMore r (e ∷ []) (record { ends = F; lists = L' })) (sym s) (holds_more r I e l new p q L' P)

  pub inserted_genus : (g g' : ℕ) → HasGenus (length r.lists) (held r) r.lists g
      → HasGenus (length L') (held (record { ends = E; lists = L' })) L' g' → g ≤ g'
  inserted_genus g g' h k = genus_kept r I e l new p q L' P g g' h (subst (λ F. HasGenus (length L')
      (held (record { ends = F; lists = L' })) L' g')
      s k)
