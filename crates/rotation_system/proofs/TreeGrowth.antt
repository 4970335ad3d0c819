-- Rotations of forests, grown edge by edge.
use Rattle.std.proofs.Common.{◌≡◌, ℕ, zero, suc, ◌+◌, ◌-◌, ◌<◌, ◌≤◌, All, List, [], ◌∷◌, drop, length, get_or, replicate, refl, sym, ap, subst, ◌∙◌, add-one, arith}
use Rattle.std.proofs.Math.Decide.{ℕ_discrete}
use Rattle.std.proofs.Math.Seq.{drop-cons}
use Rattle.std.proofs.lemmas.List.Elements.{All-cons, All-nil}
use Rattle.vector_spaces.proofs.Members.{In-all}
use Rattle.graph_theory.specs.Walks.{edge_at}
use Rattle.edge_lists.specs.Connections.{AreBelow, AreForest, IsConnected, one_component}
use Rattle.edge_lists.specs.Occurrences.{count}
use Rattle.edge_lists.proofs.Connections.{component_number_connected, component_number_none, joined_edge, joined_more}
use Rattle.edge_lists.proofs.Occurrences.{count-nil, in_of_count}
use Rattle.rotation_theory.specs.Darts.{dart, edge, rev}
use Rattle.rotation_theory.specs.Genus.{HasFaces}
use Rattle.rotation_theory.specs.Rotations.{AtVertices, IsRotation}
use Rattle.rotation_theory.proofs.EdgeInsertion.{EdgePut, insert_rotation, insert_tree}
use Rattle.rotation_theory.proofs.Genus.{arcs-blanks, blanks, count_all-blanks, faces_of_walks, length-blanks}
use Rattle.rotation_system.specs.GrownTrees.{IsGrown}
use Rattle.rotation_system.specs.PlacedDarts.{ArePutSomewhere}
use Rattle.rotation_system.specs.RotationSystems.{BeginsWithLeast, IsRotationSystem, held}
use Rattle.rotation_system.proofs.DartSteps.{drop_none}
use Rattle.rotation_system.proofs.PutDarts.{edge_put}
use Rattle.rotation_system.proofs.Systems.{held_count, rotation_same, system}

blanks-replicate : (n : ℕ) → blanks n ≡ replicate n []
unfolding blanks
blanks-replicate zero = refl
blanks-replicate (suc n) = ap (λ t. [] ∷ t) (blanks-replicate n)

blanks_placed : (ends : ℕ → ℕ × ℕ) (n m : ℕ) → AtVertices ends n (blanks m)
unfolding blanks
blanks_placed ends n zero = tt
blanks_placed ends n (suc m) = ((λ d i. absurd (omega (arith, i, count-nil d))), blanks_placed ends (suc n) m)

-- without edges each vertex is a face
blanks_grown : (ends : ℕ → ℕ × ℕ) (V : ℕ) → IsGrown ends V [] (blanks V)
blanks_grown ends V = record {
  rotation = record {
    long = length-blanks V;
    placed = blanks_placed ends 0 V;
    graph = record { single = λ e. omega (arith, count-nil e); below = λ e i. absurd (omega (arith, i, count-nil e)) };
    held = λ d. omega (arith, count_all-blanks d V, count-nil (edge d));
  };
  faces = blanks V;
  walks = record { darts = λ d. refl; next = λ p q. arcs-blanks p q V ∙ sym (arcs-blanks (rev p) q V); none = refl };
  number = length-blanks V ∙ sym (component_number_none ends V);
}

pub none_grown : (ends : ℕ → ℕ × ℕ) (V : ℕ) (L : List (List ℕ)) → L ≡ replicate V [] → IsGrown ends V [] L
none_grown ends V L q = subst (IsGrown ends V []) (blanks-replicate V ∙ sym q) (blanks_grown ends V)

pub all_least : (V : ℕ) (L : List (List ℕ)) → L ≡ replicate V [] → All BeginsWithLeast L
all_least V L q = subst (All BeginsWithLeast) (sym q) (go V)
  where
    go : (n : ℕ) → All BeginsWithLeast (replicate n [])
    go zero = All-nil BeginsWithLeast
    go (suc n) = All-cons BeginsWithLeast [] (replicate n []) tt (go n)

forest_drop : (ends : ℕ → ℕ × ℕ) (j : ℕ) (T : List ℕ) → AreForest ends T → AreForest ends (drop j T)
forest_drop ends zero T F = F
forest_drop ends (suc j) [] F = tt
forest_drop ends (suc j) (e ∷ T) F = forest_drop ends j T F.0

-- the edge j put in, where those after it are in
pub grown_more : (ends : ℕ → ℕ × ℕ) (V : ℕ) (T : List ℕ) (j e : ℕ) (L L' : List (List ℕ)) → AreForest ends T → j < length T
    → e ≡ get_or T j 0
    → AreBelow V (ends e) → ArePutSomewhere L (ends e) (dart e) L' → IsGrown ends V (drop (j + 1) T) L → IsGrown ends V (drop j T) L'
grown_more ends V T j e L L' F l q below P G = subst (λ t. IsGrown ends V t L') (sym parts) (go (edge_put ends e L L' P.p P.q P.put))
  where
    K : List ℕ
    K = drop (j + 1) T

    parts : drop j T ≡ e ∷ K
    parts = drop-cons T j 0 l ∙ ap (λ k. get_or T j 0 ∷ drop k T) (sym (add-one j)) ∙ ap (λ t. t ∷ K) (sym q)

    forest : AreForest ends (e ∷ K)
    forest = subst (AreForest ends) parts (forest_drop ends j T F)

    free : count e K ≡ 0
    free = pick (ℕ_discrete (count e K) 0)
      where
        pick : Dec (count e K ≡ 0) → count e K ≡ 0
        pick (yes z) = z
        pick (no n) = absurd (forest.1 (joined_edge ends e K (omega arith)))

    go : (B : EdgePut ends e L) × (B.L2 ≡ L') → IsGrown ends V (e ∷ K) L'
    go (B, r) = let t = insert_tree ends V K e free below L G.rotation B forest.1 G.faces G.walks G.number in subst
        (IsGrown ends V (e ∷ K)) r (record {
          rotation = insert_rotation ends V K e free below L G.rotation B;
          faces = t.0;
          walks = t.1;
          number = t.2;
        })

pub grown_faces : (ends : ℕ → ℕ × ℕ) (V : ℕ) (T : List ℕ) (L : List (List ℕ)) → IsConnected ends V T → IsGrown ends V T L
    → HasFaces L (one_component V)
grown_faces ends V T L C G = subst (HasFaces L) (G.number ∙ component_number_connected ends V T C) (faces_of_walks L G.faces G.walks)

-- the system of a spanning tree
pub grown_held : (E : List (ℕ × ℕ)) (V : ℕ) (T : List ℕ) (L : List (List ℕ)) → ((e : ℕ) → 1 ≤ count e T → e < length E)
    → IsGrown (edge_at E) V T L → (e : ℕ) → count e (held (system E L)) ≡ count e T
grown_held E V T L b G e = held_count E V T L G.rotation b e

pub grown_system : (E : List (ℕ × ℕ)) (V : ℕ) (T : List ℕ) (L : List (List ℕ)) → ((e : ℕ) → 1 ≤ count e T → e < length E)
    → length E < 2147483648 → V < 9223372036854775808 → All (AreBelow V) E → IsConnected (edge_at E) V T → All BeginsWithLeast L
    → IsGrown (edge_at E) V T L → IsRotationSystem (system E L)
grown_system E V T L b few small below C least G = record {
  few = few;
  vertices = omega (arith, G.rotation.long, small);
  below = subst (λ n. All (AreBelow n) E) (sym G.rotation.long) below;
  rotation = subst (λ n. IsRotation (edge_at E) n (held (system E L)) L) (sym G.rotation.long)
      (rotation_same (edge_at E) V T (held (system E L)) L (λ c. sym (grown_held E V T L b G c)) G.rotation);
  connected = λ u v m n. joined_more (edge_at E) T (held (system E L)) (λ c i. omega (arith, i, grown_held E V T L b G c)) u v
      (C u v (omega (arith, m, G.rotation.long)) (omega (arith, n, G.rotation.long)));
  least = least;
}

-- the same, by the values of the code
pub grown_at : (E : List (ℕ × ℕ)) (V : ℕ) (T : List ℕ) (left e : ℕ) (p : ℕ × ℕ) (L L' : List (List ℕ)) → AreForest (edge_at E) T → 0 < left
    → left ≤ length T → e ≡ get_or T (left - 1) 0 → p ≡ edge_at E e → AreBelow V p → ArePutSomewhere L p (dart e) L'
    → IsGrown (edge_at E) V (drop left T) L → IsGrown (edge_at E) V (drop (left - 1) T) L'
grown_at E V T left e p L L' F l m q r below P G = grown_more (edge_at E) V T (left - 1) e L L' F (omega arith) q
    (subst (AreBelow V) r below)
    (subst (λ x. ArePutSomewhere L x (dart e) L') r P) (subst (λ k. IsGrown (edge_at E) V (drop k T) L) (omega arith) G)

pub grown_all : (ends : ℕ → ℕ × ℕ) (V : ℕ) (T : List ℕ) (left : ℕ) (L : List (List ℕ)) → left ≤ 0 → IsGrown ends V (drop left T) L
    → IsGrown ends V T L
grown_all ends V T left L l G = let z : left ≡ 0 = omega arith in subst (λ k. IsGrown ends V (drop k T) L) z G

pub grown_start : (ends : ℕ → ℕ × ℕ) (V : ℕ) (T : List ℕ) (n : ℕ) (L : List (List ℕ)) → n ≡ length T → IsGrown ends V [] L
    → IsGrown ends V (drop n T) L
grown_start ends V T n L q G = subst (λ K. IsGrown ends V K L) (sym (drop_none T n (omega arith))) G

pub edges_below : (E : List (ℕ × ℕ)) (T : List ℕ) → All (λ e. e < length E) T → (e : ℕ) → 1 ≤ count e T → e < length E
edges_below E T h e i = In-all (λ e. e < length E) T h e (in_of_count e T i)

-- the system that the code makes, with these ends
pub made_system : (E : List (ℕ × ℕ)) (V : ℕ) (T : List ℕ) (L : List (List ℕ)) (E' : List (ℕ × ℕ)) → E' ≡ E → All (λ e. e < length E) T
    → length E < 2147483648 → V < 9223372036854775808 → All (AreBelow V) E → IsConnected (edge_at E) V T → All BeginsWithLeast L
    → IsGrown (edge_at E) V T L → IsRotationSystem (record { ends = E'; lists = L })
made_system E V T L E' q b few small below C least G = subst (λ F. IsRotationSystem (record { ends = F; lists = L })) (sym q)
    (grown_system E V T L (edges_below E T b) few small below C least G)

pub made_held : (E : List (ℕ × ℕ)) (V : ℕ) (T : List ℕ) (L : List (List ℕ)) (E' : List (ℕ × ℕ)) → E' ≡ E → All (λ e. e < length E) T
    → IsGrown (edge_at E) V T L → (e : ℕ) → count e (held (record { ends = E'; lists = L })) ≡ count e T
made_held E V T L E' q b G e = subst (λ F. count e (held (record { ends = F; lists = L })) ≡ count e T) (sym q)
    (grown_held E V T L (edges_below E T b) G e)
