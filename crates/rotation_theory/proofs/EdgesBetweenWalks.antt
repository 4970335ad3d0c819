-- Two edges with a common end inserted into a rotation with one face: it has one face again.
use Rattle.std.proofs.Common.{◌≡◌, ◌⊎◌, ℕ, ◌+◌, List, [], ◌∷◌, ◌≤◌, length, ◌≢◌, ◌++◌, refl, sym, ap, ◌∙◌, arith, inl, inr, subst, append_assoc}
use Rattle.std.proofs.Math.Decide.{ℕ_discrete}
use Rattle.edge_lists.specs.Connections.{AreBelow}
use Rattle.edge_lists.specs.Occurrences.{count, count_all}
use Rattle.edge_lists.proofs.ListSplits.{split_at}
use Rattle.edge_lists.proofs.Occurrences.{AllDistinct, count-append, count-head, count-nil, count-other, count_all-cons, count_all-nil, length-cons, length-nil}
use Rattle.rotation_theory.specs.CyclicLists.{arcs}
use Rattle.rotation_theory.specs.Darts.{dart, rev, tail}
use Rattle.rotation_theory.specs.Rotations.{IsRotation}
use Rattle.rotation_theory.proofs.Arcs.{arc-source, arcs-cons, arcs-target}
use Rattle.rotation_theory.proofs.Corners.{corner_after}
use Rattle.rotation_theory.proofs.Darts.{cut, cut_edge, edge_dart, edge_rev, rev_rev}
use Rattle.rotation_theory.proofs.Deletion.{DartTaken, EdgeDarts, taken_count}
use Rattle.rotation_theory.proofs.EdgeInsertion.{DartPut, EdgePut, insert_faces, insert_rotation, put_taken}
use Rattle.rotation_theory.proofs.FaceWalks.{FaceWalks, walks_distinct}
use Rattle.rotation_theory.proofs.Insertion.{CornerAfter, EdgeLifted, OnOneWalk, insert_merging}
use Rattle.rotation_theory.proofs.SameCycles.{SameCycles, same_front, same_refl, same_turn, same_under, walks_same}
use Rattle.rotation_theory.proofs.Swaps.{swap_split}
use Rattle.rotation_theory.proofs.Uniqueness.{walks_unique}
use Rattle.rotation_theory.proofs.Vertices.{rotation_distinct}

turn_end : (d : ℕ) (w : List ℕ) → 1 ≤ count d w → (s : List ℕ) × ((X : List (List ℕ)) → SameCycles (w ∷ X) ((s ++ d ∷ []) ∷ X))
turn_end d w h = let s = split_at d w h in (
  s.v ++ s.u,
  λ X. subst (λ t. SameCycles (t ∷ X) (((s.v ++ s.u) ++ d ∷ []) ∷ X)) (append_assoc s.u (d ∷ []) s.v ∙ sym s.is)
      (subst (λ t. SameCycles (((s.u ++ d ∷ []) ++ s.v) ∷ X) (t ∷ X)) (sym (append_assoc s.v s.u (d ∷ [])))
      (same_turn (s.u ++ d ∷ []) s.v X)),
)

-- L1 is L with x directly after p
pub record DartPutAfter (ends : ℕ → ℕ × ℕ) (x p : ℕ) (L L1 : List (List ℕ)) : Type 0 where
  pub U : List (List ℕ)
  pub u : List ℕ
  pub v : List ℕ
  pub l1 : List ℕ
  pub Y : List (List ℕ)
  pub was : L ≡ U ++ (u ++ p ∷ v) ∷ Y
  pub is : L1 ≡ U ++ l1 ∷ Y
  pub at : length U ≡ tail ends x
  pub how : (l1 ≡ u ++ p ∷ x ∷ v) ⊎ (l1 ≡ x ∷ v ++ (u ++ p ∷ []))

pub put_of : (ends : ℕ → ℕ × ℕ) (x p : ℕ) (L L1 : List (List ℕ)) → DartPutAfter ends x p L L1 → DartPut ends x L L1
put_of ends x p L L1 P = record {
  U = P.U;
  l = P.u ++ p ∷ P.v;
  l1 = P.l1;
  Y = P.Y;
  was = P.was;
  is = P.is;
  at = P.at;
  how = inr (P.u, p, P.v, refl, P.how);
}

after_of : (ends : ℕ → ℕ × ℕ) (c : ℕ → ℕ) (x p : ℕ) (L L1 : List (List ℕ)) → DartPutAfter ends x p L L1 → (s' : List ℕ)
    → CornerAfter c x L L1 (s' ++ c p ∷ [])
after_of ends c x p L L1 P s' =
    subst (λ t. CornerAfter c x t L1 (s' ++ c p ∷ [])) (sym P.was)
    (subst (λ t. CornerAfter c x (P.U ++ (P.u ++ p ∷ P.v) ∷ P.Y) t (s' ++ c p ∷ [])) (sym P.is)
    (corner_after c x p P.U P.u P.v P.l1 P.Y s' P.how))

put_in : (ends : ℕ → ℕ × ℕ) (x p : ℕ) (L L1 : List (List ℕ)) → DartPutAfter ends x p L L1 → 1 ≤ count_all p L
put_in ends x p L L1 P =
    let l : SameCycles (P.U ++ (P.u ++ p ∷ P.v) ∷ P.Y) ((P.u ++ p ∷ P.v) ∷ P.U ++ P.Y) = same_front P.U (P.u ++ p ∷ P.v) P.Y in
    omega (
      arith,
      ap (count_all p) P.was,
      l.darts p,
      count_all-cons p (P.u ++ p ∷ P.v) (P.U ++ P.Y),
      count-append p P.u (p ∷ P.v),
      count-head p P.v,
    )

module _ (ends : ℕ → ℕ × ℕ) (V : ℕ) where
  module _ (H : List ℕ) (e : ℕ) (free : count e H ≡ 0) (below : AreBelow V (ends e)) (L : List (List ℕ))
      (R : IsRotation ends V H L) where
    abbrev x : ℕ
    x = dart e

    abbrev y : ℕ
    y = rev x

    no_x : count_all x L ≡ 0
    no_x = R.held x ∙ ap (λ t. count t H) (edge_dart e) ∙ free

    no_y : count_all y L ≡ 0
    no_y = R.held y ∙ ap (λ t. count t H) (edge_rev x ∙ edge_dart e) ∙ free

    -- between two walks
    pub insert_between : (L1 L2 : List (List ℕ)) (p q : ℕ) (P : DartPutAfter ends x p L L1) (Q : DartPutAfter ends y q L1 L2) → q ≢ x
        → (w1 w2 : List ℕ) (S : List (List ℕ))
        → FaceWalks rev L (w1 ∷ w2 ∷ S) → 1 ≤ count (rev p) w1 → 1 ≤ count (rev q) w2
        → (w : List ℕ) × FaceWalks rev L2 (w ∷ S)
    insert_between L1 L2 p q P Q n w1 w2 S k i j =
        let (s1, l1) = turn_end (rev p) w1 i in
        let (s2, l2) = turn_end (rev q) w2 j in
        let k1 : FaceWalks rev L ((s1 ++ rev p ∷ []) ∷ w2 ∷ S) = walks_same rev L L _ _ (same_refl L) (l1 (w2 ∷ S)) k in
        let k2 : FaceWalks rev L ((s1 ++ rev p ∷ []) ∷ (s2 ++ rev q ∷ []) ∷ S) = walks_same rev L L _ _ (same_refl L)
        (same_under (s1 ++ rev p ∷ []) (w2 ∷ S) ((s2 ++ rev q ∷ []) ∷ S) (l2 S)) k1 in (
          x ∷ (s2 ++ rev q ∷ []) ++ y ∷ (s1 ++ rev p ∷ []),
          insert_merging rev (cut x) x y E L L1 L2 no_x no_y D1 D2 (s2 ++ rev q ∷ []) (s1 ++ rev p ∷ []) S
              (inl (subst (λ t. CornerAfter (cut x) x L L1 (s1 ++ t ∷ [])) cp (after_of ends (cut x) x p L L1 P s1)))
              (inl (subst (λ t. CornerAfter (cut x) y L1 L2 (s2 ++ t ∷ [])) cq (after_of ends (cut x) y q L1 L2 Q s2))) k2,
        )
      where
        E : EdgeDarts rev (cut x) x y
        E = cut_edge x

        t1 : DartTaken x L1 L
        t1 = put_taken ends x L L1 (put_of ends x p L L1 P)

        t2 : DartTaken y L2 L1
        t2 = put_taken ends y L1 L2 (put_of ends y q L1 L2 Q)

        N : IsRotation ends V (e ∷ H) L2
        N = insert_rotation ends V H e free below L R
            (record { L1 = L1; L2 = L2; first = put_of ends x p L L1 P; second = put_of ends y q L1 L2 Q })

        D2 : AllDistinct L2
        D2 = rotation_distinct ends V (e ∷ H) L2 N

        D1 : AllDistinct L1
        D1 d = omega (arith, taken_count y L2 L1 t2 d, D2 d)

        p_in : 1 ≤ count_all p L
        p_in = put_in ends x p L L1 P

        q_in : 1 ≤ count_all q L
        q_in = omega (arith, put_in ends y q L1 L2 Q, taken_count x L1 L t1 q, count-other q x [] (λ z. n (sym z)), count-nil q)

        cp : cut x p ≡ rev p
        cp = E.others p (λ z. absurd (omega (arith, p_in, ap (λ t. count_all t L) z, no_x)))
            (λ z. absurd (omega (arith, p_in, ap (λ t. count_all t L) z, no_y)))

        cq : cut x q ≡ rev q
        cq = E.others q (λ z. absurd (omega (arith, q_in, ap (λ t. count_all t L) z, no_x)))
            (λ z. absurd (omega (arith, q_in, ap (λ t. count_all t L) z, no_y)))

    -- one face becomes two, one with each dart
    pub insert_first : (B : EdgePut ends e L) → (w : List ℕ) → FaceWalks rev L (w ∷ [])
        → (A : List ℕ) × (C : List ℕ) × FaceWalks rev B.L2 ((y ∷ A) ∷ (x ∷ C) ∷ [])
    insert_first B w k = go lifted.outcome
      where
        N : IsRotation ends V (e ∷ H) B.L2
        N = insert_rotation ends V H e free below L R B

        D2 : AllDistinct B.L2
        D2 = rotation_distinct ends V (e ∷ H) B.L2 N

        lifted : EdgeLifted rev (cut y) y x B.L2 (length (w ∷ []))
        lifted = insert_faces ends V H e free below L R B (w ∷ []) k

        E : EdgeDarts rev (cut y) y x
        E = subst (λ t. EdgeDarts rev (cut y) y t) (rev_rev x) (cut_edge y)

        go : ((length lifted.W ≡ length (w ∷ []) + 1) × OnOneWalk (cut y) y x B.L2) ⊎ (length lifted.W + 1 ≡ length (w ∷ []))
            → (A : List ℕ) × (C : List ℕ) × FaceWalks rev B.L2 ((y ∷ A) ∷ (x ∷ C) ∷ [])
        go (inl (h, o)) =
            let s : FaceWalks rev B.L2 ((y ∷ o.T) ∷ (x ∷ o.Q) ∷ o.S) = swap_split y x E.ne (cut y) rev (E.r_e ∙ sym E.c_f)
            (E.r_f ∙ sym E.c_e) (λ c m n. sym (E.others c m n)) B.L2 o.Q o.T o.S D2 o.walks in
            let u : length lifted.W ≡ length ((y ∷ o.T) ∷ (x ∷ o.Q) ∷ o.S) = walks_unique rev B.L2 lifted.W _ D2 lifted.walks s in
            let z : length o.S ≡ 0 = omega (
              arith,
              u,
              h,
              length-cons w [],
              length-nil (List ℕ),
              length-cons (y ∷ o.T) ((x ∷ o.Q) ∷ o.S),
              length-cons (x ∷ o.Q) o.S,
            ) in
            (o.T, o.Q, subst (λ t. FaceWalks rev B.L2 ((y ∷ o.T) ∷ (x ∷ o.Q) ∷ t)) (nil_of o.S z) s)
          where
            nil_of : (S : List (List ℕ)) → length S ≡ 0 → S ≡ []
            nil_of [] h = refl
            nil_of (w ∷ S) h = absurd (omega (arith, h, length-cons w S))
        go (inr h) = absurd (no_walk lifted.W (omega (arith, h, length-cons w [], length-nil (List ℕ))) (omega (
          arith,
          lifted.walks.darts x,
          N.held x,
          ap (λ t. count t (e ∷ H)) (edge_dart e),
          count-head e H,
        )))
          where
            no_walk : (W : List (List ℕ)) → length W ≡ 0 → ¬ (1 ≤ count_all x W)
            no_walk [] h i = omega (arith, i, count_all-nil x)
            no_walk (w ∷ W) h i = omega (arith, h, length-cons w W)

-- where x stands directly before p at a vertex, x's reverse and p are on one walk
pub before_same : (L : List (List ℕ)) (w w' : List ℕ) → FaceWalks rev L (w ∷ w' ∷ []) → AllDistinct L
    → (x p : ℕ) → 1 ≤ arcs x p L → 1 ≤ count p w → 1 ≤ count (rev x) w
before_same L w w' k D x p i j = go (ℕ_discrete (count (rev x) w) 0)
  where
    D' : AllDistinct (w ∷ w' ∷ [])
    D' = walks_distinct rev L _ k D

    follows : 1 ≤ arcs (rev x) p (w ∷ w' ∷ [])
    follows = omega (arith, k.next (rev x) p, ap (λ t. arcs t p L) (rev_rev x), i)

    go : Dec (count (rev x) w ≡ 0) → 1 ≤ count (rev x) w
    go (yes z) = absurd (omega (
      arith,
      follows,
      arcs-cons (rev x) p w (w' ∷ []),
      arc-source (rev x) p w z,
      arcs-target (rev x) p (w' ∷ []) (omega (arith, D' p, count_all-cons p w (w' ∷ []), j)),
    ))
    go (no n) = omega arith
