-- Faces traced dart by dart.
use Rattle.std.proofs.Common.{◌≡◌, ◌≢◌, ℕ, zero, suc, ◌+◌, ◌<◌, ◌≤◌, ◌⊎◌, inl, inr, Bool, true, false, IsTrue, List, [], ◌∷◌, ◌++◌, length, length-append, replicate, refl, sym, ap, subst, ◌∙◌, arith, append_assoc}
use Rattle.std.specs.Prelude.{slice_set, ◌↔◌}
use Rattle.std.proofs.Math.Decide.{ℕ_discrete}
use Rattle.std.proofs.lemmas.Bool.{true≢false}
use Rattle.std.proofs.lemmas.List.{append-nil, get_or-set_other, get_or-set_same, length-set}
use Rattle.edge_lists.specs.Occurrences.{count, count_all}
use Rattle.edge_lists.proofs.Occurrences.{AllDistinct, count-append, count-head, count-nil, count-one, count-other, count_all-append, count_all-cons, count_all-nil}
use Rattle.rotation_theory.specs.CyclicLists.{arc, arcs, empties, head_or}
use Rattle.rotation_theory.specs.Darts.{rev}
use Rattle.rotation_theory.specs.Genus.{HasFaces}
use Rattle.rotation_theory.specs.Rotations.{IsRotation}
use Rattle.rotation_theory.proofs.Arcs.{arcs-append, arcs-cons, arcs-source, arcs-target, head_or-nil}
use Rattle.rotation_theory.proofs.EmptyLists.{empties-cons, empties-none}
use Rattle.rotation_theory.proofs.FaceWalks.{FaceWalks, walks_distinct}
use Rattle.rotation_theory.proofs.Genus.{faces_total, walks_of_faces}
use Rattle.rotation_theory.proofs.SameCycles.{SameCycles, same_front, same_refl, same_under, walks_same}
use Rattle.rotation_theory.proofs.Splits.{Front, front}
use Rattle.rotation_theory.proofs.Uniqueness.{arcs_function}
use Rattle.rotation_system.specs.Traces.{AreOnOneFace, AreTraced, is_marked, unmarked}
use Rattle.rotation_system.proofs.DartSteps.{arc_split, head_or-cons}

abbrev IsMarked : List Bool → ℕ → Type 0
IsMarked seen x = IsTrue (is_marked seen x)

-- one mark more
module _ (seen : List Bool) (j : ℕ) (l : j < length seen) where
  marked_here : IsMarked (slice_set seen j true) j
  marked_here = get_or-set_same seen j true false l

  marked_other : (x : ℕ) → x ≢ j → is_marked (slice_set seen j true) x ≡ is_marked seen x
  marked_other x n = get_or-set_other seen j x true false n

  pub marks_kept : (x : ℕ) → IsMarked seen x → IsMarked (slice_set seen j true) x
  marks_kept x h = go (ℕ_discrete x j)
    where
      go : Dec (x ≡ j) → IsMarked (slice_set seen j true) x
      go (yes q) = subst (IsMarked (slice_set seen j true)) (sym q) marked_here
      go (no n) = marked_other x n ∙ h

pub begun_more : (seen new : List Bool) (x d : ℕ) → x < length seen → new ≡ slice_set seen x true → (x ≡ d) ⊎ IsMarked seen d
    → IsMarked new d
begun_more seen new x d l q (inl e) = subst (λ m. IsMarked m d) (sym q) (subst (IsMarked (slice_set seen x true)) e (marked_here seen x l))
begun_more seen new x d l q (inr h) = subst (λ m. IsMarked m d) (sym q) (marks_kept seen x l d h)

pub set_fewer : (seen : List Bool) (j : ℕ) → j < length seen → is_marked seen j ≡ false
    → unmarked (slice_set seen j true) + 1 ≡ unmarked seen
set_fewer [] j l h = absurd (omega arith)
set_fewer (true ∷ seen) zero l h = absurd (true≢false h)
set_fewer (false ∷ seen) zero l h = omega arith
set_fewer (b ∷ seen) (suc j) l h = omega (arith, set_fewer seen j (omega arith) h)

none_marked : (n x : ℕ) → ¬ (IsMarked (replicate n false) x)
none_marked zero x h = true≢false (sym h)
none_marked (suc n) zero h = true≢false (sym h)
none_marked (suc n) (suc x) h = none_marked n x h

unmarked_all : (n : ℕ) → unmarked (replicate n false) ≡ length (replicate n false)
unmarked_all zero = refl
unmarked_all (suc n) = omega (arith, unmarked_all n)

-- no face is traced yet
pub start_traced : (ends : ℕ → ℕ × ℕ) (V : ℕ) (H : List ℕ) (L : List (List ℕ)) → IsRotation ends V H L → (n : ℕ)
    → AreTraced L (replicate n false) 0
start_traced ends V H L R n = let f = faces_total ends V H L R in let w = walks_of_faces L f.0 f.1 in record {
  traced = [];
  others = w.0;
  walks = w.1;
  full = empties-none;
  number = refl;
  marks = λ d l. (λ h. absurd (none_marked n d h), λ h. absurd (omega (arith, h, count_all-nil d)));
  few = omega (arith, unmarked_all n);
}

-- on the walk from d, where the darts before x are marked
pub record IsOnWalk (L : List (List ℕ)) (seen : List Bool) (n d x : ℕ) : Type 0 where
  pub traced : List (List ℕ)
  pub front : List ℕ
  pub back : List ℕ
  pub rest : List ℕ
  pub others : List (List ℕ)
  pub walks : FaceWalks rev L (traced ++ (front ++ back) ∷ others)
  pub full : empties traced ≡ 0
  pub number : length traced ≡ n
  pub begins : front ++ back ≡ d ∷ rest
  pub next : x ≡ head_or back d
  pub marks : (c : ℕ) → c < length seen → IsTrue (is_marked seen c) ↔ (1 ≤ count_all c traced + count c front)
  pub few : n + length front + unmarked seen ≤ length seen

same_append : (U X Y : List (List ℕ)) → SameCycles X Y → SameCycles (U ++ X) (U ++ Y)
same_append [] X Y h = h
same_append (w ∷ U) X Y h = same_under w (U ++ X) (U ++ Y) (same_append U X Y h)

pub begin_walk : (L : List (List ℕ)) (seen : List Bool) (n d : ℕ) → AreTraced L seen n → 1 ≤ count_all d L → d < length seen
    → is_marked seen d ≡ false → IsOnWalk L seen n d d
begin_walk L seen n d T i l h = go (ℕ_discrete (count_all d T.traced) 0)
  where
    go : Dec (count_all d T.traced ≡ 0) → IsOnWalk L seen n d d
    go (no z) = absurd (true≢false (sym ((T.marks d l).1 (omega arith)) ∙ h))
    go (yes z) =
        let F : Front d T.others = front d T.others (omega (arith, z, i, T.walks.darts d, count_all-append d T.traced T.others)) in
        record {
          traced = T.traced;
          front = [];
          back = d ∷ F.A;
          rest = F.A;
          others = F.S;
          walks = walks_same rev L L (T.traced ++ T.others) (T.traced ++ (d ∷ F.A) ∷ F.S) (same_refl L)
              (same_append T.traced T.others ((d ∷ F.A) ∷ F.S) F.like) T.walks;
          full = T.full;
          number = T.number;
          begins = refl;
          next = sym (head_or-cons d F.A d);
          marks = λ c m. (λ k. omega (arith, (T.marks c m).0 k, count-nil c), λ k. (T.marks c m).1 (omega (arith, k, count-nil c)));
          few = (let f = T.few in omega arith);
        }

module _ (L : List (List ℕ)) (D : AllDistinct L) (seen : List Bool) (n d x : ℕ) (l : x < length seen) where
  -- one dart further
  pub walk_step : (b : ℕ) (new : List Bool) → is_marked seen x ≡ false → new ≡ slice_set seen x true → 1 ≤ arcs (rev x) b L
      → IsOnWalk L seen n d x → IsOnWalk L new n d b
  walk_step b new h q i w = go w.back w.walks w.begins w.next
    where
      go : (back : List ℕ) → FaceWalks rev L (w.traced ++ (w.front ++ back) ∷ w.others) → w.front ++ back ≡ d ∷ w.rest → x ≡ head_or back d
          → IsOnWalk L new n d b
      go [] k s e = absurd (true≢false (sym ((w.marks x l).1 (omega (
        arith,
        subst (λ c. 1 ≤ count c w.front) (sym (e ∙ head_or-nil d))
            (omega (arith, ap (count d) s, count-append d w.front [], count-nil d, count-head d w.rest)),
      ))) ∙ h))
      go (t ∷ T) k s e = subst (λ m. IsOnWalk L m n d b) (sym q) (record {
        traced = w.traced;
        front = w.front ++ t ∷ [];
        back = T;
        rest = w.rest;
        others = w.others;
        walks = subst (λ m. FaceWalks rev L (w.traced ++ m ∷ w.others)) (sym (append_assoc w.front (t ∷ []) T)) k;
        full = w.full;
        number = w.number;
        begins = append_assoc w.front (t ∷ []) T ∙ s;
        next = arcs_function W (walks_distinct rev L W k D) t b (head_or T d) from_L here;
        marks = λ c m. (to c (omega (arith, m, length-set seen x true)), from c (omega (arith, m, length-set seen x true)));
        few = omega (arith, w.few, length-append w.front (t ∷ []), set_fewer seen x l h, length-set seen x true);
      })
        where
          W : List (List ℕ)
          W = w.traced ++ (w.front ++ t ∷ T) ∷ w.others

          x_is : x ≡ t
          x_is = e ∙ head_or-cons t T d

          from_L : 1 ≤ arcs t b W
          from_L = omega (arith, k.next t b, subst (λ c. 1 ≤ arcs (rev c) b L) x_is i)

          here : 1 ≤ arcs t (head_or T d) W
          here = omega (
            arith,
            arcs-append t (head_or T d) w.traced ((w.front ++ t ∷ T) ∷ w.others),
            arcs-cons t (head_or T d) (w.front ++ t ∷ T) w.others,
            subst (λ z. 1 ≤ arc t (head_or T z) (w.front ++ t ∷ T)) (ap (λ v. head_or v 0) s ∙ head_or-cons d w.rest 0)
                (arc_split t w.front T),
          )

          to : (c : ℕ) → c < length seen → IsMarked (slice_set seen x true) c → 1 ≤ count_all c w.traced + count c (w.front ++ t ∷ [])
          to c m o = pick (ℕ_discrete c x)
            where
              pick : Dec (c ≡ x) → 1 ≤ count_all c w.traced + count c (w.front ++ t ∷ [])
              pick (yes p) = omega (
                arith,
                count-append c w.front (t ∷ []),
                subst (λ y. count c (y ∷ []) ≡ 1) (p ∙ x_is) (count-one c),
              )
              pick (no z) = omega (arith, count-append c w.front (t ∷ []), (w.marks c m).0 (sym (marked_other seen x l c z) ∙ o))

          from : (c : ℕ) → c < length seen → 1 ≤ count_all c w.traced + count c (w.front ++ t ∷ []) → IsMarked (slice_set seen x true) c
          from c m o = pick (ℕ_discrete c x)
            where
              pick : Dec (c ≡ x) → IsMarked (slice_set seen x true) c
              pick (yes p) = subst (IsMarked (slice_set seen x true)) (sym p) (marked_here seen x l)
              pick (no z) = marked_other seen x l c z ∙ (w.marks c m).1 (omega (
                arith,
                o,
                count-append c w.front (t ∷ []),
                count-other c t [] (λ p. z (sym p ∙ sym x_is)),
                count-nil c,
              ))

  -- the walk is traced once its next dart is marked
  pub end_walk : is_marked seen x ≡ true → IsOnWalk L seen n d x → AreTraced L seen (n + 1)
  end_walk h w = go w.back w.walks w.begins w.next
    where
      go : (back : List ℕ) → FaceWalks rev L (w.traced ++ (w.front ++ back) ∷ w.others) → w.front ++ back ≡ d ∷ w.rest → x ≡ head_or back d
          → AreTraced L seen (n + 1)
      go (t ∷ T) k s e = absurd (omega (
        arith,
        subst (λ c. 1 ≤ count_all c w.traced + count c w.front) (e ∙ head_or-cons t T d) ((w.marks x l).0 h),
        walks_distinct rev L (w.traced ++ (w.front ++ t ∷ T) ∷ w.others) k D t,
        count_all-append t w.traced ((w.front ++ t ∷ T) ∷ w.others),
        count_all-cons t (w.front ++ t ∷ T) w.others,
        count-append t w.front (t ∷ T),
        count-head t T,
      ))
      go [] k s e = record {
        traced = w.front ∷ w.traced;
        others = w.others;
        walks = walks_same rev L L (w.traced ++ w.front ∷ w.others) (w.front ∷ w.traced ++ w.others) (same_refl L)
            (same_front w.traced w.front w.others) (subst (λ m. FaceWalks rev L (w.traced ++ m ∷ w.others)) (append-nil w.front) k);
        full = subst (λ m. empties (m ∷ w.traced) ≡ 0) (sym whole) (empties-cons d w.rest w.traced ∙ w.full);
        number = (let m = w.number in omega arith);
        marks = λ c m. (
          λ o. omega (arith, (w.marks c m).0 o, count_all-cons c w.front w.traced),
          λ o. (w.marks c m).1 (omega (arith, o, count_all-cons c w.front w.traced)),
        );
        few = omega (arith, w.few, ap length whole);
      }
        where
          whole : w.front ≡ d ∷ w.rest
          whole = sym (append-nil w.front) ∙ s

-- what follows a dart in the lists stands there
pub next_held : (a b : ℕ) (L : List (List ℕ)) → 1 ≤ arcs a b L → 1 ≤ count_all b L
next_held a b L i = go (ℕ_discrete (count_all b L) 0)
  where
    go : Dec (count_all b L ≡ 0) → 1 ≤ count_all b L
    go (yes z) = absurd (omega (arith, i, arcs-target a b L z))
    go (no z) = omega arith

-- where all darts are marked, all walks of darts are traced
pub all_traced : (L : List (List ℕ)) → AllDistinct L → (seen : List Bool) (n : ℕ) → AreTraced L seen n
    → ((d : ℕ) → 1 ≤ count_all d L → (d < length seen) × IsMarked seen d) → HasFaces L (n + empties L)
all_traced L D seen n T h = record {
  W = T.traced;
  orbits = record {
    held = λ d. omega (arith, total d, none d);
    next = λ d b. omega (arith, arcs-append d b T.traced T.others, arcs-source d b T.others (none d), T.walks.next d b);
    full = T.full;
  };
  number = (let m = T.number in omega arith);
}
  where
    total : (d : ℕ) → count_all d T.traced + count_all d T.others ≡ count_all d L
    total d = sym (count_all-append d T.traced T.others) ∙ T.walks.darts d

    none : (d : ℕ) → count_all d T.others ≡ 0
    none d = go (ℕ_discrete (count_all d T.others) 0)
      where
        go : Dec (count_all d T.others ≡ 0) → count_all d T.others ≡ 0
        go (yes z) = z
        go (no z) = let r = h d (omega (arith, total d)) in absurd (omega (arith, total d, D d, (T.marks d r.0).0 r.1))

-- one walk is traced, and c is on it where it is marked
pub on_one_walk : (L : List (List ℕ)) (seen : List Bool) (d c : ℕ) → AreTraced L seen 1 → d < length seen → c < length seen
    → IsMarked seen d
    → AreOnOneFace L d c (is_marked seen c)
on_one_walk L seen d c T l m h = go T.traced T.walks T.number T.marks
  where
    go : (X : List (List ℕ)) → FaceWalks rev L (X ++ T.others) → length X ≡ 1
        → ((x : ℕ) → x < length seen → IsMarked seen x ↔ (1 ≤ count_all x X)) → AreOnOneFace L d c (is_marked seen c)
    go [] k q f = absurd (omega (arith, q))
    go (w ∷ v ∷ X) k q f = absurd (omega (arith, q))
    go (w ∷ []) k q f = record {
      walk = w;
      others = T.others;
      walks = k;
      first = omega (arith, (f d l).0 h, count_all-cons d w [], count_all-nil d);
      second = (
        λ o. omega (arith, (f c m).0 o, count_all-cons c w [], count_all-nil c),
        λ o. (f c m).1 (omega (arith, o, count_all-cons c w [])),
      );
    }
