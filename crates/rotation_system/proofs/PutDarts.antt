-- Both darts of an edge put into the lists of its ends.
use Rattle.std.proofs.Common.{◌≡◌, ◌≢◌, ℕ, zero, suc, ◌+◌, ◌<◌, ◌⊎◌, inl, inr, Bool, List, [], ◌∷◌, ◌++◌, None, Option, Some, cond, false, length, get_or, nat_eq, take, drop, true, refl, sym, ap, subst, ◌∙◌, arith, ◌&&◌, add-one, eq-eqb, ne_eqb}
use Rattle.std.specs.Prelude.{slice_set}
use Rattle.std.proofs.Math.Decide.{ℕ_discrete}
use Rattle.std.proofs.lemmas.List.{get_or-set_other, get_or-set_same, length-set}
use Rattle.vector_spaces.proofs.Members.{In}
use Rattle.rotation_theory.specs.Darts.{dart, tail}
use Rattle.rotation_theory.proofs.Darts.{tail-dart, tail-second}
use Rattle.rotation_theory.proofs.EdgeInsertion.{DartPut as DartPutBy, EdgePut}
use Rattle.rotation_system.specs.DartPlaces.{DartPut, IsPlace}
use Rattle.rotation_system.specs.InsertedEdges.{ListsInserted, second_place}
use Rattle.rotation_system.specs.PlacedDarts.{ArePut, IsPut, IsPutIn}
use Rattle.rotation_system.proofs.DartLists.{put_at, put_new, put_old, split_at_index}
use Rattle.rotation_system.proofs.DartSteps.{second-dart}

set_same : {X : Type 0} (z : X) (L : List X) (v : ℕ) → slice_set L v (get_or L v z) ≡ L
set_same z [] v = refl
set_same z (x ∷ L) zero = refl
set_same z (x ∷ L) (suc v) = ap (λ t. x ∷ t) (set_same z L v)

set_twice : {X : Type 0} (L : List X) (v : ℕ) (a b : X) → slice_set (slice_set L v a) v b ≡ slice_set L v b
set_twice [] v a b = refl
set_twice (x ∷ L) zero a b = refl
set_twice (x ∷ L) (suc v) a b = ap (λ t. x ∷ t) (set_twice L v a b)

-- what was exchanged, put back
pub set_back : (L : List (List ℕ)) (v : ℕ) (a : List ℕ) → slice_set (slice_set L v a) v (get_or L v []) ≡ L
set_back L v a = set_twice L v a (get_or L v []) ∙ set_same [] L v

set_suc : {X : Type 0} (L : List X) (v : ℕ) (a : X) → v < length L → slice_set L v a ≡ take v L ++ a ∷ drop (suc v) L
set_suc [] v a l = absurd (omega arith)
set_suc (x ∷ L) zero a l = refl
set_suc (x ∷ L) (suc v) a l = ap (λ t. x ∷ t) (set_suc L v a (omega arith))

pub set_split : {X : Type 0} (L : List X) (v : ℕ) (a : X) → v < length L → slice_set L v a ≡ take v L ++ a ∷ drop (v + 1) L
set_split L v a l = set_suc L v a l ∙ ap (λ k. take v L ++ a ∷ drop k L) (sym (add-one v))

pub take_long : {X : Type 0} (L : List X) (v : ℕ) → v < length L → length (take v L) ≡ v
take_long [] v l = absurd (omega arith)
take_long (x ∷ L) zero l = refl
take_long (x ∷ L) (suc v) l = ap suc (take_long L v (omega arith))

-- the place of the second dart
apart_place : (ends : ℕ × ℕ) (p q : Option ℕ) (d : ℕ) → ends.0 ≢ ends.1 → second_place ends p q d ≡ q
apart_place ends None None d n = ap (λ b. cond b (Some d) None) (ne_eqb ends.0 ends.1 n)
apart_place ends None (Some y) d n = refl
apart_place ends (Some x) None d n = refl
apart_place ends (Some x) (Some y) d n = ap (λ b. cond (b && nat_eq x y) (Some d) (Some y)) (ne_eqb ends.0 ends.1 n)

loop_place : (ends : ℕ × ℕ) (p q : Option ℕ) (d : ℕ) (w one : List ℕ) → ends.0 ≡ ends.1 → IsPlace w p → IsPlace w q → IsPut p d w one
    → IsPlace one (second_place ends p q d)
loop_place ends None None d w one e h k m = subst (λ b. IsPlace one (cond b (Some d) None)) (sym (eq-eqb ends.0 ends.1 e))
    (put_new None d w one m)
loop_place ends None (Some y) d w one e h k m = absurd (subst (In y) h k)
loop_place ends (Some x) None d w one e h k m = absurd (subst (In x) k h)
loop_place ends (Some x) (Some y) d w one e h k m = go (nat_eq ends.0 ends.1 && nat_eq x y)
  where
    go : (b : Bool) → IsPlace one (cond b (Some d) (Some y))
    go true = put_new (Some x) d w one m
    go false = put_old (Some x) d w one m y k

pub second_is_place : (L M : List (List ℕ)) (ends : ℕ × ℕ) (p q : Option ℕ) (d : ℕ) → IsPlace (get_or L ends.0 []) p
    → IsPlace (get_or L ends.1 []) q → IsPutIn L ends.0 p d M → IsPlace (get_or M ends.1 []) (second_place ends p q d)
second_is_place L M ends p q d h k P = subst (λ X. IsPlace (get_or X ends.1 []) (second_place ends p q d)) (sym P.after)
    (go (ℕ_discrete ends.0 ends.1))
  where
    go : Dec (ends.0 ≡ ends.1) → IsPlace (get_or (slice_set L ends.0 P.list) ends.1 []) (second_place ends p q d)
    go (yes e) = subst (λ w. IsPlace w (second_place ends p q d))
        (sym (ap (λ v. get_or (slice_set L ends.0 P.list) v []) (sym e) ∙ get_or-set_same L ends.0 P.list [] P.vertex))
        (loop_place ends p q d (get_or L ends.0 []) P.list e h (subst (λ v. IsPlace (get_or L v []) q) (sym e) k) P.put)
    go (no n) = subst (λ w. IsPlace w (second_place ends p q d))
        (sym (get_or-set_other L ends.0 ends.1 P.list [] (λ e. n (sym e))))
        (subst (IsPlace (get_or L ends.1 [])) (sym (apart_place ends p q d n)) k)

pub put_long : (L L' : List (List ℕ)) (v x : ℕ) (place : Option ℕ) → IsPutIn L v place x L' → length L' ≡ length L
put_long L L' v x place P = ap length P.after ∙ length-set L v P.list

-- what was put in, taken out again
pub put_back : (L M N : List (List ℕ)) (v x : ℕ) (place : Option ℕ) (old : List ℕ) → IsPutIn L v place x M → old ≡ get_or L v []
    → N ≡ slice_set M v old → N ≡ L
put_back L M N v x place old P q r = r ∙ ap (λ w. slice_set M v w) q ∙ ap (λ X. slice_set X v (get_or L v [])) P.after
    ∙ set_back L v P.list

-- one dart in the list of its vertex
list_put : (L L' : List (List ℕ)) (v x : ℕ) (place : Option ℕ) → IsPutIn L v place x L' → DartPut L v place x L'
list_put L L' v x place P = record {
  front = take v L;
  old = get_or L v [];
  new = P.list;
  back = drop (v + 1) L;
  at = take_long L v P.vertex;
  before = split_at_index [] L v P.vertex;
  after = P.after ∙ set_split L v P.list P.vertex;
  put = put_at place x (get_or L v []) P.list P.put;
}

put_how : (place : Option ℕ) (x : ℕ) (w w' : List ℕ) → IsPut place x w w' → ((w ≡ []) × (w' ≡ x ∷ []))
    ⊎ ((u : List ℕ) × (p : ℕ) × (t : List ℕ)
    × (w ≡ u ++ p ∷ t) × ((w' ≡ u ++ p ∷ x ∷ t) ⊎ (w' ≡ x ∷ t ++ (u ++ p ∷ []))))
put_how None x w w' h = inl h
put_how (Some p) x w w' (u, t, a, b) = inr (u, p, t, a, b)

dart_put : (ends : ℕ → ℕ × ℕ) (L L' : List (List ℕ)) (v x : ℕ) (place : Option ℕ) → IsPutIn L v place x L' → v ≡ tail ends x
    → DartPutBy ends x L L'
dart_put ends L L' v x place P q = record {
  U = take v L;
  l = get_or L v [];
  l1 = P.list;
  Y = drop (v + 1) L;
  was = split_at_index [] L v P.vertex;
  is = P.after ∙ set_split L v P.list P.vertex;
  at = take_long L v P.vertex ∙ q;
  how = put_how place x (get_or L v []) P.list P.put;
}

pub lists_inserted : (L L' : List (List ℕ)) (ends : ℕ × ℕ) (p q : Option ℕ) (d : ℕ) → ArePut L ends p q d L'
    → ListsInserted L ends p q d L'
lists_inserted L L' ends p q d P = record {
  middle = P.middle;
  first = list_put L P.middle ends.0 d p P.first;
  second = list_put P.middle L' ends.1 (d + 1) (second_place ends p q d) P.second;
}

-- an edge put in as the theory has it
pub edge_put : (ends : ℕ → ℕ × ℕ) (e : ℕ) (L L' : List (List ℕ)) (p q : Option ℕ) → ArePut L (ends e) p q (dart e) L'
    → (B : EdgePut ends e L) × (B.L2 ≡ L')
edge_put ends e L L' p q P = (
  record {
    L1 = P.middle;
    L2 = L';
    first = dart_put ends L P.middle (ends e).0 (dart e) p P.first (sym (tail-dart ends e));
    second = subst (λ x. DartPutBy ends x P.middle L') (sym (second-dart e))
        (dart_put ends P.middle L' (ends e).1 (dart e + 1) (second_place (ends e) p q (dart e)) P.second
        (sym (ap (tail ends) (sym (second-dart e)) ∙ tail-second ends e)));
  },
  refl,
)

-- the same for equal lists, ends and darts
pub put_as : (L L0 L' : List (List ℕ)) (e e0 : ℕ × ℕ) (p q : Option ℕ) (d d0 : ℕ) → L0 ≡ L → e0 ≡ e → d0 ≡ d → ArePut L0 e0 p q d0 L'
    → ArePut L e p q d L'
put_as L L0 L' e e0 p q d d0 l m n h = subst (λ X. ArePut X e p q d L') l (subst (λ x. ArePut L0 x p q d L') m
    (subst (λ x. ArePut L0 e0 p q x L') n h))

pub place_as : (L L0 : List (List ℕ)) (v v0 : ℕ) (o : Option ℕ) → L0 ≡ L → v0 ≡ v → IsPlace (get_or L v []) o → IsPlace (get_or L0 v0 []) o
place_as L L0 v v0 o l m h = subst (λ X. IsPlace (get_or X v0 []) o) (sym l) (subst (λ x. IsPlace (get_or L x []) o) (sym m) h)
