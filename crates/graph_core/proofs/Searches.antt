-- The search along the edges of a forest: one vertex more is reached, and the way back is a path.
use Rattle.std.proofs.Common.{All, map, ◌≡◌, ◌≢◌, ℕ, zero, suc, ◌+◌, ◌<◌, ◌≤◌, ◌⊎◌, inl, inr, List, [], ◌∷◌, Option, Some, None, Bool, true, false, length, get_or, refl, sym, ap, subst, ◌∙◌, arith, ◌||◌, IsTrue, ◌++◌, append_assoc, append-nil}
use Rattle.std.specs.Prelude.{is_some, slice_set, replicate}
use Rattle.std.proofs.Common.{below_more}
use Rattle.std.proofs.lemmas.Option.{none-some}
use Rattle.std.proofs.lemmas.List.{get_or-set_same, get_or-set_other, length-set, length-replicate}
use Rattle.std.proofs.lemmas.Bool.{false≢true, true≢false}
use Rattle.std.proofs.Math.Decide.{ℕ_discrete}
use Rattle.vector_spaces.proofs.Members.{In, In-all, In-get_or, In_map-from}
use Rattle.vector_spaces.proofs.Distinct.{IsDistinct}
use Rattle.graph_core.specs.declared.ways.Way.{Way}
use Rattle.graph_theory.specs.Paths.{LeadThrough, last_of, IsPath}
use Rattle.graph_theory.specs.Walks.{Walk}
use Rattle.graph_theory.proofs.Walks.{connected_of_walk}
use Rattle.graph_theory.proofs.Labels.{connected_invariant}
use Rattle.graph_core.specs.Ways.{way_at, is_reached, unreached, IsStep, AreWays, GoDown, extended_by, extended, differ, back, before}

unreached-set : (T : List (Option Way)) (q : ℕ) (w : Way) → q < length T → way_at T q ≡ None →
    suc (unreached (slice_set T q (Some w))) ≡ unreached T
unreached-set [] q w l h = absurd (omega arith)
unreached-set (None ∷ T) zero w l h = refl
unreached-set (Some x ∷ T) zero w l h = absurd (none-some x (sym h))
unreached-set (None ∷ T) (suc q) w l h = ap suc (unreached-set T q w (omega arith) h)
unreached-set (Some x ∷ T) (suc q) w l h = unreached-set T q w (omega arith) h

pub same_way : (T : List (Option Way)) (v : ℕ) (w x : Way) → way_at T v ≡ Some w → way_at T v ≡ Some x → w ≡ x
same_way T v w x h k = cc

module _ (ends : ℕ → ℕ × ℕ) (F : List ℕ) (to : ℕ) (T : List (Option Way)) (h : AreWays ends F to T) where
  -- the vertex q is reached from p by the edge i
  reach : (p q i : ℕ) (w : Way) → In i F → (ends i ≡ (q, p)) ⊎ (ends i ≡ (p, q)) → way_at T p ≡ Some w → way_at T q ≡ None → q < length T →
      AreWays ends F to (slice_set T q (Some (record { steps = w.steps + 1; edge = i; next = p })))
  reach p q i w held joins at none l = record {
    start = h.start;
    started = (old to h.start h.started.0, h.started.1);
    each = λ v x k. go v x k (ℕ_discrete v q);
    short = λ v x k. low v x k (ℕ_discrete v q);
  }
    where
      more : Way
      more = record { steps = w.steps + 1; edge = i; next = p }

      T' : List (Option Way)
      T' = slice_set T q (Some more)

      here : way_at T' q ≡ Some more
      here = get_or-set_same T q (Some more) None l

      other : (v : ℕ) → v ≢ q → way_at T' v ≡ way_at T v
      other v n = get_or-set_other T q v (Some more) None n

      old : (v : ℕ) (x : Way) → way_at T v ≡ Some x → way_at T' v ≡ Some x
      old v x k = other v (λ e. none-some x (sym none ∙ ap (way_at T) (sym e) ∙ k)) ∙ k

      go : (v : ℕ) (x : Way) → way_at T' v ≡ Some x → Dec (v ≡ q) → ((v ≡ to) × (x.steps ≡ 0)) ⊎ IsStep ends F T' v x
      go v x k (yes e) = inr (subst (IsStep ends F T' v) (same_way T' q more x here (ap (way_at T') (sym e) ∙ k)) (record {
        held = held;
        joins = subst (λ z. (ends i ≡ (z, p)) ⊎ (ends i ≡ (p, z))) (sym e) joins;
        after = w;
        next = old p w at;
        shorter = refl;
      }))
      go v x k (no n) = elim (h.each v x (sym (other v n) ∙ k)) [
        | inl s ↦ inl s
        | inr s ↦ inr (record {
          held = s.held;
          joins = s.joins;
          after = s.after;
          next = old x.next s.after s.next;
          shorter = s.shorter;
        })
      ]

      fewer : suc (unreached T') ≡ unreached T
      fewer = unreached-set T q more l none

      long : length T' ≡ length T
      long = length-set T q (Some more)

      low : (v : ℕ) (x : Way) → way_at T' v ≡ Some x → Dec (v ≡ q) → x.steps + unreached T' < length T'
      low v x k (yes e) = let s = ap (λ (y : Way). y.steps) (same_way T' q more x here (ap (way_at T') (sym e) ∙ k)) in
          let b = h.short p w at in omega (arith, fewer, long)
      low v x k (no n) = let b = h.short v x (sym (other v n) ∙ k) in omega (arith, fewer, long)

  module _ (i : ℕ) (held : In i F) (first : (ends i).0 < length T) (second : (ends i).1 < length T) where
    pub extended_ways : AreWays ends F to (extended T (ends i) i)
    extended_ways = go (way_at T (ends i).0) (way_at T (ends i).1) refl refl
      where
        go : (a b : Option Way) → way_at T (ends i).0 ≡ a → way_at T (ends i).1 ≡ b → AreWays ends F to (extended_by a b T (ends i) i)
        go None None p q = h
        go None (Some w) p q = reach (ends i).1 (ends i).0 i w held (inl refl) q p first
        go (Some w) None p q = reach (ends i).0 (ends i).1 i w held (inr refl) p q second
        go (Some w) (Some x) p q = h

    extended_fewer : differ (is_reached T (ends i).0) (is_reached T (ends i).1) ≡ true → unreached (extended T (ends i) i) < unreached T
    extended_fewer = go (way_at T (ends i).0) (way_at T (ends i).1) refl refl
      where
        go : (a b : Option Way) → way_at T (ends i).0 ≡ a → way_at T (ends i).1 ≡ b → differ (is_some a) (is_some b) ≡ true →
            unreached (extended_by a b T (ends i) i) < unreached T
        go None None p q d = absurd (false≢true d)
        go None (Some w) p q d = let f = unreached-set T (ends i).0
            (record { steps = w.steps + 1; edge = i; next = (ends i).1 }) first p in omega (arith, f)
        go (Some w) None p q d = let f = unreached-set T (ends i).1
            (record { steps = w.steps + 1; edge = i; next = (ends i).0 }) second q in omega (arith, f)
        go (Some w) (Some x) p q d = absurd (false≢true d)

  pub down : GoDown T
  down v w k = elim (h.each v w k) [ inl s ↦ inl s.1 | inr s ↦ inr (s.after, s.next, s.shorter) ]

extended_same : (T : List (Option Way)) (e : ℕ × ℕ) (i : ℕ) → differ (is_reached T e.0) (is_reached T e.1) ≡ false →
    (extended T e i ≡ T) × (is_reached T e.0 ≡ is_reached T e.1)
extended_same T e i = go (way_at T e.0) (way_at T e.1)
  where
    go : (a b : Option Way) → differ (is_some a) (is_some b) ≡ false → (extended_by a b T e i ≡ T) × (is_some a ≡ is_some b)
    go None None d = (refl, refl)
    go None (Some w) d = absurd (false≢true (sym d))
    go (Some w) None d = absurd (false≢true (sym d))
    go (Some w) (Some x) d = (refl, refl)

pub length-extended : (T : List (Option Way)) (e : ℕ × ℕ) (i : ℕ) → length (extended T e i) ≡ length T
length-extended T e i = go (way_at T e.0) (way_at T e.1)
  where
    go : (a b : Option Way) → length (extended_by a b T e i) ≡ length T
    go None None = refl
    go None (Some w) = length-set T e.0 (Some (record { steps = w.steps + 1; edge = i; next = e.1 }))
    go (Some w) None = length-set T e.1 (Some (record { steps = w.steps + 1; edge = i; next = e.0 }))
    go (Some w) (Some x) = refl

-- a pass over the edges, of which i are done: what changed since T0
pub record IsSpread (ends : ℕ → ℕ × ℕ) (F : List ℕ) (T0 T : List (Option Way)) (changed : Bool) (i : ℕ) : Type 0 where
  pub fewer : IsTrue changed → unreached T < unreached T0
  pub closed : changed ≡ false → (T ≡ T0) × ((k : ℕ) → k < i →
      is_reached T0 (ends (get_or F k 0)).0 ≡ is_reached T0 (ends (get_or F k 0)).1)

pub spread_more : (ends : ℕ → ℕ × ℕ) (F : List ℕ) (to : ℕ) (T0 T : List (Option Way)) (changed more : Bool) (i : ℕ) →
    AreWays ends F to T → i < length F →
    (ends (get_or F i 0)).0 < length T → (ends (get_or F i 0)).1 < length T →
    more ≡ differ (is_reached T (ends (get_or F i 0)).0) (is_reached T (ends (get_or F i 0)).1) → IsSpread ends F T0 T changed i →
    IsSpread ends F T0 (extended T (ends (get_or F i 0)) (get_or F i 0)) (changed || more) (i + 1)
spread_more ends F to T0 T changed more i h l a b m s = go changed more m s.fewer s.closed
  where
    e : ℕ
    e = get_or F i 0

    held : In e F
    held = In-get_or F i 0 l

    less : more ≡ true → unreached (extended T (ends e) e) < unreached T
    less q = extended_fewer ends F to T h e held a b (sym m ∙ q)

    same : more ≡ false → (extended T (ends e) e ≡ T) × (is_reached T (ends e).0 ≡ is_reached T (ends e).1)
    same q = extended_same T (ends e) e (sym m ∙ q)

    go : (c d : Bool) → d ≡ differ (is_reached T (ends e).0) (is_reached T (ends e).1) → (IsTrue c → unreached T < unreached T0) →
        (c ≡ false → (T ≡ T0) × ((k : ℕ) → k < i → is_reached T0 (ends (get_or F k 0)).0 ≡ is_reached T0 (ends (get_or F k 0)).1)) →
        IsSpread ends F T0 (extended T (ends e) e) (c || d) (i + 1)
    go true d p f g = record { fewer = λ t. let u = f refl in more_or_same d p u; closed = λ q. absurd (true≢false q) }
      where
        more_or_same : (d : Bool) → d ≡ differ (is_reached T (ends e).0) (is_reached T (ends e).1) → unreached T < unreached T0 →
            unreached (extended T (ends e) e) < unreached T0
        more_or_same true p u = let v = less (m ∙ sym p) in omega arith
        more_or_same false p u = subst (λ S. unreached S < unreached T0) (sym (same (m ∙ sym p)).0) u
    go false true p f g = record {
      fewer = λ t. subst (λ S. unreached (extended T (ends e) e) < unreached S) (g refl).0
          (less (m ∙ sym p));
      closed = λ q. absurd (true≢false q);
    }
    go false false p f g = let old = g refl in let now = same (m ∙ sym p) in record {
      fewer = λ t. absurd (false≢true t);
      closed = λ q. (now.0 ∙ old.0, below_more _ _ old.1 (subst (λ S. is_reached S (ends e).0 ≡ is_reached S (ends e).1) old.0 now.1));
    }

none_of : (n v : ℕ) → way_at (replicate n None) v ≡ None
none_of zero v = refl
none_of (suc n) zero = refl
none_of (suc n) (suc v) = none_of n v

unreached-none : (n : ℕ) → unreached (replicate n None) ≡ n
unreached-none zero = refl
unreached-none (suc n) = ap suc (unreached-none n)

-- one vertex alone is reached
pub first_ways : (ends : ℕ → ℕ × ℕ) (F : List ℕ) (n to : ℕ) → to < n →
    AreWays ends F to (slice_set (replicate n None) to (Some (record { steps = 0; edge = 0; next = to })))
first_ways ends F n to l = record {
  start = w;
  started = (here, refl);
  each = λ v x k. go v x k (ℕ_discrete v to);
  short = λ v x k. low v x k (ℕ_discrete v to);
}
  where
    w : Way
    w = record { steps = 0; edge = 0; next = to }

    T : List (Option Way)
    T = slice_set (replicate n None) to (Some w)

    none : Option Way
    none = None

    within : to < length (replicate n none)
    within = omega (arith, length-replicate n none)

    here : way_at T to ≡ Some w
    here = get_or-set_same (replicate n None) to (Some w) None within

    other : (v : ℕ) (x : Way) → v ≢ to → way_at T v ≡ Some x → ⊥
    other v x m k = none-some x (sym (none_of n v) ∙ sym (get_or-set_other (replicate n None) to v (Some w) None m) ∙ k)

    same : (v : ℕ) (x : Way) → v ≡ to → way_at T v ≡ Some x → w.steps ≡ x.steps
    same v x e k = ap (λ (y : Way). y.steps) (same_way T to w x here (ap (way_at T) (sym e) ∙ k))

    go : (v : ℕ) (x : Way) → way_at T v ≡ Some x → Dec (v ≡ to) → ((v ≡ to) × (x.steps ≡ 0)) ⊎ IsStep ends F T v x
    go v x k (yes e) = inl (e, sym (same v x e k))
    go v x k (no m) = absurd (other v x m k)

    low : (v : ℕ) (x : Way) → way_at T v ≡ Some x → Dec (v ≡ to) → x.steps + unreached T < length T
    low v x k (yes e) =
        let s = same v x e k in
        let f = unreached-set (replicate n None) to w within (none_of n to) in
        let u = unreached-none n in
        let r = length-set (replicate n None) to (Some w) in
        let q = length-replicate n none in omega arith
    low v x k (no m) = absurd (other v x m k)

-- the way of k steps is a path, whose vertices have ways of fewer steps
record IsWayBack (ends : ℕ → ℕ × ℕ) (F : List ℕ) (to : ℕ) (T : List (Option Way)) (k v : ℕ) : Type 0 where
  vertices : List ℕ
  leads : LeadThrough ends v (back T k v) vertices
  last : last_of v vertices ≡ to
  inside : (e : ℕ) → In e (back T k v) → In e F
  low : (u : ℕ) → In u vertices → (x : Way) × (way_at T u ≡ Some x) × (x.steps < k)
  different : IsDistinct (v ∷ vertices)

way_back : (ends : ℕ → ℕ × ℕ) (F : List ℕ) (to : ℕ) (T : List (Option Way)) → AreWays ends F to T → (k v : ℕ) (w : Way) →
    way_at T v ≡ Some w → w.steps ≡ k → IsWayBack ends F to T k v
way_back ends F to T h zero v w at q = go (h.each v w at)
  where
    go : ((v ≡ to) × (w.steps ≡ 0)) ⊎ IsStep ends F T v w → IsWayBack ends F to T zero v
    go (inl s) = record { vertices = []; leads = tt; last = s.0; inside = λ e n. absurd n; low = λ u n. absurd n; different = (λ n. n, tt) }
    go (inr s) = absurd (let l = s.shorter in omega arith)
way_back ends F to T h (suc k) v w at q = go (h.each v w at) (λ u x. way_back ends F to T h k u x)
  where
    go : ((v ≡ to) × (w.steps ≡ 0)) ⊎ IsStep ends F T v w →
        ((u : ℕ) (x : Way) → way_at T u ≡ Some x → x.steps ≡ k → IsWayBack ends F to T k u) → IsWayBack ends F to T (suc k) v
    go (inl s) ih = absurd (let l = s.1 in omega arith)
    go (inr s) ih =
        let fewer : s.after.steps ≡ k = let l = s.shorter in omega arith in
        let r = ih w.next s.after s.next fewer in
        let here : back T (suc k) v ≡ w.edge ∷ back T k w.next = ap (λ o. before o (λ u. back T k u)) at in record {
          vertices = w.next ∷ r.vertices;
          leads = subst (λ es. LeadThrough ends v es (w.next ∷ r.vertices)) (sym here) (s.joins, r.leads);
          last = r.last;
          inside = λ e i. inner e (subst (In e) here i) r.inside;
          low = lower r.vertices r.low fewer;
          different = (
            λ i. let l = lower r.vertices r.low fewer v i in
                absurd (let same = ap (λ (y : Way). y.steps) (same_way T v w l.0 at l.1) in let b = l.2 in omega arith),
            r.different,
          );
        }
      where
        inner : (e : ℕ) → In e (w.edge ∷ back T k w.next) → ((d : ℕ) → In d (back T k w.next) → In d F) → In e F
        inner e (inl p) rest = subst (λ z. In z F) (sym p) s.held
        inner e (inr i) rest = rest e i

        lower : (vs : List ℕ) → ((u : ℕ) → In u vs → (x : Way) × (way_at T u ≡ Some x) × (x.steps < k)) → s.after.steps ≡ k → (u : ℕ) →
            In u (w.next ∷ vs) → (x : Way) × (way_at T u ≡ Some x) × (x.steps < suc k)
        lower vs rest f u (inl p) = (s.after, ap (way_at T) p ∙ s.next, omega arith)
        lower vs rest f u (inr i) = let l = rest u i in (l.0, l.1, omega (arith, l.2))

pub path_back : (ends : ℕ → ℕ × ℕ) (F : List ℕ) (to : ℕ) (T : List (Option Way)) → AreWays ends F to T → (v : ℕ) (w : Way) →
    way_at T v ≡ Some w → IsPath ends F v to (back T w.steps v)
path_back ends F to T h v w at = let r = way_back ends F to T h w.steps v w at refl in record {
  others = r.vertices;
  inside = r.inside;
  leads = r.leads;
  last = r.last;
  distinct = r.different;
}

-- one step of the way is written
pub path_step : (T : List (Option Way)) → GoDown T → (at from i n : ℕ) (path : List ℕ) (w w0 : Way) → way_at T at ≡ Some w0 →
    w0.steps + i ≡ n → path ++ back T w0.steps at ≡ back T n from → i < n →
    way_at T at ≡ Some w → (x : Way) × (way_at T w.next ≡ Some x) × (x.steps + (i + 1) ≡ n) ×
    ((path ++ w.edge ∷ []) ++ back T x.steps w.next ≡ back T n from)
path_step T down at from i n path w w0 k0 q h l k = go (down at w k)
  where
    same : w0.steps ≡ w.steps
    same = ap (λ (y : Way). y.steps) (same_way T at w0 w k0 k)

    go : (w.steps ≡ 0) ⊎ ((x : Way) × (way_at T w.next ≡ Some x) × (x.steps + 1 ≡ w.steps)) →
        (x : Way) × (way_at T w.next ≡ Some x) × (x.steps + (i + 1) ≡ n) × ((path ++ w.edge ∷ []) ++ back T x.steps w.next ≡ back T n from)
    go (inl z) = absurd (omega (arith, same))
    go (inr s) =
        let one : w0.steps ≡ suc s.0.steps = omega (arith, same, s.2) in
        let here : back T w0.steps at ≡ w.edge ∷ back T s.0.steps w.next = ap (λ m. back T m at) one
        ∙ ap (λ o. before o (λ u. back T s.0.steps u)) k in (
          s.0,
          s.1,
          omega (arith, same, s.2),
          append_assoc path (w.edge ∷ []) (back T s.0.steps w.next) ∙ ap (λ es. path ++ es) (sym here)
              ∙ h,
        )

pub path_end : (T : List (Option Way)) (at from i n : ℕ) (path : List ℕ) (w0 : Way) → w0.steps + i ≡ n →
    path ++ back T w0.steps at ≡ back T n from → n ≤ i → path ≡ back T n from
path_end T at from i n path w0 q h l = let z : zero ≡ w0.steps = omega arith in sym (append-nil path) ∙ ap (λ m. path ++ back T m at) z ∙ h

-- where each edge has both ends reached or neither, a walk from elsewhere doesn't lead to the start
pub no_walk : (ends : ℕ → ℕ × ℕ) (F : List ℕ) (to : ℕ) (T : List (Option Way)) → AreWays ends F to T →
    All (λ e. is_reached T (ends e).0 ≡ is_reached T (ends e).1) F → (from : ℕ) → is_reached T from ≡ false →
    ¬ (Walk (map ends F) from to)
no_walk ends F to T h closed from none w =
    true≢false (sym (ap is_some h.started.0) ∙ sym
    (connected_invariant (is_reached T) (map ends F) edge from to (connected_of_walk (map ends F) from to w)) ∙ none)
  where
    edge : (e : ℕ × ℕ) → In e (map ends F) → is_reached T e.0 ≡ is_reached T e.1
    edge e i = let r = In_map-from ends e F i in subst (λ d. is_reached T d.0 ≡ is_reached T d.1) (sym r.2)
        (In-all (λ e. is_reached T (ends e).0 ≡ is_reached T (ends e).1) F closed r.0 r.1)

pub some_of : {X : Type 0} (o : Option X) → is_some o ≡ true → (x : X) × (o ≡ Some x)
some_of None h = absurd (true≢false (sym h))
some_of (Some x) h = (x, refl)
