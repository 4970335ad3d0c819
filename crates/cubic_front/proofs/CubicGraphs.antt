-- Cubic simple graphs: the ways from a vertex edge by edge, no loop and no two edges with the same ends, and three edges at each vertex.
use Rattle.std.proofs.Common.{◌≡◌, ◌≢◌, ℕ, zero, suc, ◌+◌, ◌<◌, ◌≤◌, inl, inr, List, [], ◌∷◌, ◌++◌, All, length, take, drop, map}
use Rattle.std.proofs.Common.{refl, sym, ap, ◌∙◌, subst, arith, add-one, eq-eqb, ne_eqb}
use Rattle.std.proofs.Math.Decide.{ℕ_discrete, dec_lt}
use Rattle.std.proofs.lemmas.List.{append-nil, append_assoc, length-append, map-append, take-append-drop, take-take, take_all, take_more}
use Rattle.std.proofs.lemmas.List.FromFn.{map-range_with_len_more}
use Rattle.std.specs.List.{range_with_len}
use Rattle.vector_spaces.proofs.Distinct.{IsDistinct}
use Rattle.vector_spaces.proofs.Members.{In, In-all, In-get_or}
use Rattle.graph_theory.specs.Walks.{edge_at}
use Rattle.edge_lists.specs.Connections.{AreBelow}
use Rattle.edge_lists.specs.EdgeNumbers.{edge_numbers}
use Rattle.edge_lists.specs.Occurrences.{count}
use Rattle.edge_lists.proofs.EdgeNumbers.{numbers_below}
use Rattle.edge_lists.proofs.Occurrences.{count-append, count-head, count-here, count-nil, count-one, count-other}
use Rattle.edge_lists.proofs.Occurrences.{count_of_distinct, distinct_of_count, length-cons}
use Rattle.feedback_theory.specs.FeedbackSets.{AtMostThree, IsSimple, LeadsTo, degree}
use Rattle.feedback_theory.proofs.Degrees.{three_of_degrees}
use Rattle.cubic_front.specs.CubicGraphs.{IsCubic, IsCubicAt, way_from, ways_from}

-- ---- where edges lead

pub way_first : (v : ℕ) (p : ℕ × ℕ) → p.0 ≡ v → way_from v p ≡ p.1 ∷ []
way_first v p e = rw (eq-eqb p.0 v e) refl

pub way_second : (v : ℕ) (p : ℕ × ℕ) → p.0 ≢ v → p.1 ≡ v → way_from v p ≡ p.0 ∷ []
way_second v p n e = rw (ne_eqb p.0 v n, eq-eqb p.1 v e) refl

pub way_none : (v : ℕ) (p : ℕ × ℕ) → p.0 ≢ v → p.1 ≢ v → way_from v p ≡ []
way_none v p n m = rw (ne_eqb p.0 v n, ne_eqb p.1 v m) refl

pub ways-nil : (v : ℕ) → ways_from v [] ≡ []
unfolding ways_from
ways-nil v = refl

ways-cons : (v : ℕ) (p : ℕ × ℕ) (E : List (ℕ × ℕ)) → ways_from v (p ∷ E) ≡ way_from v p ++ ways_from v E
unfolding ways_from
ways-cons v p E = refl

ways-append : (v : ℕ) (A B : List (ℕ × ℕ)) → ways_from v (A ++ B) ≡ ways_from v A ++ ways_from v B
ways-append v [] B = sym (ap (λ t. t ++ ways_from v B) (ways-nil v))
ways-append v (p ∷ A) B = ways-cons v p (A ++ B) ∙ ap (λ t. way_from v p ++ t) (ways-append v A B)
    ∙ sym (append_assoc (way_from v p) (ways_from v A) (ways_from v B)) ∙ sym (ap (λ t. t ++ ways_from v B) (ways-cons v p A))

-- an edge more
pub ways-take : (v i : ℕ) (E : List (ℕ × ℕ)) → i < length E
    → ways_from v (take (i + 1) E) ≡ ways_from v (take i E) ++ way_from v (edge_at E i)
ways-take v i E l = ap (ways_from v) (take_more E i (0, 0) l) ∙ ways-append v (take i E) (edge_at E i ∷ [])
    ∙ ap (λ t. ways_from v (take i E) ++ t) (ways-cons v (edge_at E i) [] ∙ ap (λ t. way_from v (edge_at E i) ++ t) (ways-nil v)
    ∙ append-nil (way_from v (edge_at E i)))

count-ways : (x v : ℕ) (p : ℕ × ℕ) (E : List (ℕ × ℕ)) → count x (ways_from v (p ∷ E)) ≡ count x (way_from v p) + count x (ways_from v E)
count-ways x v p E = ap (count x) (ways-cons v p E) ∙ count-append x (way_from v p) (ways_from v E)

one_way : (x v : ℕ) (E : List (ℕ × ℕ)) (e : ℕ) → e < length E → count x (way_from v (edge_at E e)) ≤ count x (ways_from v E)
one_way x v [] e l = absurd (omega arith)
one_way x v (p ∷ E) zero l = omega (arith, count-ways x v p E)
one_way x v (p ∷ E) (suc e) l = let k : e < length E = omega (arith, l, length-cons p E) in
    omega (arith, count-ways x v p E, one_way x v E e k)

two_ways : (x v : ℕ) (E : List (ℕ × ℕ)) (e f : ℕ) → e < f → f < length E
    → count x (way_from v (edge_at E e)) + count x (way_from v (edge_at E f)) ≤ count x (ways_from v E)
two_ways x v [] e f k l = absurd (omega arith)
two_ways x v (p ∷ E) e zero k l = absurd (omega arith)
two_ways x v (p ∷ E) zero (suc f) k l = let m : f < length E = omega (arith, l, length-cons p E) in
    omega (arith, count-ways x v p E, one_way x v E f m)
two_ways x v (p ∷ E) (suc e) (suc f) k l = let m : f < length E = omega (arith, l, length-cons p E) in
    omega (arith, count-ways x v p E, two_ways x v E e f (omega arith) m)

-- an edge that leads from u to w
way_of : (E : List (ℕ × ℕ)) (e u w : ℕ) → LeadsTo (edge_at E) e u w → 1 ≤ count w (way_from u (edge_at E e))
way_of E e u w (inl (p, q)) = omega (arith, ap (count w) (way_first u (edge_at E e) p), subst (λ t. 1 ≤ count w (t ∷ [])) (sym q) (count-here w []))
way_of E e u w (inr (p, q)) = go (ℕ_discrete (edge_at E e).0 u)
  where
    go : Dec ((edge_at E e).0 ≡ u) → 1 ≤ count w (way_from u (edge_at E e))
    go (yes r) = omega (
      arith,
      ap (count w) (way_first u (edge_at E e) r),
      subst (λ t. 1 ≤ count w (t ∷ [])) (sym (p ∙ sym r ∙ q)) (count-here w []),
    )
    go (no n) = omega (
      arith,
      ap (count w) (way_second u (edge_at E e) n p),
      subst (λ t. 1 ≤ count w (t ∷ [])) (sym q) (count-here w []),
    )

-- ---- the ways of the first edges

ways_front : (x v i : ℕ) (E : List (ℕ × ℕ)) → count x (ways_from v (take i E)) ≤ count x (ways_from v E)
ways_front x v i E = omega (
  arith,
  ap (λ t. count x (ways_from v t)) (take-append-drop i E),
  ap (count x) (ways-append v (take i E) (drop i E)),
  count-append x (ways_from v (take i E)) (ways_from v (drop i E)),
)

pub counted_more : (x v i : ℕ) (E : List (ℕ × ℕ)) → i < length E
    → count x (ways_from v (take (i + 1) E)) ≡ count x (ways_from v (take i E)) + count x (way_from v (edge_at E i))
counted_more x v i E l = ap (count x) (ways-take v i E l) ∙ count-append x (ways_from v (take i E)) (way_from v (edge_at E i))

-- an edge before others
pub counted_front : (x v i k : ℕ) (E : List (ℕ × ℕ)) → i < length E → i < k
    → count x (way_from v (edge_at E i)) ≤ count x (ways_from v (take k E))
counted_front x v i k E l m = omega (
  arith,
  counted_more x v i E l,
  ways_front x v (i + 1) (take k E),
  ap (λ t. count x (ways_from v t)) (take-take (i + 1) k E (omega arith)),
)

module _ (E : List (ℕ × ℕ)) (v i : ℕ) (l : i < length E) where
  -- an edge that doesn't have the end v
  pub no_way : way_from v (edge_at E i) ≡ [] → ways_from v (take (i + 1) E) ≡ ways_from v (take i E)
  no_way q = ways-take v i E l ∙ ap (λ t. ways_from v (take i E) ++ t) q ∙ append-nil (ways_from v (take i E))

  module _ (w : ℕ) (q : way_from v (edge_at E i) ≡ w ∷ []) where
    counted : (x : ℕ) → count x (ways_from v (take (i + 1) E)) ≡ count x (ways_from v (take i E)) + count x (w ∷ [])
    counted x = ap (count x) (ways-take v i E l ∙ ap (λ t. ways_from v (take i E) ++ t) q)
        ∙ count-append x (ways_from v (take i E)) (w ∷ [])

    pub one_more : length (ways_from v (take (i + 1) E)) ≡ length (ways_from v (take i E)) + 1
    one_more = ap length (ways-take v i E l ∙ ap (λ t. ways_from v (take i E) ++ t) q)
        ∙ length-append (ways_from v (take i E)) (w ∷ [])

    -- it leads back
    pub no_way_back : w ≡ v → ¬ (IsCubicAt E v)
    no_way_back r k = omega (
      arith,
      count_of_distinct (v ∷ ways_from v E) k.different v,
      count-head v (ways_from v E),
      ways_front v v (i + 1) E,
      counted v,
      ap (λ t. count v (t ∷ [])) r,
      count-one v,
    )

    -- an edge before it leads there too
    pub no_second_way : 1 ≤ count w (ways_from v (take i E)) → ¬ (IsCubicAt E v)
    no_second_way j k = omega (
      arith,
      j,
      count_of_distinct (v ∷ ways_from v E) k.different w,
      count-append w (v ∷ []) (ways_from v E),
      ways_front w v (i + 1) E,
      counted w,
      count-one w,
    )

    -- it leads to a vertex that is new
    pub new_way : w ≢ v → count w (ways_from v (take i E)) ≡ 0 → IsDistinct (v ∷ ways_from v (take i E))
        → IsDistinct (v ∷ ways_from v (take (i + 1) E))
    new_way n z d = distinct_of_count (v ∷ ways_from v (take (i + 1) E)) (λ x. go x (ℕ_discrete w x))
      where
        go : (x : ℕ) → Dec (w ≡ x) → count x (v ∷ ways_from v (take (i + 1) E)) ≤ 1
        go x (yes r) = subst (λ t. count t (v ∷ ways_from v (take (i + 1) E)) ≤ 1) r (omega (
          arith,
          counted w,
          z,
          count-one w,
          count-other w v (ways_from v (take (i + 1) E)) (λ s. n (sym s)),
        ))
        go x (no m) = omega (
          arith,
          counted x,
          count-other x w [] m,
          count-nil x,
          count-append x (v ∷ []) (ways_from v (take (i + 1) E)),
          count-append x (v ∷ []) (ways_from v (take i E)),
          count_of_distinct (v ∷ ways_from v (take i E)) d x,
        )

-- ---- degrees

-- as many ways as ends, where no edge leads back
ends_are_ways : (x : ℕ) (E : List (ℕ × ℕ)) → count x (ways_from x E) ≡ 0
    → count x (map (λ p. p.0) E) + count x (map (λ p. p.1) E) ≡ length (ways_from x E)
ends_are_ways x [] z = omega (arith, count-nil x, ap length (ways-nil x))
ends_are_ways x (p ∷ E) z = go (ℕ_discrete p.0 x) (ℕ_discrete p.1 x)
    (ends_are_ways x E (omega (arith, z, count-ways x x p E)))
  where
    long : length (ways_from x (p ∷ E)) ≡ length (way_from x p) + length (ways_from x E)
    long = ap length (ways-cons x p E) ∙ length-append (way_from x p) (ways_from x E)

    firsts : count x (map (λ p. p.0) (p ∷ E)) ≡ count x (p.0 ∷ []) + count x (map (λ p. p.0) E)
    firsts = count-append x (p.0 ∷ []) (map (λ p. p.0) E)

    seconds : count x (map (λ p. p.1) (p ∷ E)) ≡ count x (p.1 ∷ []) + count x (map (λ p. p.1) E)
    seconds = count-append x (p.1 ∷ []) (map (λ p. p.1) E)

    none : count x (way_from x p) ≡ 0
    none = omega (arith, z, count-ways x x p E)

    go : Dec (p.0 ≡ x) → Dec (p.1 ≡ x) → count x (map (λ p. p.0) E) + count x (map (λ p. p.1) E) ≡ length (ways_from x E)
        → count x (map (λ p. p.0) (p ∷ E)) + count x (map (λ p. p.1) (p ∷ E)) ≡ length (ways_from x (p ∷ E))
    go (yes q) d ih = omega (
      arith,
      ih,
      long,
      firsts,
      seconds,
      ap length (way_first x p q),
      ap (λ t. count x (t ∷ [])) q,
      count-one x,
      none,
      ap (count x) (way_first x p q),
    )
    go (no n) (yes r) ih = omega (
      arith,
      ih,
      long,
      firsts,
      seconds,
      ap length (way_second x p n r),
      ap (λ t. count x (t ∷ [])) r,
      count-one x,
      count-other x p.0 [] n,
      count-nil x,
    )
    go (no n) (no m) ih = omega (
      arith,
      ih,
      long,
      firsts,
      seconds,
      ap length (way_none x p n m),
      count-other x p.0 [] n,
      count-other x p.1 [] m,
      count-nil x,
    )

-- the ends of all edges, edge by edge
ends_of_first : (E : List (ℕ × ℕ)) (f : ℕ × ℕ → ℕ) (k : ℕ) → k ≤ length E
    → map (λ e. f (edge_at E e)) (range_with_len 0 k) ≡ map f (take k E)
ends_of_first E f zero l = refl
ends_of_first E f (suc k) l = ap (λ m. map (λ e. f (edge_at E e)) (range_with_len 0 m)) (sym (add-one k))
    ∙ map-range_with_len_more (λ e. f (edge_at E e)) 0 k k (omega arith)
    ∙ ap (λ t. t ++ f (edge_at E k) ∷ []) (ends_of_first E f k (omega arith))
    ∙ sym (map-append f (take k E) (edge_at E k ∷ []))
    ∙ ap (map f) (sym (take_more E k (0, 0) (omega arith)))
    ∙ ap (λ m. map f (take m E)) (add-one k)

ends_of_all : (E : List (ℕ × ℕ)) (f : ℕ × ℕ → ℕ) → map (λ e. f (edge_at E e)) (edge_numbers E) ≡ map f E
ends_of_all E f = ends_of_first E f (length E) (omega arith) ∙ ap (map f) (take_all (length E) E (omega arith))

above : (n x : ℕ) (E : List (ℕ × ℕ)) (f : ℕ × ℕ → ℕ) → ((p : ℕ × ℕ) → In p E → f p < n) → n ≤ x → count x (map f E) ≡ 0
above n x [] f h l = count-nil x
above n x (p ∷ E) f h l = omega (
  arith,
  count-other x (f p) (map f E) (λ q. omega (arith, q, h p (inl refl), l)),
  above n x E f (λ p i. h p (inr i)) l,
)

module _ (n : ℕ) (E : List (ℕ × ℕ)) (B : All (AreBelow n) E) (K : IsCubic n E) where
  pub below : (e : ℕ) → 1 ≤ count e (edge_numbers E) → AreBelow n (edge_at E e)
  below e i = In-all (AreBelow n) E B (edge_at E e) (In-get_or E e (0, 0) (numbers_below E e i))

  -- each vertex is at most once where the edges of a vertex lead, and that vertex is not
  at_most_once : (u x : ℕ) → u < n → count x (ways_from u E) ≤ 1
  at_most_once u x l = omega (arith, count_of_distinct (u ∷ ways_from u E) (K u l).different x, count-append x (u ∷ []) (ways_from u E))

  not_back : (u : ℕ) → u < n → count u (ways_from u E) ≡ 0
  not_back u l = omega (arith, count_of_distinct (u ∷ ways_from u E) (K u l).different u, count-head u (ways_from u E))

  pub simple : IsSimple (edge_at E) (edge_numbers E)
  simple = record { no_loop = no_loop; no_parallel = λ e f u v i j p q. same e f u v i j p q (ℕ_discrete e f) (dec_lt e f) }
    where
      no_loop : (e : ℕ) → 1 ≤ count e (edge_numbers E) → (edge_at E e).0 ≢ (edge_at E e).1
      no_loop e i q = omega (
        arith,
        not_back (edge_at E e).0 (below e i).0,
        one_way (edge_at E e).0 (edge_at E e).0 E e (numbers_below E e i),
        way_of E e (edge_at E e).0 (edge_at E e).0 (inl (refl, sym q)),
      )

      start_below : (e u v : ℕ) → 1 ≤ count e (edge_numbers E) → LeadsTo (edge_at E) e u v → u < n
      start_below e u v i (inl (p, q)) = subst (λ t. t < n) p (below e i).0
      start_below e u v i (inr (p, q)) = subst (λ t. t < n) p (below e i).1

      twice : (e f u v : ℕ) → 1 ≤ count e (edge_numbers E) → 1 ≤ count f (edge_numbers E) → LeadsTo (edge_at E) e u v
          → LeadsTo (edge_at E) f u v → ¬ (e < f)
      twice e f u v i j p q l = omega (
        arith,
        at_most_once u v (start_below e u v i p),
        two_ways v u E e f l (numbers_below E f j),
        way_of E e u v p,
        way_of E f u v q,
      )

      same : (e f u v : ℕ) → 1 ≤ count e (edge_numbers E) → 1 ≤ count f (edge_numbers E) → LeadsTo (edge_at E) e u v
          → LeadsTo (edge_at E) f u v → Dec (e ≡ f) → Dec (e < f) → e ≡ f
      same e f u v i j p q (yes r) d = r
      same e f u v i j p q (no n) (yes l) = absurd (twice e f u v i j p q l)
      same e f u v i j p q (no n) (no m) = absurd (twice f e u v j i q p (omega arith))

  degree_is : (x : ℕ) → degree (edge_at E) (edge_numbers E) x ≡ count x (map (λ p. p.0) E) + count x (map (λ p. p.1) E)
  degree_is x = omega (arith, ap (count x) (ends_of_all E (λ p. p.0)), ap (count x) (ends_of_all E (λ p. p.1)))

  -- three edges at each vertex, and so at most three
  pub three_each : (x : ℕ) → x < n → degree (edge_at E) (edge_numbers E) x ≡ 3
  three_each x l = omega (arith, degree_is x, ends_are_ways x E (not_back x l), (K x l).three)

  pub three_at_most : AtMostThree (edge_at E) (edge_numbers E)
  three_at_most = three_of_degrees (edge_at E) (edge_numbers E) (λ x. go x (dec_lt x n))
    where
      go : (x : ℕ) → Dec (x < n) → degree (edge_at E) (edge_numbers E) x ≤ 3
      go x (yes l) = omega (arith, three_each x l)
      go x (no m) = omega (
        arith,
        degree_is x,
        above n x E (λ p. p.0) (λ p i. (In-all (AreBelow n) E B p i).0) (omega arith),
        above n x E (λ p. p.1) (λ p i. (In-all (AreBelow n) E B p i).1) (omega arith),
      )
