-- The walk over the positions, which makes a reduced basis of a span.
use Rattle.std.proofs.Common.{◌≡◌, ◌≢◌, Bool, IsTrue, map, ℕ, ◌+◌, ◌<◌, ◌≤◌, ◌⊎◌, inl, inr, List, [], ◌∷◌, ◌++◌, length, get_or, refl, sym, ap, ap₂, ◌∙◌, subst, arith, All, length-append}
use Rattle.std.specs.Prelude.{◌↔◌}
use Rattle.std.specs.List.Sorted.{IsStrictlyIncreasing}
use Rattle.std.proofs.lemmas.List.{get_or_append_left, map-append, get_or_default}
use Rattle.std.proofs.lemmas.List.Elements.{All-nil, All-push, All-weaker}
use Rattle.vector_spaces.proofs.Space.{Field, Space, linear, plus-minus}
use Rattle.vector_spaces.proofs.Span.{InSpan as InSpan_of, span_plus, span_scale, span_minus, span_member}
use Rattle.vector_spaces.proofs.Within.{left_in, right_in}
use Rattle.vector_spaces.proofs.Tuples.{Tuple, line}
use Rattle.linear_algebra.specs.Scalars.{Scalars, IsField}
use Rattle.linear_algebra.specs.Spans.{InSpan}
use Rattle.linear_algebra.specs.Vectors.{IsVector, AreVectors, zero_vector}
use Rattle.linear_algebra.proofs.Coordinates.{tuple, space, list, list-vector, tuple-list}
use Rattle.linear_algebra.proofs.Elements.{Element, scalar_field, one_element, same_element}
use Rattle.linear_algebra.proofs.Transfer.{tuples_of, span_to_tuples, span_from_tuples}
use Rattle.echelon.specs.Leads.{LeadsAt}
use Rattle.echelon.specs.Residues.{IsLeading}
use Rattle.echelon.proofs.Transfers.{coordinate, coordinate-linear, coordinate-zero, entry-coordinate, zero-coordinate}
use Rattle.field_core.specs.Matrix.{Matrix}
use Rattle.quotients.specs.Reductions.{IsRowAt, IsReductionOf}
use Rattle.vector_spaces.proofs.Members.{all-In, contains-In}
use Rattle.linear_algebra.proofs.Combinations.{span_vector}
use Rattle.linear_algebra.proofs.VectorLaws.{tuple-zero}
use Rattle.quotients.proofs.Increasing.{items_differ, first_or_last, get_or-last, increasing_push}
use Rattle.quotients.proofs.Leading.{zero_of_leading, row_leads, row_zero}
use Rattle.std.proofs.Math.Decide.{ℕ_discrete}

module _ {K V : Type 0} (f : Field K) (s : Space f V) where
  infixl 65 ◌⊕◌
  infixl 70 ◌·◌
  open f use {minus}
  open s use {◌⊕◌, ◌·◌}

  moved_part : (y z u : V) → y ⊕ z ≡ (y ⊕ u) ⊕ (z ⊕ minus · u)
  moved_part y z u = simp linear

kept : {K : Type 0} (f : Field K) (c : K) → f.◌⊞◌ f.zero (f.◌⊠◌ f.minus (f.◌⊠◌ c f.zero)) ≡ f.zero
kept f c = simp linear

module _ (S : Scalars) (F : IsField S) (d : ℕ) (vs : List (List ℕ)) where
  infixl 65 ◌⊕◌
  infixl 70 ◌·◌
  open space S F d use {◌⊕◌, ◌·◌}
  open scalar_field S F use {zero as o, one, minus, ◌⊞◌, ◌⊠◌}

  -- x is a vector of the span of rows, and one of the span of vs that is zero wherever vs leads before p
  pub record Splits (p : ℕ) (rows : List (List ℕ)) (x : Tuple (Element S) d) : Type 0 where
    pub part : Tuple (Element S) d
    pub rest : Tuple (Element S) d
    pub part_in : InSpan_of (space S F d) (tuples_of S F d rows) part
    pub rest_in : InSpan_of (space S F d) (tuples_of S F d vs) rest
    pub sum : x ≡ part ⊕ rest
    pub zeros : (q : ℕ) → q < p → IsLeading S d vs q → coordinate S F d q rest ≡ o

  -- rows is the reduced basis as far as the positions before p
  pub record IsReducedUpTo (p : ℕ) (rows : List (List ℕ)) : Type 0 where
    pub pivots : List ℕ
    pub one_each : length pivots ≡ length rows
    pub increasing : IsStrictlyIncreasing pivots
    pub below : All (λ q. q < p) pivots
    pub rows_at : (i : ℕ) → i < length rows → IsRowAt S d vs (get_or pivots i 0) (get_or rows i [])
    pub leads : (i : ℕ) → i < length rows → LeadsAt S (get_or rows i []) (get_or pivots i 0)
    pub splits : (x : Tuple (Element S) d) → InSpan_of (space S F d) (tuples_of S F d vs) x → Splits p rows x

  pub reduced_none : IsReducedUpTo 0 []
  reduced_none = record {
    pivots = [];
    one_each = refl;
    increasing = λ k l. absurd (omega arith);
    below = All-nil (λ q. q < 0);
    rows_at = λ i l. absurd (omega arith);
    leads = λ i l. absurd (omega arith);
    splits = λ x h. record { part = (space S F d).null; rest = x; part_in = refl; rest_in = h; sum = simp linear; zeros = λ q l k. absurd (omega arith) };
  }

  coordinate-one : (v : List ℕ) (q : ℕ) → IsVector S d v → q < d → get_or v q 0 ≡ S.one → coordinate S F d q (tuple S F d v) ≡ one
  unfolding scalar_field one_element
  coordinate-one v q h k z = same_element S _ _ (sym (entry-coordinate S F d v q h k) ∙ z)

  module _ (V : AreVectors S d vs) (p : ℕ) (rows : List (List ℕ)) (r : IsReducedUpTo p rows) (u : List ℕ) (a : IsRowAt S d vs p u) where
    -- the span doesn't lead at p
    pub reduced_skip : u ≡ zero_vector S d → IsReducedUpTo (p + 1) rows
    reduced_skip e = record {
      pivots = r.pivots;
      one_each = r.one_each;
      increasing = r.increasing;
      below = All-weaker (λ q. q < p) (λ q. q < p + 1) (λ q l. omega arith) r.pivots r.below;
      rows_at = r.rows_at;
      leads = r.leads;
      splits = λ x h. let t = r.splits x h in record { part = t.part; rest = t.rest; part_in = t.part_in; rest_in = t.rest_in; sum = t.sum; zeros = λ q l k. go q l k (t.zeros q) (ℕ_discrete q p) };
    }
      where
        go : (q : ℕ) → q < p + 1 → IsLeading S d vs q → {A : Type 0} → (q < p → IsLeading S d vs q → A) → Dec (q ≡ p) → A
        go q l k z (yes m) = absurd (row_zero S F d vs p u a e (subst (IsLeading S d vs) m k))
        go q l k z (no n) = z (omega arith) k

    -- the row at p, taken away from a rest, leaves it zero wherever the span leads up to p
    rest_zeros : (z : Tuple (Element S) d) → ((q : ℕ) → q < p → IsLeading S d vs q → coordinate S F d q z ≡ o) → (q : ℕ) → q < p + 1 → IsLeading S d vs q → coordinate S F d q (z ⊕ minus · (coordinate S F d p z · tuple S F d u)) ≡ o
    rest_zeros z h q l k = go (ℕ_discrete q p)
      where
        f : Field (Element S)
        f = scalar_field S F

        at_q : Tuple (Element S) d → Element S
        at_q = coordinate S F d q

        q_in : q < d
        q_in = subst (λ n. q < n) k.vector.length_is k.leads.within

        moved : at_q (z ⊕ minus · (coordinate S F d p z · tuple S F d u)) ≡ at_q z ⊞ minus ⊠ (coordinate S F d p z ⊠ at_q (tuple S F d u))
        moved =
            let lin = coordinate-linear S F d q in
            let c = coordinate S F d p z in
            lin.plus z (minus · (c · tuple S F d u)) ∙ ap (λ t. at_q z ⊞ t) (lin.scale minus (c · tuple S F d u) ∙ ap (λ t. minus ⊠ t) (lin.scale c (tuple S F d u)))

        go : Dec (q ≡ p) → at_q (z ⊕ minus · (coordinate S F d p z · tuple S F d u)) ≡ o
        go (yes e) =
            let is_one : at_q (tuple S F d u) ≡ one = coordinate-one u q a.vector q_in (ap (λ n. get_or u n 0) e ∙ a.one (subst (IsLeading S d vs) e k)) in
            moved ∙ ap₂ (λ c t. at_q z ⊞ minus ⊠ (c ⊠ t)) (ap (λ n. coordinate S F d n z) (sym e)) is_one ∙ ap (λ t. at_q z ⊞ minus ⊠ t) (f.mul-one (at_q z)) ∙ plus-minus f (line f) (at_q z)
        go (no n) =
            let is_zero : at_q (tuple S F d u) ≡ o = coordinate-zero S F d u q a.vector q_in (a.zero q k n) in
            moved ∙ ap₂ (λ x t. x ⊞ minus ⊠ (coordinate S F d p z ⊠ t)) (h q (omega arith) k) is_zero ∙ kept f (coordinate S F d p z)

    -- the span leads at p
    pub reduced_push : u ≢ zero_vector S d → IsReducedUpTo (p + 1) (rows ++ u ∷ [])
    reduced_push n = record {
      pivots = r.pivots ++ p ∷ [];
      one_each = length-append r.pivots (p ∷ []) ∙ ap (λ m. m + 1) r.one_each ∙ sym (length-append rows (u ∷ []));
      increasing = increasing_push r.pivots p r.increasing r.below;
      below = All-push (λ q. q < p + 1) r.pivots p (All-weaker (λ q. q < p) (λ q. q < p + 1) (λ q l. omega arith) r.pivots r.below) (omega arith);
      rows_at = λ i l. each (IsRowAt S d vs) i (r.rows_at i) a l;
      leads = λ i l. each (λ q v. LeadsAt S v q) i (r.leads i) (row_leads S F d vs p u a n) l;
      splits = λ x h. let t = r.splits x h in let c = coordinate S F d p t.rest · tuple S F d u in
          let c_in = span_scale (scalar_field S F) (space S F d) (tuples_of S F d vs) (coordinate S F d p t.rest) (tuple S F d u) (span_to_tuples S F d vs u V a.in_span) in
          record {
            part = t.part ⊕ c;
            rest = t.rest ⊕ minus · c;
            part_in = subst (λ ws. InSpan_of (space S F d) ws (t.part ⊕ c)) (sym (map-append (tuple S F d) rows (u ∷ [])))
                (span_plus (scalar_field S F) (space S F d) (tuples_of S F d rows ++ tuple S F d u ∷ []) t.part c (left_in (space S F d) (tuples_of S F d rows) (tuple S F d u ∷ []) t.part t.part_in)
                (right_in (space S F d) (tuples_of S F d rows) (tuple S F d u ∷ []) c (span_scale (scalar_field S F) (space S F d) (tuple S F d u ∷ []) (coordinate S F d p t.rest) (tuple S F d u) (span_member (scalar_field S F) (space S F d) (tuple S F d u ∷ []) (tuple S F d u) (inl refl)))));
            rest_in = span_minus (scalar_field S F) (space S F d) (tuples_of S F d vs) t.rest c t.rest_in c_in;
            sum = t.sum ∙ moved_part (scalar_field S F) (space S F d) t.part t.rest c;
            zeros = rest_zeros t.rest t.zeros;
          };
    }
      where
        each : (P : ℕ → List ℕ → Type 0) (i : ℕ) → (i < length rows → P (get_or r.pivots i 0) (get_or rows i [])) → P p u → i < length (rows ++ u ∷ []) → P (get_or (r.pivots ++ p ∷ []) i 0) (get_or (rows ++ u ∷ []) i [])
        each P i h k l = go (first_or_last rows u i l)
          where
            go : (i < length rows) ⊎ (i ≡ length rows) → P (get_or (r.pivots ++ p ∷ []) i 0) (get_or (rows ++ u ∷ []) i [])
            go (inl m) = subst (λ (t : ℕ × List ℕ). P t.0 t.1) (ap₂ (λ x y. (x, y)) (sym (get_or_append_left r.pivots (p ∷ []) 0 i (let e = r.one_each in omega arith))) (sym (get_or_append_left rows (u ∷ []) [] i m))) (h m)
            go (inr e) = subst (λ (t : ℕ × List ℕ). P t.0 t.1) (ap₂ (λ x y. (x, y)) (sym (get_or-last r.pivots p 0 i (e ∙ sym r.one_each))) (sym (get_or-last rows u [] i e))) k

  all_by_index : {X : Type 0} (P : X → Type 0) (xs : List X) (e : X) → ((i : ℕ) → i < length xs → P (get_or xs i e)) → All P xs
  all_by_index P xs e h = all-In P xs (λ x i. let c = contains-In xs x i in subst P (get_or_default xs c.0 e x c.1 ∙ c.2) (h c.0 c.1))

  -- after all positions the rows are the reduced basis
  pub reduced_whole : AreVectors S d vs → (p : ℕ) (rows : List (List ℕ)) → d ≤ p → IsReducedUpTo p rows → IsReductionOf S d vs (record { width = d; rows = rows })
  reduced_whole V p rows l r = record {
    width = refl;
    reduced = record {
      vectors = all_by_index (IsVector S d) rows [] (λ i m. (r.rows_at i m).vector);
      pivots = r.pivots;
      reduced = record {
        one_each = r.one_each;
        increasing = r.increasing;
        leads = r.leads;
        one = λ i m. (r.rows_at i m).one (leading i m);
        alone = λ i j m n e. (r.rows_at j n).zero (get_or r.pivots i 0) (leading i m) (let k = r.one_each in items_differ r.pivots i j r.increasing (omega arith) (omega arith) e);
      };
    };
    within = all_by_index (InSpan S d vs) rows [] (λ i m. (r.rows_at i m).in_span);
    spans = λ x h. let t = r.splits (tuple S F d x) (span_to_tuples S F d vs x V h) in
        span_from_tuples S F d rows x (all_by_index (IsVector S d) rows [] (λ i m. (r.rows_at i m).vector)) (span_vector S F d vs x V h)
        (subst (InSpan_of (space S F d) (tuples_of S F d rows)) (sym (t.sum ∙ ap (λ y. t.part ⊕ y) (rest_null t.rest t.rest_in t.zeros) ∙ (space S F d).plus-null t.part)) t.part_in);
  }
    where
      leading : (i : ℕ) → i < length rows → IsLeading S d vs (get_or r.pivots i 0)
      leading i m = record { leader = get_or rows i []; vector = (r.rows_at i m).vector; in_span = (r.rows_at i m).in_span; leads = r.leads i m }

      rest_null : (y : Tuple (Element S) d) → InSpan_of (space S F d) (tuples_of S F d vs) y → ((q : ℕ) → q < p → IsLeading S d vs q → coordinate S F d q y ≡ o) → y ≡ (space S F d).null
      rest_null y i z =
          let v = list S d y in
          let v_in = list-vector S d y in
          let v_zero = zero_of_leading S d vs v v_in (span_from_tuples S F d vs v V v_in (subst (InSpan_of (space S F d) (tuples_of S F d vs)) (sym (tuple-list S F d y)) i))
          (λ q k. let q_in : q < d = subst (λ n. q < n) k.vector.length_is k.leads.within in zero-coordinate S F d v q v_in q_in (ap (coordinate S F d q) (tuple-list S F d y) ∙ z q (omega arith) k)) in
          sym (tuple-list S F d y) ∙ ap (tuple S F d) v_zero ∙ tuple-zero S F d

  -- the basis of the loop, and what it keeps
  pub record IsReducedSoFar (p : ℕ) (basis : Matrix) : Type 0 where
    pub width : basis.width ≡ d
    pub reduced : IsReducedUpTo p basis.rows

  pub none_so_far : (basis : Matrix) (n : ℕ) → n ≡ d → basis ≡ record { width = n; rows = [] } → IsReducedSoFar 0 basis
  none_so_far basis n w e = subst (λ m. IsReducedSoFar 0 m) (sym e) (record { width = w; reduced = reduced_none })

  -- whether a row is zero is told by what is seen of it
  pub zero_told : {X : Type 0} (f : X → ℕ) (slice : List X) (u : List ℕ) (b : Bool) → map f slice ≡ u → length slice ≡ length u →
      IsVector S d u → IsTrue b ↔ (map f slice ≡ zero_vector S (length slice)) → IsTrue b ↔ (u ≡ zero_vector S d)
  zero_told f slice u b is long u_in t =
      let zeros = ap (zero_vector S) (long ∙ u_in.length_is) in (λ h. sym is ∙ t.0 h ∙ zeros, λ e. t.1 (is ∙ e ∙ sym zeros))

  -- the row at p is kept if it isn't zero
  pub more_so_far : AreVectors S d vs → (p : ℕ) (basis pushed after : Matrix) (u seen : List ℕ) → IsReducedSoFar p basis →
      IsRowAt S d vs p u → u ≢ zero_vector S d → after ≡ pushed → pushed ≡ record basis { rows = basis.rows ++ seen ∷ [] } → seen ≡ u →
      IsReducedSoFar (p + 1) after
  more_so_far V p basis pushed after u seen r a n e e' is =
      subst (λ m. IsReducedSoFar (p + 1) m) (sym (e ∙ e' ∙ ap (λ v. record basis { rows = basis.rows ++ v ∷ [] }) is))
      (record { width = r.width; reduced = reduced_push V p basis.rows r.reduced u a n })

  pub same_so_far : AreVectors S d vs → (p : ℕ) (basis after : Matrix) (u : List ℕ) → IsReducedSoFar p basis → IsRowAt S d vs p u → u ≡ zero_vector S d → after ≡ basis → IsReducedSoFar (p + 1) after
  same_so_far V p basis after u r a z e = subst (λ m. IsReducedSoFar (p + 1) m) (sym e) (record { width = r.width; reduced = reduced_skip V p basis.rows r.reduced u a z })

  pub all_so_far : AreVectors S d vs → (p : ℕ) (basis : Matrix) → d ≤ p → IsReducedSoFar p basis → IsReductionOf S d vs basis
  all_so_far V p basis l r = subst (λ n. IsReductionOf S d vs (record { width = n; rows = basis.rows })) (sym r.width) (let w = reduced_whole V p basis.rows l r.reduced in record { width = refl; reduced = w.reduced; within = w.within; spans = w.spans })
