-- The walk over the vectors of the second span: what it keeps, and that the common vectors span the meeting.
use Rattle.std.proofs.Common.{◌≡◌, ℕ, ◌+◌, ◌-◌, ◌<◌, ◌≤◌, get_or, take_all, inl, inr, List, [], ◌∷◌, ◌++◌, length, take, drop, refl, sym, ap, ap₂, ◌∙◌, subst, arith, append-nil, append_assoc, length-append, length-drop, All}
use Rattle.std.specs.Prelude.{◌↔◌}
use Rattle.std.proofs.lemmas.List.{take_more, map-append, take-append-drop, length-take-le}
use Rattle.std.proofs.lemmas.List.Elements.{All-nil, All-push, All-append, All-take, All-drop}
use Rattle.vector_spaces.proofs.Members.{In, In-all, all-In, In-append, In-append_left, In-append_right}
use Rattle.vector_spaces.proofs.Meets.{meet_within}
use Rattle.vector_spaces.proofs.Space.{move}
use Rattle.vector_spaces.proofs.Span.{InSpan as InSpan_of, span_minus}
use Rattle.vector_spaces.proofs.Independence.{IsIndependent as IsIndependent_of}
use Rattle.vector_spaces.proofs.Within.{Within}
use Rattle.field_core.specs.Matrix.{Matrix}
use Rattle.linear_algebra.specs.Scalars.{Scalars, IsScalar, IsField}
use Rattle.linear_algebra.specs.Spans.{combination, Combines, InSpan, IsIndependent}
use Rattle.linear_algebra.specs.Vectors.{IsVector, AreVectors, vector_sum}
use Rattle.linear_algebra.proofs.Combinations.{combination-append, combination-vector, span_vector, spanned_vectors}
use Rattle.linear_algebra.proofs.Coordinates.{tuple, list, list-is, list-tuple, space}
use Rattle.linear_algebra.proofs.Elements.{scalar_field}
use Rattle.linear_algebra.proofs.IndependenceLaws.{independent_push}
use Rattle.linear_algebra.proofs.SpanLaws.{span_member, span_sum, span_of_members, span_through, span_append_right, within_tuples}
use Rattle.linear_algebra.proofs.Transfer.{tuples_of, span_to_tuples, span_from_tuples, independent_to_tuples}
use Rattle.linear_algebra.proofs.VectorLaws.{tuple-sum}
use Rattle.echelon.specs.Grown.{IsBasisOf}
use Rattle.quotients.specs.Subspaces.{HasElements}
use Rattle.quotients.specs.Meetings.{TakesNew, TakesOld, Takes, with_row, SpansMeeting}
use Rattle.quotients.specs.declared.meeting.Walk.{Walk}

module _ (S : Scalars) (F : IsField S) (d : ℕ) where
  -- what is left of x of a span, without n of the span
  difference_in : (vs : List (List ℕ)) (x p n : List ℕ) → AreVectors S d vs → IsVector S d p → IsVector S d n → x ≡ vector_sum S p n → InSpan S d vs x → InSpan S d vs n → InSpan S d vs p
  difference_in vs x p n h p_in n_in e a b =
      let f = scalar_field S F in
      let s = space S F d in
      let t = tuple S F d in
      span_from_tuples S F d vs p h p_in (subst (InSpan_of s (tuples_of S F d vs)) (move f s (t x) (t n) (t p) (ap t e ∙ tuple-sum S F d p n p_in n_in))
      (span_minus f s (tuples_of S F d vs) (t x) (t n) (span_to_tuples S F d vs x h a) (span_to_tuples S F d vs n h b)))

  same_left : (u v n : List ℕ) → IsVector S d u → IsVector S d v → IsVector S d n → vector_sum S u n ≡ vector_sum S v n → u ≡ v
  same_left u v n u_in v_in n_in e =
      let f = scalar_field S F in
      let s = space S F d in
      let t = tuple S F d in
      list-is S F d u u_in (sym (move f s (t (vector_sum S u n)) (t n) (t u) (tuple-sum S F d u n u_in n_in)) ∙ move f s (t (vector_sum S u n)) (t n) (t v) (ap t e ∙ tuple-sum S F d v n v_in n_in)) ∙ list-tuple S F d v v_in

  -- vectors that are spanned by a list are spanned by a longer one
  all_more : (vs ws xs : List (List ℕ)) → AreVectors S d ws → AreVectors S d xs → ((v : List ℕ) → In v vs → In v ws) → All (InSpan S d vs) xs → All (InSpan S d ws) xs
  all_more vs ws xs h k m a = all-In (InSpan S d ws) xs (λ x i. span_of_members S F d vs ws x h (In-all (IsVector S d) xs k x i) m (In-all (InSpan S d vs) xs a x i))

  -- the vectors of both spans are in the span of the common ones
  pub meet : (base added common ws : List (List ℕ)) (x : List ℕ) → AreVectors S d base → AreVectors S d added → AreVectors S d common → AreVectors S d ws → IsIndependent S d (base ++ added) →
      All (InSpan S d base) common → All (InSpan S d (common ++ added)) ws → InSpan S d base x → InSpan S d ws x → InSpan S d common x
  meet base added common ws x b a c w i first spanned h k =
      let s = space S F d in
      let t = tuples_of S F d in
      span_from_tuples S F d common x c (span_vector S F d base x b h)
      (meet_within s (t base) (t added) (t common) (t ws) (tuple S F d x)
      (subst (IsIndependent_of s) (map-append (tuple S F d) base added) (independent_to_tuples S F d (base ++ added) (All-append (IsVector S d) base added b a) i))
      (within_tuples S F d common base b first)
      (subst (Within s (t ws)) (map-append (tuple S F d) common added) (within_tuples S F d ws (common ++ added) (All-append (IsVector S d) common added c a) spanned))
      (span_to_tuples S F d base x b h) (span_to_tuples S F d ws x w k))

  -- an old vector is one of the span of the first list and one of the span of the second
  pub split_old : (us vs : List (List ℕ)) (cs w p : List ℕ) → AreVectors S d us → AreVectors S d vs → Combines S d (us ++ vs) cs w → IsVector S d p → w ≡ vector_sum S p (combination S d (drop (length us) cs) vs) → InSpan S d us p × InSpan S d vs (combination S d (drop (length us) cs) vs)
  split_old us vs cs w p us_in vs_in c p_in e =
      let r = length us in
      let l = length-append us vs in
      let k = c.one_each.length_is in
      let fc = All-take (IsScalar S) r cs c.one_each.entries in
      let bc = All-drop (IsScalar S) r cs c.one_each.entries in
      let one_each : IsVector S r (take r cs) = record { length_is = length-take-le r cs (omega arith); entries = fc } in
      let y = combination S d (take r cs) us in
      let n = combination S d (drop r cs) vs in
      let y_in = combination-vector S F d (take r cs) us fc us_in in
      let n_in = combination-vector S F d (drop r cs) vs bc vs_in in
      let both : w ≡ vector_sum S y n = sym c.gives ∙ ap (λ ds. combination S d ds (us ++ vs)) (sym (take-append-drop r cs)) ∙ combination-append S F d (take r cs) (drop r cs) us vs one_each bc us_in vs_in in
      let is_y : p ≡ y = same_left p y n p_in y_in n_in (sym e ∙ both) in (
        record { coefficients = take r cs; combine = record { one_each = one_each; gives = sym is_y } },
        record { coefficients = drop r cs; combine = record { one_each = record { length_is = length-drop r cs ∙ omega arith; entries = bc }; gives = refl } },
      )

module _ (S : Scalars) (F : IsField S) (us : Matrix) where
  abbrev d : ℕ
  d = us.width

  -- the walk has seen the vectors ws: its basis is one of us with some of them behind, independent, which with vectors of both spans span ws
  pub record IsWalk {X : Type 0} (ws : List (List ℕ)) (walk : Walk X) : Type 0 where
    pub base : Matrix
    pub is_basis : IsBasisOf S us base
    pub basis_width : walk.basis.width ≡ us.width
    pub basis_rows : walk.basis.rows ≡ base.rows ++ walk.added.rows
    pub added_width : walk.added.width ≡ us.width
    pub common_width : walk.common.width ≡ us.width
    pub seen : AreVectors S us.width ws
    pub independent : IsIndependent S us.width (base.rows ++ walk.added.rows)
    pub in_first : All (InSpan S us.width base.rows) walk.common.rows
    pub in_second : All (InSpan S us.width ws) walk.common.rows
    pub added_in : All (InSpan S us.width ws) walk.added.rows
    pub spanned : All (InSpan S us.width (walk.common.rows ++ walk.added.rows)) ws

  pub no_walk : {X : Type 0} (base added common : Matrix) → IsBasisOf S us base → added ≡ record { width = d; rows = [] } → common ≡ record { width = d; rows = [] } → IsWalk {X = X} [] (record { basis = base; added = added; common = common })
  no_walk {X = X} base added common b a c = subst (λ (t : Matrix × Matrix). IsWalk {X = X} [] (record { basis = base; added = t.0; common = t.1 })) (ap₂ (λ x y. (x, y)) (sym a) (sym c)) (record {
    base = base;
    is_basis = b;
    basis_width = b.width;
    basis_rows = sym (append-nil base.rows);
    added_width = refl;
    common_width = refl;
    seen = All-nil (IsVector S d);
    independent = subst (IsIndependent S d) (sym (append-nil base.rows)) b.independent;
    in_first = All-nil (InSpan S d base.rows);
    in_second = All-nil (InSpan S d []);
    added_in = All-nil (InSpan S d []);
    spanned = All-nil (InSpan S d []);
  })

  module _ {X : Type 0} (ws : List (List ℕ)) (before after : Walk X) (w : List ℕ) (k : IsWalk ws before) (w_in : IsVector S d w) where
    more : AreVectors S d (ws ++ w ∷ [])
    more = All-push (IsVector S d) ws w k.seen w_in

    w_more : InSpan S d (ws ++ w ∷ []) w
    w_more = span_member S F d (ws ++ w ∷ []) w more (In-append_right w ws (w ∷ []) (inl refl))

    added_vectors : AreVectors S d before.added.rows
    added_vectors = spanned_vectors S F d ws before.added.rows k.seen k.added_in

    common_vectors : AreVectors S d before.common.rows
    common_vectors = spanned_vectors S F d ws before.common.rows k.seen k.in_second

    weaker : (xs : List (List ℕ)) → AreVectors S d xs → All (InSpan S d ws) xs → All (InSpan S d (ws ++ w ∷ [])) xs
    weaker xs h a = all_more S F d ws (ws ++ w ∷ []) xs more h (λ v i. In-append_left v ws (w ∷ []) i) a

    base_vectors : AreVectors S d k.base.rows
    base_vectors = k.is_basis.vectors_in

    rows_of : (m n : Matrix) → m ≡ n → m.rows ≡ n.rows
    rows_of m n e = ap (λ (x : Matrix). x.rows) e

    width_of : (m n : Matrix) → m ≡ n → m.width ≡ n.width
    width_of m n e = ap (λ (x : Matrix). x.width) e

    pub walk_new : TakesNew S before w after → IsWalk (ws ++ w ∷ []) after
    walk_new t =
        let base = k.base.rows in
        let added = before.added.rows in
        let common = before.common.rows in
        let added' : after.added.rows ≡ added ++ w ∷ [] = rows_of after.added (with_row before.added w) t.added in
        let common' : after.common.rows ≡ common = rows_of after.common before.common t.common in
        let outside : ¬ (InSpan S d (base ++ added) w) = subst (λ vs. ¬ (InSpan S d vs w)) k.basis_rows (subst (λ n. ¬ (InSpan S n before.basis.rows w)) k.basis_width t.outside) in
        let both_in = All-append (IsVector S d) common (added ++ w ∷ []) common_vectors (All-push (IsVector S d) added w added_vectors w_in) in
        record {
          base = k.base;
          is_basis = k.is_basis;
          basis_width = width_of after.basis (with_row before.basis w) t.basis ∙ k.basis_width;
          basis_rows = rows_of after.basis (with_row before.basis w) t.basis ∙ ap (λ vs. vs ++ w ∷ []) k.basis_rows ∙ append_assoc base added (w ∷ []) ∙ ap (λ vs. base ++ vs) (sym added');
          added_width = width_of after.added (with_row before.added w) t.added ∙ k.added_width;
          common_width = width_of after.common before.common t.common ∙ k.common_width;
          seen = more;
          independent = subst (λ vs. IsIndependent S d (base ++ vs)) (sym added') (subst (IsIndependent S d) (append_assoc base added (w ∷ [])) (independent_push S F d (base ++ added) w (All-append (IsVector S d) base added base_vectors added_vectors) w_in k.independent outside));
          in_first = subst (All (InSpan S d base)) (sym common') k.in_first;
          in_second = subst (All (InSpan S d (ws ++ w ∷ []))) (sym common') (weaker common common_vectors k.in_second);
          added_in = subst (All (InSpan S d (ws ++ w ∷ []))) (sym added') (All-push (InSpan S d (ws ++ w ∷ [])) added w (weaker added added_vectors k.added_in) w_more);
          spanned = subst (λ (t : List (List ℕ) × List (List ℕ)). All (InSpan S d (t.0 ++ t.1)) (ws ++ w ∷ [])) (ap₂ (λ x y. (x, y)) (sym common') (sym added'))
              (All-push (InSpan S d (common ++ (added ++ w ∷ []))) ws w
              (subst (λ vs. All (InSpan S d vs) ws) (append_assoc common added (w ∷ [])) (all_more S F d (common ++ added) ((common ++ added) ++ w ∷ []) ws (subst (AreVectors S d) (sym (append_assoc common added (w ∷ []))) both_in) k.seen (λ v i. In-append_left v (common ++ added) (w ∷ []) i) k.spanned))
              (span_member S F d (common ++ (added ++ w ∷ [])) w both_in (In-append_right w common (added ++ w ∷ []) (In-append_right w added (w ∷ []) (inl refl)))));
        }

    module _ (t : TakesOld S before w after) where
      -- the part of w in the span of the added vectors
      abbrev rest : List ℕ
      rest = combination S d (drop (length k.base.rows) t.coefficients) before.added.rows

      abbrev common_more : List (List ℕ)
      common_more = before.common.rows ++ t.part ∷ []

      added_same : after.added.rows ≡ before.added.rows
      added_same = rows_of after.added before.added t.added

      common_is : after.common.rows ≡ common_more
      common_is = rows_of after.common (with_row before.common t.part) t.common

      part_vector : IsVector S d t.part
      part_vector = subst (λ n. IsVector S n t.part) k.basis_width t.vector

      base_long : length before.basis.rows - length before.added.rows ≡ length k.base.rows
      base_long = let e = ap length k.basis_rows in let l = length-append k.base.rows before.added.rows in omega arith

      sum_is : w ≡ vector_sum S t.part rest
      sum_is = t.sum ∙ ap₂ (λ m i. vector_sum S t.part (combination S m (drop i t.coefficients) before.added.rows)) k.basis_width base_long

      combine_is : Combines S d (k.base.rows ++ before.added.rows) t.coefficients w
      combine_is =
          subst (λ vs. Combines S d vs t.coefficients w) k.basis_rows
          (subst (λ m. Combines S m before.basis.rows t.coefficients w) k.basis_width t.combine)

      parts : InSpan S d k.base.rows t.part × InSpan S d before.added.rows rest
      parts = split_old S F d k.base.rows before.added.rows t.coefficients w t.part base_vectors added_vectors combine_is part_vector sum_is

      rest_vector : IsVector S d rest
      rest_vector = span_vector S F d before.added.rows rest added_vectors parts.1

      part_more : InSpan S d (ws ++ w ∷ []) t.part
      part_more = difference_in S F d (ws ++ w ∷ []) w t.part rest more part_vector rest_vector sum_is w_more
          (span_through S F d before.added.rows (ws ++ w ∷ []) rest added_vectors more rest_vector
          (weaker before.added.rows added_vectors k.added_in) parts.1)

      common_more_vectors : AreVectors S d common_more
      common_more_vectors = All-push (IsVector S d) before.common.rows t.part common_vectors part_vector

      both_vectors : AreVectors S d (common_more ++ before.added.rows)
      both_vectors = All-append (IsVector S d) common_more before.added.rows common_more_vectors added_vectors

      members_more : (v : List ℕ) → In v (before.common.rows ++ before.added.rows) → In v (common_more ++ before.added.rows)
      members_more v i = elim (In-append v before.common.rows before.added.rows i) [
        | inl j ↦ In-append_left v common_more before.added.rows (In-append_left v before.common.rows (t.part ∷ []) j)
        | inr j ↦ In-append_right v common_more before.added.rows j
      ]

      sum_spanned : InSpan S d (common_more ++ before.added.rows) (vector_sum S t.part rest)
      sum_spanned = span_sum S F d (common_more ++ before.added.rows) t.part rest both_vectors part_vector rest_vector
          (span_member S F d (common_more ++ before.added.rows) t.part both_vectors
          (In-append_left t.part common_more before.added.rows (In-append_right t.part before.common.rows (t.part ∷ []) (inl refl))))
          (span_append_right S F d common_more before.added.rows rest both_vectors rest_vector parts.1)

      all_spanned : All (InSpan S d (common_more ++ before.added.rows)) (ws ++ w ∷ [])
      all_spanned = All-push (InSpan S d (common_more ++ before.added.rows)) ws w
          (all_more S F d (before.common.rows ++ before.added.rows) (common_more ++ before.added.rows) ws both_vectors k.seen members_more k.spanned)
          (subst (InSpan S d (common_more ++ before.added.rows)) (sym sum_is) sum_spanned)

      spanned_after : All (InSpan S d (after.common.rows ++ after.added.rows)) (ws ++ w ∷ [])
      spanned_after = subst (λ vs. All (InSpan S d vs) (ws ++ w ∷ [])) (sym (ap₂ (λ x y. x ++ y) common_is added_same)) all_spanned

      pub walk_old : IsWalk (ws ++ w ∷ []) after
      walk_old = record {
        base = k.base;
        is_basis = k.is_basis;
        basis_width = width_of after.basis before.basis t.basis ∙ k.basis_width;
        basis_rows = rows_of after.basis before.basis t.basis ∙ k.basis_rows ∙ ap (λ vs. k.base.rows ++ vs) (sym added_same);
        added_width = width_of after.added before.added t.added ∙ k.added_width;
        common_width = width_of after.common (with_row before.common t.part) t.common ∙ k.common_width;
        seen = more;
        independent = subst (λ vs. IsIndependent S d (k.base.rows ++ vs)) (sym added_same) k.independent;
        in_first =
            subst (All (InSpan S d k.base.rows)) (sym common_is)
            (All-push (InSpan S d k.base.rows) before.common.rows t.part k.in_first parts.0);
        in_second =
            subst (All (InSpan S d (ws ++ w ∷ []))) (sym common_is)
            (All-push (InSpan S d (ws ++ w ∷ [])) before.common.rows t.part (weaker before.common.rows common_vectors k.in_second)
            part_more);
        added_in = subst (All (InSpan S d (ws ++ w ∷ []))) (sym added_same) (weaker before.added.rows added_vectors k.added_in);
        spanned = spanned_after;
      }

    pub walk_more : Takes S before w after → IsWalk (ws ++ w ∷ []) after
    walk_more (inl t) = walk_new t
    walk_more (inr t) = walk_old t

  -- one more of the vectors
  pub walk_next : {X : Type 0} (ws : List (List ℕ)) (before after : Walk X) (i : ℕ) (w : List ℕ) → i < length ws → w ≡ get_or ws i [] →
      IsVector S d w → IsWalk (take i ws) before → Takes S before w after → IsWalk (take (i + 1) ws) after
  walk_next ws before after i w l is w_in k t =
      subst (λ vs. IsWalk vs after) (ap (λ x. take i ws ++ x ∷ []) is ∙ sym (take_more ws i [] l))
      (walk_more (take i ws) before after w k w_in t)

  -- at the end of the walk
  pub walk_whole : {X : Type 0} (ws : Matrix) (walk : Walk X) → IsWalk ws.rows walk → SpansMeeting S us ws walk.common
  walk_whole ws walk k =
      let b = k.is_basis in
      let common_in = spanned_vectors S F d ws.rows walk.common.rows k.seen k.in_second in
      let added_in = spanned_vectors S F d ws.rows walk.added.rows k.seen k.added_in in
      let us_in = spanned_vectors S F d k.base.rows us.rows b.vectors_in b.spans in
      record {
        width = k.common_width;
        vectors = common_in;
        elements = λ x. subst (λ n. InSpan S n walk.common.rows x ↔ (InSpan S d us.rows x × InSpan S d ws.rows x)) (sym k.common_width) (
          λ h. let x_in = span_vector S F d walk.common.rows x common_in h in (
            span_through S F d k.base.rows us.rows x b.vectors_in us_in x_in b.within (span_through S F d walk.common.rows k.base.rows x common_in b.vectors_in x_in k.in_first h),
            span_through S F d walk.common.rows ws.rows x common_in k.seen x_in k.in_second h,
          ),
          λ h. meet S F d k.base.rows walk.added.rows walk.common.rows ws.rows x b.vectors_in added_in common_in k.seen k.independent k.in_first k.spanned (span_through S F d us.rows k.base.rows x us_in b.vectors_in (span_vector S F d us.rows x us_in h.0) b.spans h.0) h.1,
        );
      }

-- after the last of the vectors
pub walk_ended : (S : Scalars) (F : IsField S) (us : Matrix) {X : Type 0} (ws : Matrix) (walk : Walk X) (i : ℕ) → length ws.rows ≤ i →
    IsWalk S F us (take i ws.rows) walk → SpansMeeting S us ws walk.common
walk_ended S F us ws walk i l k = walk_whole S F us ws walk (subst (λ vs. IsWalk S F us vs walk) (take_all i ws.rows l) k)

pub meets_as : (S : Scalars) (dimension : ℕ) (us ws vectors us' ws' : Matrix) → dimension ≡ us.width → us ≡ us' → ws ≡ ws' → SpansMeeting S us ws vectors → (s : Matrix) → HasElements S s (InSpan S dimension vectors.rows) → HasElements S s (λ x. InSpan S us'.width us'.rows x × InSpan S us'.width ws'.rows x)
meets_as S dimension us ws vectors us' ws' w e e' m s h = subst (λ (t : Matrix × Matrix). HasElements S s (λ x. InSpan S t.0.width t.0.rows x × InSpan S t.0.width t.1.rows x)) (ap₂ (λ x y. (x, y)) e e')
    (λ x. let k = subst (λ n. InSpan S s.width s.rows x ↔ InSpan S n vectors.rows x) (w ∙ sym m.width) (h x) in (λ a. (m.elements x).0 (k.0 a), λ b. k.1 ((m.elements x).1 b)))
