-- What an insertion relies on: a vector in the span is combined, and a step for one outside keeps the basis.
use Rattle.field_core.specs.Matrix.{Matrix}
use Rattle.field_core.proofs.Values.{vector_of_values}
use Rattle.echelon.proofs.Eliminations.{removed_by_next}
use Rattle.echelon.proofs.Transfers.{reduced-vector, IsElimination, coordinate, eliminated-vector, entry-scalar, reduced-push, element-entry, tuple-eliminated, coordinate-linear}
use Rattle.echelon.proofs.Residue.{element-minus, pivot_in, reduced_at_pivot}
use Rattle.linear_algebra.proofs.Elements.{scalar_field, product-zero}
use Rattle.std.proofs.Common.{◌≡◌, ℕ, suc, ◌+◌, ◌<◌, ◌≤◌, List, [], ◌∷◌, ◌++◌, length, map, get_or, refl, sym, ap, ap₂, ◌∙◌, subst, arith, ◌⊎◌, inl, inr}
use Rattle.std.proofs.lemmas.Bool.{cases_lt}
use Rattle.std.proofs.lemmas.List.Elements.{All-append, All-cons, All-nil}
use Rattle.std.proofs.lemmas.List.{get_or-replicate, length-replicate, get_or-map, length-map, get_or_append_left, get_or_push, take-append-le, take_all, length-append}
use Rattle.vector_spaces.proofs.Space.{null-plus, move, linear}
use Rattle.linear_algebra.specs.Scalars.{Scalars, IsScalar, IsField}
use Rattle.linear_algebra.specs.Vectors.{IsVector, AreVectors, zero_vector, vector_sum, multiple}
use Rattle.linear_algebra.specs.Spans.{combination, Combines, InSpan, IsIndependent}
use Rattle.linear_algebra.proofs.Coordinates.{tuple, space, list-is, list-tuple, element, element-product, list-null}
use Rattle.linear_algebra.proofs.Combinations.{combination-multiple, combination-vector, combination-append}
use Rattle.linear_algebra.proofs.IndependenceLaws.{independent_push}
use Rattle.linear_algebra.proofs.VectorLaws.{multiple-vector, tuple-zero, tuple-sum, tuple-multiple, zero-vector, vector_sum-vector}
use Rattle.echelon.specs.Leads.{LeadsAt}
use Rattle.echelon.specs.Eliminations.{reduced, taken, IsStep, IsEchelon, IsNextStep, IsNegated, eliminated}
use Rattle.echelon.specs.declared.step.Step.{Step}
use Rattle.echelon.proofs.Reduction.{taken-vectors, span_removed, is_elimination}

module _ (S : Scalars) (F : IsField S) (d : ℕ) where
  -- v + y is zero, and m is minus one: m y is v
  negated_sum : (v y : List ℕ) (m : ℕ) → IsVector S d v → IsVector S d y → IsScalar S m → S.sum S.one m ≡ S.zero → vector_sum S v y ≡ zero_vector S d → multiple S m y ≡ v
  negated_sum v y m h k l e z =
      let f = scalar_field S F in
      let s = space S F d in
      let gone : s.null ≡ s.◌⊕◌ (tuple S F d v) (tuple S F d y) = sym (tuple-zero S F d) ∙ ap (tuple S F d) (sym z) ∙ tuple-sum S F d v y h k in
      let moved : s.◌·◌ f.minus (tuple S F d y) ≡ tuple S F d v = sym (null-plus f s _) ∙ move f s s.null (tuple S F d y) (tuple S F d v) gone in
      list-is S F d (multiple S m y) (multiple-vector S F d m y l k) (tuple-multiple S F d m y l k ∙ ap (λ c. s.◌·◌ c (tuple S F d y)) (element-minus S F m l e) ∙ moved)
      ∙ list-tuple S F d v h

  -- coefficients of what made v zero, negated, combine to v
  pub old_combines : (ws : List (List ℕ)) (v cs ds : List ℕ) → AreVectors S d ws → IsVector S d v → IsVector S (length ws) cs → vector_sum S v (combination S d cs ws) ≡ zero_vector S d → IsNegated S cs ds → Combines S d ws ds v
  old_combines ws v cs ds w h k z n = record {
    one_each = subst (IsVector S (length ws)) (sym n.negated) (multiple-vector S F (length ws) n.factor cs n.scalar k);
    gives = ap (λ es. combination S d es ws) n.negated ∙ combination-multiple S F d (length ws) n.factor cs ws n.scalar k w
        ∙ negated_sum v (combination S d cs ws) n.factor h (combination-vector S F d cs ws k.entries w) n.scalar n.minus_one z;
  }

  module _ {X : Type 0} (ss : List (Step X)) (e : IsEchelon S d ss) where
    -- what leads after the reduction is outside the span
    pub outside : (v : List ℕ) (p : ℕ) → IsVector S d v → LeadsAt S (reduced S ss v) p → ¬ (InSpan S d (taken ss) v)
    outside v p h l c = l.not_zero (ap (λ w. get_or w p 0) (span_removed S F d ss e v h c) ∙ get_or-replicate d p S.zero 0 (let z = ap length (span_removed S F d ss e v h c) in let m = length-replicate d S.zero in let q = l.within in omega arith))

pub taken-push : {X : Type 0} (ss : List (Step X)) (s : Step X) → taken (ss ++ s ∷ []) ≡ taken ss ++ s.vector ∷ []
taken-push [] s = refl
taken-push (t ∷ ss) s = ap (λ vs. t.vector ∷ vs) (taken-push ss s)

pub length-taken : {X : Type 0} (ss : List (Step X)) → length (taken ss) ≡ length ss
length-taken [] = refl
length-taken (s ∷ ss) = ap suc (length-taken ss)

-- coefficients that end within the first vectors don't see the others
pub combination-front : (S : Scalars) (d : ℕ) (cs : List ℕ) (vs ws : List (List ℕ)) → length cs ≤ length vs → combination S d cs (vs ++ ws) ≡ combination S d cs vs
unfolding combination
combination-front S d [] vs ws h = refl
combination-front S d (c ∷ cs) [] ws h = absurd (omega arith)
combination-front S d (c ∷ cs) (v ∷ vs) ws h = ap (vector_sum S (multiple S c v)) (combination-front S d cs vs ws (omega arith))

combination-one : (S : Scalars) (d c : ℕ) (v : List ℕ) → combination S d (c ∷ []) (v ∷ []) ≡ vector_sum S (multiple S c v) (zero_vector S d)
unfolding combination
combination-one S d c v = refl

module _ (S : Scalars) (F : IsField S) (d : ℕ) {X : Type 0} (ss : List (Step X)) (e : IsEchelon S d ss) (s : Step X) where
  -- an old step, with one more behind
  old_step : (i : ℕ) (t : Step X) → i < length ss → IsStep S d (ss ++ s ∷ []) i (get_or ss i t)
  old_step i t h =
      let r = e.steps i t h in record {
        vector = r.vector;
        row = r.row;
        coefficients = r.coefficients;
        made = ap (combination S d (get_or ss i t).coefficients) (taken-push ss s) ∙ combination-front S d (get_or ss i t).coefficients (taken ss) (s.vector ∷ []) (let a = r.coefficients.length_is in let b = length-taken ss in omega arith) ∙ r.made;
        minus_one = r.minus_one;
        leads = r.leads;
        zero_at_earlier = λ j u l. ap (λ (q : Step X). get_or (get_or ss i t).row q.pivot 0) (get_or_append_left ss (s ∷ []) u j (omega arith)) ∙ r.zero_at_earlier j u l;
        removes = ap (λ ts. reduced S ts (get_or ss i t).vector) (take-append-le (i + 1) ss (s ∷ []) (omega arith)) ∙ r.removes;
      }

  module _ (v rest : List ℕ) (p : ℕ) (cs : List ℕ) (h : IsVector S d v) (is_rest : rest ≡ reduced S ss v) (sum : rest ≡ vector_sum S v (combination S d cs (taken ss))) (k : IsVector S (length ss) cs) (l : LeadsAt S rest p) (n : IsNextStep S v rest p cs s) where
    rest_in : IsVector S d rest
    rest_in = subst (IsVector S d) (sym is_rest) (reduced-vector S F d ss v (is_elimination S F d ss e) h)

    p_in : p < d
    p_in = subst (λ m. p < m) rest_in.length_is l.within

    row_in : IsVector S d s.row
    row_in = subst (IsVector S d) (sym n.row) (multiple-vector S F d n.factor rest n.scalar rest_in)

    entry : (q : ℕ) → q < d → get_or s.row q 0 ≡ S.product n.factor (get_or rest q 0)
    entry q m = ap (λ w. get_or w q 0) n.row ∙ get_or-map (λ a. S.product n.factor a) rest q 0 0 (let z = rest_in.length_is in omega arith)

    zero_entry : (q : ℕ) → q < d → get_or rest q 0 ≡ S.zero → get_or s.row q 0 ≡ S.zero
    zero_entry q m z = entry q m ∙ ap (S.product n.factor) z ∙ product-zero S F n.factor n.scalar

    minus_at_pivot : S.sum S.one (get_or s.row p 0) ≡ S.zero
    minus_at_pivot = ap (S.sum S.one) (entry p p_in) ∙ n.minus_one

    leads_at_pivot : LeadsAt S s.row p
    leads_at_pivot = record {
      within = let z = row_in.length_is in let q = p_in in omega arith;
      not_zero = λ z. F.one≢zero (sym (F.sum-zero S.one F.one_in) ∙ ap (S.sum S.one) (sym z) ∙ minus_at_pivot);
      zero_before = λ q m. zero_entry q (let z = p_in in omega arith) (l.zero_before q m);
    }

    -- c (v + y), as the combination of the step gives it
    distributed : (c : ℕ) (y : List ℕ) → IsScalar S c → IsVector S d y → vector_sum S (multiple S c y) (vector_sum S (multiple S c v) (zero_vector S d)) ≡ multiple S c (vector_sum S v y)
    distributed c y a b =
        let cy = multiple-vector S F d c y a b in
        let cv = multiple-vector S F d c v a h in
        let z = zero-vector S F d in
        let w = vector_sum-vector S F d (multiple S c v) (zero_vector S d) cv z in
        list-is S F d _ (vector_sum-vector S F d _ _ cy w) (simp (tuple-sum S F d (multiple S c y) (vector_sum S (multiple S c v) (zero_vector S d)) cy w, tuple-sum S F d (multiple S c v) (zero_vector S d) cv z, tuple-multiple S F d c y a b, tuple-multiple S F d c v a h, tuple-zero S F d, tuple-multiple S F d c (vector_sum S v y) a (vector_sum-vector S F d v y h b), tuple-sum S F d v y h b, linear))
        ∙ list-tuple S F d _ (multiple-vector S F d c (vector_sum S v y) a (vector_sum-vector S F d v y h b))

    new_coefficients : IsVector S (length ss + 1) s.coefficients
    new_coefficients = subst (IsVector S (length ss + 1)) (sym n.coefficients) (record {
      length_is = length-append (multiple S n.factor cs) (n.factor ∷ []) ∙ ap (λ m. m + 1) (length-map cs (λ a. S.product n.factor a) ∙ k.length_is);
      entries = All-append (IsScalar S) (multiple S n.factor cs) (n.factor ∷ []) (multiple-vector S F (length ss) n.factor cs n.scalar k).entries (All-cons (IsScalar S) n.factor [] n.scalar (All-nil (IsScalar S)));
    })

    made_by_coefficients : combination S d s.coefficients (taken (ss ++ s ∷ [])) ≡ s.row
    made_by_coefficients =
        let ws : List (List ℕ) = taken ss in
        let w = taken-vectors S F d ss e in
        let y = combination-vector S F d cs ws k.entries w in
        ap₂ (combination S d) n.coefficients (taken-push ss s ∙ ap (λ x. ws ++ x ∷ []) n.vector)
        ∙ combination-append S F d (multiple S n.factor cs) (n.factor ∷ []) ws (v ∷ []) (subst (λ m. IsVector S m (multiple S n.factor cs)) (sym (length-taken ss)) (multiple-vector S F (length ss) n.factor cs n.scalar k)) (All-cons (IsScalar S) n.factor [] n.scalar (All-nil (IsScalar S))) w (All-cons (IsVector S d) v [] h (All-nil (IsVector S d)))
        ∙ ap₂ (vector_sum S) (combination-multiple S F d (length ss) n.factor cs ws n.scalar k w) (combination-one S d n.factor v)
        ∙ distributed n.factor (combination S d cs ws) n.scalar y ∙ ap (multiple S n.factor) (sym sum) ∙ sym n.row

    element_at_pivot : (scalar_field S F).◌⊠◌ (element S F n.factor) (coordinate S F d p (tuple S F d rest)) ≡ (scalar_field S F).minus
    element_at_pivot =
        let a = entry-scalar S F d rest p rest_in p_in in
        ap ((scalar_field S F).◌⊠◌ (element S F n.factor)) (sym (element-entry S F d rest p rest_in p_in)) ∙ sym (element-product S F n.factor (get_or rest p 0) n.scalar a)
        ∙ element-minus S F (S.product n.factor (get_or rest p 0)) (F.product_in n.factor (get_or rest p 0) n.scalar a) n.minus_one

    new_removed : eliminated S s rest ≡ zero_vector S d
    new_removed =
        let i : IsElimination S F d s = record { row_in = row_in; pivot_in = subst (λ m. m < d) (sym n.pivot) p_in } in
        list-is S F d (eliminated S s rest) (eliminated-vector S F d s rest i rest_in) (tuple-eliminated S F d s rest i rest_in
        ∙ ap₂ (λ q t. (space S F d).◌⊕◌ (tuple S F d rest) ((space S F d).◌·◌ (coordinate S F d q (tuple S F d rest)) t)) n.pivot (ap (tuple S F d) n.row ∙ tuple-multiple S F d n.factor rest n.scalar rest_in)
        ∙ removed_by_next (scalar_field S F) (space S F d) (coordinate S F d) (coordinate-linear S F d) p (element S F n.factor) (tuple S F d rest) element_at_pivot)
        ∙ list-null S F d

    new_step : IsStep S d (ss ++ s ∷ []) (length ss) s
    new_step = record {
      vector = subst (IsVector S d) (sym n.vector) h;
      row = row_in;
      coefficients = new_coefficients;
      made = made_by_coefficients;
      minus_one = ap (λ q. S.sum S.one (get_or s.row q 0)) n.pivot ∙ minus_at_pivot;
      leads = subst (LeadsAt S s.row) (sym n.pivot) leads_at_pivot;
      zero_at_earlier = λ j u m. ap (λ (t : Step X). get_or s.row t.pivot 0) (get_or_append_left ss (s ∷ []) u j m)
          ∙ zero_entry (get_or ss j u).pivot (pivot_in S F d ss e j u m) (ap (λ w. get_or w (get_or ss j u).pivot 0) is_rest ∙ reduced_at_pivot S F d ss e v j u h m);
      removes = ap (λ ts. reduced S ts s.vector) (take_all (length ss + 1) (ss ++ s ∷ []) (let z = length-append ss (s ∷ []) in omega arith))
          ∙ reduced-push S ss s s.vector ∙ ap (λ x. eliminated S s (reduced S ss x)) n.vector ∙ ap (eliminated S s) (sym is_rest) ∙ new_removed;
    }

    -- the basis with one more step
    pub next_is_echelon : IsEchelon S d (ss ++ s ∷ [])
    next_is_echelon = record {
      steps = λ i t m. go i t (cases_lt i (length ss)) (let z = length-append ss (s ∷ []) in omega arith);
      independent = subst (IsIndependent S d) (sym (taken-push ss s ∙ ap (λ x. taken ss ++ x ∷ []) n.vector)) (independent_push S F d (taken ss) v (taken-vectors S F d ss e) h e.independent (outside S F d ss e v p h (subst (λ w. LeadsAt S w p) is_rest l)));
    }
      where
        go : (i : ℕ) (t : Step X) → (i < length ss) ⊎ (length ss ≤ i) → i < length ss + 1 → IsStep S d (ss ++ s ∷ []) i (get_or (ss ++ s ∷ []) i t)
        go i t (inl m) q = subst (IsStep S d (ss ++ s ∷ []) i) (sym (get_or_append_left ss (s ∷ []) t i m)) (old_step i t m)
        go i t (inr m) q =
            let same : length ss ≡ i = omega arith in
            subst (λ j. IsStep S d (ss ++ s ∷ []) j (get_or (ss ++ s ∷ []) j t)) same
            (subst (IsStep S d (ss ++ s ∷ []) (length ss)) (sym (get_or_push ss s t (length ss) refl)) new_step)

-- what is known of the remainder of a vector
pub record IsFound {X : Type 0} (S : Scalars) (d : ℕ) (ss : List (Step X)) (v rest cs : List ℕ) : Type 0 where
  pub vector : IsVector S d v
  pub rest_is : rest ≡ reduced S ss v
  pub sum : rest ≡ vector_sum S v (combination S d cs (taken ss))
  pub coefficients : IsVector S (length ss) cs

pub found : (S : Scalars) {X Y : Type 0} (f : X → ℕ) → ((x : X) → IsScalar S (f x)) → (d : ℕ) (ss steps : List (Step Y)) (v cs : List X) (rest : List ℕ) → steps ≡ ss → length v ≡ d → length cs ≡ length steps →
    rest ≡ reduced S steps (map f v) → rest ≡ vector_sum S (map f v) (combination S (length v) (map f cs) (taken steps)) → IsFound S d ss (map f v) rest (map f cs)
found S f small d ss steps v cs rest same long as_many is_rest is_sum = record {
  vector = vector_of_values S f small v d long;
  rest_is = is_rest ∙ ap (λ ts. reduced S ts (map f v)) same;
  sum = is_sum ∙ ap₂ (λ n ts. vector_sum S (map f v) (combination S n (map f cs) (taken ts))) long same;
  coefficients = vector_of_values S f small cs (length ss) (as_many ∙ ap length same);
}

module _ (S : Scalars) (F : IsField S) (d : ℕ) {X : Type 0} (ss : List (Step X)) (e : IsEchelon S d ss) (v rest cs : List ℕ) (found_it : IsFound S d ss v rest cs) where
  pub insert_old : {Y : Type 0} (f : Y → ℕ) (shown : List Y) (ds : List ℕ) → map f shown ≡ rest → map f shown ≡ zero_vector S (length shown) → IsNegated S cs ds → Combines S d (taken ss) ds v
  insert_old f shown ds is z n =
      let long : length shown ≡ d = sym (length-map shown f) ∙ ap length (is ∙ found_it.rest_is) ∙ (reduced-vector S F d ss v (is_elimination S F d ss e) found_it.vector).length_is in
      old_combines S F d (taken ss) v cs ds (taken-vectors S F d ss e) found_it.vector (subst (λ n. IsVector S n cs) (sym (length-taken ss)) found_it.coefficients)
      (sym found_it.sum ∙ sym is ∙ z ∙ ap (zero_vector S) long) n

  module _ (shown : List ℕ) (p : ℕ) (is : shown ≡ rest) (l : LeadsAt S shown p) where
    pub insert_outside : ¬ (InSpan S d (taken ss) v)
    insert_outside = outside S F d ss e v p found_it.vector (subst (λ w. LeadsAt S w p) (is ∙ found_it.rest_is) l)

    pub insert_new : (s : Step X) → IsNextStep S v rest p cs s → IsEchelon S d (ss ++ s ∷ [])
    insert_new s n = next_is_echelon S F d ss e s v rest p cs found_it.vector found_it.rest_is found_it.sum found_it.coefficients (subst (λ w. LeadsAt S w p) is l) n

-- what was found by steps of these values holds of the steps themselves
module _ (S : Scalars) {X : Type 0} (d n : ℕ) (ss shown : List (Step X)) where
  pub step_taken : (now : List (Step X)) (s : Step X) → n ≡ d → shown ≡ ss → now ≡ ss ++ s ∷ [] → IsEchelon S n (shown ++ s ∷ []) → IsEchelon S d now
  step_taken now s e a b h = subst (IsEchelon S d) (ap (λ ts. ts ++ s ∷ []) a ∙ sym b) (subst (λ m. IsEchelon S m (shown ++ s ∷ [])) e h)

  pub still_outside : (v : List ℕ) → n ≡ d → shown ≡ ss → ¬ (InSpan S n (taken shown) v) → ¬ (InSpan S d (taken ss) v)
  still_outside v e a h = subst (λ ts. InSpan S d (taken ts) v → ⊥) a (subst (λ m. InSpan S m (taken shown) v → ⊥) e h)

pub matrix_more : {X : Type 0} (d : ℕ) (ss now : List (Step X)) (s : Step X) (v : List ℕ) → now ≡ ss ++ s ∷ [] → s.vector ≡ v →
    (let w : Matrix = record { width = d; rows = taken now } in w) ≡ record { width = d; rows = taken ss ++ v ∷ [] }
matrix_more d ss now s v is is_v = ap (λ (rows : List (List ℕ)). let w : Matrix = record { width = d; rows = rows } in w) (ap taken is ∙ taken-push ss s ∙ ap (λ x. taken ss ++ x ∷ []) is_v)
