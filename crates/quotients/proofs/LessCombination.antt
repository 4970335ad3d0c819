-- A combination of rows is taken away, row by row.
use Rattle.std.proofs.Common.{◌≡◌, ℕ, ◌+◌, ◌<◌, List, [], ◌∷◌, ◌++◌, length, get_or, take, take_all, ◌≤◌, sym, ap, ap₂, ◌∙◌, subst, arith, All}
use Rattle.std.proofs.lemmas.List.{take_more, length-take-le}
use Rattle.std.proofs.lemmas.List.Elements.{All-get_or, All-take, All-cons, All-nil}
use Rattle.vector_spaces.proofs.Space.{Field, Space, linear}
use Rattle.linear_algebra.specs.Scalars.{Scalars, IsScalar, IsField}
use Rattle.linear_algebra.specs.Spans.{combination}
use Rattle.linear_algebra.specs.Vectors.{IsVector, AreVectors, vector_sum, multiple}
use Rattle.linear_algebra.proofs.Combinations.{combination-append, combination-vector}
use Rattle.linear_algebra.proofs.Coordinates.{tuple, list, space, element, element-sum, element-zero}
use Rattle.linear_algebra.proofs.Elements.{scalar_field}
use Rattle.linear_algebra.proofs.VectorLaws.{tuple-sum, tuple-multiple, list-sum, vector_sum-vector, multiple-vector, vector_sum-zero}

module _ {K V : Type 0} (f : Field K) (s : Space f V) where
  infixl 65 ◌⊞◌
  infixl 65 ◌⊕◌
  infixl 70 ◌·◌
  open f use {zero as o, ◌⊞◌}
  open s use {◌⊕◌, ◌·◌}

  both_cancel : (l c r : V) (a b : K) → a ⊞ b ≡ o → (l ⊕ b · r) ⊕ (c ⊕ a · r) ≡ l ⊕ c
  both_cancel l c r a b e = (simp linear) ∙ ap (λ t. (l ⊕ c) ⊕ t · r) e ∙ simp linear

module _ (S : Scalars) (F : IsField S) (d : ℕ) where
  moved_between : (l x r : List ℕ) (a b : ℕ) → IsVector S d l → IsVector S d x → IsVector S d r → IsScalar S a → IsScalar S b → S.sum a b ≡ S.zero →
      vector_sum S (vector_sum S l (multiple S b r)) (vector_sum S x (multiple S a r)) ≡ vector_sum S l x
  moved_between l x r a b l_in x_in r_in a_in b_in e =
      let s = space S F d in
      let t = tuple S F d in
      let br_in = multiple-vector S F d b r b_in r_in in
      let ar_in = multiple-vector S F d a r a_in r_in in
      let left_in = vector_sum-vector S F d l (multiple S b r) l_in br_in in
      let right_in = vector_sum-vector S F d x (multiple S a r) x_in ar_in in
      let null : (scalar_field S F).◌⊞◌ (element S F a) (element S F b) ≡ (scalar_field S F).zero = sym (element-sum S F a b a_in b_in) ∙ ap (element S F) e ∙ element-zero S F in
      sym (list-sum S F d (vector_sum S l (multiple S b r)) (vector_sum S x (multiple S a r)) left_in right_in)
      ∙ ap (list S d) (ap₂ s.◌⊕◌ (tuple-sum S F d l (multiple S b r) l_in br_in ∙ ap (s.◌⊕◌ (t l)) (tuple-multiple S F d b r b_in r_in)) (tuple-sum S F d x (multiple S a r) x_in ar_in ∙ ap (s.◌⊕◌ (t x)) (tuple-multiple S F d a r a_in r_in))
      ∙ both_cancel (scalar_field S F) s (t l) (t x) (t r) (element S F a) (element S F b) null)
      ∙ list-sum S F d l x l_in x_in

  single : (a : ℕ) (r : List ℕ) → IsScalar S a → IsVector S d r → combination S d (a ∷ []) (r ∷ []) ≡ multiple S a r
  unfolding combination
  single a r h k = vector_sum-zero S F d (multiple S a r) (multiple-vector S F d a r h k)

  module _ (cs : List ℕ) (rows : List (List ℕ)) where
    -- v is what is left and the combination of the first i rows
    pub record IsLessFirst (v : List ℕ) (i : ℕ) (left : List ℕ) : Type 0 where
      pub vector : IsVector S d left
      pub sum : v ≡ vector_sum S left (combination S d (take i cs) (take i rows))

    pub less_none : (v left : List ℕ) → IsVector S d v → left ≡ v → IsLessFirst v 0 left
    unfolding combination
    less_none v left h e = subst (IsLessFirst v 0) (sym e) (record { vector = h; sum = sym (vector_sum-zero S F d v h) })

    pub less_more : All (IsScalar S) cs → AreVectors S d rows → length cs ≡ length rows → (v left after r : List ℕ) (i a b : ℕ) → i < length rows → a ≡ get_or cs i 0 → r ≡ get_or rows i [] → IsScalar S b → S.sum a b ≡ S.zero → after ≡ vector_sum S left (multiple S b r) → IsLessFirst v i left → IsLessFirst v (i + 1) after
    less_more cs_in rows_in one_each v left after r i a b l is_a is_r b_in e is_after h =
        let c = combination S d (take i cs) (take i rows) in
        let fc = All-take (IsScalar S) i cs cs_in in
        let fr = All-take (IsVector S d) i rows rows_in in
        let k : i < length cs = (omega arith) in
        let a_in : IsScalar S a = subst (IsScalar S) (sym is_a) (All-get_or (IsScalar S) cs i 0 k cs_in) in
        let r_in : IsVector S d r = subst (IsVector S d) (sym is_r) (All-get_or (IsVector S d) rows i [] l rows_in) in
        let more : combination S d (take (i + 1) cs) (take (i + 1) rows) ≡ vector_sum S c (multiple S a r) =
        ap₂ (combination S d) (take_more cs i 0 k ∙ ap (λ x. take i cs ++ x ∷ []) (sym is_a)) (take_more rows i [] l ∙ ap (λ x. take i rows ++ x ∷ []) (sym is_r))
        ∙ combination-append S F d (take i cs) (a ∷ []) (take i rows) (r ∷ []) (record { length_is = length-take-le i cs (let w = k in omega arith) ∙ sym (length-take-le i rows (omega arith)); entries = fc }) (All-cons (IsScalar S) a [] a_in (All-nil (IsScalar S))) fr (All-cons (IsVector S d) r [] r_in (All-nil (IsVector S d)))
        ∙ ap (vector_sum S c) (single a r a_in r_in) in
        record {
          vector = subst (IsVector S d) (sym is_after) (vector_sum-vector S F d left (multiple S b r) h.vector (multiple-vector S F d b r b_in r_in));
          sum = h.sum ∙ sym (ap₂ (vector_sum S) is_after more ∙ moved_between left c r a b h.vector (combination-vector S F d (take i cs) (take i rows) fc fr) r_in a_in b_in e);
        }

    pub less_all : (v left : List ℕ) (i : ℕ) → length rows ≤ i → length cs ≡ length rows → IsLessFirst v i left → v ≡ vector_sum S left (combination S d cs rows)
    less_all v left i l e h = h.sum ∙ ap (vector_sum S left) (ap₂ (combination S d) (take_all i cs (omega arith)) (take_all i rows l))
