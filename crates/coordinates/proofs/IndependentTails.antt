-- Vectors are independent of the first k of a basis exactly where the tails of their coordinates are independent.
use Rattle.std.proofs.Common.{◌≡◌, ℕ, zero, suc, ◌≤◌, ◌+◌, ◌-◌, List, [], ◌∷◌, ◌++◌, length, map, take, drop, refl, sym, ap, ap₂, ◌∙◌}
use Rattle.std.proofs.Common.{subst, arith, All}
use Rattle.std.specs.List.{AllZip}
use Rattle.std.proofs.lemmas.List.{length-map, length-append, length-take-le, length-drop, take-append-drop, drop_at, drop-map}
use Rattle.std.proofs.lemmas.List.{drop-replicate, replicate-append-replicate, map-append}
use Rattle.std.proofs.lemmas.List.Elements.{All-head, All-tail, All-take, All-drop, All-append, All-nil, All-cons, length_all_zip}
use Rattle.vector_spaces.proofs.Independence.{IsIndependent as IsIndependent_of}
use Rattle.vector_spaces.proofs.Splits.{common_is_null}
use Rattle.linear_algebra.specs.Scalars.{Scalars, IsScalar, IsField}
use Rattle.linear_algebra.specs.Vectors.{IsVector, AreVectors, zero_vector, vector_sum, multiple}
use Rattle.linear_algebra.specs.Spans.{combination, Combines, InSpan, IsIndependent}
use Rattle.linear_algebra.proofs.Coordinates.{tuple, list-is, list-null, space}
use Rattle.linear_algebra.proofs.Transfer.{tuples_of, span_to_tuples, independent_to_tuples}
use Rattle.linear_algebra.proofs.VectorLaws.{multiple-vector, vector_sum-vector, vector_sum-zero, zero-vector}
use Rattle.linear_algebra.proofs.Combinations.{combination-sum, combination-multiple, combination-vector, combination-append}
use Rattle.linear_algebra.proofs.Combinations.{combination-push_zeros}
use Rattle.linear_algebra.proofs.IndependenceLaws.{independent_left, independent_right}
use Rattle.coordinates.proofs.Tails.{front_vectors, back_vectors, drop_vector, front_combines, front_of_zero_tail}
use Rattle.coordinates.proofs.Units.{zeros-sum}

pub drop-vector_sum : (S : Scalars) (k : ℕ) (u v : List ℕ) → drop k (vector_sum S u v) ≡ vector_sum S (drop k u) (drop k v)
unfolding vector_sum
drop-vector_sum S zero u v = refl
drop-vector_sum S (suc k) [] v = refl
drop-vector_sum S (suc k) (a ∷ u) [] = nothing (drop k u)
  where
    nothing : (w : List ℕ) → [] ≡ vector_sum S w []
    nothing [] = refl
    nothing (b ∷ w) = refl
drop-vector_sum S (suc k) (a ∷ u) (b ∷ v) = drop-vector_sum S k u v

-- the tail of a combination
drop-combination : (S : Scalars) (n k : ℕ) (cs : List ℕ) (vs : List (List ℕ)) →
    drop k (combination S n cs vs) ≡ combination S (n - k) cs (map (drop k) vs)
unfolding combination
drop-combination S n k [] vs = drop-replicate k n S.zero
drop-combination S n k (c ∷ cs) [] = drop-replicate k n S.zero
drop-combination S n k (c ∷ cs) (v ∷ vs) =
    drop-vector_sum S k (multiple S c v) (combination S n cs vs) ∙ ap₂ (vector_sum S) (drop-map (λ a. S.product c a) k v) (drop-combination S n k cs vs)

module _ (S : Scalars) (F : IsField S) (d : ℕ) where
  -- vectors of which one is in two spans that are independent of each other
  common_is_zero : (us vs : List (List ℕ)) (x : List ℕ) → AreVectors S d us → AreVectors S d vs → IsVector S d x →
      IsIndependent S d (us ++ vs) →
      InSpan S d us x → InSpan S d vs x → x ≡ zero_vector S d
  common_is_zero us vs x h k l i a b =
      list-is S F d x l (common_is_null (space S F d) (tuples_of S F d us) (tuples_of S F d vs) (tuple S F d x)
      (subst (IsIndependent_of (space S F d)) (map-append (tuple S F d) us vs) (independent_to_tuples S F d (us ++ vs) (All-append (IsVector S d) us vs h k) i))
      (span_to_tuples S F d us x h a) (span_to_tuples S F d vs x k b))
      ∙ list-null S F d

  module _ (vs : List (List ℕ)) (basis_vectors : AreVectors S d vs) where
    combines_zero : Combines S d vs (zero_vector S (length vs)) (zero_vector S d)
    unfolding combination
    combines_zero = record {
      one_each = zero-vector S F (length vs);
      gives = combination-push_zeros S F d (length vs) [] vs (All-nil (IsScalar S)) basis_vectors;
    }

    pub combines_sum : (cs ds x y : List ℕ) → Combines S d vs cs x → Combines S d vs ds y →
        Combines S d vs (vector_sum S cs ds) (vector_sum S x y)
    combines_sum cs ds x y p q = record {
      one_each = vector_sum-vector S F (length vs) cs ds p.one_each q.one_each;
      gives = combination-sum S F d (length vs) cs ds vs p.one_each q.one_each basis_vectors ∙ ap₂ (vector_sum S) p.gives q.gives;
    }

    pub combines_multiple : (a : ℕ) (cs x : List ℕ) → IsScalar S a → Combines S d vs cs x → Combines S d vs (multiple S a cs) (multiple S a x)
    combines_multiple a cs x h p = record {
      one_each = multiple-vector S F (length vs) a cs h p.one_each;
      gives = combination-multiple S F d (length vs) a cs vs h p.one_each basis_vectors ∙ ap (multiple S a) p.gives;
    }

    -- combinations of vectors have those combinations of their coordinates
    pub combines_combination : (es : List ℕ) (css xs : List (List ℕ)) → AllZip (Combines S d vs) css xs → All (IsScalar S) es →
        Combines S d vs (combination S (length vs) es css) (combination S d es xs)
    unfolding combination
    combines_combination [] css xs h k = combines_zero
    combines_combination (e ∷ es) [] [] h k = combines_zero
    combines_combination (e ∷ es) [] (x ∷ xs) h k = absurd h
    combines_combination (e ∷ es) (cs ∷ css) [] h k = absurd h
    combines_combination (e ∷ es) (cs ∷ css) (x ∷ xs) h k =
        combines_sum (multiple S e cs) (combination S (length vs) es css) (multiple S e x) (combination S d es xs)
        (combines_multiple e cs x (All-head (IsScalar S) e es k) h.0) (combines_combination es css xs h.1 (All-tail (IsScalar S) e es k))

    combined_vectors : (css xs : List (List ℕ)) → AllZip (Combines S d vs) css xs → AreVectors S d xs
    combined_vectors [] [] h = All-nil (IsVector S d)
    combined_vectors [] (x ∷ xs) h = absurd h
    combined_vectors (cs ∷ css) [] h = absurd h
    combined_vectors (cs ∷ css) (x ∷ xs) h =
        All-cons (IsVector S d) x xs (subst (IsVector S d) h.0.gives (combination-vector S F d cs vs h.0.one_each.entries basis_vectors)) (combined_vectors css xs h.1)

    module _ (k : ℕ) (l : k ≤ length vs) (css xs : List (List ℕ)) (each : AllZip (Combines S d vs) css xs) where
      as_many : length css ≡ length xs
      as_many = length_all_zip (Combines S d vs) css xs each

      pub tails_of_independent : IsIndependent S d (take k vs ++ xs) → IsIndependent S (length vs - k) (map (drop k) css)
      tails_of_independent i gs g =
          let y = combination S d gs xs in
          let long : IsVector S (length xs) gs = subst (λ n. IsVector S n gs) (length-map css (drop k) ∙ as_many) g.one_each in
          let whole = combines_combination gs css xs each gs_in in
          let in_front = front_of_zero_tail S F d vs basis_vectors k l (combination S (length vs) gs css) y whole (drop-combination S (length vs) k gs css ∙ g.gives) in
          let zero : y ≡ zero_vector S d = common_is_zero (take k vs) xs y fronts many
          (combination-vector S F d gs xs gs_in many) i
          (record { coefficients = take k (combination S (length vs) gs css); combine = in_front })
          (record { coefficients = gs; combine = record { one_each = long; gives = refl } }) in
          independent_right S F d (take k vs) xs fronts many i gs (record { one_each = long; gives = zero })
          ∙ ap (zero_vector S) (sym (length-map css (drop k) ∙ as_many))
        where
          gs_in : All (IsScalar S) gs
          gs_in = g.one_each.entries

          many : AreVectors S d xs
          many = combined_vectors css xs each

          fronts : AreVectors S d (take k vs)
          fronts = front_vectors S F d vs basis_vectors k l

      pub independent_of_tails : IsIndependent S d vs → IsIndependent S (length vs - k) (map (drop k) css) →
          IsIndependent S d (take k vs ++ xs)
      unfolding combination
      independent_of_tails b i fs g =
          let n = length vs in
          let es = take k fs in
          let gs = drop k fs in
          let zs = zero_vector S (n - k) in
          let x = combination S d es (take k vs) in
          let y = combination S d gs xs in
          let cs = combination S n gs css in
          let front_long : length (take k vs) ≡ k = length-take-le k vs l in
          let whole_long : length fs ≡ length (take k vs) + length xs = g.one_each.length_is ∙ length-append (take k vs) xs in
          let es_in : IsVector S (length (take k vs)) es = record { length_is = length-take-le k fs (omega arith) ∙ sym front_long; entries = All-take (IsScalar S) k fs g.one_each.entries } in
          let gs_in : IsVector S (length xs) gs = record { length_is = (let e = length-drop k fs in omega arith); entries = All-drop (IsScalar S) k fs g.one_each.entries } in
          let first : Combines S d vs (es ++ zs) x = front_combines S F d vs basis_vectors k l es x (record { one_each = es_in; gives = refl }) in
          let second : Combines S d vs cs y = combines_combination gs css xs each gs_in.entries in
          let sum : vector_sum S x y ≡ zero_vector S d =
          sym (combination-append S F d es gs (take k vs) xs es_in gs_in.entries fronts many) ∙ ap (λ t. combination S d t (take k vs ++ xs)) (take-append-drop k fs) ∙ g.gives in
          let both = combines_sum (es ++ zs) cs x y first second in
          let coordinates : vector_sum S (es ++ zs) cs ≡ zero_vector S n = b (vector_sum S (es ++ zs) cs) (record { one_each = both.one_each; gives = both.gives ∙ sum }) in
          let tail : combination S (n - k) gs (map (drop k) css) ≡ zs =
          sym (drop-combination S n k gs css) ∙ sym (zeros-sum S F (n - k) (drop k cs) (drop_vector S F n k cs second.one_each))
          ∙ ap (λ t. vector_sum S t (drop k cs)) (sym (drop_at es zs k (es_in.length_is ∙ front_long))) ∙ sym (drop-vector_sum S k (es ++ zs) cs)
          ∙ ap (drop k) coordinates ∙ drop-replicate k n S.zero in
          let lengths : length (map (drop k) css) ≡ length xs = length-map css (drop k) ∙ as_many in
          let gs_zero : gs ≡ zero_vector S (length xs) = i gs (record { one_each = subst (λ m. IsVector S m gs) (sym lengths) gs_in; gives = tail }) ∙ ap (zero_vector S) lengths in
          let y_zero : y ≡ zero_vector S d = ap (λ t. combination S d t xs) gs_zero ∙ zeros_combine in
          let x_in : IsVector S d x = combination-vector S F d es (take k vs) es_in.entries fronts in
          let x_zero : x ≡ zero_vector S d = sym (vector_sum-zero S F d x x_in) ∙ ap (vector_sum S x) (sym y_zero) ∙ sum in
          let es_zero : es ≡ zero_vector S (length (take k vs)) = independent_left S F d (take k vs) (drop k vs) fronts backs
          (subst (IsIndependent S d) (sym (take-append-drop k vs)) b) es (record { one_each = es_in; gives = x_zero }) in
          sym (take-append-drop k fs) ∙ ap₂ (λ t u. t ++ u) es_zero gs_zero
          ∙ replicate-append-replicate (length (take k vs)) (length xs) S.zero ∙ ap (zero_vector S) (sym (length-append (take k vs) xs))
        where
          many : AreVectors S d xs
          many = combined_vectors css xs each

          fronts : AreVectors S d (take k vs)
          fronts = front_vectors S F d vs basis_vectors k l

          backs : AreVectors S d (drop k vs)
          backs = back_vectors S F d vs basis_vectors k l

          zeros_combine : combination S d (zero_vector S (length xs)) xs ≡ zero_vector S d
          zeros_combine = combination-push_zeros S F d (length xs) [] xs (All-nil (IsScalar S)) many
