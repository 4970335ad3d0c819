-- The basis of what all sets of a family span: it is empty, or its first row is a common point.
use Rattle.std.proofs.Common.{◌≡◌, ◌≢◌, ℕ, ◌<◌, inl, List, [], ◌∷◌, length, get_or, refl, sym, ap, ◌∙◌, subst, arith}
use Rattle.std.proofs.lemmas.List.Elements.{All-cons, All-get_or, All-nil, All-tail}
use Rattle.field_core.specs.Matrix.{Matrix}
use Rattle.linear_algebra.proofs.IndependenceLaws.{independent_left, pushed_is_outside}
use Rattle.linear_algebra.proofs.SpanLaws.{span_member, span_zero}
use Rattle.linear_algebra.specs.Scalars.{IsField, Scalars}
use Rattle.linear_algebra.specs.Spans.{InSpan, IsIndependent, combination}
use Rattle.linear_algebra.specs.Vectors.{AreVectors, IsVector, zero_vector}
use Rattle.classes.specs.Partitions.{HasNoCommon}
use Rattle.families.specs.Families.{IsCommon, SetFamily}
use Rattle.quotients.specs.Subspaces.{HasElements}
use Rattle.augment.specs.Divided.{IsCommonPoint}

-- no vectors span zero alone
none_spanned : (S : Scalars) (d : ℕ) (cs v : List ℕ) → combination S d cs [] ≡ v → v ≡ zero_vector S d
unfolding combination
none_spanned S d [] v e = sym e
none_spanned S d (c ∷ cs) v e = sym e

-- the first of independent vectors isn't zero
first_not_zero : (S : Scalars) (F : IsField S) (d : ℕ) (v : List ℕ) (vs : List (List ℕ)) → IsVector S d v → AreVectors S d vs →
    IsIndependent S d (v ∷ vs) → v ≢ zero_vector S d
first_not_zero S F d v vs h hs i e =
    let alone = independent_left S F d (v ∷ []) vs (All-cons (IsVector S d) v [] h (All-nil (IsVector S d))) hs i in
    pushed_is_outside S F d [] v (All-nil (IsVector S d)) h alone
    (subst (InSpan S d []) (sym e) (span_zero S F d [] (All-nil (IsVector S d))))

module _ (S : Scalars) (f : SetFamily) (n : ℕ) (w : n ≡ f.problem.dimension) where
  pub no_common : (rows : List (List ℕ)) → HasElements S (record { width = n; rows = rows }) (IsCommon S f) → length rows ≡ 0 →
      HasNoCommon S f
  no_common (r ∷ rows) h e v i c = absurd (omega arith)
  no_common [] h e v i c =
      let s = (h v).1 c in
      none_spanned S n s.coefficients v s.combine.gives ∙ subst (λ m. zero_vector S n ≡ zero_vector S m) w refl

  pub first_common : (F : IsField S) (rows : List (List ℕ)) → HasElements S (record { width = n; rows = rows }) (IsCommon S f) →
      AreVectors S n rows → IsIndependent S n rows → 0 < length rows → IsCommonPoint S f (get_or rows 0 [])
  first_common F [] h a i b = absurd (omega arith)
  first_common F (v ∷ rows) h a i b =
      let here : IsVector S n v = All-get_or (IsVector S n) (v ∷ rows) 0 [] b a in
      record {
        vector = subst (λ m. IsVector S m v) w here;
        not_zero = subst (λ m. v ≢ zero_vector S m) w (first_not_zero S F n v rows here (All-tail (IsVector S n) v rows a) i);
        common = (h v).0 (span_member S F n (v ∷ rows) v a (inl refl));
      }

-- the same as the calls make it: the basis shows the rows of the space
module _ (S : Scalars) (f : SetFamily) (space basis : Matrix) (w : space.width ≡ f.problem.dimension)
    (h : HasElements S space (IsCommon S f))
    (b : basis ≡ space) where
  pub none_common : length basis.rows ≡ 0 → HasNoCommon S f
  none_common n = no_common S f space.width w space.rows h (subst (λ (m : Matrix). length m.rows ≡ 0) b n)

  pub row_common : IsField S → AreVectors S space.width space.rows → IsIndependent S space.width space.rows → 0 < length basis.rows →
      (x row : List ℕ) → x ≡ row → row ≡ get_or basis.rows 0 [] → IsCommonPoint S f x
  row_common F v i l x row e r = subst (IsCommonPoint S f) (sym (e ∙ r ∙ ap (λ (m : Matrix). get_or m.rows 0 []) b))
      (first_common S f space.width w F space.rows h v i (subst (λ (m : Matrix). 0 < length m.rows) b l))
