-- A combination of a list in which a vector is replaced.
use Rattle.std.proofs.Common.{◌≡◌, ℕ, zero, suc, ◌<◌, List, [], ◌∷◌, length, map, get_or, set, sym, ap, ap₂, ◌∙◌, subst, arith}
use Rattle.std.proofs.lemmas.List.{length-map, map-set, get_or-map}
use Rattle.std.proofs.lemmas.List.Elements.{All-set, All-get_or}
use Rattle.vector_spaces.proofs.Space.{Field, Space}
use Rattle.vector_spaces.proofs.Combination.{combination as combination_of, combining}
use Rattle.linear_algebra.specs.Scalars.{Scalars, IsScalar, IsField}
use Rattle.linear_algebra.specs.Vectors.{IsVector, AreVectors, vector_sum, multiple}
use Rattle.linear_algebra.specs.Spans.{combination}
use Rattle.linear_algebra.proofs.Elements.{scalar_field}
use Rattle.linear_algebra.proofs.Coordinates.{list, tuple, element, element-number, element-zero, list-tuple, list-plus, list-scale, space}
use Rattle.linear_algebra.proofs.Transfer.{tuples_of, combination_tuples}

module _ {K V : Type 0} (f : Field K) (s : Space f V) where
  infixl 65 ◌⊞◌
  infixl 70 ◌⊠◌
  infixl 65 ◌⊕◌
  infixl 70 ◌·◌
  open f use {zero as o, ◌⊞◌, ◌⊠◌}
  open s use {null, ◌⊕◌, ◌·◌}

  pub replaced : (cs : List K) (vs : List V) (i : ℕ) (y : V) → i < length vs → length cs ≡ length vs →
      combination_of s cs (set vs i y) ≡ combination_of s (set cs i o) vs ⊕ get_or cs i o · y
  replaced cs [] i y h e = absurd (omega arith)
  replaced [] (v ∷ vs) i y h e = absurd (omega arith)
  replaced (c ∷ cs) (v ∷ vs) zero y h e = simp combining (s.plus_comm (c · y) (combination_of s cs vs))
  replaced (c ∷ cs) (v ∷ vs) (suc i) y h e = simp (replaced cs vs i y (omega arith) (omega arith), combining)

module _ (S : Scalars) (F : IsField S) (d : ℕ) where
  -- y stands in the place of the vector at i
  pub combination-set : (cs : List ℕ) (vs : List (List ℕ)) (i : ℕ) (y : List ℕ) → IsVector S (length vs) cs → AreVectors S d vs →
      IsVector S d y → i < length vs →
      combination S d cs (set vs i y) ≡ vector_sum S (combination S d (set cs i S.zero) vs) (multiple S (get_or cs i 0) y)
  combination-set cs vs i y h k l m =
      let o = (scalar_field S F).zero in
      let ks = map (element S F) cs in
      let ts = tuples_of S F d vs in
      let zeroed : map (element S F) (set cs i S.zero) ≡ set ks i o = map-set (element S F) cs i S.zero ∙ ap (set ks i) (element-zero S F) in
      let at : get_or ks i o ≡ element S F (get_or cs i 0) = get_or-map (element S F) cs i 0 o (subst (λ n. i < n) (sym h.length_is) m) in
      let in_scalars : IsScalar S (get_or cs i 0) = All-get_or (IsScalar S) cs i 0 (subst (λ n. i < n) (sym h.length_is) m) h.entries in
      sym (combination_tuples S F d cs (set vs i y) h.entries (All-set (IsVector S d) vs i y l k))
      ∙ ap (λ us. list S d (combination_of (space S F d) ks us)) (map-set (tuple S F d) vs i y)
      ∙ ap (list S d) (replaced (scalar_field S F) (space S F d) ks ts i (tuple S F d y)
      (subst (λ n. i < n) (sym (length-map vs (tuple S F d))) m) (length-map cs (element S F) ∙ h.length_is ∙ sym (length-map vs (tuple S F d))))
      ∙ list-plus S F d _ _
      ∙ ap₂ (vector_sum S)
      (ap (λ us. list S d (combination_of (space S F d) us ts)) (sym zeroed)
      ∙ combination_tuples S F d (set cs i S.zero) vs (All-set (IsScalar S) cs i S.zero F.zero_in h.entries) k)
      (list-scale S F d _ _ ∙ ap₂ (multiple S) (ap (λ a. a.0) at ∙ element-number S F (get_or cs i 0) in_scalars) (list-tuple S F d y l))
