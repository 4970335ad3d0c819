-- What the steps of a basis do: the span becomes zero, and what is left of a vector is its residue.
use Rattle.std.proofs.Common.{◌≡◌, ℕ, ◌+◌, ◌<◌, List, [], ◌∷◌, ◌++◌, length, map, take, drop, refl, sym, ap, ◌∙◌, subst, take-append-drop}
use Rattle.echelon.proofs.Eliminations.{reduced-linear, reduced_kills}
use Rattle.echelon.proofs.Transfers.{IsElimination, coordinate, coordinate-linear, elimination_of, reduced_tuple, tuple-reduced, reduced-vector}
use Rattle.echelon.specs.Eliminations.{eliminated, reduced, taken, IsStep, IsEchelon}
use Rattle.linear_algebra.proofs.Coordinates.{tuple, list-is, list-null, space}
use Rattle.linear_algebra.proofs.Elements.{Element, scalar_field}
use Rattle.linear_algebra.proofs.Transfer.{tuples_of, span_to_tuples}
use Rattle.linear_algebra.proofs.VectorLaws.{tuple-zero, zero-vector}
use Rattle.linear_algebra.specs.Scalars.{Scalars, IsField}
use Rattle.linear_algebra.specs.Spans.{InSpan}
use Rattle.linear_algebra.specs.Vectors.{IsVector, AreVectors, zero_vector}
use Rattle.vector_spaces.proofs.LinearMaps.{linear-null}
use Rattle.vector_spaces.proofs.Members.{In, In_map-from, contains-In, all-In, In-append_right}
use Rattle.vector_spaces.proofs.Tuples.{Tuple}
use Rattle.echelon.specs.declared.step.Step.{Step}

pub taken-map : {X : Type 0} (ss : List (Step X)) → taken ss ≡ map (λ (s : Step X). s.vector) ss
taken-map [] = refl
taken-map (s ∷ ss) = ap (λ vs. s.vector ∷ vs) (taken-map ss)

pub reduced-append : {X : Type 0} (S : Scalars) (us ws : List (Step X)) (v : List ℕ) → reduced S (us ++ ws) v ≡ reduced S ws (reduced S us v)
unfolding reduced
reduced-append S [] ws v = refl
reduced-append S (u ∷ us) ws v = reduced-append S us ws (eliminated S u v)

module _ (S : Scalars) (F : IsField S) (d : ℕ) {X : Type 0} (ss : List (Step X)) (e : IsEchelon S d ss) where
  -- a member stands at an index
  step_of : (s : Step X) → In s ss → (i : ℕ) × (i < length ss) × IsStep S d ss i s
  step_of s m = let c = contains-In ss s m in (c.0, c.1, subst (IsStep S d ss c.0) c.2 (e.steps c.0 s c.1))

  pub is_elimination : (s : Step X) → In s ss → IsElimination S F d s
  is_elimination s m = let r = (step_of s m).2 in record { row_in = r.row; pivot_in = subst (λ n. s.pivot < n) r.row.length_is r.leads.within }

  pub taken-vectors : AreVectors S d (taken ss)
  taken-vectors = subst (AreVectors S d) (sym (taken-map ss)) (all-In (IsVector S d) (map (λ (s : Step X). s.vector) ss)
      (λ v i. let r = In_map-from (λ (s : Step X). s.vector) v ss i in subst (IsVector S d) (sym r.2) (step_of r.0 r.1).2.vector))

  reduced-null : (ws : List (Step X)) → reduced_tuple S F d ws (space S F d).null ≡ (space S F d).null
  reduced-null ws = linear-null (scalar_field S F) (space S F d) (space S F d) (reduced_tuple S F d ws) (reduced-linear (scalar_field S F) (space S F d) (coordinate S F d) (coordinate-linear S F d) (map (elimination_of S F d) ws))

  taken_removed : (s : Step X) → In s ss → reduced_tuple S F d ss (tuple S F d s.vector) ≡ (space S F d).null
  taken_removed s m =
      let r = step_of s m in
      let rest : List (Step X) = drop (r.0 + 1) ss in
      let back : take (r.0 + 1) ss ++ rest ≡ ss = take-append-drop (r.0 + 1) ss in
      sym (tuple-reduced S F d ss s.vector is_elimination r.2.vector)
      ∙ ap (tuple S F d) (ap (λ ts. reduced S ts s.vector) (sym back) ∙ reduced-append S (take (r.0 + 1) ss) rest s.vector ∙ ap (reduced S rest) r.2.removes)
      ∙ tuple-reduced S F d rest (zero_vector S d) (λ t i. is_elimination t (subst (λ ts. In t ts) back (In-append_right t (take (r.0 + 1) ss) rest i))) (zero-vector S F d)
      ∙ ap (reduced_tuple S F d rest) (tuple-zero S F d) ∙ reduced-null rest

  -- and so does their span, which is all that becomes zero
  pub span_removed : (v : List ℕ) → IsVector S d v → InSpan S d (taken ss) v → reduced S ss v ≡ zero_vector S d
  span_removed v h c =
      list-is S F d (reduced S ss v) (reduced-vector S F d ss v is_elimination h) (tuple-reduced S F d ss v is_elimination h
      ∙ reduced_kills (scalar_field S F) (space S F d) (coordinate S F d) (coordinate-linear S F d) (map (elimination_of S F d) ss) (tuples_of S F d (taken ss)) (tuple S F d v) each
      (span_to_tuples S F d (taken ss) v taken-vectors c))
      ∙ list-null S F d
    where
      each : (t : Tuple (Element S) d) → In t (tuples_of S F d (taken ss)) → reduced_tuple S F d ss t ≡ (space S F d).null
      each t i =
          let r = In_map-from (tuple S F d) t (taken ss) i in
          let q = In_map-from (λ (s : Step X). s.vector) r.0 ss (subst (λ vs. In r.0 vs) (taken-map ss) r.1) in
          ap (reduced_tuple S F d ss) (r.2 ∙ ap (tuple S F d) q.2) ∙ taken_removed q.0 q.1
