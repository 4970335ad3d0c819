-- The easy half of the min-max theorem on the lines of a problem: the bound of a certificate limits every independent set.
use Rattle.std.proofs.Common.{◌≡◌, ℕ, ◌+◌, ◌/◌, ◌<◌, ◌≤◌, ◌⊎◌, inl, inr, List, [], ◌∷◌, length, map, refl, sym, ap, ap₂, ◌∙◌, arith, All, Bool, true, false, cond, ◌||◌, eqb}
use Rattle.std.specs.Prelude.{sum_by}
use Rattle.std.specs.List.{list_any}
use Rattle.std.proofs.lemmas.Bool.{eq-eqb, eqb-true}
use Rattle.std.specs.Cmp.Derive.{one_truth}
use Rattle.std.proofs.lemmas.List.{length-map}
use Rattle.std.proofs.lemmas.List.Sums.{sum_by-cons}
use Rattle.std.proofs.lemmas.List.Elements.{All-head, All-tail}
use Rattle.vector_spaces.proofs.Members.{In, In-all}
use Rattle.linear_algebra.specs.Scalars.{Scalars, IsField}
use Rattle.linear_algebra.specs.Vectors.{AreVectors}
use Rattle.linear_algebra.specs.Spans.{IsIndependent}
use Rattle.linear_algebra.specs.Ranks.{rank_over}
use Rattle.linear_algebra.proofs.Coordinates.{tuple, space}
use Rattle.linear_algebra.proofs.Transfer.{tuples_of, independent_to_tuples}
use Rattle.parity_theory.proofs.Parts.{PartsOver, InPart, halves, has, has_in, bound_limits_independent_sets}
use Rattle.field_core.specs.Matrix.{Matrix}
use Rattle.parity_lines.specs.Problems.{ParityProblem, IsProblem, vectors_at}
use Rattle.parity_lines.specs.LineSets.{IsLineSet, IsIndependentSet, IsLargest}
use Rattle.parity_lines.specs.Certificates.{parts_with, IsCertificate, bound, IsGoodAnswer}
use Rattle.parity_lines.proofs.Border.{tuples_at, independent_lines, lines_over}

-- the test of the certificates is that of the theory's parts
pub any-has : (part : List ℕ) (m : ℕ) → list_any (λ l. eqb l m) part ≡ has part m
unfolding has
any-has [] m = refl
any-has (l ∷ part) m = ap₂ (λ a b. a || b)
    (one_truth (eqb l m) (eqb m l) (λ e. eq-eqb m l (sym (eqb-true l m e))) (λ e. eq-eqb l m (sym (eqb-true m l e)))) (any-has part m)

module _ (S : Scalars) (p : ParityProblem) (K : List (List ℕ)) where
  -- the rank that a part adds to the kernel
  abbrev part_rank : List ℕ → ℕ
  part_rank part = rank_over S p.dimension K (vectors_at p part)

  -- the parts, each with this rank
  pub ranked : List (List ℕ) → List (List ℕ × ℕ)
  ranked parts = map (λ part. (part, part_rank part)) parts

  pub halves-ranked : (parts : List (List ℕ)) → halves (ranked parts) ≡ sum_by (λ part. part_rank part / 2) parts
  unfolding ranked
  halves-ranked [] = refl
  halves-ranked (part ∷ parts) = ap (λ n. part_rank part / 2 + n) (halves-ranked parts)
      ∙ sym (sum_by-cons (λ q. part_rank q / 2) part parts)

  pub in_part : (parts : List (List ℕ)) (m : ℕ) → 1 ≤ parts_with parts m → InPart m (ranked parts)
  unfolding ranked
  in_part [] m h = absurd (omega arith)
  in_part (part ∷ parts) m h = go (list_any (λ l. eqb l m) part) refl (sum_by-cons (λ q. cond (list_any (λ l. eqb l m) q) 1 0) part parts)
      (in_part parts m)
    where
      go : (b : Bool) → list_any (λ l. eqb l m) part ≡ b →
          parts_with (part ∷ parts) m ≡ cond (list_any (λ l. eqb l m) part) 1 0 + parts_with parts m →
          (1 ≤ parts_with parts m → InPart m (ranked parts)) → In m part ⊎ InPart m (ranked parts)
      go true e s ih = inl (has_in part m (sym (any-has part m) ∙ e))
      go false e s ih = inr (ih (let z : cond {A = ℕ} (list_any (λ l. eqb l m) part) 1 0 ≡ 0 = ap (λ b. cond {A = ℕ} b 1 0) e in
          omega arith))

module _ (S : Scalars) (F : IsField S) (p : ParityProblem) (P : IsProblem S p) where
  pub parts_over : (K : List (List ℕ)) (parts : List (List ℕ)) → AreVectors S p.dimension K → IsIndependent S p.dimension K →
      All (IsLineSet p) parts →
      PartsOver (space S F p.dimension) (tuples_at S F p) (tuples_of S F p.dimension K) (ranked S p K parts)
  unfolding ranked
  parts_over K [] k i h = tt
  parts_over K (part ∷ parts) k i h = (
    lines_over S F p P K part k i (All-head (IsLineSet p) part parts h).within,
    parts_over K parts k i (All-tail (IsLineSet p) part parts h),
  )

  -- each line of an independent set is in a part of a certificate
  pub lines_in_parts : (kernel : Matrix) (parts : List (List ℕ)) (I : List ℕ) → IsCertificate S p kernel parts → IsIndependentSet S p I →
      (l : ℕ) → In l I → InPart l (ranked S p kernel.rows parts)
  lines_in_parts kernel parts I c i l j = in_part S p kernel.rows parts l
      (let e = c.once l (In-all (λ n. n < length p.lines) I i.line_set.within l j) in omega arith)

  pub bound_limits : (kernel : Matrix) (parts : List (List ℕ)) (I : List ℕ) → IsCertificate S p kernel parts → IsIndependentSet S p I →
      length I ≤ bound S p kernel parts
  bound_limits kernel parts I c i =
      let K : List (List ℕ) = kernel.rows in
      let m = bound_limits_independent_sets (space S F p.dimension) (tuples_at S F p) (tuples_of S F p.dimension K) (ranked S p K parts) I
      (independent_to_tuples S F p.dimension K c.vectors c.independent) (parts_over K parts c.vectors c.independent c.line_sets)
      (lines_in_parts kernel parts I c i) (independent_lines S F p P I i.line_set.within i.independent) in
      let a = length-map K (tuple S F p.dimension) in
      let b = halves-ranked S p K parts in
      omega arith

  pub good_answer_largest : (set : List ℕ) (kernel : Matrix) (parts : List (List ℕ)) → IsGoodAnswer S p set kernel parts → IsLargest S p set
  good_answer_largest set kernel parts g = record {
    independent_set = g.independent_set;
    most = λ J j. let b = bound_limits kernel parts J g.certificate j in let e = g.tight in omega arith;
  }
