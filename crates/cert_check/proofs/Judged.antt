-- What a verdict says follows from what was computed.
use Rattle.std.proofs.Common.{◌≡◌, ◌≢◌, ℕ, ◌+◌, ◌/◌, ◌<◌, ◌≤◌, List, [], ◌∷◌, length, Some, refl, sym, ap₂, ◌∙◌, subst, arith, All}
use Rattle.std.specs.Prelude.{◌↔◌}
use Rattle.std.specs.List.Sorted.{IsStrictlyIncreasing}
use Rattle.std.proofs.lemmas.List.Elements.{All-head, All-tail}
use Rattle.std.proofs.lemmas.List.Sums.{sum_by-cons}
use Rattle.field_core.specs.Matrix.{Matrix}
use Rattle.linear_algebra.specs.Scalars.{Scalars, IsField}
use Rattle.linear_algebra.specs.Vectors.{AreVectors}
use Rattle.linear_algebra.specs.Spans.{IsIndependent}
use Rattle.linear_algebra.specs.Ranks.{rank_over}
use Rattle.linear_algebra.proofs.IndependenceLaws.{independent_no_longer, same_length_independent}
use Rattle.parity_lines.specs.Problems.{ParityProblem, IsProblem, vectors_at}
use Rattle.parity_lines.specs.PartLists.{ArePartLists}
use Rattle.parity_lines.specs.LineSets.{IsLargest}
use Rattle.echelon.specs.Grown.{IsBasisOf}
use Rattle.parity_lines.specs.Certificates.{bound, IsGoodAnswer, halves_over}
use Rattle.parity_lines.proofs.Border.{vectors_at-vectors}
use Rattle.echelon.proofs.Growing.{over_basis}
use Rattle.parity_lines.proofs.EasyHalf.{good_answer_largest}
use Rattle.cert_check.specs.Verdicts.{AreIndependent, IsCovered, IsDisjoint, IsFaultIn, IsVerdictOn}
use Rattle.cert_check.specs.Judged.{IsJudged}
use Rattle.cert_check.specs.declared.verdicts.Verdict.{Verdict}
use Rattle.cert_check.specs.declared.verdicts.Verdict.TheVariants.{Yes, Dependent, KernelDependent, PartsMissing, PartsTwice, BoundOff}

-- the verdict is `Yes` exactly for a good answer
pub told_yes : (S : Scalars) (p : ParityProblem) (set : List ℕ) (kernel : Matrix) (parts : List (List ℕ)) (v : Verdict)
    → IsVerdictOn S p set kernel parts v → (v ≡ Yes) ↔ IsGoodAnswer S p set kernel parts
told_yes S p set kernel parts Yes t = (λ e. t, λ good. refl)
told_yes S p set kernel parts Dependent t = (λ e. absurd (cc), λ good. absurd (t good.independent_set.independent))
told_yes S p set kernel parts KernelDependent t = (λ e. absurd (cc), λ good. absurd (t.1 good.certificate.independent))
told_yes S p set kernel parts (PartsMissing m) t =
    (λ e. absurd (cc), λ good. let once = good.certificate.once m t.1 in let none = t.2 in absurd (omega arith))
told_yes S p set kernel parts (PartsTwice m) t =
    (λ e. absurd (cc), λ good. let once = good.certificate.once m t.2 in let twice = t.3 in absurd (omega arith))
told_yes S p set kernel parts (BoundOff size b) t = (λ e. absurd (cc), λ good. absurd (t.5 (t.4 ∙ good.tight ∙ sym t.3)))

-- and its set is then largest
pub told_largest : (S : Scalars) (F : IsField S) (p : ParityProblem) (P : IsProblem S p) (set : List ℕ) (kernel : Matrix)
    (parts : List (List ℕ)) (v : Verdict) → IsVerdictOn S p set kernel parts v → v ≡ Yes → IsLargest S p set
told_largest S F p P set kernel parts v t e = good_answer_largest S F p P set kernel parts ((told_yes S p set kernel parts v t).0 e)

-- a fault of the parts is the verdict where set and kernel are independent
pub fault_told : (S : Scalars) (p : ParityProblem) (set : List ℕ) (kernel : Matrix) (parts : List (List ℕ)) (v : Verdict)
    → AreIndependent S p set kernel → IsFaultIn p parts (Some v) → IsVerdictOn S p set kernel parts v
fault_told S p set kernel parts Yes a t = absurd t
fault_told S p set kernel parts Dependent a t = absurd t
fault_told S p set kernel parts KernelDependent a t = absurd t
fault_told S p set kernel parts (PartsMissing m) a t = (a, t.0, t.1, t.2)
fault_told S p set kernel parts (PartsTwice m) a t = (a, t.0, t.1, t.2, t.3)
fault_told S p set kernel parts (BoundOff size b) a t = absurd t

module _ (S : Scalars) (F : IsField S) (p : ParityProblem) (kernel basis : Matrix) (width : kernel.width ≡ p.dimension)
    (kernel_in : AreVectors S kernel.width kernel.rows) (b : IsBasisOf S kernel basis) where
  pub kernel_dependent : length basis.rows < length kernel.rows → ¬ (IsIndependent S p.dimension kernel.rows)
  kernel_dependent l i =
      let longer = independent_no_longer S F kernel.width kernel.rows basis.rows kernel_in b.vectors_in
      (subst (λ d. IsIndependent S d kernel.rows) (sym width) i) b.spans in
      omega arith

  pub kernel_independent : length kernel.rows ≤ length basis.rows → IsIndependent S p.dimension kernel.rows
  kernel_independent l = subst (λ d. IsIndependent S d kernel.rows) width
      (same_length_independent S F kernel.width basis.rows kernel.rows b.vectors_in kernel_in b.independent b.within l)

  -- the basis adds to the parts what the kernel does
  halves_of_kernel : IsProblem S p → (parts : List (List ℕ)) → All (λ part. All (λ m. m < length p.lines) part) parts
      → halves_over S p basis.rows parts ≡ halves_over S p kernel.rows parts
  halves_of_kernel P [] h = refl
  halves_of_kernel P (part ∷ parts) h =
      let vs = vectors_at p part in
      let vs_in = vectors_at-vectors S p P part (All-head (λ q. All (λ m. m < length p.lines) q) part parts h) in
      let same = over_basis S F kernel basis vs b (subst (λ d. AreVectors S d vs) (sym width) vs_in) in
      let at_dimension : rank_over S p.dimension basis.rows vs
      ≡ rank_over S p.dimension kernel.rows vs = subst (λ d. rank_over S d basis.rows vs ≡ rank_over S d kernel.rows vs) width same in
      sum_by-cons (λ q. rank_over S p.dimension basis.rows (vectors_at p q) / 2) part parts
      ∙ ap₂ (λ r n. r / 2 + n) at_dimension (halves_of_kernel P parts (All-tail (λ q. All (λ m. m < length p.lines) q) part parts h))
      ∙ sym (sum_by-cons (λ q. rank_over S p.dimension kernel.rows (vectors_at p q) / 2) part parts)

  good_answer_found : (P : IsProblem S p) (set : List ℕ) (parts : List (List ℕ)) → IsStrictlyIncreasing set
      → All (λ m. m < length p.lines) set → ArePartLists parts → All (λ part. All (λ m. m < length p.lines) part) parts →
      AreIndependent S p set kernel → IsCovered p parts → IsDisjoint p parts → bound S p kernel parts ≡ length set
      → IsGoodAnswer S p set kernel parts
  good_answer_found P set parts s w l h i c d t = record {
    independent_set = record { line_set = record { increasing = s; within = w }; independent = i.of_set };
    certificate = record {
      width = width;
      vectors = subst (λ e. AreVectors S e kernel.rows) width kernel_in;
      independent = i.of_kernel;
      line_sets = λ k q m. record { increasing = (l k q m).increasing; within = h k q m };
      nonempty = λ k q m. (l k q m).nonempty;
      once = λ m k. let a = c m k in let b = d m k in omega arith;
    };
    tight = t;
  }

-- from what is known of an answer while its verdict is looked for
pub judged_vectors : (S : Scalars) (p : ParityProblem) (set : List ℕ) (kernel : Matrix) (parts : List (List ℕ)) (basis : Matrix)
    → IsJudged S p set kernel parts basis → AreVectors S p.dimension basis.rows
judged_vectors S p set kernel parts basis j = subst (λ d. AreVectors S d basis.rows) j.width j.basis_is.vectors_in

-- and a kernel of vectors
module _ (S : Scalars) (F : IsField S) (p : ParityProblem) (P : IsProblem S p) (set : List ℕ) (kernel : Matrix) (parts : List (List ℕ))
    (basis : Matrix) (kernel_in : AreVectors S kernel.width kernel.rows) (j : IsJudged S p set kernel parts basis) where
  -- the number that is compared is the bound
  bound_is : (len h : ℕ) → len ≡ length kernel.rows → h ≡ halves_over S p basis.rows parts → len + h ≡ bound S p kernel parts
  bound_is len h e f = ap₂ (λ m n. m + n) e (f ∙ halves_of_kernel S F p kernel basis j.width kernel_in j.basis_is P parts j.parts_within)

  module _ (covered : IsCovered p parts) (disjoint : IsDisjoint p parts) (size len h : ℕ) (is_size : size ≡ length set)
      (is_len : len ≡ length kernel.rows) (is_half : h ≡ halves_over S p basis.rows parts) where
    pub tight_told : IsStrictlyIncreasing set → ArePartLists parts → len + h ≡ size → IsVerdictOn S p set kernel parts Yes
    tight_told s l e = good_answer_found S F p kernel basis j.width kernel_in j.basis_is P set parts s j.set_within l j.parts_within
        j.independent covered disjoint (sym (bound_is len h is_len is_half) ∙ e ∙ is_size)

    pub slack_told : len + h ≢ size → IsVerdictOn S p set kernel parts (BoundOff size (len + h))
    slack_told n = (j.independent, covered, disjoint, is_size, bound_is len h is_len is_half, n)
