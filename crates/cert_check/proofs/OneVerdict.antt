-- At most one verdict is true of an answer: each says that the clauses before its own hold, and that its own doesn't.
use Rattle.std.proofs.Common.{◌≡◌, ℕ, zero, suc, ◌<◌, ◌≤◌, ◌⊎◌, inl, inr, List, length, refl, sym, ap, ap₂, ◌∙◌, arith}
use Rattle.std.proofs.lemmas.Bool.{cases_order}
use Rattle.field_core.specs.Matrix.{Matrix}
use Rattle.linear_algebra.specs.Scalars.{Scalars}
use Rattle.linear_algebra.specs.Spans.{IsIndependent}
use Rattle.parity_lines.specs.Problems.{ParityProblem, vectors_at}
use Rattle.parity_lines.specs.Certificates.{bound}
use Rattle.cert_check.specs.Verdicts.{IsCovered, IsDisjoint, IsVerdictOn}
use Rattle.cert_check.specs.declared.verdicts.Verdict.{Verdict}
use Rattle.cert_check.specs.declared.verdicts.Verdict.TheVariants.{Yes, Dependent, KernelDependent, PartsMissing, PartsTwice, BoundOff}

-- how many clauses hold before the one that fails
abbrev stage : Verdict → ℕ
stage Dependent = 0
stage KernelDependent = 1
stage (PartsMissing m) = 2
stage (PartsTwice m) = 3
stage (BoundOff size b) = 4
stage Yes = 5

module _ (S : Scalars) (p : ParityProblem) (set : List ℕ) (kernel : Matrix) (parts : List (List ℕ)) where
  -- the clauses of a good answer, in order
  abbrev Clause : ℕ → Type 0
  Clause zero = IsIndependent S p.dimension (vectors_at p set)
  Clause (suc zero) = IsIndependent S p.dimension kernel.rows
  Clause (suc (suc zero)) = IsCovered p parts
  Clause (suc (suc (suc zero))) = IsDisjoint p parts
  Clause n = bound S p kernel parts ≡ length set

  abbrev Says : Verdict → Type 0
  Says v = IsVerdictOn S p set kernel parts v

  holds : (v : Verdict) → Says v → (n : ℕ) → n < stage v → Clause n
  holds Dependent t n h = absurd (omega arith)
  holds KernelDependent t zero h = t.0
  holds (PartsMissing m) t zero h = t.0.of_set
  holds (PartsMissing m) t (suc zero) h = t.0.of_kernel
  holds (PartsTwice m) t zero h = t.0.of_set
  holds (PartsTwice m) t (suc zero) h = t.0.of_kernel
  holds (PartsTwice m) t (suc (suc zero)) h = t.1
  holds (BoundOff size b) t zero h = t.0.of_set
  holds (BoundOff size b) t (suc zero) h = t.0.of_kernel
  holds (BoundOff size b) t (suc (suc zero)) h = t.1
  holds (BoundOff size b) t (suc (suc (suc zero))) h = t.2
  holds Yes t zero h = t.independent_set.independent
  holds Yes t (suc zero) h = t.certificate.independent
  holds Yes t (suc (suc zero)) h = λ m l. let e = t.certificate.once m l in omega arith
  holds Yes t (suc (suc (suc zero))) h = λ m l. let e = t.certificate.once m l in omega arith
  holds Yes t (suc (suc (suc (suc zero)))) h = t.tight
  holds v t n h = absurd (omega arith)

  fails : (v : Verdict) → Says v → stage v < 5 → ¬ (Clause (stage v))
  fails Dependent t h = t
  fails KernelDependent t h = t.1
  fails (PartsMissing m) t h = λ c. let e = c m t.1 in let z = t.2 in absurd (omega arith)
  fails (PartsTwice m) t h = λ c. let e = c m t.2 in let z = t.3 in absurd (omega arith)
  fails (BoundOff size b) t h = λ c. t.5 (t.4 ∙ c ∙ sym t.3)
  fails Yes t h = absurd (omega arith)

  -- two least positions are the same
  least : (m n : ℕ) → (m < n → ⊥) → (n < m → ⊥) → m ≡ n
  least m n h k = elim (cases_order m n) [ inl e ↦ e | inr (inl l) ↦ absurd (h l) | inr (inr l) ↦ absurd (k l) ]

  same_stage : (v w : Verdict) → Says v → Says w → stage v ≡ stage w → v ≡ w
  same_stage Dependent Dependent t u e = refl
  same_stage KernelDependent KernelDependent t u e = refl
  same_stage (PartsMissing m) (PartsMissing n) t u e = ap (λ k. PartsMissing k)
      (least m n (λ l. let a = u.3 m l in let z = t.2 in omega arith) (λ l. let a = t.3 n l in let z = u.2 in omega arith))
  same_stage (PartsTwice m) (PartsTwice n) t u e = ap (λ k. PartsTwice k)
      (least m n (λ l. let a = u.4 m l in let z = t.3 in omega arith) (λ l. let a = t.4 n l in let z = u.3 in omega arith))
  same_stage (BoundOff s b) (BoundOff r c) t u e = ap₂ (λ x y. BoundOff x y) (t.3 ∙ sym u.3) (t.4 ∙ sym u.4)
  same_stage Yes Yes t u e = refl
  same_stage v w t u e = absurd (omega arith)

  pub one_verdict : (v w : Verdict) → Says v → Says w → v ≡ w
  one_verdict v w t u = go (cases_order (stage v) (stage w))
    where
      small : (x : Verdict) → stage x ≤ 5
      small Dependent = omega arith
      small KernelDependent = omega arith
      small (PartsMissing m) = omega arith
      small (PartsTwice m) = omega arith
      small (BoundOff s b) = omega arith
      small Yes = omega arith

      go : (stage v ≡ stage w) ⊎ ((stage v < stage w) ⊎ (stage w < stage v)) → v ≡ w
      go (inl e) = same_stage v w t u e
      go (inr (inl l)) = absurd (fails v t (let s = small w in omega arith) (holds w u (stage v) l))
      go (inr (inr l)) = absurd (fails w u (let s = small v in omega arith) (holds v t (stage w) l))
