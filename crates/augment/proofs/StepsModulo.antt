-- What a step modulo a point tells above.
use Rattle.std.proofs.Common.{◌≡◌, ℕ, suc, List, [], ◌∷◌, length, sym, ap, ◌∙◌, subst}
use Rattle.std.proofs.lemmas.List.Elements.{All-cons, All-nil}
use Rattle.linear_algebra.proofs.IndependenceLaws.{independent_push, pushed_is_outside}
use Rattle.linear_algebra.specs.Scalars.{IsField, Scalars}
use Rattle.linear_algebra.specs.Vectors.{IsVector}
use Rattle.matching_state.proofs.Ties.{misses_from}
use Rattle.matching_state.specs.Missing.{Misses}
use Rattle.field_core.specs.Matrix.{Matrix}
use Rattle.parity_lines.proofs.Border.{vectors_at-vectors}
use Rattle.parity_lines.specs.Certificates.{IsGoodAnswer}
use Rattle.parity_lines.specs.LineSets.{IsIndependentSet}
use Rattle.parity_lines.specs.Problems.{IsProblem, ParityProblem, vectors_at}
use Rattle.parity_lines.specs.declared.answer.Certificate.{Certificate}
use Rattle.families.specs.Families.{IsFamily, SetFamily, Spans}
use Rattle.problem_quotients.proofs.CertificatesModulo.{good_answer_above}
use Rattle.problem_quotients.proofs.MissingSets.{misses_of_independent}
use Rattle.problem_quotients.proofs.SetsModulo.{independent_above, independent_with_point}
use Rattle.problem_quotients.specs.ProblemsModulo.{lifted_kernel}
use Rattle.quotient_spaces.proofs.Pivots.{first_pivot_unique}
use Rattle.augment.proofs.Meetings.{first_independent}
use Rattle.augment.specs.Divided.{IsFamilyBelow, IsLiftedFrom, IsModulo, IsShortened}
use Rattle.augment.specs.FirstSets.{first_of}
use Rattle.search.specs.Found.{IsLargerThan, MakesGoodAnswer}

-- an independent set misses a vector that it doesn't span
pub set_misses : (S : Scalars) (F : IsField S) (p : ParityProblem) → IsProblem S p → (N v : List ℕ) → IsIndependentSet S p N →
    IsVector S p.dimension v → ¬ (Spans S p v N) → Misses S p N (v ∷ [])
set_misses S F p P N v i h out =
    independent_push S F p.dimension (vectors_at p N) v (vectors_at-vectors S p P N i.line_set.within) h i.independent out

module _ (S : Scalars) (F : IsField S) (point : List ℕ) (p q : ParityProblem) (P : IsProblem S p) (m : IsModulo S point p q)
    (M N : List ℕ) (s : IsShortened S q M N) where
  -- a set that is longer below is as long above, and doesn't span the point
  pub larger_above : (L : List ℕ) → IsIndependentSet S q L → length L ≡ suc (length N) →
      IsIndependentSet S p L × (length L ≡ length M) × ¬ (Spans S p point L)
  larger_above L j e =
      let g = m.modulo in
      let a = independent_above S F point m.pivot p q P g L j in
      let v = All-cons (IsVector S p.dimension) point [] g.is_vector (All-nil (IsVector S p.dimension)) in
      let miss : Misses S p L (point ∷ []) = misses_from S F p P L (point ∷ []) a.line_set.within v
      (misses_of_independent S F p P point g.is_vector L a.line_set.within (independent_with_point S F point m.pivot p q P g L j)) in (
        a,
        e ∙ s.shorter,
        pushed_is_outside S F p.dimension (vectors_at p L) point (vectors_at-vectors S p P L a.line_set.within) g.is_vector miss,
      )

  -- a certificate below, lifted, makes a good answer above
  pub best_above : {X : Type 0} (b c : Certificate X) → IsIndependentSet S p M → IsGoodAnswer S q N b.kernel b.parts →
      IsLiftedFrom S point b c →
      IsGoodAnswer S p M c.kernel c.parts
  best_above b c i h l =
      let same = first_pivot_unique S point m.pivot l.pivot m.first l.first in
      let kernel : lifted_kernel S point m.pivot b.kernel ≡ c.kernel = ap (λ i. lifted_kernel S point i b.kernel) same ∙ sym l.kernel in
      subst (λ (k : Matrix). IsGoodAnswer S p M k c.parts) kernel (subst (IsGoodAnswer S p M (lifted_kernel S point m.pivot b.kernel))
      (sym l.parts)
      (good_answer_above S F point m.pivot p q P m.modulo N M b.kernel b.parts h i (sym s.shorter)))

-- the same as the calls make it: p is the problem of f, and x the point; below is the family modulo the point
module _ (S : Scalars) (F : IsField S) (f : SetFamily) (k : IsFamily S f) (p q : ParityProblem) (e : p ≡ f.problem) (P : IsProblem S p)
    (x point : List ℕ)
    (y : x ≡ point) (m : IsModulo S x p q) (below : SetFamily) (b : IsFamilyBelow S q (first_of f) below) where
  modulo : IsModulo S point f.problem q
  modulo = subst (λ v. IsModulo S v f.problem q) y (subst (λ r. IsModulo S x r q) e m)

  problem : IsProblem S f.problem
  problem = subst (IsProblem S) e P

  pub larger_made : (L : List ℕ) → IsLargerThan S below.problem (first_of below) L →
      IsIndependentSet S f.problem L × (length L ≡ length (first_of f)) × ¬ (Spans S f.problem point L)
  larger_made L h = larger_above S F point f.problem q problem modulo (first_of f) (first_of below) b.first L
      (subst (λ r. IsIndependentSet S r L) b.problem h.0) h.1

  pub best_made : {X : Type 0} (a c : Certificate X) → MakesGoodAnswer S below.problem (first_of below) a → IsLiftedFrom S x a c →
      MakesGoodAnswer S f.problem (first_of f) c
  best_made a c h l = best_above S F point f.problem q problem modulo (first_of f) (first_of below) b.first a c (first_independent S f k)
      (subst (λ r. IsGoodAnswer S r (first_of below) a.kernel a.parts) b.problem h) (subst (λ v. IsLiftedFrom S v a c) y l)
