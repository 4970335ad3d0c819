-- The set with no line, from which lines are taken.
use Rattle.std.proofs.Common.{◌≡◌, ℕ, ◌<◌, List, [], ◌∷◌, length, refl, sym, subst, arith}
use Rattle.std.proofs.lemmas.List.Elements.{All-nil}
use Rattle.linear_algebra.specs.Scalars.{Scalars}
use Rattle.linear_algebra.specs.Spans.{IsIndependent}
use Rattle.parity_lines.specs.LineSets.{IsIndependentSet}
use Rattle.parity_lines.specs.Problems.{ParityProblem, vectors_at}

independent_nil : (S : Scalars) (d : ℕ) → IsIndependent S d []
independent_nil S d [] c = refl
independent_nil S d (x ∷ cs) c = absurd (let e = c.one_each.length_is in omega arith)

pub no_lines_independent : (S : Scalars) (p : ParityProblem) (M : List ℕ) → M ≡ [] → IsIndependentSet S p M
unfolding vectors_at
no_lines_independent S p M e = subst (IsIndependentSet S p) (sym e) (record {
  line_set = record { increasing = λ k h. absurd (omega arith); within = All-nil (λ m. m < length p.lines) };
  independent = independent_nil S p.dimension;
})
