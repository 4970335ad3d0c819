use Rattle.std.proofs.Common.{◌≡◌, map, take, length}
use Rattle.linear_algebra.specs.Vectors.{vector_sum}
use Rattle.linear_algebra.specs.Spans.{combination}
use Rattle.echelon.specs.Eliminations.{reduced, taken}
use Rattle.echelon.proofs.elimination.reduce_with.Given as goal

abbrev pub invariant-loop-step : goal.invariant-loop-step
invariant-loop-step g l =
    let f = g.F.Field.number in
    let S = g.F.Field.scalars in
    record {
      long : length l.coefficients.items ≡ l.step-index;
      rest : map f l.v ≡ reduced S (take l.step-index l.steps) (map f l.initial.v);
      added : map f l.v ≡ vector_sum S (map f l.initial.v) (combination S (length l.initial.v) (map f l.coefficients.items) (taken l.steps));
    }
