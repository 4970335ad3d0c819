use Rattle.std.proofs.Common.{length, ap, ◌∙◌, arith}
use Rattle.parity_lines.specs.Problems.{ParityProblem}
use Rattle.parity_lines.specs.Shown.{pairs_of}
use Rattle.parity_lines.proofs.LinePairs.{pair_at, pairs_long, line_at_vectors}
use Rattle.parity_lines.proofs.problem.Problem.second.Goals as goal

pub returns-clause-long : goal.returns-clause-long
returns-clause-long g c =
    let p : ParityProblem = record { dimension = c.self.inside.dimension; lines = pairs_of c.self.inside.lines.items } in
    let m = c.args.line in
    let within = c.requires in
    let as_many = ap (λ (p : ParityProblem). length p.lines) c.self.view_is in
    let wide = ap (λ (p : ParityProblem). p.dimension) c.self.view_is in
    let count = pairs_long c.self.inside.lines.items in
    let pair = pair_at c.self.inside.lines.items m c.index.result.now (omega arith) c.index.ensures in
    c.as_slice.ensures.len ∙ ap (λ pair. length pair.1) pair
    ∙ (line_at_vectors g.F.Field.scalars p m c.self.invariant (omega arith)).1.length_is ∙ wide
