use Rattle.std.proofs.Common.{◌≡◌, Some, None, sym, subst, ap, ◌∙◌, arith}
use Rattle.std.specs.Prelude.{slice_set, replicate}
use Rattle.graph_core.specs.Ways.{AreWays}
use Rattle.graph_core.proofs.Searches.{first_ways}
use Rattle.graph_core.proofs.ways.Ways.new.Goals as goal

pub returns-clause-ways : goal.returns-clause-ways
returns-clause-ways c ends F =
    let end : c.loop-vertex._vertex ≡ c.args.vertices = omega arith in
    subst (λ T. AreWays ends F c.args.to (slice_set T c.args.to (Some (record { steps = 0; edge = 0; next = c.args.to }))))
    (sym (c.loop-vertex.invariant ∙ ap (λ n. replicate n None) end))
    (first_ways ends F c.args.vertices c.args.to c.requires)
