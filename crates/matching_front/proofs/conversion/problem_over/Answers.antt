use Rattle.std.proofs.Common.{[], length, map, ap, ap₂, ◌∙◌, arith}
use Rattle.std.proofs.lemmas.List.{take_all}
use Rattle.graph_problems.specs.GraphLines.{matching_line, matching_problem, unit_vector}
use Rattle.graph_problems.proofs.ListedLines.{one_line_more}
use Rattle.matching_front.proofs.conversion.problem_over.Goals as goal

pub loop-edge-init : goal.loop-edge-init
loop-edge-init g c = c.new-problem.ensures ∙ ap (λ n. record { dimension = n; lines = [] }) c.vertices-vertices.ensures.value

pub loop-edge-preserved : goal.loop-edge-preserved
loop-edge-preserved g c = one_line_more (length c.args.graph.now.names) (matching_line g.F.Field.scalars (length c.args.graph.now.names))
    c.args.graph.now.ends c.loop-edge.edge (0, 0) c.loop-edge.problem c.push.new.self _ (omega arith) c.loop-edge.invariant c.in_ok-push.ensures.ok
    (ap₂ (λ u v. (u, v))
    (ap (map g.F.Field.number) c.deref.ensures.value ∙ c.in_ok-first.ensures.value
    ∙ ap₂ (unit_vector g.F.Field.scalars) c.vertices-vertices.ensures.value (ap (λ e. e.0) c.ends-first.ensures.value))
    (ap (map g.F.Field.number) c.deref-in-loop-edge.ensures.value ∙ c.in_ok-second.ensures.value
    ∙ ap₂ (unit_vector g.F.Field.scalars) c.vertices-vertices.ensures.value (ap (λ e. e.1) c.ends-first.ensures.value)))

pub returns : goal.returns
returns g c = c.loop-edge.invariant
    ∙ ap (matching_problem g.F.Field.scalars (length c.args.graph.now.names)) (take_all c.loop-edge.edge c.args.graph.now.ends (omega arith))
