use Rattle.std.proofs.Common.{[], length, sym, ap, ap₂, ◌∙◌, arith}
use Rattle.std.specs.Prelude.{◌+◌, ◌-◌}
use Rattle.std.proofs.lemmas.List.{take_all}
use Rattle.parity_lines.specs.Problems.{ParityProblem}
use Rattle.graph_problems.specs.PathLines.{path_line, paths_problem}
use Rattle.graph_problems.proofs.ListedLines.{one_line_more}
use Rattle.graph_theory.specs.Walks.{edge_at}
use Rattle.path_theory.specs.Classes.{class_of, is_terminal}
use Rattle.path_theory.specs.Coordinates.{dimension}
use Rattle.s_paths_front.proofs.Sizes.{coordinates}
use Rattle.s_paths_front.proofs.Vectors.{line_of_ends}
use Rattle.s_paths_front.proofs.conversion.problem_over.Goals as goal

pub loop-edge-init : goal.loop-edge-init
loop-edge-init g c = c.new-problem.ensures ∙ ap (λ d. record { dimension = d; lines = [] })
    (ap₂ (λ n k. n + (n - k)) c.vertices-vertices.ensures.value c.terminals.ensures.value
    ∙ coordinates (length c.args.graph.now.names) (is_terminal c.args.graph.now.classes))

pub push-requires-clause-first_long : goal.push-requires-clause-first_long
push-requires-clause-first_long g c = c.as_slice.ensures.len ∙ c.in_ok-first.ensures.long
    ∙ sym (ap (λ (p : ParityProblem). p.dimension) c.loop-edge.invariant)

pub push-requires-clause-second_long : goal.push-requires-clause-second_long
push-requires-clause-second_long g c = c.as_slice-in-loop-edge.ensures.len ∙ c.in_ok-second.ensures.long
    ∙ sym (ap (λ (p : ParityProblem). p.dimension) c.loop-edge.invariant)

pub loop-edge-preserved : goal.loop-edge-preserved
loop-edge-preserved g c =
    one_line_more (dimension (length c.args.graph.now.names) (is_terminal c.args.graph.now.classes))
    (path_line g.F.Field.scalars (g.F.Field.number c.args.minus) (length c.args.graph.now.names) (is_terminal c.args.graph.now.classes)
    (class_of c.args.graph.now.classes)) c.args.graph.now.ends c.loop-edge.edge (0, 0) c.loop-edge.problem c.push.new.self _ (omega arith)
    c.loop-edge.invariant c.in_ok-push.ensures.ok
    (line_of_ends g.F.Field.scalars (g.F.Field.number c.args.minus) (length c.args.graph.now.names) (is_terminal c.args.graph.now.classes)
    (class_of c.args.graph.now.classes) c.ends-ends.result (edge_at c.args.graph.now.ends c.loop-edge.edge)
    (g.F.Field.number c.one.result) (g.F.Field.number c.zero.result) (g.F.Field.number c.zero-in-loop-edge.result)
    (g.F.Field.number c.one-in-loop-edge.result) _ _ c.ends-ends.ensures.value c.one.ensures c.zero.ensures c.zero-in-loop-edge.ensures
    c.one-in-loop-edge.ensures (c.as_slice.ensures.value ∙ c.in_ok-first.ensures.value) (c.as_slice-in-loop-edge.ensures.value
    ∙ c.in_ok-second.ensures.value))

pub returns : goal.returns
returns g c = c.loop-edge.invariant
    ∙ ap (paths_problem g.F.Field.scalars (g.F.Field.number c.args.minus) (length c.args.graph.now.names)
    (is_terminal c.args.graph.now.classes)
    (class_of c.args.graph.now.classes)) (take_all c.loop-edge.edge c.args.graph.now.ends (omega arith))
