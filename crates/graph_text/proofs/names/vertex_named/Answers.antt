use Rattle.std.proofs.Common.{◌<◌, ◌≤◌, length, Err, ap, sym, ◌∙◌, arith}
use Rattle.line_lexer.specs.declared.refusal.Counted.TheVariants.{Vertices}
use Rattle.line_lexer.specs.declared.refusal.TextRefusal.TheVariants.{Limit}
use Rattle.graph_text.proofs.KnownNames.{with_name-is, named_ok, named_full}
use Rattle.graph_text.proofs.names.vertex_named.Goals as goal
use Rattle.graph_text.proofs.names.vertex_named.Goals.{else-vertices-before-via-then-vertices-before+else-before-most, else-vertices-before-via-else-vertices-before}

pub returns-then-before-most-clause-gives : goal.returns-then-before-most-clause-gives
returns-then-before-most-clause-gives c line words =
    let same = with_name-is c.args.graph.now c.vertex.new.self c.args.name.now c.in-Ok.ensures.known c.in-Ok.ensures.added in
    let longer : length c.args.graph.now.names < length c.vertex.new.self.names = omega arith in
    let full : c.args.most ≤ length c.args.graph.now.names = omega arith in
    named_full c.args.most c.args.graph.now c.vertex.new.self c.args.name.now line words same longer full
    ∙ ap (λ k. Err (Limit Vertices k)) (sym c.in_ok-found.ensures.value)

pub returns-clause-gives : goal.returns-clause-gives
returns-clause-gives c line words =
    let same = with_name-is c.args.graph.now c.vertex.new.self c.args.name.now c.in-Ok.ensures.known c.in-Ok.ensures.added in
    let room : length c.args.graph.now.names < length c.vertex.new.self.names → length c.args.graph.now.names < c.args.most = λ longer. elim c.else-vertices-before.branch [
      | else-vertices-before-via-then-vertices-before+else-before-most w ↦ omega arith
      | else-vertices-before-via-else-vertices-before w ↦ omega arith
    ] in
    named_ok c.args.most c.args.graph.now c.vertex.new.self c.args.name.now c.in-Ok.number line words same c.vertices.ensures.graph.different c.in-Ok.ensures.named room
