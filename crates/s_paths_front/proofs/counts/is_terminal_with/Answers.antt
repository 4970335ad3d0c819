use Rattle.std.proofs.Common.{sym, ap, ap₂, ◌∙◌, is_some, nat_eq}
use Rattle.std.specs.Prelude.{◌&&◌}
use Rattle.graph_theory.specs.Labels.{label}
use Rattle.s_paths_front.proofs.counts.is_terminal_with.Goals as goal

pub returns-then-is_some : goal.returns-then-is_some
returns-then-is_some c = ap₂ nat_eq (c.at.ensures ∙ c.requires.labels c.args.vertex c.requires.vertex) (c.at-then-is_some.ensures
    ∙ c.requires.labels c.args.root c.requires.root)
    ∙ ap (λ b. b && nat_eq (label c.args.graph.now.ends c.args.vertex) (label c.args.graph.now.ends c.args.root))
    (sym (ap is_some (sym c.class.ensures) ∙ sym c.is_some.ensures ∙ c.if-is_some.true))

pub returns-else-is_some : goal.returns-else-is_some
returns-else-is_some c = c.if-is_some.false
    ∙ ap (λ b. b && nat_eq (label c.args.graph.now.ends c.args.vertex) (label c.args.graph.now.ends c.args.root))
    (sym (ap is_some (sym c.class.ensures) ∙ sym c.is_some.ensures ∙ c.if-is_some.false))
