use Rattle.std.proofs.Common.{sym, ap, ◌∙◌, length}
use Rattle.std.specs.Prelude.{◌&&◌, not}
use Rattle.std.proofs.lemmas.Bool.{false_from_ne_true}
use Rattle.graph_theory.specs.Counts.{is_root}
use Rattle.graph_theory.proofs.Forests.{label_of_root, root_of_label}
use Rattle.graph_theory.proofs.Labels.{no-nat_eq}
use Rattle.path_theory.specs.Classes.{is_terminal}
use Rattle.path_theory.specs.Terminals.{is_terminal_with, some_below}
use Rattle.s_paths_front.proofs.counts.is_free_root.Goals as goal

pub returns-then-at-vertex : goal.returns-then-at-vertex
returns-then-at-vertex c =
    let own = sym (c.at.ensures ∙ c.requires.labels c.args.vertex c.requires.vertex) ∙ c.if-at-vertex.true in
    ap not c.has_terminal.ensures
    ∙ ap (λ b. b && not (some_below (length c.args.graph.now.names)
    (is_terminal_with (is_terminal c.args.graph.now.classes) c.args.graph.now.ends c.args.vertex)))
    (sym (root_of_label c.args.graph.now.ends c.args.vertex own))

pub returns-else-at-vertex : goal.returns-else-at-vertex
returns-else-at-vertex c = no-nat_eq c.at.result c.args.vertex c.if-at-vertex.false
    ∙ ap (λ b. b && not (some_below (length c.args.graph.now.names)
    (is_terminal_with (is_terminal c.args.graph.now.classes) c.args.graph.now.ends c.args.vertex)))
    (sym (false_from_ne_true (is_root c.args.graph.now.ends c.args.vertex) (λ r. c.if-at-vertex.false
    (c.at.ensures ∙ c.requires.labels c.args.vertex c.requires.vertex ∙ label_of_root c.args.graph.now.ends c.args.vertex r))))
