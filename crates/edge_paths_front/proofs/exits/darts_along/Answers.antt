use Rattle.std.proofs.Common.{◌≡◌, ◌-◌, get_or, ap, subst, ◌∙◌}
use Rattle.std.specs.Prelude.{IfOk}
use Rattle.graph_theory.specs.Walks.{edge_at}
use Rattle.edge_path_theory.specs.Darts.{tail}
use Rattle.edge_path_theory.specs.Exits.{path_of_list}
use Rattle.edge_paths_front.specs.Replies.{exits_along}
use Rattle.edge_paths_front.proofs.ExitSteps.{along_turned, along_straight}
use Rattle.edge_paths_front.proofs.exits.darts_along.Goals as goal

pub returns-in_ok-reversed : goal.returns-in_ok-reversed
returns-in_ok-reversed c = let ends = edge_at c.args.graph.now.ends in let vs = c.args.path.now in
    subst (λ out. IfOk c.exits_along-then-last-first.result (λ darts. darts.items ≡ out))
    (ap (λ z. exits_along ends (path_of_list z)) c.in_ok-reversed.ensures
    ∙ along_turned ends vs c.requires.some c.tail-first.result c.tail-last.result
    (c.tail-first.ensures.value ∙ ap (tail ends) c.at.ensures)
    (c.tail-last.ensures.value ∙ ap (tail ends) c.at-2.ensures ∙ ap (λ n. tail ends (get_or vs (n - 1) 0)) c.len.ensures)
    c.if-last-first.true)
    c.exits_along-then-last-first.ensures

pub returns-else-last-first : goal.returns-else-last-first
returns-else-last-first c = let ends = edge_at c.args.graph.now.ends in let vs = c.args.path.now in
    subst (λ out. IfOk c.exits_along-else-last-first.result (λ darts. darts.items ≡ out))
    (along_straight ends vs c.requires.some c.tail-first.result c.tail-last.result
    (c.tail-first.ensures.value ∙ ap (tail ends) c.at.ensures)
    (c.tail-last.ensures.value ∙ ap (tail ends) c.at-2.ensures ∙ ap (λ n. tail ends (get_or vs (n - 1) 0)) c.len.ensures)
    c.if-last-first.false)
    c.exits_along-else-last-first.ensures
