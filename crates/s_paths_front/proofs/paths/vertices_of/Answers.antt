use Rattle.std.proofs.Common.{◌<◌, ◌++◌, ◌∷◌, [], length, refl, sym, ap, subst, ◌∙◌, arith}
use Rattle.std.proofs.lemmas.List.{take_all}
use Rattle.graph_theory.specs.Walks.{edge_at}
use Rattle.s_paths_front.proofs.Along.{Joins, as_long, one_more}
use Rattle.s_paths_front.proofs.paths.vertices_of.Goals as goal

pub loop-i-init : goal.loop-i-init
loop-i-init c others l = (c.in_ok-push.ensures.ok ∙ ap (λ vs. vs ++ c.args.from ∷ []) c.new-vertices.ensures, refl)

pub ends-requires : goal.ends-requires
ends-requires c = subst (λ e. e < length c.args.graph.now.ends) (sym c.at.ensures) (c.requires c.loop-i.i 0 (omega arith))

pub loop-i-preserved : goal.loop-i-preserved
loop-i-preserved c others l = one_more
    (edge_at c.args.graph.now.ends) c.args.from c.args.path.now others c.loop-i.vertices _ c.loop-i.i c.loop-i.at
    c.other_end-at.result (omega arith) l (c.loop-i.invariant others l)
    (λ other j. c.other_end-at.ensures other (subst (λ e. Joins e c.loop-i.at other) (sym (c.ends.ensures.value
    ∙ ap (edge_at c.args.graph.now.ends) c.at.ensures)) j))
    c.in_ok-push-2.ensures.ok

pub returns : goal.returns
returns c others l = (c.loop-i.invariant others l).0 ∙ ap (λ vs. c.args.from ∷ vs)
    (let e = as_long (edge_at c.args.graph.now.ends) c.args.from c.args.path.now others l in take_all c.loop-i.i others (omega arith))
