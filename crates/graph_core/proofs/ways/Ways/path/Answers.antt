use Rattle.std.proofs.Common.{◌++◌, ap, ◌∙◌, arith}
use Rattle.std.specs.Prelude.{is_some}
use Rattle.graph_core.specs.declared.ways.Way.{Way}
use Rattle.graph_core.specs.Ways.{back}
use Rattle.graph_core.proofs.Searches.{same_way, path_step, path_end}
use Rattle.graph_core.proofs.ways.Ways.path.Goals as goal

pub loop-step-init : goal.loop-step-init
loop-step-init c = (
  c.way-step-end.result,
  c.way-step-end.ensures,
  omega arith,
  ap
      (λ xs. xs ++ back c.args.self.now.table.items c.way-step-end.result.steps c.args.from) c.new-path.ensures,
)

pub way-way-requires : goal.way-way-requires
way-way-requires c = ap is_some c.loop-step.invariant.1

pub loop-step-preserved : goal.loop-step-preserved
loop-step-preserved c =
    let v = c.loop-step.invariant in
    let T = c.args.self.now.table.items in
    let r = path_step T c.requires.down c.loop-step.at c.args.from c.loop-step._step c.way-step-end.result.steps c.loop-step.path
    c.way-way.result v.0 v.1 v.2 v.3 c.loop-step-test.true c.way-way.ensures in
    (r.0, r.1, r.2, ap (λ es. es ++ back T r.0.steps c.way-way.result.next) c.in_ok-push.ensures.ok ∙ r.3)

pub returns : goal.returns
returns c w at =
    let v = c.loop-step.invariant in
    let T = c.args.self.now.table.items in
    path_end T c.loop-step.at c.args.from c.loop-step._step c.way-step-end.result.steps c.loop-step.path v.0 v.2 v.3 c.loop-step-test.false
    ∙ ap (λ (y : Way). back T y.steps c.args.from) (same_way T c.args.from c.way-step-end.result w c.way-step-end.ensures at)
