use Rattle.std.proofs.lemmas.Result.{IfOk-weaker}
use Rattle.search.proofs.FirstLines.{firsts_within, labels_by_firsts, one_each, parts_by_firsts}
use Rattle.search.proofs.walker.Walker.parts.Goals as goal

pub join_firsts-requires-clause-long : goal.join_firsts-requires-clause-long
join_firsts-requires-clause-long g c = one_each _ _ _ c.as_slice-2.ensures.value c.requires.ready.firsts

pub join_firsts-requires-clause-within : goal.join_firsts-requires-clause-within
join_firsts-requires-clause-within g c = firsts_within _ _ _ c.as_slice-2.ensures.value c.requires.ready.firsts

pub join_firsts-requires-clause-labels : goal.join_firsts-requires-clause-labels
join_firsts-requires-clause-labels g c = labels_by_firsts _ _ _ c.as_slice-2.ensures.value c.requires.ready.firsts _ c.join_inside.ensures

pub returns : goal.returns
returns g c = IfOk-weaker c.parts.result _ _
    (λ parts h. parts_by_firsts _ _ _ c.as_slice-2.ensures.value c.requires.ready.firsts _ parts c.join_firsts.ensures h) c.parts.ensures
