use Rattle.matching_state.proofs.matched.Matched.kept.Goals as goal

pub returns : goal.returns
returns g c = (c.list.result.now, c.view.ensures, c.list.ensures.combines)
