use Rattle.classes.proofs.GrowthTies.{ended_before, grown_by_none, grown_trans}
use Rattle.classes.specs.declared.outcome.Classes.TheVariants.{Larger}
use Rattle.classes.proofs.partitioning.turns.Goals as goal

pub loop-classes-init : goal.loop-classes-init
loop-classes-init g c = record {
  grown = grown_by_none g.F.Field.scalars c.args.family.now c.len-members.ensures.family (c.requires g.met.F.Field.lawful).none;
  turn = c.requires;
}

pub returns-in-Ended-clause-told : goal.returns-in-Ended-clause-told
returns-in-Ended-clause-told g c =
    let S = g.F.Field.scalars in
    let F = g.met.F.Field.lawful in
    let q = c.loop-classes.family in
    ended_before S c.args.family.now q c.len-members.ensures.family c.loop-classes.invariant.grown c.in-Ended.classes
    (rw c.in-Ended.is at (c.in_ok-classes.ensures F))

pub grow-requires-clause-growth : goal.grow-requires-clause-growth
grow-requires-clause-growth g c L =
    rw c.in-Grown.is at (c.in_ok-classes.ensures L)

pub returns-in_err-larger-in-Grown-clause-grows : goal.returns-in_err-larger-in-Grown-clause-grows
returns-in_err-larger-in-Grown-clause-grows g c =
    grown_trans g.F.Field.scalars c.args.family.now c.loop-classes.family c.grow.new.family c.loop-classes.invariant.grown c.grow.ensures.grows

pub returns-in-Some-clause-grows : goal.returns-in-Some-clause-grows
returns-in-Some-clause-grows g c =
    grown_trans g.F.Field.scalars c.args.family.now c.loop-classes.family c.grow.new.family c.loop-classes.invariant.grown c.grow.ensures.grows

pub returns-in-Some-clause-told : goal.returns-in-Some-clause-told
returns-in-Some-clause-told g c =
    let S = g.F.Field.scalars in
    let q = c.loop-classes.family in
    let told = rw c.in-Some.is at c.in_ok-larger-in-Grown.ensures.found in
    ended_before S c.args.family.now q c.len-members.ensures.family c.loop-classes.invariant.grown (Larger c.in-Some.larger) told

pub loop-classes-preserved : goal.loop-classes-preserved
loop-classes-preserved g c =
    let S = g.F.Field.scalars in
    let q = c.loop-classes.family in
    let told = rw c.in_default.is at c.in_ok-larger-in-Grown.ensures.found in
    record {
      grown = grown_trans S c.args.family.now q c.grow.new.family c.loop-classes.invariant.grown c.grow.ensures.grows;
      turn = told.0;
    }

pub loop-classes-smaller : goal.loop-classes-smaller
loop-classes-smaller g c =
    let S = g.F.Field.scalars in
    let q = c.loop-classes.family in
    let told = rw c.in_default.is at c.in_ok-larger-in-Grown.ensures.found in
    rw c.grow.ensures.grows.problem told.1
