use Rattle.std.proofs.Common.{length, subst, sym, ◌∙◌}
use Rattle.matching_state.specs.Bases.{IsKept}
use Rattle.matching_state.proofs.Products.{entry_read}
use Rattle.matching_state.proofs.Seen.{none_combined, unit_more, all_units}
use Rattle.matching_state.proofs.matched.Matched.combined.Goals as goal

pub loop-i-init : goal.loop-i-init
loop-i-init g c =
    let S = g.F.Field.scalars in
    let s = c.args.self.now in
    let K : IsKept S s = subst (IsKept S) c.self.view_is c.self.invariant in
    none_combined S g.met.F.Field.lawful s K c.in_ok-row.row (length c.args.v.now) c.requires c.in_ok-row.ensures

pub loop-i-preserved : goal.loop-i-preserved
loop-i-preserved g c =
    let S = g.F.Field.scalars in
    let n = g.F.Field.number in
    let s = c.args.self.now in
    let v = c.args.v.now in
    let i = c.loop-i.i in
    let inside = c.loop-i-test.true in
    unit_more S g.met.F.Field.lawful s n g.met.F.Field.is_scalar v c.requires c.unit.ensures.kept i inside c.loop-i.row c.unit.result.now c.axpy.new.self c.loop-i.invariant c.unit.ensures.combines c.index-v-i.result
    (entry_read n v i c.index-v-i.result inside c.index-v-i.is) c.axpy.ensures

pub returns-clause-combines : goal.returns-clause-combines
returns-clause-combines g c =
    let S = g.F.Field.scalars in
    let n = g.F.Field.number in
    let s = c.args.self.now in
    all_units S g.met.F.Field.lawful s n g.met.F.Field.is_scalar c.args.v.now c.requires c.loop-i.i c.loop-i-test.false c.loop-i.row c.loop-i.invariant

pub axpy-requires : goal.axpy-requires
axpy-requires g c = c.loop-i.invariant.one_each.length_is ∙ sym c.unit.ensures.combines.one_each.length_is
