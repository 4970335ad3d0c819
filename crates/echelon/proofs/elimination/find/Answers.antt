use Rattle.std.proofs.Common.{map, length, refl, subst}
use Rattle.echelon.specs.Leads.{LeadsAt}
use Rattle.echelon.proofs.Insertion.{found, insert_old, insert_outside, insert_new}
use Rattle.echelon.proofs.elimination.find.Goals as goal

pub returns-in_ok-negated-in-None : goal.returns-in_ok-negated-in-None
returns-in_ok-negated-in-None g c =
    let S = g.F.Field.scalars in
    let f = g.F.Field.number in
    let v = c.args.v.now in
    let d = length v in
    let ss = c.args.steps.now in
    let left = c.in_ok-left.left in
    let known = found S f g.met.F.Field.is_scalar d ss ss v left.coefficients.items left.rest refl refl c.in_ok-left.ensures.long c.in_ok-left.ensures.rest c.in_ok-left.ensures.added in
    insert_old S g.met.F.Field.lawful d ss c.requires (map f v) left.rest (map f left.coefficients.items) known f c.as_slice.result.now c.in_ok-negated-in-None.field-0
    c.as_slice.ensures.value c.in-None.ensures c.in_ok-negated-in-None.ensures

pub returns-in-Some : goal.returns-in-Some
returns-in-Some g c =
    let S = g.F.Field.scalars in
    let F = g.met.F.Field.lawful in
    let f = g.F.Field.number in
    let v = c.args.v.now in
    let d = length v in
    let ss = c.args.steps.now in
    let left = c.in_ok-left.left in
    let cs = map f left.coefficients.items in
    let known = found S f g.met.F.Field.is_scalar d ss ss v left.coefficients.items left.rest refl refl c.in_ok-left.ensures.long c.in_ok-left.ensures.rest c.in_ok-left.ensures.added in
    let shown = map f c.as_slice.result.now in
    let p = c.in-Some.pivot in
    let is = c.as_slice.ensures.value in
    let leads = c.in-Some.ensures in record {
      outside = insert_outside S F d ss c.requires (map f v) left.rest cs known shown p is leads;
      leads = subst (λ w. LeadsAt S w p) is leads;
      next = insert_new S F d ss c.requires (map f v) left.rest cs known shown p is leads;
    }
