use Rattle.std.proofs.Common.{◌-◌, ◌^◌, ◌≤◌, ◌∙◌, arith}
use Rattle.std.proofs.Math.Pow.{pow_mono}
use Rattle.std.proofs.lemmas.Nat.Bits.{bit_at_mask_inside, bit_at_mask_below, bit_at_mask_above}
use Rattle.packed_rows.proofs.Shifts.{bit_from_new, bit_from_old, mask_is}
use Rattle.packed_rows.proofs.carrying.blended.Goals as goal

pub overflow_sub-mask : goal.overflow_sub-mask
overflow_sub-mask c =
    let more : 2 ^ c.args.low ≤ 2 ^ c.args.high = pow_mono c.requires.order in
    omega (arith, c.ones.ensures, c.ones-2.ensures)

pub returns-clause-inside : goal.returns-clause-inside
returns-clause-inside c j l m =
    bit_from_new c.args.old c.args.new (c.ones.result - c.ones-2.result) j
    (mask_is c.ones.result c.ones-2.result c.args.low c.args.high j c.ones.ensures c.ones-2.ensures ∙ bit_at_mask_inside c.args.low c.args.high j l m)

pub returns-clause-below : goal.returns-clause-below
returns-clause-below c j l =
    bit_from_old c.args.old c.args.new (c.ones.result - c.ones-2.result) j
    (mask_is c.ones.result c.ones-2.result c.args.low c.args.high j c.ones.ensures c.ones-2.ensures ∙ bit_at_mask_below c.args.low c.args.high j l)

pub returns-clause-above : goal.returns-clause-above
returns-clause-above c j l =
    bit_from_old c.args.old c.args.new (c.ones.result - c.ones-2.result) j
    (mask_is c.ones.result c.ones-2.result c.args.low c.args.high j c.ones.ensures c.ones-2.ensures ∙ bit_at_mask_above c.args.low c.args.high j l)
