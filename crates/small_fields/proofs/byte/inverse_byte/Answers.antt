use Rattle.std.proofs.Common.{◌≡◌, ◌+◌, ◌-◌, sym, ap, ap₂, ◌∙◌, lit<, arith}
use Rattle.small_fields.specs.Bytes.{byte_power, byte_product}
use Rattle.small_fields.proofs.Powers.{byte_power-sum, power_255}
use Rattle.small_fields.proofs.byte.inverse_byte.Goals as goal

pub returns : goal.returns
returns c =
    let l = c.logarithm.result in
    let small = c.logarithm.ensures.small in
    ap₂ byte_product (sym c.logarithm.ensures.power) c.power.ensures ∙ byte_power-sum 3 l (255 - l) (lit< tt)
    ∙ ap (byte_power 3) (let e : l + (255 - l) ≡ 255 = omega arith in e) ∙ power_255
