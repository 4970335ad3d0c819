use Rattle.std.proofs.Common.{sym, ap, ap₂, ◌∙◌, lit<}
use Rattle.small_fields.specs.Bytes.{byte_product}
use Rattle.small_fields.specs.Laws.ByteField.{left, right}
use Rattle.small_fields.specs.Laws.Linear.{linear-zero}
use Rattle.small_fields.proofs.Powers.{byte_power-sum}
use Rattle.small_fields.proofs.byte.product.Goals as goal
use Rattle.small_fields.proofs.byte.product.Goals.{then-a-eq0-via-then-a-eq0, then-a-eq0-via-else-a-eq0+then-b-eq0}

pub returns-then-a-eq0 : goal.returns-then-a-eq0
returns-then-a-eq0 c = elim c.then-a-eq0.branch [
  | then-a-eq0-via-then-a-eq0 w ↦ sym (ap (λ x. byte_product x c.args.b) w.if-a-eq0.true ∙ linear-zero (λ x. byte_product x c.args.b) (left c.args.b))
  | then-a-eq0-via-else-a-eq0+then-b-eq0 w ↦ sym (ap (byte_product c.args.a) w.if-b-eq0.true ∙ linear-zero (byte_product c.args.a) (right c.args.a))
]

pub returns : goal.returns
returns c =
    c.power.ensures ∙ sym (byte_power-sum 3 c.logarithm.result c.logarithm-2.result (lit< tt))
    ∙ ap₂ byte_product c.logarithm.ensures.power c.logarithm-2.ensures.power
