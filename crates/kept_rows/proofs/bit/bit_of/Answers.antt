use Rattle.std.proofs.Common.{◌≡◌, inl, inr, sym, ap, ◌∙◌, arith}
use Rattle.kept_rows.specs.Kept.{scalar_of}
use Rattle.kept_rows.proofs.Bits.{zero_or_one}
use Rattle.kept_rows.proofs.bit.bit_of.Goals as goal

pub returns-then-number : goal.returns-then-number
returns-then-number g c = record {
  stands = ap (scalar_of g.F.Field.scalars) c.one-then-number.ensures ∙ sym c.one.ensures ∙ sym c.number-2.ensures ∙ sym c.if-number.true ∙ c.number.ensures;
  bit = omega (arith, c.one-then-number.ensures);
}

pub returns-else-number : goal.returns-else-number
returns-else-number g c =
    let S = g.F.Field.scalars in
    let two : S.order ≡ 2 = g.met.F.Field.order_is ∙ c.requires in
    let x = g.F.Field.number c.args.value in
    record {
      stands = elim (zero_or_one S g.met.F.Field.lawful two x (g.met.F.Field.is_scalar c.args.value)) [
        | inl e ↦ ap (scalar_of S) c.zero.ensures ∙ sym e
        | inr e ↦ absurd (c.if-number.false (c.number.ensures ∙ e ∙ sym c.one.ensures ∙ sym c.number-2.ensures))
      ];
      bit = omega (arith, c.zero.ensures);
    }
