use Rattle.std.proofs.Common.{◌≡◌, inl, inr, below_more, get_or, subst, arith}
use Rattle.classes.proofs.SpreadParts.{zero_told}
use Rattle.classes.proofs.spreads.first_stray.Goals as goal
use Rattle.classes.proofs.spreads.first_stray.Goals.{else-labels-line-via-then-labels-line+else-not-is_zero, else-labels-line-via-else-labels-line}

pub returns-then-not-is_zero : goal.returns-then-not-is_zero
returns-then-not-is_zero g c =
    let told = zero_told g.F.Field.scalars g.F.Field.number c.args.coordinates.now c.loop-i.i c.is_zero.result
    (omega arith) c.is_zero.ensures in (
      record {
        index = c.loop-i.i;
        within = omega arith;
        line = rw c.at-line.ensures;
        not_zero = told.1 c.if-not-is_zero.true;
      },
      c.if-labels-line.true,
    )

pub loop-i-preserved : goal.loop-i-preserved
loop-i-preserved g c =
    below_more _ _ c.loop-i.invariant (elim c.else-labels-line.branch [
      | else-labels-line-via-then-labels-line+else-not-is_zero w ↦ inr ((zero_told g.F.Field.scalars g.F.Field.number c.args.coordinates.now
          c.loop-i.i w.is_zero.result (omega arith) w.is_zero.ensures).0 w.if-not-is_zero.false)
      | else-labels-line-via-else-labels-line w ↦ inl
          (rw c.at-line.ensures at w.if-labels-line.false)
    ])

pub returns : goal.returns
returns g c = λ m h. elim (c.loop-i.invariant h.index (let w = h.within in omega arith)) [
  | inl e ↦ subst (λ l. get_or c.args.labels.now l 0 ≡ c.args.label) h.line e
  | inr z ↦ absurd (h.not_zero z)
]
