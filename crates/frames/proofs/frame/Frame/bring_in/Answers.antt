use Rattle.std.proofs.Common.{get_or, drop, length, ap, ◌∙◌, sym, arith}
use Rattle.linear_algebra.specs.Vectors.{zero_vector}
use Rattle.frames.proofs.Brings.{frame_before, frame_brought, keeps_twice, zero_tail}
use Rattle.frames.proofs.frame.Frame.bring_in.Goals as goal

pub pivot-requires-clause-not_zero : goal.pivot-requires-clause-not_zero
pivot-requires-clause-not_zero g c = λ z. c.in-Some.ensures.2 (ap (λ xs. get_or xs c.in-Some.t 0) c.list.ensures.value ∙ z)

pub returns-in-Some-clause-before : goal.returns-in-Some-clause-before
returns-in-Some-clause-before g c =
    frame_before g.F.Field.scalars c.args.self.now c.pivot.new.self c.swap.new.self c.args.at c.in-Some.t _ c.in-Some.ensures.0
    (let l = c.in-Some.ensures.1 in let e = c.list.ensures.long in omega arith) c.pivot.ensures.basis c.pivot.ensures.frame c.pivot.ensures.keeps c.swap.ensures.basis

pub returns-in-Some-clause-keeps : goal.returns-in-Some-clause-keeps
returns-in-Some-clause-keeps g c =
    keeps_twice g.F.Field.scalars c.args.self.now c.pivot.new.self c.swap.new.self c.pivot.ensures.keeps c.swap.ensures.keeps

pub returns-in-Some-clause-brought : goal.returns-in-Some-clause-brought
returns-in-Some-clause-brought g c = λ n.
    frame_brought g.F.Field.scalars c.args.self.now c.pivot.new.self c.swap.new.self c.args.at c.in-Some.t _ c.in-Some.ensures.0
    (let l = c.in-Some.ensures.1 in let e = c.list.ensures.long in omega arith) c.pivot.ensures.basis c.pivot.ensures.frame c.pivot.ensures.keeps c.swap.ensures.basis

pub returns-in_default-clause-brought : goal.returns-in_default-clause-brought
returns-in_default-clause-brought g c = λ n.
    let S = g.F.Field.scalars in
    absurd (n (ap (λ cs. drop c.args.at cs) (sym c.list.ensures.value) ∙ zero_tail S c.args.at c.list.result.now c.in_default.ensures
    ∙ ap (λ cs. zero_vector S (length (drop c.args.at cs))) c.list.ensures.value))
