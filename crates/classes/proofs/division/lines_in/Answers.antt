use Rattle.std.proofs.Common.{ap, ◌∙◌, arith}
use Rattle.std.proofs.lemmas.List.{take_all}
use Rattle.class_theory.proofs.Classes.{count_in}
use Rattle.parity_theory.proofs.Parts.{has}
use Rattle.classes.proofs.DivisionLaws.{counted, held, not_counted, not_held}
use Rattle.classes.proofs.division.lines_in.Goals as goal
use Rattle.classes.proofs.division.lines_in.Goals.{then-holds, else-holds}

pub overflow_add-count : goal.overflow_add-count
overflow_add-count c = let h = c.loop-i.invariant.small in omega arith

pub loop-i-preserved : goal.loop-i-preserved
loop-i-preserved c =
    let J = has c.args.class.now in
    let M = c.args.set.now in
    let i = c.loop-i.i in
    let h = c.loop-i.invariant in
    let small = h.small in
    elim c.if-holds.branch [
      | then-holds w ↦
          let e = counted J M i (omega arith) (held c.args.class.now _ _ _ c.holds.ensures c.at.ensures w.if-holds.true) in
          let is = h.is in
          let k = w.count-is in
          record { is = omega arith; small = omega arith }
      | else-holds w ↦
          let e = not_counted J M i (omega arith) (not_held c.args.class.now _ _ _ c.holds.ensures c.at.ensures w.if-holds.false) in
          let is = h.is in
          let k = w.count-is in
          record { is = omega arith; small = omega arith }
    ]

pub returns : goal.returns
returns c = c.loop-i.invariant.is ∙ ap (count_in (has c.args.class.now)) (take_all c.loop-i.i c.args.set.now (omega arith))
