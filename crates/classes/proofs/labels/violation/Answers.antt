use Rattle.std.proofs.Common.{length}
use Rattle.classes.specs.Tables.{akin_at}
use Rattle.classes.proofs.LabelLaws.{less_label, same_label}
use Rattle.classes.proofs.labels.violation.Goals as goal

pub returns-then-own-other : goal.returns-then-own-other
returns-then-own-other c =
    let t = c.args.table.now in
    let r = c.requires in
    less_label (length t.live) (akin_at t) r.symmetric c.args.i c.args.j r.i r.j _ _ (r.labels.each c.args.i r.i) (r.labels.each c.args.j r.j)
    (rw c.are_akin.ensures at c.if-are_akin.true) c.if-own-other.true

pub returns-then-other-own : goal.returns-then-other-own
returns-then-other-own c =
    let t = c.args.table.now in
    let r = c.requires in
    less_label (length t.live) (akin_at t) r.symmetric c.args.j c.args.i r.j r.i _ _ (r.labels.each c.args.j r.j) (r.labels.each c.args.i r.i)
    (r.symmetric.turned c.args.i c.args.j r.i r.j (rw c.are_akin.ensures at c.if-are_akin.true)) c.if-other-own.true

pub returns-then-i-j : goal.returns-then-i-j
returns-then-i-j c =
    let t = c.args.table.now in
    let r = c.requires in
    same_label (length t.live) (akin_at t) r.symmetric c.args.i c.args.j r.i r.j _ _ (r.labels.each c.args.i r.i) (r.labels.each c.args.j r.j)
    c.if-own-other-2.true (rw c.are_akin.ensures at c.if-are_akin.false) c.if-i-j.true
