use Rattle.std.proofs.Common.{◌≡◌, true, arith}
use Rattle.std.proofs.lemmas.Bool.{false≢true}
use Rattle.matching_state.proofs.Monics.{same_entries}
use Rattle.classes.proofs.direction.are_same.Goals as goal

pub returns-then-ne : goal.returns-then-ne
returns-then-ne g c = (
  λ never. absurd (false≢true never),
  λ e.
      let f = g.F.Field.number in
      let x = c.index-v-i.result in
      let y = c.index-w-i.result in
      let is = same_entries f c.args.v.now c.args.w.now c.loop-i.i x y (omega arith) (omega arith) c.index-v-i.is c.index-w-i.is e in
      let same : g.F.PartialEq.eq x y ≡ true = (g.met.F.Field.equals x y).1 is in
      absurd (false≢true (rw (c.ne.ensures, same) at c.if-ne.true)),
)
