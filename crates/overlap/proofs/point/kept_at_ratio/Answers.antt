use Rattle.std.proofs.Common.{◌≡◌, ℕ, List, map, length, arith}
use Rattle.std.proofs.lemmas.List.{length-map}
use Rattle.std.proofs.lemmas.Result.{IfOk-weaker}
use Rattle.overlap.proofs.KeptPairs.{kept_pushed, kept_row}
use Rattle.overlap.proofs.point.kept_at_ratio.Goals as goal

pub loop-i-preserved : goal.loop-i-preserved
loop-i-preserved g c =
    let f = g.F.Field.number in
    kept_pushed g.F.Field.scalars (f c.args.factor) (map f c.args.first.now) (map f c.args.second.now) f c.loop-i.i c.loop-i.kept.items
    c.push.new.self.items c.push-in-loop-i.new.self.items c.pair_at_ratio-a.result.0 c.pair_at_ratio-a.result.1 c.in_ok-push.ensures.items
    c.in_ok-push-2.ensures.items c.loop-i.invariant c.pair_at_ratio-a.ensures

pub returns : goal.returns
returns g c =
    let S = g.F.Field.scalars in
    let f = g.F.Field.number in
    let cs : List ℕ = map f c.args.first.now in
    let ds : List ℕ = map f c.args.second.now in
    let e : length cs ≡ length c.args.first.now = length-map c.args.first.now f in
    IfOk-weaker c.copy_of.result _ _
    (λ row is. kept_row S (f c.args.factor) cs ds f c.loop-i.i c.loop-i.kept.items c.deref.result.now row (omega arith)
    c.deref.ensures.value is c.loop-i.invariant) c.copy_of.ensures
