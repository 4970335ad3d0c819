use Rattle.std.proofs.Common.{map, sym, ◌∙◌, arith}
use Rattle.std.proofs.lemmas.Bool.{false≢true}
use Rattle.quotients.proofs.Reduced.{zero_told, none_so_far, more_so_far, same_so_far, all_so_far}
use Rattle.quotients.proofs.reduction.reduced_basis.Goals as goal
use Rattle.quotients.proofs.reduction.reduced_basis.Goals.{then-not-is_zero+in_ok-push, else-not-is_zero}

pub loop-position-init : goal.loop-position-init
loop-position-init g c = none_so_far g.F.Field.scalars g.met.F.Field.lawful c.args.span.now.width c.args.span.now.rows c.new-basis.result c.args.dimension c.requires c.new-basis.ensures

pub loop-position-preserved : goal.loop-position-preserved
loop-position-preserved g c =
    let S = g.F.Field.scalars in
    let F = g.met.F.Field.lawful in
    let f = g.F.Field.number in
    let span = c.args.span.now in
    let row = c.in_ok-row.ensures in
    let told = zero_told S F span.width span.rows f c.as_slice.result.now c.in_ok-row.row c.is_zero.result c.as_slice.ensures.value
    c.as_slice.ensures.len row.vector c.is_zero.ensures in
    elim c.if-not-is_zero.branch [
      | then-not-is_zero+in_ok-push w ↦
          more_so_far S F span.width span.rows c.rank-rank.ensures.vectors c.loop-position.position c.loop-position.basis w.push.new.self
          c.if-not-is_zero.basis c.in_ok-row.row (map f w.as_slice-then-not-is_zero.result.now)
          c.loop-position.invariant row (λ e. false≢true (sym w.if-not-is_zero.true ∙ told.1 e)) w.basis-is w.in_ok-push.ensures.ok
          w.as_slice-then-not-is_zero.ensures.value
      | else-not-is_zero w ↦
          same_so_far S F span.width span.rows c.rank-rank.ensures.vectors c.loop-position.position c.loop-position.basis
          c.if-not-is_zero.basis c.in_ok-row.row c.loop-position.invariant row (told.0 w.if-not-is_zero.false) w.basis-is
    ]

pub returns : goal.returns
returns g c = all_so_far g.F.Field.scalars g.met.F.Field.lawful c.args.span.now.width c.args.span.now.rows c.rank-rank.ensures.vectors c.loop-position.position c.loop-position.basis (let e = c.requires in omega arith) c.loop-position.invariant
