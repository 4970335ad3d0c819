use Rattle.search.proofs.Sizes.{keeps_on, notes_kept, order_kept, trail_kept}
use Rattle.search.proofs.walking.walk.Goals as goal

pub loop-step-preserved : goal.loop-step-preserved
loop-step-preserved g c =
    let before = c.loop-step.state in
    let after = c.step.new.state in
    let k = c.step.ensures.keeps in
    record {
      keeps = keeps_on c.args.state.now before after c.loop-step.invariant.keeps k;
      order = order_kept before after c.args.order.now k c.loop-step.invariant.order;
      over = c.step.ensures.over;
      notes = notes_kept g.F.Field.scalars before after c.visit.new.notes k c.visit.ensures.notes;
      trail = trail_kept before after c.step.new.trail k c.step.ensures.trail;
    }
