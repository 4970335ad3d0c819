use Rattle.std.proofs.Common.{◌∙◌}
use Rattle.class_theory.proofs.Classes.{of_label, of_label_in}
use Rattle.classes.proofs.DivisionLaws.{label_of, listing_all_below, listing_left, listing_none_kept, listing_taken, of_label_not}
use Rattle.classes.proofs.division.class_of.Goals as goal
use Rattle.classes.proofs.division.class_of.Goals.{then-own-label+in_ok-push, else-own-label}

pub loop-line-init : goal.loop-line-init
loop-line-init c = listing_none_kept (of_label (label_of c.args.labels.now) c.args.label) c.new-class.result c.new-class.ensures

pub push-requires : goal.push-requires
push-requires c = listing_all_below (of_label (label_of c.args.labels.now) c.args.label) c.loop-line.line c.loop-line.class c.loop-line.invariant

pub loop-line-preserved : goal.loop-line-preserved
loop-line-preserved c =
    let lab = label_of c.args.labels.now in
    let J = of_label lab c.args.label in
    let i = c.loop-line.line in
    elim c.if-own-label.branch [
      | then-own-label+in_ok-push w ↦ listing_taken J i c.loop-line.class _ c.loop-line.invariant (of_label_in lab c.args.label i w.if-own-label.true)
          (w.class-is ∙ w.in_ok-push.ensures.ok)
      | else-own-label w ↦ w.class-is ∙ listing_left J i c.loop-line.class c.loop-line.invariant (of_label_not lab c.args.label i w.if-own-label.false)
    ]
