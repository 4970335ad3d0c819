use Rattle.std.proofs.Common.{◌≡◌, ◌++◌, ◌∷◌, [], length, subst, arith}
use Rattle.classes.proofs.DivisionLaws.{IsDividedBelow, after_push, class_not_empty, class_within, divided_left, divided_more, divided_none, division_parts, not_label, small_class}
use Rattle.classes.proofs.division.division_of.Goals as goal
use Rattle.classes.proofs.division.division_of.Goals.{then-label-line+in_ok-class+in_ok-is_large+else-branch+else-is_err, else-label-line}

pub loop-line-init : goal.loop-line-init
loop-line-init g c = divided_none g.F.Field.scalars c.args.problem.now c.args.labels.now c.args.set.now c.new-parts.result c.new-parts.ensures

pub is_large-requires : goal.is_large-requires
is_large-requires g c = rw c.in_ok-class.ensures
    (class_within (length c.args.problem.now.lines) c.args.labels.now c.requires.labels.long c.loop-line.line)

pub push-requires : goal.push-requires
push-requires g c = class_not_empty c.args.labels.now c.in_ok-class.class c.loop-line.line (omega arith) c.if-label-line.true c.in_ok-class.ensures

pub loop-line-preserved : goal.loop-line-preserved
loop-line-preserved g c =
    let S = g.F.Field.scalars in
    let p = c.args.problem.now in
    let labels = c.args.labels.now in
    let M = c.args.set.now in
    let i = c.loop-line.line in
    elim c.if-label-line.branch [
      | then-label-line+in_ok-class+in_ok-is_large+else-branch+else-is_err w ↦
          let is = w.in_ok-class.ensures in
          let pushed : w.push.new.self ≡ c.loop-line.parts ++ w.in_ok-class.class ∷ [] =
          after_push w.push.result _ w.push.ensures.ok (rw w.is_err.ensures.value at w.if-is_err.false) in
          let small = small_class _ _ _ w.in_ok-is_large.ensures w.if-branch.false in
          divided_more S p labels M i c.loop-line.parts c.loop-line.invariant c.if-label-line.parts w.if-label-line.true
          (rw (w.parts-is, pushed, is))
          (rw is at small)
      | else-label-line w ↦ rw w.parts-is
          (divided_left S p labels M i c.loop-line.parts c.loop-line.invariant (not_label labels i w.if-label-line.false))
    ]

pub returns : goal.returns
returns g c = division_parts g.F.Field.scalars g.met.F.Field.lawful c.args.problem.now c.len-lines.ensures.problem c.args.labels.now c.args.set.now
    c.requires.labels c.requires.set c.loop-line.parts c.len-parts.ensures.parts
    (subst (λ n. IsDividedBelow g.F.Field.scalars c.args.problem.now c.args.labels.now c.args.set.now n c.loop-line.parts) (omega arith)
    c.loop-line.invariant)
