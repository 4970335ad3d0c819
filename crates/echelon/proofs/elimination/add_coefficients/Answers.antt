use Rattle.echelon.proofs.Loops.{coefficients_added, one_longer, refilled}
use Rattle.echelon.proofs.elimination.add_coefficients.Goals as goal

pub returns : goal.returns
returns g c =
    let old = c.args.coefficients.now.items in
    let mid = c.push.new.self.items in
    let pushed = c.as_mut_slice.result.now in
    let new = c.axpy.new.target in
    let shown = c.as_mut_slice.ensures.value in
    let final = refilled c.push.new.self.len mid new pushed c.axpy.auto.target c.as_mut_slice.ensures.len in
    record {
      long = one_longer old mid pushed new _ c.zero.result final shown c.in_ok-push.ensures.items c.axpy.auto.target;
      sum = coefficients_added g.F.Field.scalars g.F.Field.number old mid pushed new _ c.args.step.now.coefficients c.zero.result c.args.factor c.as_slice.result.now
          final c.zero.ensures shown c.in_ok-push.ensures.items c.as_slice.ensures.value c.axpy.ensures;
    }
