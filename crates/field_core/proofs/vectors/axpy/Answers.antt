use Rattle.std.proofs.Common.{rules, ◌≡◌, length, map, sym, ◌∙◌, arith, refl, subst}
use Rattle.std.proofs.lemmas.List.{length-map}
use Rattle.linear_algebra.specs.Vectors.{multiple, vector_sum}
use Rattle.linear_algebra.proofs.VectorLaws.{vector_sum-nothing}
use Rattle.field_core.proofs.Loops.{summed-none, summed_more}
use Rattle.field_core.proofs.Values.{vector_of_values}
use Rattle.field_core.proofs.vectors.axpy.Goals as goal

pub returns-then-eq : goal.returns-then-eq
returns-then-eq g c =
    let S = g.F.Field.scalars in
    let f = g.F.Field.number in
    let target = c.args.target.now in
    let source = c.args.source.now in
    let none : f c.args.factor ≡ S.zero = search rules in
    sym (subst (λ k. vector_sum S (map f target) (multiple S k (map f source)) ≡ map f target) (sym none)
    (vector_sum-nothing S g.met.F.Field.lawful (length source) (map f target) (map f source)
    (vector_of_values S f g.met.F.Field.is_scalar target (length source) c.requires) (vector_of_values S f g.met.F.Field.is_scalar source (length source) refl)))

pub loop-i-init : goal.loop-i-init
loop-i-init g c = sym (summed-none g.F.Field.scalars (g.F.Field.number c.args.factor) (map g.F.Field.number c.args.target.now) (map g.F.Field.number c.args.source.now))

pub loop-i-preserved : goal.loop-i-preserved
loop-i-preserved g c =
    let f = g.F.Field.number in
    summed_more g.F.Field.scalars f c.loop-i.target c.args.source.now (map f c.args.target.now) (f c.args.factor) c.loop-i.i
    c.index-target-i.result c.index-source-i.result c.add.result (omega arith) (omega arith) (length-map c.args.target.now f ∙ c.requires)
    c.index-target-i.is c.index-source-i.is (rw (← c.mul.ensures) c.add.ensures) c.loop-i.invariant
