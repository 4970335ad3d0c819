use Rattle.std.proofs.Common.{sym, ap, ◌∙◌, arith}
use Rattle.std.proofs.lemmas.List.{take_all}
use Rattle.rotation_theory.specs.CyclicLists.{empties}
use Rattle.rotation_theory.proofs.EmptyLists.{empties-none}
use Rattle.rotation_system.proofs.DartSteps.{empties_more}
use Rattle.rotation_system.proofs.rotation.Rotation.empties.Goals as goal

pub loop-vertex-init : goal.loop-vertex-init
loop-vertex-init c = record { few = omega arith; counted = sym empties-none }

pub loop-vertex-preserved : goal.loop-vertex-preserved
loop-vertex-preserved c = record {
  few = omega (arith, c.empty_at-empty.ensures.few, c.loop-vertex.invariant.few);
  counted = omega (
    arith,
    c.loop-vertex.invariant.counted,
    c.empty_at-empty.ensures.value,
    empties_more c.args.self.now.lists c.loop-vertex.vertex (omega (arith, c.vertices-vertex-end.ensures.value)),
  );
}

pub returns : goal.returns
returns c = c.loop-vertex.invariant.counted ∙ ap empties (take_all c.loop-vertex.vertex c.args.self.now.lists
    (omega (arith, c.vertices-vertex-end.ensures.value)))
