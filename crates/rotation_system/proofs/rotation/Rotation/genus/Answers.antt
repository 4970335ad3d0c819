use Rattle.std.proofs.Common.{◌-◌, ◌*◌, ◌+◌, ◌/◌, length, subst, sym, arith}
use Rattle.rotation_theory.specs.Genus.{HasGenus}
use Rattle.rotation_system.specs.RotationSystems.{held}
use Rattle.rotation_system.proofs.Systems.{GenusBy, genus_by}
use Rattle.rotation_system.proofs.rotation.Rotation.genus.Goals as goal

numbers : (c : goal.After-vertices) → GenusBy c.args.self.now c.in_ok-faces.faces c.held.result c.components.result
numbers c = genus_by c.args.self.now c.vertices-vertices.ensures.system c.in_ok-faces.faces c.held.result c.components.result
    c.in_ok-faces.ensures c.held.ensures.value c.components.ensures.value

pub overflow_add-twice : goal.overflow_add-twice
overflow_add-twice c = omega (arith, c.held.ensures.few, c.components.ensures.few, c.vertices-vertices.ensures.system.few)

pub overflow_sub-twice : goal.overflow_sub-twice
overflow_sub-twice c = omega (arith, GenusBy.vertices (numbers c), c.vertices.ensures.value)

pub overflow_sub-twice-2 : goal.overflow_sub-twice-2
overflow_sub-twice-2 c = omega (arith, GenusBy.fits (numbers c), c.vertices.ensures.value)

pub returns : goal.returns
returns c = subst (λ v. HasGenus (length c.args.self.now.lists) (held c.args.self.now) c.args.self.now.lists
    ((c.held.result + 2 * c.components.result - v - c.in_ok-faces.faces) / 2)) (sym c.vertices.ensures.value) (GenusBy.genus (numbers c))
