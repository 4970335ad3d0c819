use Rattle.std.proofs.Common.{[], ◌∷◌, sym, subst}
use Rattle.rotation_theory.specs.Genus.{HasFaces}
use Rattle.rotation_system.specs.InsertedEdges.{HoldsMore}
use Rattle.rotation_system.proofs.PairsPut.{pair_raises}
use Rattle.rotation_system.proofs.rotation.Rotation.insert_pair.Goals as goal

pub returns-clause-genus : goal.returns-clause-genus
returns-clause-genus c = pair_raises c.args.self.now c.swap.new.x c.vertices-vertices.ensures.system c.args.first c.args.second
    c.requires.one_face
    (subst (λ r. HasFaces r.lists 1) (sym c.swap.ensures.x_after) c.in_ok-insert_meeting.ensures.faces)
    (subst (HoldsMore c.args.self.now (c.args.first ∷ c.args.second ∷ [])) (sym c.swap.ensures.x_after)
    (subst (λ r. HoldsMore r (c.args.first ∷ c.args.second ∷ []) c.insert_meeting.new.self) c.in_ok-grown.ensures
    c.in_ok-insert_meeting.ensures.held))
