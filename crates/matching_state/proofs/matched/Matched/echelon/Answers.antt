use Rattle.parity_lines.proofs.NoRelation.{no_relation}
use Rattle.parity_lines.specs.Independence.{TellsBasis}
use Rattle.parity_lines.specs.Problems.{vectors_at}
use Rattle.std.proofs.Common.{subst}
use Rattle.matching_state.proofs.matched.Matched.echelon.Goals as goal

pub unreachable-requires : goal.unreachable-requires
unreachable-requires g c =
    let p = c.self.inside.problem.now in
    no_relation g.F.Field.scalars g.met.F.Field.lawful p.dimension (vectors_at p c.self.inside.set) _ c.self.invariant.independent.independent
    (subst (TellsBasis g.F.Field.scalars p c.self.inside.set) c.in-Relation.is c.in_ok-basis.ensures)
