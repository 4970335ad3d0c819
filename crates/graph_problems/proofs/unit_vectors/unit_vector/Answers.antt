use Rattle.std.proofs.Common.{[], ◌∷◌, ◌++◌, length, map, ap, sym, ◌∙◌, add-one, arith}
use Rattle.std.proofs.lemmas.List.{length-map, map-append}
use Rattle.graph_problems.specs.GraphLines.{unit_vector}
use Rattle.graph_problems.proofs.UnitVectors.{unit_vector_grows, unit_vector-length}
use Rattle.graph_problems.proofs.unit_vectors.unit_vector.Goals as goal

pub loop-coordinate-init : goal.loop-coordinate-init
unfolding unit_vector
loop-coordinate-init g c = ap (map g.F.Field.number) c.new-vector.ensures.items

pub loop-coordinate-preserved : goal.loop-coordinate-preserved
loop-coordinate-preserved g c = ap (map g.F.Field.number) c.in_ok-push.ensures.items ∙ map-append g.F.Field.number c.loop-coordinate.vector.items (c.entry.result ∷ [])
    ∙ ap (λ v. v ++ g.F.Field.number c.entry.result ∷ []) c.loop-coordinate.invariant
    ∙ rw add-one (sym (unit_vector_grows g.F.Field.scalars c.loop-coordinate.coordinate c.args.place (g.F.Field.number c.entry.result)
    c.entry.ensures.there c.entry.ensures.elsewhere))

pub returns-clause-long : goal.returns-clause-long
returns-clause-long g c = sym (length-map c.loop-coordinate.vector.items g.F.Field.number) ∙ ap length c.loop-coordinate.invariant
    ∙ unit_vector-length g.F.Field.scalars c.loop-coordinate.coordinate c.args.place ∙ omega arith
