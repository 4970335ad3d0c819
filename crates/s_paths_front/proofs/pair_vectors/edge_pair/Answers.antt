use Rattle.std.proofs.Common.{map, length, ap, ap₂, sym, ◌∙◌}
use Rattle.std.proofs.lemmas.List.{length-map}
use Rattle.linear_algebra.specs.Vectors.{vector_sum, multiple}
use Rattle.graph_problems.proofs.PairGrowth.{edge_pair-length}
use Rattle.path_theory.specs.Classes.{class_of, is_terminal}
use Rattle.s_paths_front.proofs.pair_vectors.edge_pair.Goals as goal

pub add_multiple-requires : goal.add_multiple-requires
add_multiple-requires g c = ap length c.deref-2.ensures.value ∙ c.in_ok-second.ensures.long
    ∙ sym (ap length (c.in_ok-row.ensures ∙ ap (map g.F.Field.number) c.deref.ensures.value)
    ∙ length-map c.in_ok-first.first.items g.F.Field.number
    ∙ c.in_ok-first.ensures.long)

pub returns-clause-value : goal.returns-clause-value
returns-clause-value g c = c.add_multiple.ensures ∙ ap₂ (vector_sum g.F.Field.scalars)
    (c.in_ok-row.ensures ∙ ap (map g.F.Field.number) c.deref.ensures.value ∙ c.in_ok-first.ensures.value)
    (ap (multiple g.F.Field.scalars (g.F.Field.number c.args.minus))
    (ap (map g.F.Field.number) c.deref-2.ensures.value ∙ c.in_ok-second.ensures.value))

pub returns-clause-long : goal.returns-clause-long
returns-clause-long g c = ap length (returns-clause-value g c)
    ∙ edge_pair-length g.F.Field.scalars (g.F.Field.number c.args.minus) (g.F.Field.number c.args.x) (g.F.Field.number c.args.y)
    (length c.args.graph.now.names) (is_terminal c.args.graph.now.classes) (class_of c.args.graph.now.classes) c.args.ends
