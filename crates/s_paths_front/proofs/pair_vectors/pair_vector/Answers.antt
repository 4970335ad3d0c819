use Rattle.std.proofs.Common.{◌≡◌, map, length, ap, sym, ◌∙◌, arith, subst}
use Rattle.std.specs.Prelude.{◌<◌}
use Rattle.graph_problems.specs.PathLines.{pair_vector}
use Rattle.path_theory.specs.Classes.{class_of, is_terminal}
use Rattle.s_paths_front.proofs.Vectors.{here, away, if_some, as_many}
use Rattle.s_paths_front.proofs.pair_vectors.pair_vector.Goals as goal
use Rattle.s_paths_front.proofs.pair_vectors.pair_vector.Goals.{then-at-vertex+in_ok-push_pair, else-at-vertex+in_ok-push_zeros}

pub loop-at-init : goal.loop-at-init
loop-at-init g c = ap (map g.F.Field.number) c.new-vector.ensures.items

pub push_pair-requires : goal.push_pair-requires
push_pair-requires g c = if_some c.class.result (λ k. k < g.F.Field.scalars.order) (λ k e. c.requires c.loop-at.at k (sym c.class.ensures
    ∙ e))

pub loop-at-preserved : goal.loop-at-preserved
loop-at-preserved g c = elim c.if-at-vertex.branch [
  | then-at-vertex+in_ok-push_pair w ↦ here g.F.Field.scalars (g.F.Field.number c.args.minus) (g.F.Field.number c.args.x)
      (g.F.Field.number c.args.y)
      c.loop-at.at c.args.graph.now.classes c.args.vertex
      (map g.F.Field.number c.loop-at.vector.items) c.loop-at.invariant w.class.result w.class.ensures
      (map g.F.Field.number w.push_pair.new.vector.items) (map g.F.Field.number c.if-at-vertex.vector.items)
      (ap (λ v. map g.F.Field.number v.items) w.vector-is) w.if-at-vertex.true w.in_ok-push_pair.ensures
  | else-at-vertex+in_ok-push_zeros w ↦ away g.F.Field.scalars (g.F.Field.number c.args.minus) (g.F.Field.number c.args.x)
      (g.F.Field.number c.args.y)
      c.loop-at.at c.args.graph.now.classes c.args.vertex (map g.F.Field.number c.loop-at.vector.items) c.loop-at.invariant
      w.class-else-at-vertex.result w.class-else-at-vertex.ensures
      (map g.F.Field.number w.push_zeros.new.vector.items) (map g.F.Field.number c.if-at-vertex.vector.items)
      (ap (λ v. map g.F.Field.number v.items) w.vector-is) w.if-at-vertex.false w.in_ok-push_zeros.ensures
]

pub returns-clause-value : goal.returns-clause-value
returns-clause-value g c = let end : c.loop-at.at ≡ length c.args.graph.now.names = omega arith in
    subst (λ n. map g.F.Field.number c.loop-at.vector.items ≡ pair_vector g.F.Field.scalars (g.F.Field.number c.args.minus) n
    (is_terminal c.args.graph.now.classes) (class_of c.args.graph.now.classes) c.args.vertex (g.F.Field.number c.args.x)
    (g.F.Field.number c.args.y))
    end c.loop-at.invariant

pub returns-clause-long : goal.returns-clause-long
returns-clause-long g c = as_many g.F.Field.scalars (g.F.Field.number c.args.minus) (g.F.Field.number c.args.x) (g.F.Field.number c.args.y)
    (length c.args.graph.now.names) (is_terminal c.args.graph.now.classes)
    (class_of c.args.graph.now.classes) c.args.vertex g.F.Field.number
    c.loop-at.vector.items (returns-clause-value g c)
