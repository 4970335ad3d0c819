use Rattle.std.proofs.Common.{◌≡◌, ◌<◌, length, map, ap, subst, ◌∙◌, arith}
use Rattle.std.proofs.lemmas.List.{length-map}
use Rattle.vector_spaces.proofs.Members.{In-all, all-In}
use Rattle.cographic.specs.Cycles.{AreRowsBy, entry_by}
use Rattle.cographic.proofs.MarkLists.{rows_more}
use Rattle.cographic.proofs.vectors.rows_by.Goals as goal

pub vector-requires : goal.vector-requires
vector-requires g c = all-In (λ cycle. c.loop-edge.edge < length cycle) c.args.cycles.now
    (λ cycle i. let l = In-all (λ cycle. length cycle ≡ c.args.edges) c.args.cycles.now c.requires cycle i in omega arith)

pub push-requires : goal.push-requires
push-requires g c =
    let l = ap length c.in_ok-vector.ensures in
    let m = length-map c.in_ok-vector.vector.items g.F.Field.number in
    let n = length-map c.args.cycles.now (entry_by g.F.Field.scalars c.loop-edge.edge) in
    omega (arith, l, m, n, ap length c.deref.ensures.value, c.loop-edge.invariant.width)

pub loop-edge-preserved : goal.loop-edge-preserved
loop-edge-preserved g c = rows_more g.F.Field.scalars c.args.cycles.now c.loop-edge.edge c.loop-edge.rows c.push.new.self
    (map g.F.Field.number c.deref.result.now) c.loop-edge.invariant c.in_ok-push.ensures.ok
    (ap (map g.F.Field.number) c.deref.ensures.value ∙ c.in_ok-vector.ensures)

pub returns : goal.returns
returns g c = subst (λ n. AreRowsBy g.F.Field.scalars c.args.cycles.now n c.loop-edge.rows) (omega arith) c.loop-edge.invariant
