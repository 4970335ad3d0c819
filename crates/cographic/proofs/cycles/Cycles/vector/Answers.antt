use Rattle.std.proofs.Common.{[], ◌∷◌, ◌<◌, map, get_or, length, ap, subst, sym, ◌∙◌, arith}
use Rattle.std.proofs.lemmas.List.{map-append, take_all}
use Rattle.vector_spaces.proofs.Members.{In-all, In-get_or}
use Rattle.cographic.specs.Cycles.{entry_by}
use Rattle.cographic.proofs.MarkLists.{entries_more}
use Rattle.cographic.proofs.cycles.Cycles.vector.Goals as goal

pub loop-i-init : goal.loop-i-init
loop-i-init g c = ap (map g.F.Field.number) c.new-vector.ensures.items

pub entry-requires : goal.entry-requires
entry-requires g c = subst (λ cycle. c.args.edge < length cycle) (sym c.at.ensures)
    (In-all (λ cycle. c.args.edge < length cycle) c.args.self.now c.requires (get_or c.args.self.now c.loop-i.i [])
    (In-get_or c.args.self.now c.loop-i.i [] (omega arith)))

pub loop-i-preserved : goal.loop-i-preserved
loop-i-preserved g c = entries_more (entry_by g.F.Field.scalars c.args.edge) c.args.self.now c.loop-i.i
    (map g.F.Field.number c.loop-i.vector.items) (map g.F.Field.number c.push.new.self.items) (g.F.Field.number c.entry.result) (omega arith)
    (c.entry.ensures ∙ ap (entry_by g.F.Field.scalars c.args.edge) c.at.ensures)
    (ap (map g.F.Field.number) c.in_ok-push.ensures.items ∙ map-append g.F.Field.number c.loop-i.vector.items (c.entry.result ∷ []))
    c.loop-i.invariant

pub returns : goal.returns
returns g c = c.loop-i.invariant ∙ ap (map (entry_by g.F.Field.scalars c.args.edge)) (take_all c.loop-i.i c.args.self.now (omega arith))
