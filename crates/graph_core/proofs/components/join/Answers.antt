use Rattle.std.proofs.Common.{◌≡◌, ap₂, map, cond, nat_eq, max, min, sym, ◌∙◌}
use Rattle.std.specs.Prelude.{slice_index}
use Rattle.std.proofs.lemmas.Grind.{get_or_default_zero}
use Rattle.graph_theory.specs.Labels.{merged}
use Rattle.graph_core.proofs.LabelLists.{joined-same}
use Rattle.graph_core.proofs.components.join.Goals as goal

first : (c : goal.After-replace) → c.index.result.now ≡ slice_index c.args.labels.now.items c.args.first
first c = c.index.ensures ∙ get_or_default_zero c.args.labels.now.items c.args.first c.index.result.now c.requires.first_vertex

second : (c : goal.After-replace) → c.index-2.result.now ≡ slice_index c.args.labels.now.items c.args.second
second c = c.index-2.ensures ∙ get_or_default_zero c.args.labels.now.items c.args.second c.index-2.result.now c.requires.second_vertex

pub returns-clause-joined : goal.returns-clause-joined
unfolding merged
returns-clause-joined c =
    c.replace.ensures ∙ ap₂ (λ f t. map (λ x. cond (nat_eq x f) t x) c.args.labels.now.items)
    (c.max.ensures ∙ ap₂ max (first c) (second c)) (c.min.ensures ∙ ap₂ min (first c) (second c))

pub returns-then-a-b-clause-joined : goal.returns-then-a-b-clause-joined
returns-then-a-b-clause-joined c =
    let ls = c.args.labels.now.items in
    let first = c.index.ensures ∙ get_or_default_zero ls c.args.first c.index.result.now c.requires.first_vertex in
    let second = c.index-2.ensures ∙ get_or_default_zero ls c.args.second c.index-2.result.now c.requires.second_vertex in
    sym (joined-same ls (slice_index ls c.args.first) (slice_index ls c.args.second) (sym first ∙ c.if-a-b.true ∙ second))
