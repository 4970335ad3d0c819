use Rattle.std.proofs.Common.{None, sym, ◌∙◌, arith}
use Rattle.std.proofs.lemmas.List.{get_or_default}
use Rattle.graph_core.proofs.ways.Ways.extend.Goals as goal

pub overflow_add-way : goal.overflow_add-way
overflow_add-way c =
    let T = c.args.self.now.table.items in
    let short = c.requires.short c.args.ends.0 c.in-Some-None.way
    (get_or_default T c.args.ends.0 None c.index.result.now c.requires.first_vertex ∙ sym c.index.ensures ∙ c.in-Some-None.is-0) in
    let small = c.args.self.now.table.small in
    let ok = c.args.self.now.table.ok in omega arith

pub overflow_add-way-in-None-Some : goal.overflow_add-way-in-None-Some
overflow_add-way-in-None-Some c =
    let T = c.args.self.now.table.items in
    let short = c.requires.short c.args.ends.1 c.in-None-Some.way
    (get_or_default T c.args.ends.1 None c.index-2.result.now c.requires.second_vertex ∙ sym c.index-2.ensures ∙ c.in-None-Some.is-1) in
    let small = c.args.self.now.table.small in
    let ok = c.args.self.now.table.ok in omega arith
