use Rattle.std.proofs.Common.{◌≡◌, ◌<◌, length, get_or, arith, rules, subst, sym}
use Rattle.std.proofs.lemmas.List.Elements.{Contains-get_or}
use Rattle.parity_lines.proofs.LinesPassed.{each_line}
use Rattle.classes.proofs.supports.first_apart.Goals as goal

pub bounds-labels-line : goal.bounds-labels-line
bounds-labels-line c = subst (λ m. m < length c.args.labels.now) (sym c.at-line.ensures)
    (c.requires (get_or c.args.lines.now c.loop-i.i 0) (Contains-get_or c.args.lines.now c.loop-i.i 0 (omega arith)))

pub offset_bounds-labels-line : goal.offset_bounds-labels-line
offset_bounds-labels-line c =
    let h = subst (λ m. m < length c.args.labels.now) (sym c.at-line.ensures)
    (c.requires (get_or c.args.lines.now c.loop-i.i 0) (Contains-get_or c.args.lines.now c.loop-i.i 0 (omega arith))) in
    search rules

pub returns : goal.returns
returns c = each_line (λ m. get_or c.args.labels.now m 0 ≡ c.args.label) c.args.lines.now c.loop-i.i (omega arith) c.loop-i.invariant
