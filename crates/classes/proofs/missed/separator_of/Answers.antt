use Rattle.std.proofs.Common.{sym, ◌∙◌}
use Rattle.classes.proofs.MissedTies.{separator_is_some, separator_told}
use Rattle.classes.proofs.missed.separator_of.Goals as goal

pub unreachable-requires : goal.unreachable-requires
unreachable-requires g c = separator_is_some c.args.table.now c.args.first c.args.second c.requires.apart (sym c.separator.ensures ∙ c.in-None.is)

pub returns : goal.returns
returns g c L = separator_told g.F.Field.scalars L c.args.family.now c.args.table.now (c.requires.table L) c.args.first c.args.second
    c.requires.first_within c.requires.second_within c.in-Some.member (sym c.separator.ensures ∙ c.in-Some.is)
