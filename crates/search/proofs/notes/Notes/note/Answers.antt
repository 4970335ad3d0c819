use Rattle.std.proofs.Common.{◌∙◌}
use Rattle.search.proofs.Sizes.{set_noted}
use Rattle.search.proofs.notes.Notes.note.Goals as goal

pub returns-in_ok-push : goal.returns-in_ok-push
returns-in_ok-push g c =
    let s = c.args.state.now in
    record {
      labels = c.requires.notes.labels;
      sets = set_noted g.F.Field.scalars s.problem s.set _ _ _ c.in_ok-push.ensures.items (c.in_ok-copied.ensures ∙ c.set-set.ensures.value)
          c.set-set.ensures.independent c.requires.notes.sets;
    }
