use Rattle.std.proofs.Common.{◌≡◌, ◌+◌, [], ◌∷◌, ◌++◌, Vec, Global, All, length, subst, ap, sym, ◌∙◌, arith}
use Rattle.matching_state.specs.Classes.{AreDifferent, IsMonicTail}
use Rattle.matching_state.specs.LinePlaces.{own_rank, rank_beside}
use Rattle.matching_state.specs.Sights.{IsSight, outer_of}
use Rattle.matching_state.specs.Surveys.{AreExposed}
use Rattle.matching_state.specs.declared.step.Entry.{Entry}
use Rattle.parity_lines.specs.Problems.{ParityProblem}
use Rattle.matching_state.proofs.NumberLaws.{HasNumber, number_pushed, numbered}
use Rattle.matching_state.proofs.Surveys.{line_kept, line_passed}
use Rattle.matching_state.proofs.matched.Matched.survey.Goals as goal
use Rattle.matching_state.proofs.matched.Matched.survey.Goals.{in-Exposed+in_ok-monic_tail-in-Exposed+in_ok-class-in-Exposed+in_ok-push-in-Exposed, in-Inside, in-Single}

pub loop-line-preserved : goal.loop-line-preserved
loop-line-preserved g c =
    let S = g.F.Field.scalars in
    let n = g.F.Field.number in
    let s = c.args.self.now in
    let p = s.problem in
    let M = s.set in
    let line = c.loop-line.line in
    let before = c.loop-line.entries.items in
    let after = c.match-sight.entries.items in
    let inv = c.loop-line.invariant in
    elim c.match-sight.branch as (λ _. AreExposed S n p M (line + 1) after × AreDifferent c.match-sight.classes × All (HasNumber S s c.match-sight.classes) after) [
      | in-Exposed+in_ok-monic_tail-in-Exposed+in_ok-class-in-Exposed+in_ok-push-in-Exposed w ↦
          let f = subst (IsSight S n p M line) w.in-Exposed.is c.sight.ensures in
          let told = w.in_ok-class-in-Exposed.ensures in
          let x : Entry g.row.F.Denot = record { exposed = w.in-Exposed.exposed; class = w.in_ok-class-in-Exposed.class } in
          let pushed : after ≡ before ++ x ∷ [] = ap (λ (v : Vec (Entry g.row.F.Denot) Global). v.items) w.entries-is ∙ w.in_ok-push-in-Exposed.ensures.items in
          subst (λ T. AreExposed S n p M (line + 1) after × AreDifferent T × All (HasNumber S s T) after) (sym w.classes-is) (
            line_kept S n p M line before after x pushed inv.0 f.0 f.1,
            told.different,
            number_pushed S s c.loop-line.classes w.number.new.self told.keeps before after x pushed inv.2 (record {
              within = told.within;
              tail = subst (IsMonicTail S s (outer_of p x.exposed.line x.exposed.second)) (sym told.number) w.in_ok-monic_tail-in-Exposed.ensures;
            }),
          )
      | in-Inside w ↦
          let f : rank_beside S p M line ≡ 0 = subst (IsSight S n p M line) w.in-Inside.is c.sight.ensures in
          let same = ap (λ (v : Vec (Entry g.row.F.Denot) Global). v.items) w.entries-is in
          subst (λ T. AreExposed S n p M (line + 1) after × AreDifferent T × All (HasNumber S s T) after) (sym w.classes-is) (
            line_passed S n p M line before after same inv.0 (λ e. omega arith) (λ e. let k = e.beside in omega arith),
            inv.1,
            subst (All (HasNumber S s c.loop-line.classes)) (sym same) inv.2,
          )
      | in-Single w ↦
          let f = subst (IsSight S n p M line) w.in-Single.is c.sight.ensures in
          let one : rank_beside S p M line ≡ 1 = f.1 in
          let own : own_rank S p line ≡ 1 = f.2 in
          let same = ap (λ (v : Vec (Entry g.row.F.Denot) Global). v.items) w.entries-is in
          subst (λ T. AreExposed S n p M (line + 1) after × AreDifferent T × All (HasNumber S s T) after) (sym w.classes-is) (
            line_passed S n p M line before after same inv.0 (λ e. omega arith) (λ e. let o = e.own in omega arith),
            inv.1,
            subst (All (HasNumber S s c.loop-line.classes)) (sym same) inv.2,
          )
    ]

pub returns : goal.returns
returns g c =
    let S = g.F.Field.scalars in
    let n = g.F.Field.number in
    let s = c.args.self.now in
    let inv = c.loop-line.invariant in
    let xs = c.loop-line.entries.items in
    let stop = c.loop-line-test.false in
    let end = c.loop-line.auto.line-end in
    let count : c.len-line-end.result ≡ length s.problem.lines = c.len-line-end.ensures.value ∙ ap (λ (q : ParityProblem). length q.lines) c.problem.ensures in
    let all : c.loop-line.line ≡ length s.problem.lines = omega arith in
    (subst (λ m. AreExposed S n s.problem s.set m xs) all inv.0, numbered S g.met.F.Field.lawful n s c.requires c.loop-line.classes xs inv.1 inv.0.seen inv.2)
