use Rattle.std.proofs.Common.{◌≡◌, ◌+◌, MatchOption, subst}
use Rattle.matching_state.specs.LinePlaces.{IsExposed}
use Rattle.overlap.specs.Candidates.{IsCandidate, AreCandidates}
use Rattle.overlap.proofs.CandidateTies.{line_written, line_left}
use Rattle.overlap.proofs.candidates.candidates.Goals as goal
use Rattle.overlap.proofs.candidates.candidates.Goals.{in-Some+in_ok-push, in_default}

pub loop-line-preserved : goal.loop-line-preserved
loop-line-preserved g c =
    let S = g.F.Field.scalars in
    let p = c.args.state.now.problem in
    let M = c.args.state.now.set in
    let n = c.loop-line.line in
    let before = c.loop-line.found in
    let after = c.match-branch-3.found in
    elim c.match-branch-3.branch as (λ _. AreCandidates S p M (n + 1) after.items) [
      | in-Some+in_ok-push w ↦
          let k = subst (λ found. MatchOption found (¬ (IsExposed S p M n)) (λ x. (x.line ≡ n) × IsCandidate S p M x)) w.in-Some.is
          c.in_ok-candidate.ensures in
          line_written S p M n before.items w.push.new.self after w.in-Some.candidate w.found-is w.in_ok-push.ensures.items
          c.loop-line.invariant k.0 k.1
      | in_default w ↦ line_left S p M n before after w.found-is c.loop-line.invariant
          (subst (λ found. MatchOption found (¬ (IsExposed S p M n)) (λ x. (x.line ≡ n) × IsCandidate S p M x)) w.in_default.is
          c.in_ok-candidate.ensures)
    ]
