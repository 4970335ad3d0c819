-- An independent set with a free line more.
use Rattle.std.proofs.Common.{◌≡◌, ℕ, ◌<◌, ◌⊎◌, List, length, arith}
use Rattle.std.specs.Prelude.{◌↔◌}
use Rattle.std.specs.List.{Contains}
use Rattle.std.specs.List.Sorted.{IsStrictlyIncreasing}
use Rattle.vector_spaces.proofs.Members.{In-contains}
use Rattle.linear_algebra.specs.Scalars.{Scalars, IsField}
use Rattle.exchanges.specs.Exchanges.{IsLonger}
use Rattle.matching_state.specs.LinePlaces.{rank_beside}
use Rattle.matching_state.proofs.OneStep.{rank_of_member, free_line_added}
use Rattle.parity_lines.specs.LineSets.{IsIndependentSet}
use Rattle.parity_lines.specs.Problems.{ParityProblem, IsProblem}

pub larger_by_line : (S : Scalars) → (F : IsField S) → (p : ParityProblem) → IsProblem S p → (M : List ℕ) → IsIndependentSet S p M →
    (e : ℕ) (N : List ℕ) → e < length p.lines → rank_beside S p M e ≡ 2 →
    IsStrictlyIncreasing N → ((l : ℕ) → Contains N l ↔ (Contains M l ⊎ (l ≡ e))) → IsLonger S p M N
larger_by_line S F p P M i e N h free k l =
    let r = free_line_added S F p P M i N e h free k
    (record { new = λ c. (let z = rank_of_member S F p P M i e h (In-contains M e c) in omega arith); lines = l }) in
    record { independent = r.0; longer = r.1 }
