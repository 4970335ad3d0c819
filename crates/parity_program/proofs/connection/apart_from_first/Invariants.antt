use Rattle.std.proofs.Common.{◌≡◌, ℕ, ◌<◌, false}
use Rattle.parity_program.specs.Connectedness.{is_apart}
use Rattle.parity_program.proofs.connection.apart_from_first.Given as goal

-- those before are connected with the first
abbrev pub invariant-loop-vertex : goal.invariant-loop-vertex
invariant-loop-vertex l = (u : ℕ) → u < l.vertex → is_apart l.graph.ends u ≡ false
