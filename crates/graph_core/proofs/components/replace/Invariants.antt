use Rattle.std.proofs.Common.{◌≡◌, ◌<◌, ◌≤◌, ℕ, get_or, nat_eq}
use Rattle.std.specs.Prelude.{if◌then◌else◌}
use Rattle.graph_core.proofs.components.replace.Given as goal

abbrev pub invariant-loop-label : goal.invariant-loop-label
invariant-loop-label l = record {
  done : (k : ℕ) → k < l.label-index → get_or l.label-items k 0 ≡
      (if nat_eq (get_or l.fn.labels.items k 0) l.from then l.to else get_or l.fn.labels.items k 0);
  rest : (k : ℕ) → l.label-index ≤ k → get_or l.label-items k 0 ≡ get_or l.fn.labels.items k 0;
}
