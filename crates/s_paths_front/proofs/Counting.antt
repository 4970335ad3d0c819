-- Counts and searches, one vertex after another.
use Rattle.std.proofs.Common.{◌≡◌, ℕ, ◌+◌, List, sym, ap, ◌∙◌, subst, add-one, arith, Bool, true, false}
use Rattle.std.proofs.Math.Decide.{ℕ_discrete}
use Rattle.std.proofs.lemmas.Bool.{true≢false, false_from_ne_true}
use Rattle.graph_theory.specs.Counts.{count}
use Rattle.graph_theory.specs.Labels.{label, Connected}
use Rattle.graph_theory.proofs.Counts.{count-true, count-false}
use Rattle.path_theory.specs.Terminals.{some_below, is_terminal_with}
use Rattle.path_theory.proofs.Searches.{some_below_of, some_below_from, terminal_with_from}

pub one_passes : (P : ℕ → Bool) (v found : ℕ) → found ≡ count v P → P v ≡ true → found + 1 ≡ count (v + 1) P
one_passes P v found e t = let c = count-true v P t in let d = ap (λ z. count z P) (add-one v) in omega arith

pub one_fails : (P : ℕ → Bool) (v found : ℕ) → found ≡ count v P → P v ≡ false → found ≡ count (v + 1) P
one_fails P v found e f = e ∙ sym (count-false v P f) ∙ ap (λ z. count z P) (sym (add-one v))

-- nor is v a terminal in the tree of the root
pub none_more : (terminal : ℕ → Bool) (L : List (ℕ × ℕ)) (root v : ℕ) → some_below v (is_terminal_with terminal L root) ≡ false
    → (terminal v ≡ true → ¬ (Connected L v root)) → some_below (v + 1) (is_terminal_with terminal L root) ≡ false
none_more terminal L root v none h = false_from_ne_true (some_below (v + 1) (is_terminal_with terminal L root)) (λ e.
    let s = some_below_from (v + 1) (is_terminal_with terminal L root) e in let t = terminal_with_from terminal L root s.0 s.2 in
    elim (ℕ_discrete s.0 v) [
      | yes q ↦ h (subst (λ z. terminal z ≡ true) q t.0) (ap (label L) (sym q) ∙ t.1)
      | no m ↦ (let l = s.1 in true≢false (sym (some_below_of v (is_terminal_with terminal L root) s.0 (omega arith) s.2) ∙ none))
    ])
