-- The lines of sets that exchanges toward a target reach.
use Rattle.std.proofs.Common.{ℕ, ◌⊎◌, inl, inr, List, sym, subst}
use Rattle.std.specs.List.{Contains}
use Rattle.linear_algebra.specs.Scalars.{Scalars}
use Rattle.exchanges.specs.Exchanges.{IsReached, by_none, by_one_more}
use Rattle.parity_lines.specs.Problems.{ParityProblem}

module _ (S : Scalars) (p : ParityProblem) (keep : List (List ℕ)) (T M : List ℕ) (l : ℕ) where
  pub lines_reached : (N : List ℕ) → IsReached S p keep T M N → Contains N l → Contains M l ⊎ Contains T l
  lines_reached N by_none c = inl c
  lines_reached N (by_one_more K L out into r e w) c = elim ((e.swap.lines l).0 c) as (λ _. Contains M l ⊎ Contains T l) [
    | inl j ↦ lines_reached K r j.0
    | inr q ↦ inr (subst (λ m. Contains T m) (sym q) e.can.in_target)
  ]

  -- a line of both stays
  pub lines_stay : (N : List ℕ) → IsReached S p keep T M N → Contains M l → Contains T l → Contains N l
  lines_stay N by_none c t = c
  lines_stay N (by_one_more K L out into r e w) c t = (e.swap.lines l).1
      (inl (lines_stay K r c t, λ q. e.can.out_of_target (subst (λ m. Contains T m) q t)))
