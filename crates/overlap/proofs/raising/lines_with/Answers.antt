use Rattle.std.proofs.Common.{◌≡◌, ◌⊎◌, inl, inr, ℕ, List}
use Rattle.std.specs.List.{Contains}
use Rattle.std.proofs.lemmas.Result.{IfOk-weaker}
use Rattle.overlap.proofs.raising.lines_with.Goals as goal

pub returns : goal.returns
returns c =
    let M = c.args.set.now in
    let e = c.args.first in
    let h = c.args.second in
    let more = c.in_ok-more.ensures.1 in
    IfOk-weaker c.with-2.result _ _
    (λ (lines : List ℕ) w. (
      w.0,
      λ (l : ℕ). (
        λ k. elim ((w.1 l).0 k) as (λ _. Contains M l ⊎ ((l ≡ e) ⊎ (l ≡ h))) [
          | inl j ↦ elim ((more l).0 j) as (λ _. Contains M l ⊎ ((l ≡ e) ⊎ (l ≡ h))) [ inl m ↦ inl m | inr q ↦ inr (inl q) ]
          | inr q ↦ inr (inr q)
        ],
        λ s. elim s as (λ _. Contains lines l) [
          | inl m ↦ (w.1 l).1 (inl ((more l).1 (inl m)))
          | inr t ↦ elim t as (λ _. Contains lines l) [ inl q ↦ (w.1 l).1 (inl ((more l).1 (inr q))) | inr q ↦ (w.1 l).1 (inr q) ]
        ],
      ),
    )) c.with-2.ensures
