use Rattle.std.proofs.Common.{ℕ, ◌<◌, ◌≤◌, List, get_or, Result, Ok, Err, IsTrue, refl, sym, ◌∙◌, arith, subst}
use Rattle.std.proofs.lemmas.Bool.{false≢true}
use Rattle.std.specs.Prelude.{is_ok, ◌↔◌}
use Rattle.std.specs.List.{Contains}
use Rattle.std.specs.List.Sorted.{IsStrictlyIncreasing, IsBinarySearchResult}
use Rattle.std.specs.Ordering.{nat_cmp}
use Rattle.std.proofs.lemmas.Grind.{get_or_default_zero}
use Rattle.std.proofs.lemmas.List.Sorted.{searched}
use Rattle.parity_lines.proofs.LineSets.{rises}
use Rattle.parity_lines.proofs.line_set.LineSet.holds.Goals as goal

tells : (xs : List ℕ) (x : ℕ) (r : Result ℕ ℕ) → IsStrictlyIncreasing xs → IsBinarySearchResult (λ y. nat_cmp y x) xs r → IsTrue (is_ok r) ↔ Contains xs x
tells xs x (Ok i) h s =
    let found = searched xs x (Ok i) s (rises xs h) in
    (λ _. (i, found.0, get_or_default_zero xs i x found.0 ∙ found.1), λ _. refl)
tells xs x (Err i) h s =
    let missed = searched xs x (Err i) s (rises xs h) in (
      λ never. absurd (false≢true never),
      λ held.
          let k = held.0 in
          let below : k < i → get_or xs k 0 < x = missed.1 k in
          let above : i ≤ k → x < get_or xs k 0 = λ l. missed.2 k l held.1 in
          let same = get_or_default_zero xs k x held.1 in
          let is = held.2 in
          absurd (grind arith),
    )

pub returns : goal.returns
returns c =
    let xs = c.self.inside.lines.items in
    subst (λ ys. IsTrue c.is_ok.result ↔ Contains ys c.args.line) c.self.view_is
    (subst (λ b. IsTrue b ↔ Contains xs c.args.line) (sym c.is_ok.ensures.value)
    (tells xs c.args.line c.binary_search.result c.self.invariant
    (subst (λ ys. IsBinarySearchResult (λ y. nat_cmp y c.args.line) ys c.binary_search.result) c.deref.ensures.value c.binary_search.ensures.position)))
