-- The numbers below a bound.
use Rattle.std.proofs.Common.{◌≡◌, ℕ, ◌+◌, ◌<◌, List, ◌∷◌, ◌++◌, [], All, sym, ap, ◌∙◌, subst, arith}
use Rattle.std.proofs.lemmas.List.{map-id}
use Rattle.std.proofs.lemmas.List.Elements.{All-push}
use Rattle.std.proofs.lemmas.List.FromFn.{map-range_with_len_more}
use Rattle.std.specs.List.{range_with_len}

-- M has all of them, in order
abbrev pub AreAllBelow : ℕ → List ℕ → Type 0
AreAllBelow n M = (M ≡ range_with_len 0 n) × All (λ m. m < n) M

range_more : (n : ℕ) → range_with_len 0 (n + 1) ≡ range_with_len 0 n ++ n ∷ []
range_more n = sym (map-id (range_with_len 0 (n + 1))) ∙ map-range_with_len_more (λ x. x) 0 n n (omega arith)
    ∙ ap (λ t. t ++ n ∷ []) (map-id (range_with_len 0 n))

pub one_more : (n : ℕ) (M N : List ℕ) → AreAllBelow n M → N ≡ M ++ n ∷ [] → AreAllBelow (n + 1) N
one_more n M N h e = subst (AreAllBelow (n + 1)) (sym e) (
  ap (λ t. t ++ n ∷ []) h.0 ∙ sym (range_more n),
  All-push (λ m. m < n + 1) M n (λ k d l. let b = h.1 k d l in omega (arith, b)) (omega arith),
)
