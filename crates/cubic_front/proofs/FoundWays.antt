-- What an answer of a way says where it is compared with a vertex.
use Rattle.std.proofs.Common.{◌≡◌, ℕ, ◌≤◌, List, [], ◌∷◌, Option, Some, None, true, false, sym, ap, ◌∙◌, subst, arith}
use Rattle.std.proofs.lemmas.Bool.{eqb-false, eqb-true, true≢false}
use Rattle.std.specs.Prelude.{IfSome, IfNone, nat_eq}
use Rattle.std.specs.Option.{option_eq}
use Rattle.edge_lists.specs.Occurrences.{count}
use Rattle.edge_lists.proofs.Occurrences.{count-here, count-nil, count-other}

pub leads_there : (r : Option ℕ) (o : ℕ) (ws : List ℕ) → IfSome r (λ w. ws ≡ w ∷ []) → option_eq nat_eq r (Some o) ≡ true → 1 ≤ count o ws
leads_there None o ws s h = absurd (true≢false (sym h))
leads_there (Some w) o ws s h = omega (arith, ap (count o) s, subst (λ t. 1 ≤ count o (t ∷ [])) (sym (eqb-true w o h)) (count-here o []))

pub leads_elsewhere : (r : Option ℕ) (o : ℕ) (ws : List ℕ) → IfSome r (λ w. ws ≡ w ∷ []) → IfNone r (ws ≡ [])
    → option_eq nat_eq r (Some o) ≡ false → count o ws ≡ 0
leads_elsewhere None o ws s n h = ap (count o) n ∙ count-nil o
leads_elsewhere (Some w) o ws s n h = ap (count o) s ∙ count-other o w [] (eqb-false w o h) ∙ count-nil o
