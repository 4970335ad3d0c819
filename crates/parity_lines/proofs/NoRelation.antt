-- Independent vectors have no relation.
use Rattle.std.proofs.Common.{ℕ, List, length, get_or, sym, ap, ◌∙◌, subst, ◌<◌}
use Rattle.std.proofs.lemmas.List.{get_or-replicate}
use Rattle.linear_algebra.specs.Scalars.{Scalars, IsField}
use Rattle.linear_algebra.specs.Spans.{IsIndependent}
use Rattle.parity_lines.specs.Independence.{IsRelation}

pub no_relation : (S : Scalars) → IsField S → (d : ℕ) (vs : List (List ℕ)) (cs : List ℕ) → IsIndependent S d vs → ¬ (IsRelation S d vs cs)
no_relation S F d vs cs i r =
    let within : r.lead < length vs = subst (λ n. r.lead < n) r.combines.one_each.length_is r.within in
    F.one≢zero (sym r.one ∙ ap (λ (ds : List ℕ). get_or ds r.lead 0) (i cs r.combines)
    ∙ get_or-replicate (length vs) r.lead S.zero 0 within)
