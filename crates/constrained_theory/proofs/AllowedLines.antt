-- The lines of parts that aren't forbidden.
use Rattle.std.proofs.Common.{◌≡◌, ℕ, ◌⊎◌, inl, inr, List, [], ◌∷◌, sym, ap, ◌∙◌, refl, arith, Bool, true, false, not, true≢false}
use Rattle.std.proofs.lemmas.Bool.{cases_Bool}
use Rattle.std.specs.List.{filter}
use Rattle.parity_theory.proofs.Parts.{InPart, halves, has, has_in, in_has}
use Rattle.parity_theory.proofs.Positions.{filter_in, filter_only, sub_filter}
use Rattle.vector_spaces.proofs.Members.{In}
use Rattle.vector_spaces.proofs.Sublists.{sub_in}

-- whether l is none of the list
abbrev lacks : List ℕ → ℕ → Bool
lacks L l = not (has L l)

lacks_not : (L : List ℕ) (l : ℕ) → lacks L l ≡ true → ¬ (In l L)
lacks_not L l e i = true≢false (sym e ∙ ap not (in_has L l i))

not_lacks : (L : List ℕ) (l : ℕ) → ¬ (In l L) → lacks L l ≡ true
not_lacks L l n = go (cases_Bool (has L l))
  where
    go : (has L l ≡ true) ⊎ (has L l ≡ false) → lacks L l ≡ true
    go (inl e) = absurd (n (has_in L l e))
    go (inr e) = ap not e

-- the positions of a list that aren't forbidden
abbrev pub allowed : List ℕ → List ℕ → List ℕ
allowed forbidden L = filter (lacks forbidden) L

pub allowed_in : (forbidden L : List ℕ) (l : ℕ) → In l L → ¬ (In l forbidden) → In l (allowed forbidden L)
allowed_in forbidden L l i n = filter_in (lacks forbidden) L l i (not_lacks forbidden l n)

pub in_allowed : (forbidden L : List ℕ) (l : ℕ) → In l (allowed forbidden L) → In l L × ¬ (In l forbidden)
in_allowed forbidden L l i = (
  sub_in (allowed forbidden L) L (sub_filter (lacks forbidden) L) l i,
  lacks_not forbidden l
      (filter_only (lacks forbidden) L l i),
)

-- the parts without their forbidden positions, with the same ranks
abbrev pub allowed_parts : List ℕ → List (List ℕ × ℕ) → List (List ℕ × ℕ)
allowed_parts forbidden [] = []
allowed_parts forbidden (p ∷ ps) = (allowed forbidden p.0, p.1) ∷ allowed_parts forbidden ps

pub halves-allowed : (forbidden : List ℕ) (ps : List (List ℕ × ℕ)) → halves (allowed_parts forbidden ps) ≡ halves ps
halves-allowed forbidden [] = refl
halves-allowed forbidden (p ∷ ps) = let e = halves-allowed forbidden ps in omega arith

pub in_allowed_part : (forbidden : List ℕ) (ps : List (List ℕ × ℕ)) (l : ℕ) → InPart l ps → ¬ (In l forbidden) →
    InPart l (allowed_parts forbidden ps)
in_allowed_part forbidden [] l i n = i
in_allowed_part forbidden (p ∷ ps) l (inl i) n = inl (allowed_in forbidden p.0 l i n)
in_allowed_part forbidden (p ∷ ps) l (inr i) n = inr (in_allowed_part forbidden ps l i n)
