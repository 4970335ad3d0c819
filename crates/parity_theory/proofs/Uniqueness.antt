-- Coordinates over independent lines are unique.
use Rattle.std.proofs.Common.{◌≡◌, ℕ, suc, List, [], ◌∷◌, length, map, refl, sym, ap, ap₂, ◌∙◌, subst, arith}
use Rattle.std.specs.Prelude.{⊤}
use Rattle.parity_theory.proofs.Coordinates.{line_combination-none, line_combination-nil, line_combination-cons, line_combining}
use Rattle.parity_theory.proofs.Lines.{vectors, line_combination}
use Rattle.vector_spaces.proofs.Closure.{IsIndependentOver}
use Rattle.vector_spaces.proofs.Independence.{IsIndependent}
use Rattle.vector_spaces.proofs.Pairs.{IsZero, scaled}
use Rattle.vector_spaces.proofs.Space.{Field, Space, linear, plus-minus}
use Rattle.vector_spaces.proofs.Span.{InSpan, zeros_of_outside}
use Rattle.vector_spaces.proofs.Splits.{same_of_difference}
use Rattle.vector_spaces.proofs.Tuples.{line}

-- each pair is zero
abbrev pub AllZero : {K : Type 0} → Field K → List (K × K) → Type 0
AllZero f [] = ⊤
AllZero f (c ∷ cs) = IsZero f c × AllZero f cs

-- a times the first coordinates and b times the second, added
abbrev pub mix : {K : Type 0} → Field K → K → K → List (K × K) → List (K × K) → List (K × K)
mix f a b [] ds = []
mix f a b (c ∷ cs) [] = []
mix f a b (c ∷ cs) (d ∷ ds) = (f.◌⊞◌ (f.◌⊠◌ a c.0) (f.◌⊠◌ b d.0), f.◌⊞◌ (f.◌⊠◌ a c.1) (f.◌⊠◌ b d.1)) ∷ mix f a b cs ds

pub length-mix : {K : Type 0} (f : Field K) (a b : K) (cs ds : List (K × K)) → length cs ≡ length ds → length (mix f a b cs ds) ≡ length ds
length-mix f a b [] [] e = refl
length-mix f a b [] (d ∷ ds) e = absurd (omega arith)
length-mix f a b (c ∷ cs) [] e = absurd (omega arith)
length-mix f a b (c ∷ cs) (d ∷ ds) e = ap suc (length-mix f a b cs ds (omega arith))

module _ {K : Type 0} (f : Field K) where
  open f use {zero as o, one, minus, ◌⊞◌, ◌⊠◌}

  same_of_mix : (cs ds : List (K × K)) → length cs ≡ length ds → AllZero f (mix f one minus cs ds) → cs ≡ ds
  same_of_mix [] [] e z = refl
  same_of_mix [] (d ∷ ds) e z = absurd (omega arith)
  same_of_mix (c ∷ cs) [] e z = absurd (omega arith)
  same_of_mix (c ∷ cs) (d ∷ ds) e z = ap₂ (λ p ps. p ∷ ps) (ap₂ (λ x y. (x, y)) (same c.0 d.0 z.0.0) (same c.1 d.1 z.0.1)) (same_of_mix cs ds (omega arith) z.1)
    where
      same : (x y : K) → ◌⊞◌ (◌⊠◌ one x) (◌⊠◌ minus y) ≡ o → x ≡ y
      same x y q = same_of_difference (line f) x y (ap (λ t. ◌⊞◌ t (◌⊠◌ minus y)) (sym (f.mul_comm one x ∙ f.mul-one x)) ∙ q)

module _ {K V : Type 0} {f : Field K} (s : Space f V) (line : ℕ → V × V) where
  infixl 65 ◌⊞◌
  infixl 70 ◌⊠◌
  infixl 65 ◌⊕◌
  infixl 70 ◌·◌
  open f use {zero as o, one, minus, ◌⊞◌, ◌⊠◌, inv}
  open s use {null, ◌⊕◌, ◌·◌}

  pub line_combination-mix : (a b : K) (cs ds : List (K × K)) (M : List ℕ) → length cs ≡ length ds → line_combination s line (mix f a b cs ds) M ≡ a · line_combination s line cs M ⊕ b · line_combination s line ds M
  line_combination-mix a b [] [] M e = simp line_combining
  line_combination-mix a b [] (d ∷ ds) M e = absurd (omega arith)
  line_combination-mix a b (c ∷ cs) [] M e = absurd (omega arith)
  line_combination-mix a b (c ∷ cs) (d ∷ ds) [] e = simp line_combining
  line_combination-mix a b (c ∷ cs) (d ∷ ds) (m ∷ M) e = simp (line_combination-mix a b cs ds M (omega arith), line_combining)

  pub line_combination-scaled : (a : K) (cs : List (K × K)) (M : List ℕ) → line_combination s line (map (scaled f a) cs) M ≡ a · line_combination s line cs M
  line_combination-scaled a [] M = simp line_combining
  line_combination-scaled a (c ∷ cs) [] = simp line_combining
  line_combination-scaled a (c ∷ cs) (m ∷ M) = simp (line_combination-scaled a cs M, line_combining)

  pub line_combination-zero : (cs : List (K × K)) (M : List ℕ) → AllZero f cs → line_combination s line cs M ≡ null
  line_combination-zero [] M z = line_combination-none s line M
  line_combination-zero (c ∷ cs) [] z = line_combination-nil s line (c ∷ cs)
  line_combination-zero (c ∷ cs) (m ∷ M) z = rw (line_combination-cons, z.0.0, z.0.1, line_combination-zero cs M z.1) (simp linear)

  drop_two : (us : List V) (u v y : V) (a b : K) → InSpan s us (a · u ⊕ b · v ⊕ y) → InSpan s (v ∷ u ∷ us) y
  drop_two us u v y a b h = (minus ⊠ b, (minus ⊠ a) · u ⊕ (a · u ⊕ b · v ⊕ y), (minus ⊠ a, a · u ⊕ b · v ⊕ y, h, refl), simp linear)

  -- over lines that are independent over us, only zeros combine to a vector of the span of us
  pub zero_coordinates : (us : List V) (cs : List (K × K)) (M : List ℕ) → length cs ≡ length M → IsIndependentOver (InSpan s) us (vectors line M) → InSpan s us (line_combination s line cs M) → AllZero f cs
  zero_coordinates us [] M e i h = tt
  zero_coordinates us (c ∷ cs) [] e i h = absurd (omega arith)
  zero_coordinates us (c ∷ cs) (m ∷ M) e i h =
      let u : V = (line m).0 in
      let v : V = (line m).1 in
      let h' : InSpan s us (c.0 · u ⊕ c.1 · v ⊕ line_combination s line cs M) = subst (λ t. InSpan s us t) (line_combination-cons s line c cs m M) h in
      let rest : AllZero f cs = zero_coordinates (v ∷ u ∷ us) cs M (omega arith) i.1.1 (drop_two us u v (line_combination s line cs M) c.0 c.1 h') in
      (zeros_of_outside f s us u v c.0 c.1 i.0 i.1.0 (subst (λ t. InSpan s us t) (ap (λ y. c.0 · u ⊕ c.1 · v ⊕ y) (line_combination-zero cs M rest) ∙ s.plus-null (c.0 · u ⊕ c.1 · v)) h'), rest)

  -- two lists of coordinates that combine independent lines to the same vector are equal
  pub unique_coordinates : (M : List ℕ) (cs ds : List (K × K)) → IsIndependent s (vectors line M) → length cs ≡ length M → length ds ≡ length M → line_combination s line cs M ≡ line_combination s line ds M → cs ≡ ds
  unique_coordinates M cs ds i e k h =
      let l : length cs ≡ length ds = e ∙ sym k in
      let difference : line_combination s line (mix f one minus cs ds) M ≡ null =
      line_combination-mix one minus cs ds M l ∙ ap₂ (λ x y. x ⊕ minus · y) (s.one-scale (line_combination s line cs M)) (sym h) ∙ plus-minus f s (line_combination s line cs M) in
      same_of_mix f cs ds l (zero_coordinates [] (mix f one minus cs ds) M (length-mix f one minus cs ds l ∙ k) i difference)
