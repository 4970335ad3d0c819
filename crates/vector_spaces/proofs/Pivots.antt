-- A vector takes the place of a member of a basis: what becomes of coefficients.
use Rattle.std.proofs.Common.{◌≡◌, ◌≢◌, ℕ, List, ◌∷◌, ◌++◌, length, map, replicate, sym, ap, ap₂, ◌∙◌, arith}
use Rattle.std.proofs.lemmas.List.{length-map, length-replicate}
use Rattle.vector_spaces.proofs.Combination.{combination, coefficient_sum, length-coefficient_sum, combination-sum, combination-scale, combination-append, combination-cons, combination-zeros, combining}
use Rattle.vector_spaces.proofs.Independence.{IsIndependent, same_length_independent}
use Rattle.vector_spaces.proofs.Middles.{in_middle, middle_in, length-middle}
use Rattle.vector_spaces.proofs.Space.{Field, Space, linear}
use Rattle.vector_spaces.proofs.Span.{InSpan, undo}
use Rattle.vector_spaces.proofs.Splits.{pivot}
use Rattle.vector_spaces.proofs.Within.{Within, within_members, within_trans, placing}

-- a row less q times another
abbrev pub row_less : {K : Type 0} → Field K → K → List K → List K → List K
row_less f q xs cs = coefficient_sum f xs (map (λ c. f.◌⊠◌ (f.◌⊠◌ f.minus q) c) cs)

pub length-row_less : {K : Type 0} (f : Field K) (q : K) (xs cs : List K) → length xs ≡ length cs → length (row_less f q xs cs) ≡ length xs
length-row_less f q xs cs e = length-coefficient_sum f xs (map (λ c. f.◌⊠◌ (f.◌⊠◌ f.minus q) c) cs) (e ∙ sym (length-map cs (λ c. f.◌⊠◌ (f.◌⊠◌ f.minus q) c)))

module _ {K V : Type 0} {f : Field K} (s : Space f V) where
  infixl 65 ◌⊞◌
  infixl 70 ◌⊠◌
  infixl 65 ◌⊕◌
  infixl 70 ◌·◌
  open f use {zero as o, one, minus, ◌⊞◌, ◌⊠◌, inv}
  open s use {null, ◌⊕◌, ◌·◌}

  combination-row_less : (q : K) (xs cs : List K) (vs : List V) → length xs ≡ length cs → combination s (row_less f q xs cs) vs ≡ combination s xs vs ⊕ minus · (q · combination s cs vs)
  combination-row_less q xs cs vs e = combination-sum f s xs (map (λ c. minus ⊠ q ⊠ c) cs) vs (e ∙ sym (length-map cs (λ c. minus ⊠ q ⊠ c))) ∙ ap (λ t. combination s xs vs ⊕ t) (combination-scale f s (minus ⊠ q) cs vs ∙ s.mul-scale minus q (combination s cs vs))

  cancel_left : (a x w : V) → a ⊕ minus · x ⊕ (x ⊕ w) ≡ a ⊕ w
  cancel_left a x w = simp linear

  cancel_right : (z y a : V) → z ⊕ y ⊕ (a ⊕ minus · y) ≡ z ⊕ a
  cancel_right z y a = simp linear

  gather : (a x z y b : V) → a ⊕ minus · x ⊕ ((x ⊕ (z ⊕ y)) ⊕ (b ⊕ minus · y)) ≡ a ⊕ (z ⊕ b)
  gather a x z y b = ap (λ t. a ⊕ minus · x ⊕ t) (s.plus_assoc x (z ⊕ y) (b ⊕ minus · y)) ∙ cancel_left a x (z ⊕ y ⊕ (b ⊕ minus · y)) ∙ ap (λ t. a ⊕ t) (cancel_right z y b)

  -- y, with the coefficient g at b, takes b's place: the row of a vector with the coefficient a at b
  pub combination-pivot : (P : List V) (b : V) (Q : List V) (c : List K) (g : K) (d : List K) (xs : List K) (a : K) (zs : List K) (y : V) →
      length c ≡ length P → length xs ≡ length P → length zs ≡ length d → g ≢ o → combination s (c ++ g ∷ d) (P ++ b ∷ Q) ≡ y →
      combination s (row_less f (a ⊠ inv g) xs c ++ a ⊠ inv g ∷ row_less f (a ⊠ inv g) zs d) (P ++ y ∷ Q) ≡ combination s (xs ++ a ∷ zs) (P ++ b ∷ Q)
  combination-pivot P b Q c g d xs a zs y lc lx lz n h =
      let q : K = a ⊠ inv g in
      let e1 : y ≡ combination s c P ⊕ (g · b ⊕ combination s d Q) = sym h ∙ combination-append f s c (g ∷ d) P (b ∷ Q) lc ∙ ap (λ t. combination s c P ⊕ t) (combination-cons f s g d b Q) in
      let e2 : q · (g · b) ≡ a · b = s.mul-scale a (inv g) (g · b) ∙ ap (λ t. a · t) (undo f s g b n) in
      let e3 : q · y ≡ q · combination s c P ⊕ (a · b ⊕ q · combination s d Q) = ap (λ t. q · t) e1 ∙ s.scale-plus q (combination s c P) (g · b ⊕ combination s d Q) ∙ ap (λ t. q · combination s c P ⊕ t) (s.scale-plus q (g · b) (combination s d Q) ∙ ap (λ t. t ⊕ q · combination s d Q) e2) in
      combination-append f s (row_less f q xs c) (q ∷ row_less f q zs d) P (y ∷ Q) (length-row_less f q xs c (lx ∙ sym lc) ∙ lx)
      ∙ ap₂ (λ t u. t ⊕ u) (combination-row_less q xs c P (lx ∙ sym lc)) (combination-cons f s q (row_less f q zs d) y Q ∙ ap₂ (λ t u. t ⊕ u) e3 (combination-row_less q zs d Q lz))
      ∙ gather (combination s xs P) (q · combination s c P) (a · b) (q · combination s d Q) (combination s zs Q)
      ∙ sym (combination-append f s xs (a ∷ zs) P (b ∷ Q) lx ∙ ap (λ t. combination s xs P ⊕ t) (combination-cons f s a zs b Q))

  -- the new list is independent too
  pub pivot_basis : (P : List V) (b : V) (Q : List V) (c : List K) (g : K) (d : List K) (y : V) → IsIndependent s (P ++ b ∷ Q) → length c ≡ length P → g ≢ o → combination s (c ++ g ∷ d) (P ++ b ∷ Q) ≡ y → IsIndependent s (P ++ y ∷ Q)
  pivot_basis P b Q c g d y i lc n h =
      let k : InSpan s (y ∷ P ++ Q) b = pivot s c g d P b Q y lc h n in
      let w : Within s (b ∷ P ++ Q) (y ∷ P ++ Q) = search placing depth 8 in
      same_length_independent s (P ++ b ∷ Q) (P ++ y ∷ Q) i
      (within_trans s (P ++ b ∷ Q) (b ∷ P ++ Q) (P ++ y ∷ Q) (within_members s (P ++ b ∷ Q) (b ∷ P ++ Q) (in_middle P b Q))
      (within_trans s (b ∷ P ++ Q) (y ∷ P ++ Q) (P ++ y ∷ Q) w (within_members s (y ∷ P ++ Q) (P ++ y ∷ Q) (middle_in P y Q))))
      (let e1 = length-middle P b Q in let e2 = length-middle P y Q in omega arith)

  -- and y's own row is a one at its place
  pub combination-unit : (P : List V) (y : V) (Q : List V) (m n : ℕ) → m ≡ length P → combination s (replicate m o ++ one ∷ replicate n o) (P ++ y ∷ Q) ≡ y
  combination-unit P y Q m n e = combination-append f s (replicate m o) (one ∷ replicate n o) P (y ∷ Q) ((simp length-replicate) ∙ e) ∙ simp (combination-zeros, combining)
