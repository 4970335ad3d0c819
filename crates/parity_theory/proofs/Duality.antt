-- The easy half: a kernel and parts bound the size of independent sets of lines.
use Rattle.std.proofs.Common.{◌≡◌, ◌≢◌, ℕ, suc, ◌+◌, ◌≤◌, ◌⊎◌, inl, inr, List, [], ◌∷◌, ◌++◌, length, sym, ap, ◌∙◌, subst, arith, append-nil, append_assoc}
use Rattle.std.proofs.lemmas.List.{length-append}
use Rattle.parity_theory.proofs.Coordinates.{line_combination_of_span, pivot_line, support_line}
use Rattle.parity_theory.proofs.Entries.{at_split}
use Rattle.parity_theory.proofs.Lines.{vectors, line_combination}
use Rattle.parity_theory.proofs.Positions.{length-missing, length-vectors, within_lines}
use Rattle.vector_spaces.proofs.Bases.{HasRankOver, rank_over_bounds}
use Rattle.vector_spaces.proofs.Independence.{IsIndependent, same_length_independent, independent_left, independent_right, appended_is_outside, span_decidable}
use Rattle.vector_spaces.proofs.Members.{In}
use Rattle.vector_spaces.proofs.Middles.{length-middle}
use Rattle.vector_spaces.proofs.Pairs.{NonZero}
use Rattle.vector_spaces.proofs.Space.{Field, Space, move, null-plus}
use Rattle.vector_spaces.proofs.Span.{InSpan, span_minus}
use Rattle.vector_spaces.proofs.Splits.{span_split}
use Rattle.vector_spaces.proofs.Sublists.{IsSublist, sub_self, sub_drop, sub_trans}
use Rattle.vector_spaces.proofs.Within.{through, Within, within_append, placing, within_trans, within_right}

module _ {K V : Type 0} {f : Field K} (s : Space f V) (line : ℕ → V × V) where
  infixl 65 ◌⊞◌
  infixl 70 ◌⊠◌
  infixl 65 ◌⊕◌
  infixl 70 ◌·◌
  open f use {zero as o, one, minus, ◌⊞◌, ◌⊠◌, inv}
  open s use {null, ◌⊕◌, ◌·◌}

  -- the case of x in the span, with a part y in the span of I that is not null
  costs_a_line : (I : List ℕ) (B : List V) (x y z : V) → IsIndependent s (vectors line I ++ B) → InSpan s (vectors line I) y → InSpan s B z → x ≡ y ⊕ z → y ≢ null → (J : List ℕ) × IsSublist J I × IsIndependent s (vectors line J ++ (B ++ x ∷ [])) × (length I ≤ suc (length J))
  costs_a_line I B x y z i hy hz e n =
      let r = line_combination_of_span s line I y hy in
      let t = support_line s line I r.0 (λ q. n (sym r.2 ∙ q)) in
      let u = at_split t.0 t.1 I r.0 t.2 in
      go u.0 t.0 u.1 u.2 t.1 u.3 u.4 (ap (λ c. line_combination s line c (u.0 ++ t.0 ∷ u.1)) (sym u.5) ∙ ap (λ M. line_combination s line r.0 M) (sym u.4) ∙ r.2) u.6 t.3
    where
      go : (P : List ℕ) (m : ℕ) (Q : List ℕ) (c : List (K × K)) (p : K × K) (d : List (K × K)) → I ≡ P ++ m ∷ Q → line_combination s line (c ++ p ∷ d) (P ++ m ∷ Q) ≡ y → length c ≡ length P → NonZero f p → (J : List ℕ) × IsSublist J I × IsIndependent s (vectors line J ++ (B ++ x ∷ [])) × (length I ≤ suc (length J))
      go P m Q c p d q hc lc nz =
          let r = pivot_line s line P m Q c p d y lc hc nz in
          let w : V = r.0 in
          let W : List V = w ∷ vectors line (P ++ Q) ++ (B ++ x ∷ []) in
          let ky : InSpan s W y = subst (λ t. InSpan s W t) (move f s x z y e) (span_minus f s W x z (search placing depth 12) (through s B W z (search placing depth 12) hz)) in
          let a : Within s (vectors line (P ++ m ∷ Q)) W = within_trans s (vectors line (P ++ m ∷ Q)) (w ∷ y ∷ vectors line (P ++ Q)) W r.1 (search (ky, placing) depth 12) in
          let j : IsIndependent s W = same_length_independent s (vectors line (P ++ m ∷ Q) ++ B) W (subst (λ t. IsIndependent s (vectors line t ++ B)) q i) (within_append s (vectors line (P ++ m ∷ Q)) B W a (search placing depth 12))
          (let e1 = length-missing line (P ++ m ∷ Q) B in let e2 = length-missing line (P ++ Q) (B ++ x ∷ []) in let e3 = length-append B (x ∷ []) in let e4 = length-middle P m Q in omega arith) in
          (P ++ Q, subst (λ t. IsSublist (P ++ Q) t) (sym q) (sub_drop P m Q), independent_right s (w ∷ []) (vectors line (P ++ Q) ++ (B ++ x ∷ [])) j, (let e4 = length-middle P m Q in let e5 : length I ≡ length (P ++ m ∷ Q) = ap length q in omega arith))

  pub kernel_vector_costs_a_line : (I : List ℕ) (B : List V) (x : V) → IsIndependent s (vectors line I ++ B) → IsIndependent s (B ++ x ∷ []) → (J : List ℕ) × IsSublist J I × IsIndependent s (vectors line J ++ (B ++ x ∷ [])) × (length I ≤ suc (length J))
  kernel_vector_costs_a_line I B x i j = go (span_decidable s (vectors line I ++ B) x i)
    where
      go : InSpan s (vectors line I ++ B) x ⊎ IsIndependent s ((vectors line I ++ B) ++ x ∷ []) → (J : List ℕ) × IsSublist J I × IsIndependent s (vectors line J ++ (B ++ x ∷ [])) × (length I ≤ suc (length J))
      go (inr k) = (I, sub_self I, subst (λ t. IsIndependent s t) (append_assoc (vectors line I) B (x ∷ [])) k, omega arith)
      go (inl c) = let r = span_split s (vectors line I) B x c in costs_a_line I B x r.0 r.1 i r.2 r.3 r.4
          (λ q. appended_is_outside s B x j (subst (λ t. InSpan s B t) (sym (r.4 ∙ ap (λ t. t ⊕ r.1) q ∙ null-plus f s r.1)) r.3))

  pub kernel_costs_its_length : (I : List ℕ) (A B : List V) → IsIndependent s (vectors line I ++ A) → IsIndependent s (A ++ B) → (J : List ℕ) × IsSublist J I × IsIndependent s (vectors line J ++ (A ++ B)) × (length I ≤ length J + length B)
  kernel_costs_its_length I A [] i j = (I, sub_self I, subst (λ t. IsIndependent s (vectors line I ++ t)) (sym (append-nil A)) i, omega arith)
  kernel_costs_its_length I A (x ∷ B) i j =
      let j' : IsIndependent s ((A ++ x ∷ []) ++ B) = subst (λ t. IsIndependent s t) (sym (append_assoc A (x ∷ []) B)) j in
      let r = kernel_vector_costs_a_line I A x i (independent_left s (A ++ x ∷ []) B j') in
      let t = kernel_costs_its_length r.0 (A ++ x ∷ []) B r.2 j' in
      let e1 = r.3 in
      let e2 = t.3 in
      (t.0, sub_trans t.0 r.0 I t.1 r.1, subst (λ t'. IsIndependent s (vectors line t.0 ++ t')) (append_assoc A (x ∷ []) B) t.2, omega arith)

  pub part_count : (B : List V) (J L : List ℕ) (n : ℕ) → IsIndependent s (B ++ vectors line J) → ((l : ℕ) → In l J → In l L) → HasRankOver s B (vectors line L) n → length J + length J ≤ n
  part_count B J L n i h r =
      let k = rank_over_bounds s B (vectors line L) (vectors line J) n r i (within_right s (vectors line J) B (vectors line L) (within_lines s line J L h)) in
      let e = length-vectors line J in
      omega arith
