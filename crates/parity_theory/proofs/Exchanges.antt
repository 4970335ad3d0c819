-- An exposed line takes the place of a line of its tip's support; a free line comes in.
use Rattle.std.proofs.Common.{◌≡◌, ◌≢◌, ℕ, suc, ◌≤◌, ◌⊎◌, inl, inr, List, [], ◌∷◌, ◌++◌, length, sym, subst, arith, append-nil, refl}
use Rattle.std.proofs.Math.Decide.{ℕ_discrete}
use Rattle.std.proofs.lemmas.List.{length-append}
use Rattle.parity_theory.proofs.Coordinates.{pivot_line}
use Rattle.parity_theory.proofs.Entries.{at_split}
use Rattle.parity_theory.proofs.Exposure.{Exposed, exposed_within}
use Rattle.parity_theory.proofs.LineSets.{independent_distinct}
use Rattle.parity_theory.proofs.Lines.{vectors, Misses, IsFree}
use Rattle.parity_theory.proofs.Positions.{length-missing, length-vectors, within_line, within_lines}
use Rattle.parity_theory.proofs.Supports.{InSupport}
use Rattle.vector_spaces.proofs.Distinct.{IsDistinct, distinct_middle}
use Rattle.vector_spaces.proofs.Independence.{IsIndependent, same_length_independent, independent_left, independent_right, span_decidable}
use Rattle.vector_spaces.proofs.Members.{In}
use Rattle.vector_spaces.proofs.Middles.{length-middle, middle_in, in_others, in_split}
use Rattle.vector_spaces.proofs.Pairs.{NonZero}
use Rattle.vector_spaces.proofs.Space.{Field, Space}
use Rattle.vector_spaces.proofs.Span.{InSpan}
use Rattle.vector_spaces.proofs.Within.{Within, within_append, placing, within_trans, within_left}

-- N is M without m and with e
pub record IsSwap (M : List ℕ) (m e : ℕ) (N : List ℕ) : Type 0 where
  pub gone : In m M
  pub new : In e N
  pub kept : (l : ℕ) → In l M → l ≢ m → In l N
  pub only : (l : ℕ) → In l N → l ≢ e → In l M × (l ≢ m)
  pub same_length : length N ≡ length M

-- where M is split at m
pub swap_into : (P : List ℕ) (m : ℕ) (Q : List ℕ) (e : ℕ) (N : List ℕ) → IsDistinct (P ++ m ∷ Q) → IsSwap (P ++ m ∷ Q) m e N → (l : ℕ) →
    In l (e ∷ P ++ Q) → In l N
swap_into P m Q e N d w l (inl q) = subst (λ t. In t N) (sym q) w.new
swap_into P m Q e N d w l (inr i) = w.kept l (middle_in P m Q l (inr i)) (λ q. distinct_middle P m Q d (subst (λ t. In t (P ++ Q)) q i))

-- M without m, with e in front
pub swap_in_front : (P : List ℕ) (m : ℕ) (Q : List ℕ) (e : ℕ) → IsDistinct (P ++ m ∷ Q) → IsSwap (P ++ m ∷ Q) m e (e ∷ P ++ Q)
swap_in_front P m Q e d = record {
  gone = middle_in P m Q m (inl refl);
  new = inl refl;
  kept = λ l i n. inr (in_others P m Q l i n);
  only = λ l i n. elim i [
    | inl q ↦ absurd (n q)
    | inr j ↦ (
      middle_in P m Q l (inr j),
      λ q. distinct_middle P m Q d (subst (λ t. In t (P ++ Q)) q j),
    )
  ];
  same_length = sym (length-middle P m Q);
}

-- some list is M without m and with e
pub some_swap : (M : List ℕ) (m e : ℕ) → IsDistinct M → In m M → (N : List ℕ) × IsSwap M m e N
some_swap M m e d i = let r = in_split m M i in
    (e ∷ r.0 ++ r.1, subst (λ t. IsSwap t m e (e ∷ r.0 ++ r.1)) (sym r.2) (swap_in_front r.0 m r.1 e (subst (λ t. IsDistinct t) r.2 d)))

-- a line of the new list is the one that came in, or of the old one
pub swapped_from : (M : List ℕ) (m h : ℕ) (M' : List ℕ) → IsSwap M m h M' → (l : ℕ) → In l M' → (l ≡ h) ⊎ In l M
swapped_from M m h M' w l i = elim (ℕ_discrete l h) [ yes e ↦ inl e | no n ↦ inr (w.only l i n).0 ]

module _ {K V : Type 0} {f : Field K} (s : Space f V) (line : ℕ → V × V) where
  -- N has the lines of M but m, and e; what M and e's outer miss together, N misses
  pub exchange_keeps_missing : (P : List ℕ) (m : ℕ) (Q N : List ℕ) (e : ℕ) (tip outer : V) (c : List (K × K)) (p : K × K) (d : List (K × K))
      (X : List V) →
      Exposed s line (P ++ m ∷ Q) e tip outer (c ++ p ∷ d) → length c ≡ length P → NonZero f p → Misses s line (P ++ m ∷ Q) (outer ∷ X) →
      ((l : ℕ) → In l (e ∷ P ++ Q) → In l N) → length N ≤ length (P ++ m ∷ Q) → Misses s line N X
  exchange_keeps_missing P m Q N e tip outer c p d X x lc n i h k =
      let r = pivot_line s line P m Q c p d tip lc x.combines n in
      let y : V = r.0 in
      let a : Within s (vectors line (P ++ m ∷ Q)) (y ∷ tip ∷ outer ∷ vectors line (P ++ Q) ++ X) =
      within_trans s (vectors line (P ++ m ∷ Q)) (y ∷ tip ∷ vectors line (P ++ Q)) (y ∷ tip ∷ outer ∷ vectors line (P ++ Q) ++ X) r.1
      (search placing depth 12) in
      let j : IsIndependent s (y ∷ tip ∷ outer ∷ vectors line (P ++ Q) ++ X) =
      same_length_independent s (vectors line (P ++ m ∷ Q) ++ outer ∷ X) (y ∷ tip ∷ outer ∷ vectors line (P ++ Q) ++ X) i
      (within_append s (vectors line (P ++ m ∷ Q)) (outer ∷ X) (y ∷ tip ∷ outer ∷ vectors line (P ++ Q) ++ X) a (search placing))
      (let e1 = length-missing line (P ++ m ∷ Q) (outer ∷ X) in let e2 = length-missing line (P ++ Q) X in let e3 = length-middle P m Q in
      omega arith) in
      let j' : IsIndependent s (tip ∷ outer ∷ vectors line (P ++ Q) ++ X) =
      independent_right s (y ∷ []) (tip ∷ outer ∷ vectors line (P ++ Q) ++ X) j in
      let b : Within s (tip ∷ outer ∷ []) (vectors line N ++ X) = within_left s (tip ∷ outer ∷ []) (vectors line N) X
      (within_trans s (tip ∷ outer ∷ []) (vectors line (e ∷ [])) (vectors line N) x.tip_outer_in
      (within_line s line e N (h e (inl refl)))) in
      let g : Within s (vectors line (P ++ Q) ++ X) (vectors line N ++ X) = within_append s (vectors line (P ++ Q)) X (vectors line N ++ X)
      (within_left s (vectors line (P ++ Q)) (vectors line N) X (within_lines s line (P ++ Q) N (λ l q. h l (inr q))))
      (search placing) in
      same_length_independent s (tip ∷ outer ∷ vectors line (P ++ Q) ++ X) (vectors line N ++ X) j'
      (within_append s (tip ∷ outer ∷ []) (vectors line (P ++ Q) ++ X) (vectors line N ++ X) b g)
      (let e1 = length-missing line N X in let e2 = length-missing line (P ++ Q) X in let e3 = length-middle P m Q in omega arith)

  -- the same for a line of the support
  pub exchange_at : (M N : List ℕ) (m e : ℕ) (tip outer : V) (cs : List (K × K)) (X : List V) → Exposed s line M e tip outer cs →
      InSupport f m cs M → Misses s line M (outer ∷ X) → IsSwap M m e N → Misses s line N X
  exchange_at M N m e tip outer cs X x (p, a, n) i w =
      let r = at_split m p M cs a in
      go r.0 r.1 r.2 r.3 (subst (λ c. Exposed s line (r.0 ++ m ∷ r.1) e tip outer c) r.5
      (subst (λ t. Exposed s line t e tip outer cs) r.4 x)) r.6 (subst (λ t. Misses s line t (outer ∷ X)) r.4 i)
      (subst (λ t. IsSwap t m e N) r.4 w)
    where
      go : (P Q : List ℕ) (c d : List (K × K)) → Exposed s line (P ++ m ∷ Q) e tip outer (c ++ p ∷ d) → length c ≡ length P →
          Misses s line (P ++ m ∷ Q) (outer ∷ X) → IsSwap (P ++ m ∷ Q) m e N → Misses s line N X
      go P Q c d x lc i w = exchange_keeps_missing P m Q N e tip outer c p d X x lc n i
          (swap_into P m Q e N (independent_distinct s line (P ++ m ∷ Q) (independent_left s (vectors line (P ++ m ∷ Q)) (outer ∷ X) i)) w)
          (let k = w.same_length in omega arith)

  -- so N is independent
  pub exchange_independent : (M N : List ℕ) (m e : ℕ) (tip outer : V) (cs : List (K × K)) → Exposed s line M e tip outer cs →
      InSupport f m cs M → IsSwap M m e N → IsIndependent s (vectors line N)
  exchange_independent M N m e tip outer cs x i w = subst (λ t. IsIndependent s t) (append-nil (vectors line N))
      (exchange_at M N m e tip outer cs [] x i x.apart w)

  -- where M and X together do not span e, they miss its outer
  pub outer_outside_keep : (M : List ℕ) (e : ℕ) (tip outer : V) (cs : List (K × K)) (X : List V) → Exposed s line M e tip outer cs →
      Misses s line M X → ¬ (Within s (vectors line (e ∷ [])) (vectors line M ++ X)) → Misses s line M (outer ∷ X)
  outer_outside_keep M e tip outer cs X x i n = go (span_decidable s (vectors line M ++ X) outer i)
    where
      go : InSpan s (vectors line M ++ X) outer ⊎ IsIndependent s ((vectors line M ++ X) ++ outer ∷ []) → Misses s line M (outer ∷ X)
      go (inl c) = absurd (n (within_trans s (vectors line (e ∷ [])) (vectors line M ++ outer ∷ []) (vectors line M ++ X)
          (exposed_within s line M e tip outer cs x) (search (c, placing))))
      go (inr j) = same_length_independent s ((vectors line M ++ X) ++ outer ∷ []) (vectors line M ++ outer ∷ X) j (search placing)
          (omega (arith, length-append {A = V}))

  -- a line is free exactly where M with it is independent, in any order
  pub add_line : (M N : List ℕ) (e : ℕ) → IsFree s line M e → ((l : ℕ) → In l (e ∷ M) → In l N) → length N ≤ suc (length M) →
      IsIndependent s (vectors line N)
  add_line M N e i h k = same_length_independent s (vectors line M ++ vectors line (e ∷ [])) (vectors line N) i
      (within_append s (vectors line M) (vectors line (e ∷ [])) (vectors line N) (within_lines s line M N (λ l q. h l (inr q)))
      (within_line s line e N (h e (inl refl))))
      (let e1 = length-vectors line N in let e2 = length-missing line M (vectors line (e ∷ [])) in omega arith)

  pub line_added : (M N : List ℕ) (e : ℕ) → IsIndependent s (vectors line N) → ((l : ℕ) → In l N → In l (e ∷ M)) →
      suc (length M) ≤ length N → IsFree s line M e
  line_added M N e i h k = same_length_independent s (vectors line N) (vectors line M ++ vectors line (e ∷ [])) i
      (within_trans s (vectors line N) (vectors line (e ∷ M)) (vectors line M ++ vectors line (e ∷ [])) (within_lines s line N (e ∷ M) h)
      (within_append s (vectors line (e ∷ [])) (vectors line M) (vectors line M ++ vectors line (e ∷ [])) (search placing)
      (search placing)))
      (let e1 = length-vectors line N in let e2 = length-missing line M (vectors line (e ∷ [])) in omega arith)
