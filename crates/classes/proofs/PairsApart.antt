-- Vectors of two lines that a set is wide on: any that are outside its span are missed together.
use Rattle.std.proofs.Common.{ℕ, List, [], ◌∷◌, ◌++◌, append_assoc, arith, sym, subst}
use Rattle.class_theory.proofs.Separations.{separates_of_wide}
use Rattle.parity_theory.proofs.Lines.{IsFree, Misses, vectors}
use Rattle.parity_theory.proofs.Positions.{length-missing}
use Rattle.parity_theory.proofs.Widths.{IsWide, free_of_pair, misses_turned, two_missed}
use Rattle.vector_spaces.proofs.Independence.{IsIndependent, independent_left, same_length_independent}
use Rattle.vector_spaces.proofs.Members.{In}
use Rattle.vector_spaces.proofs.Space.{Field, Space}
use Rattle.vector_spaces.proofs.Span.{InSpan, decide_span}
use Rattle.vector_spaces.proofs.Within.{placing, through}

module _ {K V : Type 0} {f : Field K} (s : Space f V) (line : ℕ → V × V) where
  pub first_missed : (M : List ℕ) (a b : V) → Misses s line M (a ∷ b ∷ []) → Misses s line M (a ∷ [])
  first_missed M a b m = independent_left s (vectors line M ++ a ∷ []) (b ∷ [])
      (subst (IsIndependent s) (sym (append_assoc (vectors line M) (a ∷ []) (b ∷ []))) m)

  pub second_missed : (M : List ℕ) (a b : V) → Misses s line M (a ∷ b ∷ []) → Misses s line M (b ∷ [])
  second_missed M a b m = first_missed M b a (misses_turned s line M a b m)

  -- of a line that isn't free, M and a vector that it misses span the others
  near : (M : List ℕ) (i : ℕ) (a x : V) → ¬ (IsFree s line M i) → In a (vectors line (i ∷ [])) → Misses s line M (a ∷ []) →
      In x (vectors line (i ∷ [])) → InSpan s (vectors line M ++ a ∷ []) x
  near M i a x n j m k = elim (decide_span f s (vectors line M ++ a ∷ []) x) [
    | yes h ↦ h
    | no h ↦ absurd (n (free_of_pair s line M i a x j k (two_missed s line M a x m h)))
  ]

  pub pair_missed : (M : List ℕ) (i j : ℕ) (a b : V) → ¬ (IsFree s line M i) → ¬ (IsFree s line M j) → IsWide s line M (vectors line (i ∷ j ∷ [])) →
      In a (vectors line (i ∷ [])) → Misses s line M (a ∷ []) → In b (vectors line (j ∷ [])) → Misses s line M (b ∷ []) →
      Misses s line M (a ∷ b ∷ [])
  pair_missed M i j a b ni nj w ai am bj bm = let r = separates_of_wide s line M i j ni nj w in go r.0 r.1 r.2 r.3 r.4
    where
      go : (x y : V) → In x (vectors line (i ∷ [])) → In y (vectors line (j ∷ [])) → Misses s line M (x ∷ y ∷ []) → Misses s line M (a ∷ b ∷ [])
      go x y k l m =
          let kx : InSpan s (vectors line M ++ a ∷ b ∷ []) x =
          through s (vectors line M ++ a ∷ []) (vectors line M ++ a ∷ b ∷ []) x (search placing) (near M i a x ni ai am k) in
          let ky : InSpan s (vectors line M ++ a ∷ b ∷ []) y =
          through s (vectors line M ++ b ∷ []) (vectors line M ++ a ∷ b ∷ []) y (search placing) (near M j b y nj bj bm l) in
          same_length_independent s (vectors line M ++ x ∷ y ∷ []) (vectors line M ++ a ∷ b ∷ []) m (search (kx, ky, placing))
          (omega (arith, length-missing line M (a ∷ b ∷ []), length-missing line M (x ∷ y ∷ [])))
