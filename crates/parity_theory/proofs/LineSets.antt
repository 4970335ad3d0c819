-- Independent sets of lines: in any order, without repetition, line by line.
use Rattle.std.proofs.Common.{ℕ, ◌≤◌, List, [], ◌∷◌, ◌++◌, length, arith, inr}
use Rattle.parity_theory.proofs.Lines.{vectors}
use Rattle.parity_theory.proofs.Positions.{length-missing, length-vectors, vectors_first, sub_vectors, within_lines, within_middle}
use Rattle.vector_spaces.proofs.Distinct.{IsDistinct}
use Rattle.vector_spaces.proofs.Independence.{IsIndependent, same_length_independent, independent_right, head_is_outside, sublist_independent}
use Rattle.vector_spaces.proofs.Members.{In}
use Rattle.vector_spaces.proofs.Middles.{length-middle}
use Rattle.vector_spaces.proofs.Space.{Field, Space}
use Rattle.vector_spaces.proofs.Span.{span_member}
use Rattle.vector_spaces.proofs.Sublists.{sub_member}
use Rattle.vector_spaces.proofs.Within.{placing, within_trans}

module _ {K V : Type 0} {f : Field K} (s : Space f V) (line : ℕ → V × V) where
  -- the same lines in any order
  pub regroup_lines : (L N : List ℕ) → IsIndependent s (vectors line L) → ((l : ℕ) → In l L → In l N) → length N ≤ length L →
      IsIndependent s (vectors line N)
  regroup_lines L N i h k = same_length_independent s (vectors line L) (vectors line N) i (within_lines s line L N h)
      (let e1 = length-vectors line L in let e2 = length-vectors line N in omega arith)

  -- no line stands twice in an independent set
  pub independent_distinct : (M : List ℕ) → IsIndependent s (vectors line M) → IsDistinct M
  independent_distinct [] i = tt
  independent_distinct (m ∷ M) i = (
    λ q. head_is_outside s (line m).0 ((line m).1 ∷ vectors line M) i
        (span_member f s ((line m).1 ∷ vectors line M) (line m).0 (inr (vectors_first line M m q))),
    independent_distinct M (independent_right s (vectors line (m ∷ [])) (vectors line M) i),
  )

  -- the two vectors of a line of the set are independent
  pub line_independent : (M : List ℕ) (l : ℕ) → IsIndependent s (vectors line M) → In l M → IsIndependent s (vectors line (l ∷ []))
  line_independent M l i q = sublist_independent s (vectors line (l ∷ [])) (vectors line M) i (sub_vectors line (l ∷ []) M (sub_member l M q))

  -- the line in the middle moved to the end
  pub line_moved_last : (P : List ℕ) (l : ℕ) (Q : List ℕ) → IsIndependent s (vectors line (P ++ l ∷ Q)) →
      IsIndependent s (vectors line (P ++ Q) ++ vectors line (l ∷ []))
  line_moved_last P l Q i =
      same_length_independent s (vectors line (P ++ l ∷ Q)) (vectors line (P ++ Q) ++ vectors line (l ∷ [])) i
      (within_trans s (vectors line (P ++ l ∷ Q)) (vectors line (l ∷ P ++ Q)) (vectors line (P ++ Q) ++ vectors line (l ∷ []))
      (within_middle s line P l Q)
      (search placing depth 10))
      (let e1 = length-vectors line (P ++ l ∷ Q) in let e2 = length-missing line (P ++ Q)
      (vectors line (l ∷ [])) in let e3 = length-middle P l Q in omega arith)
