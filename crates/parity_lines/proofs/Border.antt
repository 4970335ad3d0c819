-- The lines of a problem as lines of the space of tuples.
use Rattle.std.proofs.Common.{◌≡◌, ℕ, ◌<◌, List, [], ◌∷◌, length, refl, ap, subst, sym, All}
use Rattle.std.proofs.lemmas.List.Elements.{All-nil, All-cons, All-head, All-tail, All-get_or}
use Rattle.vector_spaces.proofs.Tuples.{Tuple}
use Rattle.vector_spaces.proofs.Independence.{IsIndependent as IsIndependent_of}
use Rattle.vector_spaces.proofs.Bases.{HasRankOver, has_rank_over}
use Rattle.linear_algebra.specs.Scalars.{Scalars, IsField}
use Rattle.linear_algebra.specs.Vectors.{IsVector, AreVectors}
use Rattle.linear_algebra.specs.Spans.{IsIndependent}
use Rattle.linear_algebra.specs.Ranks.{rank_over}
use Rattle.linear_algebra.proofs.Elements.{Element}
use Rattle.linear_algebra.proofs.Coordinates.{tuple, space}
use Rattle.linear_algebra.proofs.Transfer.{tuples_of, independent_to_tuples}
use Rattle.linear_algebra.proofs.RankLaws.{rank_over-tuples}
use Rattle.parity_theory.proofs.Lines.{vectors}
use Rattle.parity_lines.specs.Problems.{ParityProblem, IsProblem, line_at, vectors_at}

module _ (S : Scalars) (p : ParityProblem) (P : IsProblem S p) where
  -- the vectors at positions of the problem are vectors
  pub vectors_at-vectors : (M : List ℕ) → All (λ m. m < length p.lines) M → AreVectors S p.dimension (vectors_at p M)
  unfolding vectors_at
  vectors_at-vectors [] h = All-nil (IsVector S p.dimension)
  vectors_at-vectors (m ∷ M) h =
      let line = All-get_or (λ (l : List ℕ × List ℕ). IsVector S p.dimension l.0 × IsVector S p.dimension l.1) p.lines m ([], []) (All-head (λ k. k < length p.lines) m M h) P in
      All-cons (IsVector S p.dimension) (line_at p m).0 ((line_at p m).1 ∷ vectors_at p M) line.0
      (All-cons (IsVector S p.dimension) (line_at p m).1 (vectors_at p M) line.1 (vectors_at-vectors M (All-tail (λ k. k < length p.lines) m M h)))

module _ (S : Scalars) (F : IsField S) (p : ParityProblem) where
  -- the line at a position, as tuples
  abbrev pub tuples_at : ℕ → Tuple (Element S) p.dimension × Tuple (Element S) p.dimension
  tuples_at m = (tuple S F p.dimension (line_at p m).0, tuple S F p.dimension (line_at p m).1)

  pub tuples-vectors_at : (M : List ℕ) → tuples_of S F p.dimension (vectors_at p M) ≡ vectors tuples_at M
  unfolding vectors_at
  tuples-vectors_at [] = refl
  tuples-vectors_at (m ∷ M) = ap (λ ts. (tuples_at m).0 ∷ (tuples_at m).1 ∷ ts) (tuples-vectors_at M)

  pub independent_lines : IsProblem S p → (M : List ℕ) → All (λ m. m < length p.lines) M → IsIndependent S p.dimension (vectors_at p M) → IsIndependent_of (space S F p.dimension) (vectors tuples_at M)
  independent_lines P M h i = subst (IsIndependent_of (space S F p.dimension)) (tuples-vectors_at M) (independent_to_tuples S F p.dimension (vectors_at p M) (vectors_at-vectors S p P M h) i)

  -- the rank that the lines add to a kernel
  pub lines_over : IsProblem S p → (K : List (List ℕ)) (M : List ℕ) → AreVectors S p.dimension K → IsIndependent S p.dimension K → All (λ m. m < length p.lines) M →
      HasRankOver (space S F p.dimension) (tuples_of S F p.dimension K) (vectors tuples_at M) (rank_over S p.dimension K (vectors_at p M))
  lines_over P K M k i h = subst (λ ts. HasRankOver (space S F p.dimension) (tuples_of S F p.dimension K) ts (rank_over S p.dimension K (vectors_at p M))) (tuples-vectors_at M)
      (subst (λ n. HasRankOver (space S F p.dimension) (tuples_of S F p.dimension K) (tuples_of S F p.dimension (vectors_at p M)) n) (sym (rank_over-tuples S F p.dimension K (vectors_at p M) k (vectors_at-vectors S p P M h)))
      (has_rank_over (space S F p.dimension) (tuples_of S F p.dimension K) (tuples_of S F p.dimension (vectors_at p M)) (independent_to_tuples S F p.dimension K k i)))
