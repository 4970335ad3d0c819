-- The size of a largest independent set of pairs of edges is the maximum genus.
use Rattle.std.proofs.Common.{◌≡◌, ℕ, List, length}
use Rattle.vector_spaces.proofs.Space.{Field, Space}
use Rattle.edge_lists.specs.Connections.{IsConnected, IsGraph}
use Rattle.edge_lists.specs.EdgePairs.{ListsPairs}
use Rattle.cographic_theory.proofs.CographicVectors.{IsCographic}
use Rattle.cographic_theory.proofs.PairLines.{IsLargestSet, largest_of_most, most_of_largest}
use Rattle.rotation_theory.specs.MaximumGenus.{IsMaximumGenus}
use Rattle.rotation_theory.proofs.MaximumGenus.{maximum_of_most, most_of_maximum}

module _ (ends : ℕ → ℕ × ℕ) (n : ℕ) (E : List ℕ) (graph : IsGraph ends n E) (pair : ℕ → ℕ × ℕ) (m : ℕ) (Q : ListsPairs ends E pair m)
    (T : List ℕ) {K V : Type 0}
    (f : Field K) (s : Space f V) (row : ℕ → V) (G : IsCographic ends E T f s row) (C : IsConnected ends n E) where
  -- the largest size is the maximum genus
  pub largest_is_maximum_genus : (M : List ℕ) → IsLargestSet s row pair m M → IsMaximumGenus ends n E (length M)
  largest_is_maximum_genus M L = maximum_of_most ends n E graph C (length M) (most_of_largest ends n E graph pair m Q T f s row G C M L)

  -- and the maximum genus is the size of a largest set
  pub largest_of_maximum : (g : ℕ) → IsMaximumGenus ends n E g → (M : List ℕ) × IsLargestSet s row pair m M × (length M ≡ g)
  largest_of_maximum g I = largest_of_most ends n E graph pair m Q T f s row G C g (most_of_maximum ends n E graph C g I)
