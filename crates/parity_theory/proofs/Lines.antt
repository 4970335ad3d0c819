-- Lines are pairs of vectors, known by their positions. Coordinates over a list of lines are a pair of scalars for each.
use Rattle.std.proofs.Common.{ℕ, List, [], ◌∷◌, ◌++◌}
use Rattle.vector_spaces.proofs.Independence.{IsIndependent}
use Rattle.vector_spaces.proofs.Space.{Field, Space}

-- both vectors of each line, in order
abbrev pub vectors : {V : Type 0} → (ℕ → V × V) → List ℕ → List V
vectors line [] = []
vectors line (m ∷ M) = (line m).0 ∷ (line m).1 ∷ vectors line M

-- coordinates over M, a pair of scalars for each line
unfoldable pub line_combination : {K V : Type 0} {f : Field K} → Space f V → (ℕ → V × V) → List (K × K) → List ℕ → V
line_combination s line [] M = s.null
line_combination s line (c ∷ cs) [] = s.null
line_combination s line (c ∷ cs) (m ∷ M) = s.◌⊕◌ (s.◌⊕◌ (s.◌·◌ c.0 (line m).0) (s.◌·◌ c.1 (line m).1)) (line_combination s line cs M)

-- M misses the vectors Q independently: they are independent together
abbrev pub Misses : {K V : Type 0} {f : Field K} → Space f V → (ℕ → V × V) → List ℕ → List V → Type 0
Misses s line M Q = IsIndependent s (vectors line M ++ Q)

-- M and the line e are independent together
abbrev pub IsFree : {K V : Type 0} {f : Field K} → Space f V → (ℕ → V × V) → List ℕ → ℕ → Type 0
IsFree s line M e = IsIndependent s (vectors line M ++ vectors line (e ∷ []))
