-- Fundamental cycles as marks of their edges.
use Rattle.std.specs.Prelude.{◌≡◌, ℕ, ◌<◌, ◌↔◌, IsTrue, ⊤, List, [], ◌∷◌, Bool, false, length, map, slice_index_or, if◌then◌else◌}
use Rattle.vector_spaces.proofs.Members.{In}
use Rattle.linear_algebra.specs.Scalars.{Scalars}
use Rattle.field_core.specs.Matrix.{Matrix}
use Rattle.cographic.specs.CographicRows.{InCycle}

abbrev pub is_marked : List Bool → ℕ → Bool
is_marked marks x = slice_index_or marks x false

-- just the members of the list are marked
abbrev pub MarkMembers : List ℕ → List Bool → Type 0
MarkMembers L marks = (x : ℕ) → x < length marks → IsTrue (is_marked marks x) ↔ In x L

-- a mark for each of m edges, at those of the fundamental cycle of g
pub record MarkCycle (ends : ℕ → ℕ × ℕ) (m : ℕ) (T : List ℕ) (g : ℕ) (marks : List Bool) : Type 0 where
  pub long : length marks ≡ m
  pub members : (x : ℕ) → x < m → IsTrue (is_marked marks x) ↔ InCycle ends T g x

-- the marks of the fundamental cycles of the edges gs, in order
abbrev pub AreCycles : (ℕ → ℕ × ℕ) → ℕ → List ℕ → List ℕ → List (List Bool) → Type 0
AreCycles ends m T [] [] = ⊤
AreCycles ends m T [] (c ∷ cs) = ⊥
AreCycles ends m T (g ∷ gs) [] = ⊥
AreCycles ends m T (g ∷ gs) (c ∷ cs) = MarkCycle ends m T g c × AreCycles ends m T gs cs

-- one where x is marked
abbrev pub entry_by : Scalars → ℕ → List Bool → ℕ
entry_by S x marks = if is_marked marks x then S.one else S.zero

-- the edge, where it has no mark
abbrev pub where_unmarked : List Bool → ℕ → List ℕ
where_unmarked marks e = if is_marked marks e then [] else e ∷ []

-- a row for each of n edges, with ones at the cycles where it is marked
pub record AreRowsBy (S : Scalars) (cycles : List (List Bool)) (n : ℕ) (m : Matrix) : Type 0 where
  pub width : m.width ≡ length cycles
  pub count : length m.rows ≡ n
  pub each : (x : ℕ) → x < n → slice_index_or m.rows x [] ≡ map (entry_by S x) cycles
