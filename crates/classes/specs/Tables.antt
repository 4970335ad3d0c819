-- The table that is kept of a family: which lines are live, and of two lines the first member that separates them.
use Rattle.std.specs.Prelude.{◌≡◌, ◌≢◌, ◌&&◌, ◌⊎◌, ℕ, ◌<◌, List, [], ◌∷◌, Bool, true, false, Option, None, Some, All, length, slice_index_or}
use Rattle.std.specs.Option.{is_none}
use Rattle.vector_spaces.proofs.Members.{In}
use Rattle.vector_spaces.proofs.Space.{Field, Space}
use Rattle.linear_algebra.specs.Scalars.{Scalars, IsField}
use Rattle.linear_algebra.proofs.Coordinates.{space}
use Rattle.parity_lines.specs.Problems.{ParityProblem}
use Rattle.parity_lines.proofs.Border.{tuples_at}
use Rattle.parity_theory.proofs.Lines.{IsFree, vectors}
use Rattle.parity_theory.proofs.Widths.{IsWide}
use Rattle.classes.specs.Directions.{AreApart}
use Rattle.classes.specs.declared.direction.Direction.{Direction}

pub record Separators : Type 0 where
  pub live : List Bool
  pub rows : List (List (Option ℕ))

abbrev pub live_at : Separators → ℕ → Bool
live_at t i = slice_index_or t.live i false

abbrev pub separator_at : Separators → ℕ → ℕ → Option ℕ
separator_at t i j = slice_index_or (slice_index_or t.rows i []) j None

-- two live lines that no member separates
abbrev pub akin_at : Separators → ℕ → ℕ → Bool
akin_at t i j = live_at t i && live_at t j && is_none (separator_at t i j)

-- no member separates i and j, or this one does
abbrev pub TellsSeparator : {K V : Type 0} {f : Field K} → Space f V → (ℕ → V × V) → List (List ℕ) → ℕ → ℕ → Option ℕ → Type 0
TellsSeparator s line family i j None = (N : List ℕ) → In N family → ¬ (IsWide s line N (vectors line (i ∷ j ∷ [])))
TellsSeparator s line family i j (Some m) = (m < length family) × IsWide s line (slice_index_or family m []) (vectors line (i ∷ j ∷ []))

-- each row is as long as there are lines
pub record IsSquare (t : Separators) : Type 0 where
  pub long : length t.rows ≡ length t.live
  pub wide : All (λ row. length row ≡ length t.live) t.rows

-- whether a line has a vector that isn't null
pub record TellsLive {K V : Type 0} {f : Field K} (s : Space f V) (line : ℕ → V × V) (i : ℕ) (live : Bool) : Type 0 where
  pub alive : live ≡ true → (q : V) × In q (vectors line (i ∷ [])) × (q ≢ s.null)
  pub dead : live ≡ false → (q : V) → In q (vectors line (i ∷ [])) → q ≡ s.null

-- so for the lines below n, in order
pub record TellLive {K V : Type 0} {f : Field K} (s : Space f V) (line : ℕ → V × V) (n : ℕ) (live : List Bool) : Type 0 where
  pub long : length live ≡ n
  pub each : (i : ℕ) → i < n → TellsLive s line i (slice_index_or live i false)

-- the table of the family, whose members have none of the lines below n free
pub record IsTable {K V : Type 0} {f : Field K} (s : Space f V) (line : ℕ → V × V) (family : List (List ℕ)) (n : ℕ) (t : Separators) : Type 0 where
  pub lives : TellLive s line n t.live
  pub not_free : (N : List ℕ) → In N family → (i : ℕ) → i < n → ¬ (IsFree s line N i)
  pub tells : (i j : ℕ) → i < n → j < n → TellsSeparator s line family i j (separator_at t i j)

-- for the lines of a problem, as lines of tuples
abbrev pub AreLive : (S : Scalars) → IsField S → ParityProblem → ℕ → List Bool → Type 0
AreLive S F p n live = TellLive (space S F p.dimension) (tuples_at S F p) n live

abbrev pub IsLive : (S : Scalars) → IsField S → ParityProblem → ℕ → Bool → Type 0
IsLive S F p i live = TellsLive (space S F p.dimension) (tuples_at S F p) i live

abbrev pub IsTableOf : (S : Scalars) → IsField S → ParityProblem → List (List ℕ) → Separators → Type 0
IsTableOf S F p sets t = IsTable (space S F p.dimension) (tuples_at S F p) sets (length p.lines) t

-- the separator after one member more, by the directions of both lines over it
abbrev pub IsNextSeparator : {X : Type 0} → Direction X → Direction X → ℕ → Option ℕ → Option ℕ → Type 0
IsNextSeparator d e member (Some m) new = new ≡ Some m
IsNextSeparator d e member None new = ((new ≡ Some member) × AreApart d e) ⊎ ((new ≡ None) × ¬ (AreApart d e))

-- so for the row of a line
pub record IsNextRow {X : Type 0} (ds : List (Direction X)) (line member : ℕ) (old new : List (Option ℕ)) : Type 0 where
  pub long : length new ≡ length old
  pub each : (j : ℕ) (d e : Direction X) → j < length old → IsNextSeparator (slice_index_or ds line d) (slice_index_or ds j e) member
      (slice_index_or old j None) (slice_index_or new j None)
