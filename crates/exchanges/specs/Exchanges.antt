-- Exchanges toward a target, the sets that they reach, and sets that have settled.
use Rattle.std.specs.Prelude.{◌≡◌, ◌≢◌, ◌==◌, ℕ, suc, List, [], ◌∷◌, ◌++◌, length, not, All, count_by}
use Rattle.std.specs.List.{Contains, list_any}
use Rattle.linear_algebra.specs.Scalars.{Scalars}
use Rattle.linear_algebra.specs.Spans.{InSpan}
use Rattle.matching_state.specs.Missing.{Misses}
use Rattle.matching_state.specs.Overlaps.{InSupport}
use Rattle.matching_state.specs.LinePlaces.{IsExposed, rank_beside}
use Rattle.matching_state.specs.DirectSteps.{IsSwap}
use Rattle.parity_lines.specs.LineSets.{IsLineSet, IsIndependentSet}
use Rattle.parity_lines.specs.Problems.{ParityProblem, vectors_at}

-- the span of vs has the vectors of the lines L
abbrev pub AreSpanned : Scalars → ParityProblem → List (List ℕ) → List ℕ → Type 0
AreSpanned S p vs L = All (InSpan S p.dimension vs) (vectors_at p L)

-- the line into of the target T, which vs don't span, can take the place of out, which is none of T: it is
-- exposed over M, with out in its support
pub record CanExchange (S : Scalars) (p : ParityProblem) (vs : List (List ℕ)) (T M : List ℕ) (out into : ℕ) : Type 0 where
  pub in_target : Contains T into
  pub out_of_target : ¬ (Contains T out)
  pub exposed : IsExposed S p M into
  pub in_support : InSupport S p M into out
  pub not_spanned : ¬ (AreSpanned S p vs (into ∷ []))

-- N comes of M by such an exchange for a line that M's vectors and keep don't span
pub record IsExchangeToward (S : Scalars) (p : ParityProblem) (keep : List (List ℕ)) (T M : List ℕ) (out into : ℕ)
    (N : List ℕ) : Type 0 where
  pub can : CanExchange S p (vectors_at p M ++ keep) T M out into
  pub swap : IsSwap M out into N

-- the sets of lines that come of M by such exchanges, one after another
pub data IsReached (S : Scalars) (p : ParityProblem) (keep : List (List ℕ)) (T M : List ℕ) : List ℕ → Type 0 where
  by_none : IsReached S p keep T M M
  by_one_more : (N L : List ℕ) (out into : ℕ) → IsReached S p keep T M N → IsExchangeToward S p keep T N out into L → IsLineSet p L →
      IsReached S p keep T M L

-- N is an independent set that is as long as M and misses the vectors of keep
pub record StillMisses (S : Scalars) (p : ParityProblem) (keep : List (List ℕ)) (M N : List ℕ) : Type 0 where
  pub independent : IsIndependentSet S p N
  pub as_long : length N ≡ length M
  pub missed : Misses S p N keep

-- no line of T is free over M, and no such exchange is left
pub record IsSettled (S : Scalars) (p : ParityProblem) (keep : List (List ℕ)) (T M : List ℕ) : Type 0 where
  pub not_free : (l : ℕ) → Contains T l → rank_beside S p M l ≢ 2
  pub no_exchange : (out into : ℕ) → ¬ (CanExchange S p (vectors_at p M ++ keep) T M out into)

-- L is an independent set that is one line longer than M
pub record IsLonger (S : Scalars) (p : ParityProblem) (M L : List ℕ) : Type 0 where
  pub independent : IsIndependentSet S p L
  pub longer : length L ≡ suc (length M)

-- how many lines of the target T are none of M
abbrev pub distance : List ℕ → List ℕ → ℕ
distance M T = count_by (λ l. not (list_any (λ m. l == m) M)) T
