-- Steps and walks toward a target from sets whose supports stay in their classes.
use Rattle.std.specs.Prelude.{◌≡◌, ℕ, suc, List, length, slice_index}
use Rattle.class_theory.proofs.Classes.{count_in, of_label}
use Rattle.linear_algebra.specs.Scalars.{Scalars}
use Rattle.exchanges.specs.Exchanges.{IsExchangeToward, IsSettled}
use Rattle.classes.specs.Ends.{IsSetOf}
use Rattle.classes.specs.Supports.{IsClosed, IsStray}
use Rattle.classes.specs.declared.pacing.Paced.{Paced}
use Rattle.classes.specs.declared.pacing.Paced.TheVariants as paced
use Rattle.classes.specs.declared.pacing.Walked.{Walked}
use Rattle.classes.specs.declared.pacing.Walked.TheVariants as walked
use Rattle.parity_lines.specs.Problems.{ParityProblem}

-- how many lines of M have the label c
abbrev pub class_count : List ℕ → ℕ → List ℕ → ℕ
class_count labels c M = count_in (of_label (slice_index labels) c) M

-- M has a support that leaves its class, and N is M; or N is M, and a longer set is known, or M has settled; or no
-- support of M leaves its class, and N comes of it by an exchange
abbrev pub TellsPace : Scalars → ParityProblem → List ℕ → List (List ℕ) → List ℕ → List ℕ → List ℕ → Paced → Type 0
TellsPace S p labels keep T M N (paced.Stray line other) = (N ≡ M) × IsStray S p labels M line other
TellsPace S p labels keep T M N (paced.Larger L) = (N ≡ M) × IsSetOf S p (suc (length M)) L
TellsPace S p labels keep T M N paced.Settled = (N ≡ M) × IsSettled S p keep T M
TellsPace S p labels keep T M N paced.Moved = IsClosed S p labels M × ((out : ℕ) × (into : ℕ) × IsExchangeToward S p keep T M out into N)

-- N is as long as M, and has as many lines in each class
pub record KeepsCounts (labels M N : List ℕ) : Type 0 where
  pub as_long : length N ≡ length M
  pub counts : (c : ℕ) → class_count labels c N ≡ class_count labels c M

-- where a walk ended: at N with a support that leaves its class; with a longer set; or with P
abbrev pub TellsWalk : Scalars → ParityProblem → List ℕ → ℕ → List ℕ → Type 0 → Walked → Type 0
TellsWalk S p labels k N P (walked.Stray line other) = IsStray S p labels N line other
TellsWalk S p labels k N P (walked.Larger L) = IsSetOf S p (suc k) L
TellsWalk S p labels k N P walked.Arrived = P
