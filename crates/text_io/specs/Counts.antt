-- Counts of 64 bits that stay at their last value, and what an answer says of them.
use Rattle.std.specs.Prelude.{◌≡◌, ℕ, ◌+◌, ◌-◌, ◌^◌, ◌<◌, ◌≤◌, ◌⊎◌, min, Result, Ok, Err, OnOk, OnErr, MatchResult}

-- the last value of a count
abbrev pub last_count : ℕ
last_count = 2 ^ 64 - 1

-- a count raised by n, or to its last value where the sum would pass that
abbrev pub raised : ℕ → ℕ → ℕ
raised before n = min (before + n) last_count

-- the count rose, or already stood at its last value and stays there
abbrev pub Rose : ℕ → ℕ → Type 0
Rose before now = (before < now) ⊎ ((before ≡ last_count) × (now ≡ before))

-- the count rose by more than n, or stands at its last value
abbrev pub RoseByMore : ℕ → ℕ → ℕ → Type 0
RoseByMore n before now = (before + n < now) ⊎ (now ≡ last_count)

-- The count of faults never falls. An error comes only where it rose or already stood at its last value, and a call without an error leaves it.
pub record HasCause {T E : Type 0} (before now : ℕ) (result : Result T E) : Type 0 where
  pub later : before ≤ now
  pub err : OnErr result (Rose before now)
  pub ok : OnOk result (now ≡ before)

-- the count of faults after a call, where an error is one fault
abbrev pub faults_after : {T E : Type 0} → ℕ → Result T E → ℕ
faults_after before (Ok _) = before
faults_after before (Err _) = raised before 1

-- the count of bytes is raised by those that a call gave, and an error leaves it
abbrev pub CountsGiven : {E : Type 0} → ℕ → ℕ → Result ℕ E → Type 0
CountsGiven before now result = MatchResult result (λ n. now ≡ raised before n) (λ _. now ≡ before)
