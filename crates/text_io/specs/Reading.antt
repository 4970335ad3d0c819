-- What an answer of reading all says of the source's counts and bytes.
use Rattle.std.specs.Prelude.{◌≡◌, ℕ, ◌+◌, ◌<◌, ◌≤◌, List, length, Result, Ok, Err, Option, IfSome}
use Rattle.text_io.specs.Counts.{Rose, RoseByMore}
use Rattle.text_io.specs.declared.reading.ReadAnswer.{ReadAnswer}
use Rattle.text_io.specs.declared.reading.ReadAnswer.TheVariants.{Fault, TooLong, OutOfMemory}

-- Fault comes only where the count of faults rose or already stood at its last value, and every other answer leaves it.
abbrev pub HasFaultCause : {T : Type 0} → ℕ → ℕ → Result T ReadAnswer → Type 0
HasFaultCause before now (Ok _) = now ≡ before
HasFaultCause before now (Err Fault) = Rose before now
HasFaultCause before now (Err TooLong) = now ≡ before
HasFaultCause before now (Err OutOfMemory) = now ≡ before

-- more than limit bytes were given, or their count stands at its last value; and more were there
pub record IsTooLong (limit : ℕ) (left : Option (List ℕ)) (before now : ℕ) : Type 0 where
  pub given : RoseByMore limit before now
  pub held : IfSome left (λ bytes. limit < length bytes)

-- TooLong comes only where more than limit bytes were given, and at every other answer no more than limit were.
abbrev pub HasLengthCause : {T : Type 0} → ℕ → Option (List ℕ) → ℕ → ℕ → Result T ReadAnswer → Type 0
HasLengthCause limit left before now (Ok _) = now ≤ before + limit
HasLengthCause limit left before now (Err Fault) = now ≤ before + limit
HasLengthCause limit left before now (Err TooLong) = IsTooLong limit left before now
HasLengthCause limit left before now (Err OutOfMemory) = now ≤ before + limit
