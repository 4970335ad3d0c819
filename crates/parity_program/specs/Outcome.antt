-- What a run says by its status.
use Rattle.std.specs.Prelude.{◌≡◌, ◌≢◌, ℕ, ◌+◌, ◌≤◌, ◌⊎◌, List, true, Option, None, Some, Ok, Err}
use Rattle.std.specs.Io.KnownBytes.{Appends, IsAtEnd, Keeps}
use Rattle.line_lexer.specs.declared.refusal.Counted.{Counted}
use Rattle.line_lexer.specs.declared.refusal.Counted.TheVariants as counted
use Rattle.parity_program.specs.Commands.{reads_source}
use Rattle.parity_program.specs.Inputs.{Input, reading, told_to}
use Rattle.line_lexer.specs.Seen.{most_bytes}
use Rattle.parity_program.specs.Replies.{ReplyText, IsReply}
use Rattle.parity_program.specs.declared.command.Command.{Command}
use Rattle.parity_program.specs.declared.status.Status.{Status}
use Rattle.parity_program.specs.declared.status.Status.TheVariants.{Done, No, Usage, Limit, ReadFault, WriteFault, OutOfMemory}
use Rattle.text_io.specs.Counts.{Rose, RoseByMore, last_count}
use Rattle.text_io.specs.Told.{AppendsProperPrefix}

-- the bytes that are told are so, or, where none are told, some bytes are
abbrev pub OfTold : (List ℕ → Type 0) → Option (List ℕ) → Type 0
OfTold IsSo (Some bytes) = IsSo bytes
OfTold IsSo None = (bytes : List ℕ) × IsSo bytes

-- the reply to what the bytes mean
abbrev pub RepliesToBytes : Command → ReplyText → List ℕ → Type 0
RepliesToBytes command reply bytes = (x : Input) × (reading command bytes ≡ Ok x) × IsReply x reply

-- the reply to what a command is told
abbrev pub Replies : Command → Option (List ℕ) → ReplyText → Type 0
Replies command left reply = OfTold (RepliesToBytes command reply) (told_to command left)

-- The whole reply was written, and it ends with this status.
abbrev pub Answered : Command → Option (List ℕ) → Option (List ℕ) → Option (List ℕ) → Status → Type 0
Answered command left old new status = (reply : ReplyText) × Replies command left reply × (reply.status ≡ status)
    × Appends old new reply.text

-- Why there is no reply: the source that the command reads failed, there was no memory, or what it is told is refused
-- with just this status.
abbrev pub Refuses : Command → Option (List ℕ) → Status → Type 0
Refuses command left ReadFault = reads_source command ≡ true
Refuses command left OutOfMemory = Unit {0}
Refuses command left status = OfTold (λ bytes. reading command bytes ≡ Err status) (told_to command left)

-- By the command, the bytes that the source had left, and what the sink had and has written.
abbrev pub Outcome : Option Command → Option (List ℕ) → Option (List ℕ) → Option (List ℕ) → Status → Type 0
Outcome None left old new status = (status ≡ Usage) × Keeps old new
Outcome (Some command) left old new Done = Answered command left old new Done
Outcome (Some command) left old new No = Answered command left old new No
Outcome (Some command) left old new Usage = ⊥
Outcome (Some command) left old new WriteFault = (reply : ReplyText) × Replies command left reply × AppendsProperPrefix old new reply.text
Outcome (Some command) left old new status = Refuses command left status × Keeps old new

-- ReadFault only where the source's count of faults rose or stands at its last value; any other status leaves it.
abbrev pub HasReadCause : ℕ → ℕ → Status → Type 0
HasReadCause before now ReadFault = Rose before now
HasReadCause before now status = now ≡ before

-- WriteFault only where the sink's count of faults rose or stands at its last value; any other status leaves it.
abbrev pub HasWriteCause : ℕ → ℕ → Status → Type 0
HasWriteCause before now WriteFault = Rose before now
HasWriteCause before now status = now ≡ before

-- a limit: that on bytes says that one byte more was given, or that the count of bytes stands at its last value
abbrev pub HasLimitCause : ℕ → ℕ → Counted → ℕ → Type 0
HasLimitCause before now counted.Bytes found = (found ≡ most_bytes + 1) × RoseByMore most_bytes before now
HasLimitCause before now what found = now ≤ before + most_bytes

-- by the count of bytes: more than an input may have were given exactly where that is the status
abbrev pub HasByteCause : ℕ → ℕ → Status → Type 0
HasByteCause before now (Limit what found) = HasLimitCause before now what found
HasByteCause before now status = now ≤ before + most_bytes

-- the count didn't rise, and isn't at its last value
abbrev pub NoFault : ℕ → ℕ → Type 0
NoFault before now = (now ≡ before) × (before ≢ last_count)

-- no read failed; of a command that reads nothing that is not asked
abbrev pub NoReadFault : Command → ℕ → ℕ → Type 0
NoReadFault command before now = reads_source command ≡ true → NoFault before now

-- the reply was written, or there was no memory
abbrev pub IsAnsweredOrOutOfMemory : Status → Type 0
IsAnsweredOrOutOfMemory status = (status ≡ Done) ⊎ ((status ≡ No) ⊎ (status ≡ OutOfMemory))

-- Where the reply was due, nothing is left of what the command is told.
abbrev pub EndsAfterReading : Command → Option (List ℕ) → Status → Type 0
EndsAfterReading command left Done = IsAtEnd (told_to command left)
EndsAfterReading command left No = IsAtEnd (told_to command left)
EndsAfterReading command left WriteFault = IsAtEnd (told_to command left)
EndsAfterReading command left status = Unit {0}
