-- The outcome of a run, from what its calls said.
use Rattle.std.proofs.Common.{◌≡◌, ℕ, zero, suc, ◌+◌, ◌<◌, ◌≤◌, ◌⊎◌, List, [], ◌∷◌, length, true, false, Option, None, Some, Result, Ok}
use Rattle.std.proofs.Common.{Err, refl, sym, ap, ◌∙◌, subst, inl, inr, arith}
use Rattle.std.proofs.lemmas.Bool.{lt-ltb, le-ltb}
use Rattle.std.specs.Io.KnownBytes.{Appends, Keeps}
use Rattle.cert_check.specs.declared.verdicts.Verdict.{Verdict}
use Rattle.cert_check.specs.declared.verdicts.Verdict.TheVariants.{Yes, Dependent, KernelDependent, PartsMissing, PartsTwice, BoundOff}
use Rattle.std.specs.Prelude.{IfSome, nat_lt}
use Rattle.line_lexer.specs.declared.refusal.Counted.TheVariants as counted
use Rattle.parity_program.specs.Improvements.{Improvement, improvement_status}
use Rattle.parity_program.specs.Improvements.Improvement.{larger, none, dependent}
use Rattle.parity_program.specs.Inputs.{Input, input_of, reading, told_to}
use Rattle.line_lexer.specs.Seen.{most_bytes}
use Rattle.parity_program.specs.Inputs.Input.{answered, chosen, posed, of_graph, generated, sampled}
use Rattle.parity_program.specs.Outcome.{OfTold, RepliesToBytes, Replies, Refuses, Outcome, HasReadCause, HasWriteCause, HasByteCause}
use Rattle.parity_program.specs.Outcome.{NoFault, NoReadFault, IsAnsweredOrOutOfMemory, EndsAfterReading}
use Rattle.parity_program.specs.Replies.{ReplyText, IsReply, verdict_status}
use Rattle.parity_program.specs.Shown.{RepliesTo, RepliesOrRefuses, IsNoByteLimit, IsWritten, shown, status_of_read}
use Rattle.parity_program.specs.declared.command.Command.{Command}
use Rattle.parity_program.specs.declared.command.Command.TheVariants.{OfText}
use Rattle.parity_program.specs.declared.command.Convertible.TheVariants.{Matching, Cactus, PathFamily, Rotation}
use Rattle.parity_program.specs.declared.command.GraphCommand.TheVariants.{Find, Convert}
use Rattle.parity_program.specs.declared.command.GraphObject.TheVariants.{Converted, ForestPairs, SparePairs, EdgePaths, FeedbackSet}
use Rattle.parity_program.specs.declared.command.TextCommand.{TextCommand}
use Rattle.parity_program.specs.declared.reply.Reply.{Reply}
use Rattle.parity_program.specs.declared.status.Status.{Status}
use Rattle.parity_program.specs.declared.status.Status.TheVariants.{Done, No, Usage, BadText, Limit, NotConnected, NotCubic}
use Rattle.parity_program.specs.declared.status.Status.TheVariants.{ReadFault, WriteFault, OutOfMemory}
use Rattle.parity_program.proofs.Refusals.{IsRefusal, refuses_only}
use Rattle.text_io.specs.Counts.{Rose}
use Rattle.text_io.specs.Told.{AppendsProperPrefix}
use Rattle.text_io.specs.Reading.{HasFaultCause, HasLengthCause}
use Rattle.text_io.specs.declared.reading.ReadAnswer.{ReadAnswer}
use Rattle.text_io.specs.declared.reading.ReadAnswer.TheVariants as read

-- ---- bytes that are read

-- what is so of all bytes that were read is so of those that are told
of_read : (IsSo : List ℕ → Type 0) (left : Option (List ℕ)) (bytes : List ℕ) → IfSome left (λ all. bytes ≡ all) → IsSo bytes
    → OfTold IsSo left
of_read IsSo None bytes whole h = (bytes, h)
of_read IsSo (Some all) bytes whole h = subst IsSo whole h

-- bytes within the limit are read as an input
short : (command : Command) (bytes : List ℕ) → length bytes ≤ most_bytes → reading command bytes ≡ input_of command bytes
unfolding reading
short command bytes h = let few : nat_lt most_bytes (length bytes) ≡ false = le-ltb _ _ h in rw few refl

too_long : (command : Command) (bytes : List ℕ) → most_bytes < length bytes
    → reading command bytes ≡ Err (Limit counted.Bytes (most_bytes + 1))
unfolding reading
too_long command bytes h = let long : nat_lt most_bytes (length bytes) ≡ true = lt-ltb _ _ h in rw long refl

some_longer : (n : ℕ) → (bytes : List ℕ) × (n < length bytes)
some_longer zero = (0 ∷ [], omega arith)
some_longer (suc n) = let more = some_longer n in (0 ∷ more.0, omega (arith, more.1))

-- the reply to what was read, or its refusal, is that to what is told
pub of_all_read : (command : TextCommand) (left : Option (List ℕ)) (bytes : List ℕ) (result : Result Reply Status)
    → IfSome left (λ all. bytes ≡ all) → length bytes ≤ most_bytes
    → RepliesTo (input_of (OfText command) bytes) result → RepliesOrRefuses (OfText command) left result
of_all_read command left bytes (Ok reply) whole few h =
    of_read (RepliesToBytes (OfText command) (shown reply)) left bytes whole (h.0, short (OfText command) bytes few ∙ h.1, h.2)
of_all_read command left bytes (Err status) whole few (inl memory) = subst (Refuses (OfText command) left) (sym memory) tt
of_all_read command left bytes (Err status) whole few (inr refused) =
    refuses status (of_read (λ bytes. reading (OfText command) bytes ≡ Err status) left bytes whole
    (short (OfText command) bytes few ∙ refused))
  where
    refuses : (status : Status) → OfTold (λ bytes. reading (OfText command) bytes ≡ Err status) left
        → Refuses (OfText command) left status
    refuses ReadFault h = refl
    refuses OutOfMemory h = tt
    refuses Done h = h
    refuses No h = h
    refuses Usage h = h
    refuses (BadText line kind) h = h
    refuses (Limit what found) h = h
    refuses (NotConnected vertex) h = h
    refuses (NotCubic vertex) h = h
    refuses WriteFault h = h

-- bytes that can't be had
pub unread_refuses : (command : TextCommand) (left : Option (List ℕ)) (before now : ℕ) (e : ReadAnswer)
    → HasLengthCause {T = Unit {0}} most_bytes left before now (Err e)
    → Refuses (OfText command) left (status_of_read e)
unread_refuses command left before now read.Fault h = refl
unread_refuses command None before now read.TooLong h =
    let longer = some_longer most_bytes in
    (longer.0, too_long (OfText command) longer.0 longer.1)
unread_refuses command (Some bytes) before now read.TooLong h = too_long (OfText command) bytes h.held
unread_refuses command left before now read.OutOfMemory h = tt

pub unread_cause : (before now : ℕ) (e : ReadAnswer) → HasFaultCause {T = Unit {0}} before now (Err e)
    → HasReadCause before now (status_of_read e)
unread_cause before now read.Fault h = h
unread_cause before now read.TooLong h = h
unread_cause before now read.OutOfMemory h = h

pub unread_length : (left : Option (List ℕ)) (before now : ℕ) (e : ReadAnswer)
    → HasLengthCause {T = Unit {0}} most_bytes left before now (Err e) → HasByteCause before now (status_of_read e)
unread_length left before now read.Fault h = h
unread_length left before now read.TooLong h = (refl, h.given)
unread_length left before now read.OutOfMemory h = h

pub within : (before now : ℕ) (status : Status) → IsNoByteLimit status → now ≤ before + most_bytes → HasByteCause before now status
within before now (Limit counted.Bytes found) kind h = absurd (kind refl)
within before now (Limit counted.Dimension found) kind h = h
within before now (Limit counted.Lines found) kind h = h
within before now (Limit counted.Kernel found) kind h = h
within before now (Limit counted.Parts found) kind h = h
within before now (Limit counted.Vertices found) kind h = h
within before now (Limit counted.Edges found) kind h = h
within before now (Limit counted.NameBytes found) kind h = h
within before now (Limit counted.Triangles found) kind h = h
within before now (Limit counted.Pairs found) kind h = h
within before now (Limit counted.CycleRank found) kind h = h
within before now Done kind h = h
within before now No kind h = h
within before now Usage kind h = h
within before now (BadText line k) kind h = h
within before now (NotConnected vertex) kind h = h
within before now (NotCubic vertex) kind h = h
within before now ReadFault kind h = h
within before now WriteFault kind h = h
within before now OutOfMemory kind h = h

-- ---- a status in place of a reply

pub keeps-same : (known : Option (List ℕ)) → Keeps known known
keeps-same None = tt
keeps-same (Some bytes) = refl

pub refused_outcome : (command : Command) (left old : Option (List ℕ)) (status : Status) → Refuses command left status
    → Outcome (Some command) left old old status
refused_outcome command left old Done h = absurd (refuses_only command left Done h)
refused_outcome command left old No h = absurd (refuses_only command left No h)
refused_outcome command left old Usage h = refuses_only command left Usage h
refused_outcome command left old WriteFault h = absurd (refuses_only command left WriteFault h)
refused_outcome command left old (BadText line kind) h = (h, keeps-same old)
refused_outcome command left old (Limit what found) h = (h, keeps-same old)
refused_outcome command left old (NotConnected vertex) h = (h, keeps-same old)
refused_outcome command left old (NotCubic vertex) h = (h, keeps-same old)
refused_outcome command left old ReadFault h = (h, keeps-same old)
refused_outcome command left old OutOfMemory h = (h, keeps-same old)

pub refused_end : (command : Command) (left : Option (List ℕ)) (status : Status) → IsRefusal status → EndsAfterReading command left status
refused_end command left (BadText line kind) h = tt
refused_end command left (Limit what found) h = tt
refused_end command left ReadFault h = tt
refused_end command left OutOfMemory h = tt
refused_end command left Done h = absurd h
refused_end command left No h = absurd h
refused_end command left WriteFault h = absurd h
refused_end command left Usage h = absurd h
refused_end command left (NotConnected vertex) h = tt
refused_end command left (NotCubic vertex) h = tt

pub refused_write : (count : ℕ) (status : Status) → IsRefusal status → HasWriteCause count count status
refused_write count (BadText line kind) h = refl
refused_write count (Limit what found) h = refl
refused_write count ReadFault h = refl
refused_write count OutOfMemory h = refl
refused_write count Done h = absurd h
refused_write count No h = absurd h
refused_write count WriteFault h = absurd h
refused_write count Usage h = absurd h
refused_write count (NotConnected vertex) h = refl
refused_write count (NotCubic vertex) h = refl

-- ---- a reply that is written

-- a reply ends with Done or with No
ends : (x : Input) (reply : ReplyText) → IsReply x reply → (reply.status ≡ Done) ⊎ (reply.status ≡ No)
ends (answered q p a) reply h = verdict h.0 (ap (λ r. r.status) h.2)
  where
    verdict : (v : Verdict) → reply.status ≡ verdict_status v → (reply.status ≡ Done) ⊎ (reply.status ≡ No)
    verdict Yes e = inl e
    verdict Dependent e = inr e
    verdict KernelDependent e = inr e
    verdict (PartsMissing m) e = inr e
    verdict (PartsTwice m) e = inr e
    verdict (BoundOff size bound) e = inr e
ends (chosen q p M) reply h = improvement h.0 (ap (λ r. r.status) h.2)
  where
    improvement : (i : Improvement) → reply.status ≡ improvement_status i → (reply.status ≡ Done) ⊎ (reply.status ≡ No)
    improvement (larger N) e = inl e
    improvement none e = inl e
    improvement (dependent cs) e = inr e
ends (posed q p) reply h = inl (ap (λ r. r.status) h.4)
ends (of_graph (Find (Converted Matching)) g) reply h = inl (ap (λ r. r.status) h.2)
ends (of_graph (Find (Converted Cactus)) g) reply h = inl (ap (λ r. r.status) h.3)
ends (of_graph (Find (Converted PathFamily)) g) reply h = inl (ap (λ r. r.status) h.3)
ends (of_graph (Find (Converted Rotation)) g) reply h = inl (ap (λ r. r.status) h.4)
ends (of_graph (Find ForestPairs) g) reply h = inl (ap (λ r. r.status) h.2)
ends (of_graph (Find SparePairs) g) reply h = inl (ap (λ r. r.status) h.2)
ends (of_graph (Find EdgePaths) g) reply h = inl (ap (λ r. r.status) h.3)
ends (of_graph (Find FeedbackSet) g) reply h = inl (ap (λ r. r.status) h.2)
ends (of_graph (Convert object) g) reply h = inl (ap (λ r. r.status) h.4)
ends (generated n) reply h = inl (ap (λ r. r.status) h.2)
ends (sampled n) reply h = inl (ap (λ r. r.status) h.4)

replies_end : (command : Command) (known : Option (List ℕ)) (reply : ReplyText) → OfTold (RepliesToBytes command reply) known
    → (reply.status ≡ Done) ⊎ (reply.status ≡ No)
replies_end command None reply h = ends h.1.0 reply h.1.2
replies_end command (Some bytes) reply h = ends h.0 reply h.2

-- what is so of each status that the run can end with, once a reply is due
pub each_ending : (IsSo : Status → Type 0) (command : Command) (left old new : Option (List ℕ)) (before now : ℕ) (reply : ReplyText)
    (status : Status) → Replies command left reply
    → (reply.status ≡ Done → Appends old new reply.text → now ≡ before → IsSo Done)
    → (reply.status ≡ No → Appends old new reply.text → now ≡ before → IsSo No)
    → (AppendsProperPrefix old new reply.text → Rose before now → IsSo WriteFault)
    → IsWritten old new before now reply status → IsSo status
each_ending IsSo command left old new before now reply status replies done negative fault (inl w) =
    by_ending (replies_end command (told_to command left) reply replies)
  where
    by_ending : (reply.status ≡ Done) ⊎ (reply.status ≡ No) → IsSo status
    by_ending (inl e) = subst IsSo (sym (w.0 ∙ e)) (done e w.1 w.2)
    by_ending (inr e) = subst IsSo (sym (w.0 ∙ e)) (negative e w.1 w.2)
each_ending IsSo command left old new before now reply status replies done negative fault (inr w) = subst IsSo (sym w.0) (fault w.1 w.2)

pub written_outcome : (command : Command) (left old new : Option (List ℕ)) (before now : ℕ) (reply : ReplyText) (status : Status)
    → Replies command left reply
    → IsWritten old new before now reply status → Outcome (Some command) left old new status
written_outcome command left old new before now reply status replies w =
    each_ending (Outcome (Some command) left old new) command left old new before now reply status replies
    (λ e a s. (reply, replies, e, a)) (λ e a s. (reply, replies, e, a)) (λ a r. (reply, replies, a)) w

pub written_cause : (command : Command) (left old new : Option (List ℕ)) (before now : ℕ) (reply : ReplyText) (status : Status)
    → Replies command left reply
    → IsWritten old new before now reply status → HasWriteCause before now status
written_cause command left old new before now reply status replies w =
    each_ending (HasWriteCause before now) command left old new before now reply status replies (λ e a s. s) (λ e a s. s) (λ a r. r) w

-- ---- the command that the words name

pub same_outcome : (found other : Option Command) (left old new : Option (List ℕ)) (status : Status) → found ≡ other
    → Outcome found left old new status → Outcome other left old new status
same_outcome found other left old new status e o = subst (λ command. Outcome command left old new status) e o

pub same_end : (found other : Command) (left : Option (List ℕ)) (status : Status) → found ≡ other → EndsAfterReading found left status
    → EndsAfterReading other left status
same_end found other left status e h = subst (λ command. EndsAfterReading command left status) e h

-- ---- an accepted input is answered

not_risen : (before now : ℕ) → Rose before now → NoFault before now → ⊥
not_risen before now (inl rose) h = absurd (omega (arith, rose, h.0))
not_risen before now (inr last) h = h.1 last.0

module _ (command : Command) (left old new : Option (List ℕ)) (bytes : List ℕ) (x : Input) (told : told_to command left ≡ Some bytes)
    (ok : reading command bytes ≡ Ok x) where
  not_refused : (status : Status) → OfTold (λ bytes. reading command bytes ≡ Err status) (told_to command left) → ⊥
  not_refused status h =
      let refused : reading command bytes ≡ Err status = subst (OfTold (λ bytes. reading command bytes ≡ Err status)) told h in
      absurd (cc (refused, ok))

  pub is_answered : (status : Status) (reads_before reads_now writes_before writes_now : ℕ) → Outcome (Some command) left old new status
      → HasReadCause reads_before reads_now status → HasWriteCause writes_before writes_now status
      → NoReadFault command reads_before reads_now → NoFault writes_before writes_now → IsAnsweredOrOutOfMemory status
  is_answered Done rb rn wb wn o r w nr nw = inl refl
  is_answered No rb rn wb wn o r w nr nw = inr (inl refl)
  is_answered OutOfMemory rb rn wb wn o r w nr nw = inr (inr refl)
  is_answered Usage rb rn wb wn o r w nr nw = absurd o
  is_answered ReadFault rb rn wb wn o r w nr nw = absurd (not_risen rb rn r (nr o.0))
  is_answered WriteFault rb rn wb wn o r w nr nw = absurd (not_risen wb wn w nw)
  is_answered (BadText line kind) rb rn wb wn o r w nr nw = absurd (not_refused (BadText line kind) o.0)
  is_answered (Limit what found) rb rn wb wn o r w nr nw = absurd (not_refused (Limit what found) o.0)
  is_answered (NotConnected vertex) rb rn wb wn o r w nr nw = absurd (not_refused (NotConnected vertex) o.0)
  is_answered (NotCubic vertex) rb rn wb wn o r w nr nw = absurd (not_refused (NotCubic vertex) o.0)
