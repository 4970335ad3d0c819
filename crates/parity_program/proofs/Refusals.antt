-- Statuses in place of a reply: what the refusal of a part says of the whole, and which statuses refuse.
use Rattle.std.proofs.Common.{◌≡◌, ℕ, ◌+◌, ◌⊎◌, List, length, Bool, true, false, Option, None, Some, Result, Ok, Err, refl}
use Rattle.std.proofs.Common.{subst, inl, inr}
use Rattle.std.specs.Prelude.{nat_lt, if◌then◌else◌}
use Rattle.graph_core.specs.NamedGraphs.{NamedGraph}
use Rattle.line_lexer.specs.Lines.{Line}
use Rattle.line_lexer.specs.declared.refusal.Counted.TheVariants as counted
use Rattle.line_lexer.specs.declared.refusal.TextRefusal.{TextRefusal}
use Rattle.line_lexer.specs.declared.refusal.TextRefusal.TheVariants as refusal
use Rattle.parity_program.specs.Inputs.{Input, accepted, admitted, unless_unfit, numbered, object_of, reading, status_of, told_to}
use Rattle.parity_program.specs.Inputs.{then_check, unless_apart, unless_not_cubic}
use Rattle.parity_program.specs.Inputs.Input.{answered, chosen, posed, of_graph, generated, sampled}
use Rattle.line_lexer.specs.Seen.{most_bytes}
use Rattle.parity_program.specs.Outcome.{OfTold, Refuses}
use Rattle.parity_program.specs.Shown.{IsNoByteLimit}
use Rattle.parity_program.specs.Connectedness.{first_apart}
use Rattle.parity_program.specs.CubicVertices.{first_not_cubic}
use Rattle.parity_program.specs.declared.command.Command.{Command}
use Rattle.parity_program.specs.declared.command.Convertible.TheVariants.{Matching, Cactus, PathFamily, Rotation}
use Rattle.parity_program.specs.declared.command.GraphObject.{GraphObject}
use Rattle.parity_program.specs.declared.command.GraphObject.TheVariants.{Converted, ForestPairs, SparePairs, EdgePaths, FeedbackSet}
use Rattle.parity_program.specs.declared.command.NumberCommand.{NumberCommand}
use Rattle.parity_program.specs.declared.command.NumberCommand.TheVariants.{Generate, Sample}
use Rattle.parity_program.specs.declared.status.Status.{Status}
use Rattle.parity_program.specs.declared.status.Status.TheVariants.{Done, No, Usage, BadText, Limit, NotConnected, NotCubic}
use Rattle.parity_program.specs.declared.status.Status.TheVariants.{ReadFault, WriteFault, OutOfMemory}
use Rattle.text_forms.specs.Gives.{Fails, IsOfText}

-- what refuses a part refuses the whole
pub part_refused : {Y : Type 0} (e : TextRefusal) (part : Result Y TextRefusal) (meant : Result Input Status)
    → ((e : TextRefusal) → part ≡ Err e → meant ≡ Err (status_of e))
    → Fails e part → (status_of e ≡ OutOfMemory) ⊎ (meant ≡ Err (status_of e))
part_refused refusal.OutOfMemory part meant whole h = inl refl
part_refused (refusal.Bad line kind) part meant whole h = inr (whole _ h)
part_refused (refusal.Limit what found) part meant whole h = inr (whole _ h)

-- a text's refusal isn't the limit on all bytes
pub no_byte_limit : (e : TextRefusal) → IsOfText e → IsNoByteLimit (status_of e)
no_byte_limit refusal.OutOfMemory h = tt
no_byte_limit (refusal.Bad line kind) h = tt
no_byte_limit (refusal.Limit what found) h = h

-- the input of a number has no graph
pub numbers_pass : (command : NumberCommand) (n : ℕ) → admitted (numbered command n) ≡ Ok (numbered command n)
numbers_pass Generate n = refl
numbers_pass Sample n = refl

-- ---- the statuses that refuse

abbrev pub IsRefusal : Status → Type 0
IsRefusal (BadText line kind) = Unit {0}
IsRefusal (Limit what found) = Unit {0}
IsRefusal (NotConnected vertex) = Unit {0}
IsRefusal (NotCubic vertex) = Unit {0}
IsRefusal ReadFault = Unit {0}
IsRefusal OutOfMemory = Unit {0}
IsRefusal status = ⊥

of_text : (e : TextRefusal) → IsRefusal (status_of e)
of_text refusal.OutOfMemory = tt
of_text (refusal.Bad line kind) = tt
of_text (refusal.Limit what found) = tt

of_apart : (o : Option ℕ) (x : Input) (status : Status) → unless_apart o x ≡ Err status → IsRefusal status
of_apart None x status e = absurd (cc (e))
of_apart (Some v) x status e = let same : NotConnected (v + 1) ≡ status = cc (e) in subst IsRefusal same tt

of_not_cubic : (o : Option ℕ) (x : Input) (status : Status) → unless_not_cubic o x ≡ Err status → IsRefusal status
of_not_cubic None x status e = absurd (cc (e))
of_not_cubic (Some v) x status e = let same : NotCubic (v + 1) ≡ status = cc (e) in subst IsRefusal same tt

of_both : (o c : Option ℕ) (x : Input) (status : Status) → then_check (unless_not_cubic c) (unless_apart o x) ≡ Err status → IsRefusal status
of_both None c x status e = of_not_cubic c x status e
of_both (Some v) c x status e = of_apart (Some v) x status e

of_object : (object : GraphObject) (g : NamedGraph) (x : Input) (status : Status) → unless_unfit object g x ≡ Err status → IsRefusal status
of_object (Converted Matching) g x status e = absurd (cc (e))
of_object (Converted Cactus) g x status e = absurd (cc (e))
of_object (Converted PathFamily) g x status e = absurd (cc (e))
of_object (Converted Rotation) g x status e = of_apart (first_apart (length g.names) g.ends) x status e
of_object ForestPairs g x status e = absurd (cc (e))
of_object SparePairs g x status e = of_apart (first_apart (length g.names) g.ends) x status e
of_object EdgePaths g x status e = absurd (cc (e))
of_object FeedbackSet g x status e = of_both (first_apart (length g.names) g.ends) (first_not_cubic (length g.names) g.ends) x status e

-- nor is an input refused otherwise than for its graph
of_input : (x : Input) (status : Status) → admitted x ≡ Err status → IsRefusal status
of_input (answered q p a) status e = absurd (cc (e))
of_input (chosen q p set) status e = absurd (cc (e))
of_input (posed q p) status e = absurd (cc (e))
of_input (of_graph command g) status e = of_object (object_of command) g (of_graph command g) status e
of_input (generated n) status e = absurd (cc (e))
of_input (sampled n) status e = absurd (cc (e))

of_meaning : (long : Bool) (read : Result (Input × List Line) TextRefusal) (status : Status)
    → (if long then Err (Limit counted.Bytes (most_bytes + 1)) else accepted read) ≡ Err status → IsRefusal status
of_meaning true read status e = let same : Limit counted.Bytes (most_bytes + 1) ≡ status = cc (e) in subst IsRefusal same tt
of_meaning false (Ok x) status e = of_input x.0 status e
of_meaning false (Err t) status e = let same : status_of t ≡ status = cc (e) in subst IsRefusal same (of_text t)

of_bytes : (command : Command) (bytes : List ℕ) (status : Status) → reading command bytes ≡ Err status → IsRefusal status
unfolding reading
of_bytes command bytes status e = of_meaning (nat_lt most_bytes (length bytes)) _ status e

of_told : (command : Command) (known : Option (List ℕ)) (status : Status) → OfTold (λ bytes. reading command bytes ≡ Err status) known
    → IsRefusal status
of_told command None status h = of_bytes command h.0 status h.1
of_told command (Some bytes) status h = of_bytes command bytes status h

pub refuses_only : (command : Command) (left : Option (List ℕ)) (status : Status) → Refuses command left status → IsRefusal status
refuses_only command left Done h = of_told command (told_to command left) Done h
refuses_only command left No h = of_told command (told_to command left) No h
refuses_only command left Usage h = of_told command (told_to command left) Usage h
refuses_only command left (BadText line kind) h = tt
refuses_only command left (Limit what found) h = tt
refuses_only command left (NotConnected vertex) h = tt
refuses_only command left (NotCubic vertex) h = tt
refuses_only command left ReadFault h = tt
refuses_only command left WriteFault h = of_told command (told_to command left) WriteFault h
refuses_only command left OutOfMemory h = tt
