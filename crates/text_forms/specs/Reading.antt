-- Reading from left to right, up to the first fault.
use Rattle.std.specs.Prelude.{ℕ, List, Result, Ok, Err}
use Rattle.line_lexer.specs.declared.fault.TextFault.{TextFault}
use Rattle.line_lexer.specs.declared.refusal.Counted.{Counted}
use Rattle.line_lexer.specs.declared.refusal.TextRefusal.{TextRefusal}
use Rattle.line_lexer.specs.declared.refusal.TextRefusal.TheVariants.{Bad, Limit}

-- By a line's number, and what is left: a value and what is left after it, or the first fault.
abbrev pub Reads : Type 0 → Type 0 → Type 0
Reads T A = ℕ → List T → Result (A × List T) TextRefusal

-- go on with the value at what is left; a fault stands
abbrev pub go_on : {T A B : Type 0} → (A → Reads T B) → ℕ → Result (A × List T) TextRefusal → Result (B × List T) TextRefusal
go_on next at (Ok x) = next x.0 at x.1
go_on next at (Err e) = Err e

-- one thing, and then the next
infixl 10 ◌>>=◌
abbrev pub ◌>>=◌ : {T A B : Type 0} → Reads T A → (A → Reads T B) → Reads T B
(first >>= next) at left = go_on next at (first at left)

-- the same, by a name for clauses
abbrev pub chain : {T A B : Type 0} → Reads T A → (A → Reads T B) → Reads T B
chain first next = first >>= next

-- the value, with nothing read
abbrev pub give : {T A : Type 0} → A → Reads T A
give x at left = Ok (x, left)

-- the fault, on the line
abbrev pub fault : {T A : Type 0} → TextFault → Reads T A
fault kind at left = Err (Bad at kind)

-- a number above the limit
abbrev pub above : {T A : Type 0} → Counted → ℕ → Reads T A
above what found at left = Err (Limit what found)
