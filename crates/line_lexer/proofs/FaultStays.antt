-- A line with a bad byte stays ahead.
use Rattle.std.proofs.Common.{◌≡◌, ℕ, List, [], ◌∷◌, Bool, true, false, None, Some, Result, Ok, Err, sym, ap, ◌∙◌}
use Rattle.line_lexer.specs.Lines.{Line}
use Rattle.line_lexer.specs.Seen.{Seen}
use Rattle.line_lexer.specs.Calls.{GoesOn}
use Rattle.line_lexer.specs.declared.fault.LexFault.{LexFault}
use Rattle.line_lexer.specs.declared.fault.TextFault.{TextFault}
use Rattle.line_lexer.specs.declared.fault.TextFault.TheVariants.{Byte}

first-is : (a b : Line) (xs ys : List Line) → a ∷ xs ≡ b ∷ ys → (a.number ≡ b.number) × (a.words ≡ b.words)
first-is a b xs ys e = let same : a ≡ b = cc (e) in (ap (λ (l : Line). l.number) same, ap (λ (l : Line). l.words) same)

abbrev fault_of : ℕ → TextFault → LexFault
fault_of line kind = record { line = line; kind = kind }

pub same_fault : (old new : Seen) (fault : LexFault) (more : List Line) (answer : Result Bool LexFault) → old.ahead ≡ record { number = fault.line; words = None } ∷ more → fault.kind ≡ Byte
    → GoesOn old new answer → answer ≡ Err fault
same_fault old new fault more (Ok true) e k h =
    let both = first-is (record { number = new.line; words = Some new.words }) (record { number = fault.line; words = None }) new.ahead more (sym h.0 ∙ e) in
    absurd (cc (both.1))
same_fault old new fault more (Ok false) e k h = let none : [] ≡ record { number = fault.line; words = None } ∷ more = sym h.0 ∙ e in absurd (cc (none))
same_fault old new fault more (Err other) e k h =
    let both = first-is (record { number = other.line; words = None }) (record { number = fault.line; words = None }) h.0 more (sym h.1 ∙ e) in
    let kind : other.kind ≡ fault.kind = h.2 ∙ sym k in
    let same : fault_of other.line other.kind ≡ fault_of fault.line fault.kind = cc (both.0, kind) in
    ap Err same
