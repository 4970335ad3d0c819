-- A text is refused by its lines up to that of the fault.
use Rattle.std.proofs.Common.{◌≡◌, ℕ, ◌+◌, ◌-◌, List, [], ◌∷◌, ◌++◌, length, take, Err, sym, ◌∙◌, subst, inl, inr, append_assoc, arith}
use Rattle.std.specs.Prelude.{◌≢◌, ◌⊎◌}
use Rattle.line_lexer.specs.Lines.{lines, lines_from}
use Rattle.line_lexer.specs.declared.fault.TextFault.{TextFault}
use Rattle.line_lexer.specs.declared.fault.TextFault.TheVariants.{Missing}
use Rattle.line_lexer.specs.declared.refusal.TextRefusal.{TextRefusal}
use Rattle.line_lexer.specs.declared.refusal.TextRefusal.TheVariants.{Bad}
use Rattle.line_lexer.proofs.SameFront.{lines_from-same}
use Rattle.text_forms.specs.Forms.{Form, of_text}
use Rattle.text_forms.specs.Causality.{IsOnLine, IsRefusedAtLine, RefusesCausally, RefusesAlike}

abbrev refused_alike : {A : Type 0} (form : Form A) (bytes : List ℕ) (e : TextRefusal) (r : IsRefusedAtLine form (lines_from 1 bytes) e)
    → RefusesAlike form bytes r.at.number e
refused_alike form bytes e r others same =
    let count : (r.at.number + 1) - 1 ≡ r.at.number = omega arith in
    let same' : take ((r.at.number + 1) - 1) (lines others) ≡ take ((r.at.number + 1) - 1) (lines bytes) = rw count same in
    let more = lines_from-same 1 bytes others r.before r.at r.rest r.text_is same' in
    let split : lines_from 1 others ≡ (r.before ++ r.at ∷ []) ++ more.0 = more.1 ∙ sym (append_assoc r.before (r.at ∷ []) more.0) in
    rw split (r.refuses (length (lines others)) more.0)

pub refused_fault : {A : Type 0} (form : Form A) → RefusesCausally form → (bytes : List ℕ) (line : ℕ) (kind : TextFault) → kind ≢ Missing
    → of_text form bytes ≡ Err (Bad line kind) → RefusesAlike form bytes line (Bad line kind)
refused_fault form causal bytes line kind not_missing h =
    elim (causal (length (lines bytes)) (lines_from 1 bytes) (Bad line kind) h) [
      | inl missing ↦ absurd (not_missing (cc (missing)))
      | inr r ↦ subst (λ (n : ℕ). RefusesAlike form bytes n (Bad line kind)) r.on_line (refused_alike form bytes (Bad line kind) r)
    ]

pub refused_any : {A : Type 0} (form : Form A) → RefusesCausally form → (bytes : List ℕ) (e : TextRefusal) → of_text form bytes ≡ Err e
    → (e ≡ Bad (length (lines bytes) + 1) Missing) ⊎ ((line : ℕ) × IsOnLine e line × RefusesAlike form bytes line e)
refused_any form causal bytes e h =
    elim (causal (length (lines bytes)) (lines_from 1 bytes) e h) [
      | inl missing ↦ inl missing
      | inr r ↦ inr (r.at.number, r.on_line, refused_alike form bytes e r)
    ]
