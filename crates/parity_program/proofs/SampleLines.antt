-- Four lines of words, put one after the other.
use Rattle.std.proofs.Common.{◌≡◌, ℕ, List, [], ◌∷◌, ◌++◌, Result, Ok, Err, sym, ap, ◌∙◌}
use Rattle.std.specs.Prelude.{OnOk}
use Rattle.std.proofs.lemmas.List.{append-nil}
use Rattle.line_lexer.specs.Words.{line_text, spelled}
use Rattle.text_forms.proofs.Pieces.{both}
use Rattle.text_forms.specs.Writes.{Writes}

pub four_lines : {T E : Type 0} (old one two three new : List ℕ) (a b c d : List (List ℕ)) (r : Result T E) → one ≡ old ++ line_text a
    → two ≡ one ++ line_text b → three ≡ two ++ line_text c → Writes three new (line_text d) r
    → OnOk r (new ≡ old ++ spelled (a ∷ b ∷ c ∷ d ∷ []))
unfolding spelled
four_lines old one two three new a b c d (Ok x) first second third last =
    let end : new ≡ three ++ (line_text d ++ []) = last ∙ ap (λ (t : List ℕ). three ++ t) (sym (append-nil (line_text d))) in
    both old one new (line_text a) (line_text b ++ (line_text c ++ (line_text d ++ []))) first
    (both one two new (line_text b) (line_text c ++ (line_text d ++ [])) second
    (both two three new (line_text c) (line_text d ++ []) third end))
four_lines old one two three new a b c d (Err e) first second third last = tt
