-- The lines of a reply, piece by piece.
use Rattle.std.proofs.Common.{◌≡◌, ◌≢◌, ℕ, ◌+◌, ◌/◌, ◌%◌, List, [], ◌∷◌, ◌++◌, ◌<◌, length, get_or, map, refl, sym, ◌∙◌, ap, ap₂, append_assoc, arith}
use Rattle.std.proofs.lemmas.Bool.{eq-eqb, ne_eqb}
use Rattle.std.specs.Prelude.{codes, if◌then◌else◌, nat_eq}
use Rattle.std.specs.Fmt.{decimal}
use Rattle.std.specs.List.{flat_map, zip}
use Rattle.std.proofs.lemmas.Slice.Zip.{firsts-zip, get_or-zip}
use Rattle.std.proofs.lemmas.List.{append-nil, get_or-map, length-map}
use Rattle.line_lexer.specs.Words.{line_text, spelled}
use Rattle.rotation_theory.specs.Darts.{edge}
use Rattle.graph_text.specs.Spelled.{at_words, dart_word}
use Rattle.text_forms.proofs.Pieces.{line_pieces, spelled-append, end_spelled}
use Rattle.text_forms.specs.Spelling.{end_line}

-- the line of an edge
pub edge_pieces : (n : ℕ) (a b : List ℕ) → codes "edge" ++ ((32 ∷ decimal n) ++ ((32 ∷ a) ++ ((32 ∷ b) ++ 10 ∷ []))) ≡ line_text (codes "edge" ∷ decimal n ∷ a ∷ b ∷ [])
edge_pieces n a b =
    let last : (32 ∷ b) ++ 10 ∷ [] ≡ ((32 ∷ b) ++ []) ++ 10 ∷ [] = ap (λ (t : List ℕ). t ++ 10 ∷ []) (sym (append-nil (32 ∷ b))) in
    ap (λ (t : List ℕ). codes "edge" ++ ((32 ∷ decimal n) ++ ((32 ∷ a) ++ t))) last
    ∙ ap (λ (t : List ℕ). codes "edge" ++ ((32 ∷ decimal n) ++ t)) (sym (append_assoc (32 ∷ a) ((32 ∷ b) ++ []) (10 ∷ [])))
    ∙ ap (λ (t : List ℕ). codes "edge" ++ t) (sym (append_assoc (32 ∷ decimal n) ((32 ∷ a) ++ ((32 ∷ b) ++ [])) (10 ∷ [])))
    ∙ line_pieces (codes "edge") (decimal n ∷ a ∷ b ∷ [])

-- ---- darts

-- the number of the edge, and the sign
pub dart_pieces : (d : ℕ) → (32 ∷ decimal (d / 2 + 1)) ++ (if nat_eq (d % 2) 0 then codes "+" else codes "-") ≡ 32 ∷ dart_word d
unfolding edge
dart_pieces d = refl

pub even_pieces : (d : ℕ) → d % 2 ≡ 0 → (32 ∷ decimal (d / 2 + 1)) ++ codes "+" ≡ 32 ∷ dart_word d
even_pieces d h = ap (λ b. (32 ∷ decimal (d / 2 + 1)) ++ (if b then codes "+" else codes "-")) (sym (eq-eqb (d % 2) 0 h)) ∙ dart_pieces d

pub odd_pieces : (d : ℕ) → d % 2 ≢ 0 → (32 ∷ decimal (d / 2 + 1)) ++ codes "-" ≡ 32 ∷ dart_word d
odd_pieces d h = ap (λ b. (32 ∷ decimal (d / 2 + 1)) ++ (if b then codes "+" else codes "-")) (sym (ne_eqb (d % 2) 0 h)) ∙ dart_pieces d

-- the line of a vertex and its darts
pub at_pieces : (name darts : List ℕ)
    → codes "at " ++ (name ++ (flat_map (λ w. 32 ∷ w) (map dart_word darts) ++ 10 ∷ [])) ≡ line_text (at_words (name, darts))
at_pieces name darts =
    ap (λ (t : List ℕ). codes "at " ++ t) (sym (append_assoc name (flat_map (λ w. 32 ∷ w) (map dart_word darts)) (10 ∷ [])))
    ∙ line_pieces (codes "at") (name ∷ map dart_word darts)

-- as many lines as vertices
pub at_lines : (names lists : List (List ℕ)) → length lists ≡ length names → length (map at_words (zip names lists)) ≡ length names
at_lines names lists same = length-map (zip names lists) at_words ∙ sym (length-map (zip names lists) (λ (p : List ℕ × List ℕ). p.0))
    ∙ ap length (firsts-zip names lists same)

-- the line of a vertex among them
pub vertex_piece : (names lists : List (List ℕ)) (v : ℕ) (name darts : List ℕ) → v < length names → length lists ≡ length names
    → name ≡ get_or names v [] → darts ≡ get_or lists v []
    → line_text (at_words (name, darts)) ≡ line_text (get_or (map at_words (zip names lists)) v [])
vertex_piece names lists v name darts l same p q =
    let within : v < length lists = omega (arith, l, same) in
    let both : (name, darts) ≡ get_or (zip names lists) v ([], []) = ap₂ (λ x y. (x, y)) p q ∙ sym (get_or-zip names lists v ([], []) l within) in
    ap (λ (t : List ℕ × List ℕ). line_text (at_words t)) both
    ∙ ap (λ (ws : List (List ℕ)). line_text ws) (sym (get_or-map at_words (zip names lists) v ([], []) []
    (omega (arith, l, at_lines names lists same, length-map (zip names lists) at_words))))

-- ---- a reply

spelled_two : (a b : List (List ℕ)) (more : List (List (List ℕ))) → line_text a ++ (line_text b ++ spelled more) ≡ spelled (a ∷ b ∷ more)
unfolding spelled
spelled_two a b more = refl

-- two lines, others and the end
pub reply_pieces : (a b : List (List ℕ)) (ls : List (List (List ℕ))) → (line_text a ++ line_text b) ++ (spelled ls ++ codes "end\n") ≡ spelled (a ∷ b ∷ ls ++ end_line)
reply_pieces a b ls =
    append_assoc (line_text a) (line_text b) (spelled ls ++ codes "end\n")
    ∙ ap (λ (t : List ℕ). line_text a ++ (line_text b ++ (spelled ls ++ t))) (sym end_spelled)
    ∙ ap (λ (t : List ℕ). line_text a ++ (line_text b ++ t)) (sym (spelled-append ls end_line)) ∙ spelled_two a b (ls ++ end_line)

spelled_three : (a b d : List (List ℕ)) (more : List (List (List ℕ)))
    → (line_text a ++ line_text b) ++ (line_text d ++ spelled more) ≡ spelled (a ∷ b ∷ d ∷ more)
unfolding spelled
spelled_three a b d more = append_assoc (line_text a) (line_text b) (line_text d ++ spelled more)

-- three lines and the end
pub three_line_pieces : (a b d : List (List ℕ)) → (line_text a ++ line_text b) ++ (line_text d ++ codes "end\n") ≡ spelled (a ∷ b ∷ d ∷ end_line)
three_line_pieces a b d = ap (λ (t : List ℕ). (line_text a ++ line_text b) ++ (line_text d ++ t)) (sym end_spelled)
    ∙ spelled_three a b d end_line

-- three lines, others and the end
pub longer_pieces : (a b d : List (List ℕ)) (ls : List (List (List ℕ)))
    → (line_text a ++ line_text b) ++ (line_text d ++ (spelled ls ++ codes "end\n")) ≡ spelled (a ∷ b ∷ d ∷ ls ++ end_line)
longer_pieces a b d ls =
    ap (λ (t : List ℕ). (line_text a ++ line_text b) ++ (line_text d ++ (spelled ls ++ t))) (sym end_spelled)
    ∙ ap (λ (t : List ℕ). (line_text a ++ line_text b) ++ (line_text d ++ t)) (sym (spelled-append ls end_line))
    ∙ spelled_three a b d (ls ++ end_line)
