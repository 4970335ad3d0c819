-- The reply of a list of pairs, piece by piece.
use Rattle.std.proofs.Common.{◌≡◌, ℕ, suc, ◌+◌, ◌*◌, List, [], ◌∷◌, ◌++◌, refl, sym, ◌∙◌, ap, ap₂, append_assoc, length, map, arith}
use Rattle.std.specs.Prelude.{codes}
use Rattle.std.specs.Fmt.{decimal}
use Rattle.std.proofs.lemmas.List.{append-nil}
use Rattle.line_lexer.specs.Words.{line_text, spelled}
use Rattle.text_forms.proofs.Pieces.{line_pieces, spelled-append, end_spelled}
use Rattle.text_forms.specs.Spelling.{counted_words, end_line}
use Rattle.forest_pairs_front.specs.Spelled.{pair_words, pairs_lines}

-- the line of a pair
pub pair_pieces : (i : ℕ)
    → codes "pair" ++ ((32 ∷ decimal (i + 1)) ++ ((32 ∷ decimal (2 * i + 1)) ++ ((32 ∷ decimal (2 * i + 2)) ++ 10 ∷ [])))
    ≡ line_text (pair_words i)
pair_pieces i = ap₂ (λ a b. codes "pair" ++ ((32 ∷ decimal (i + 1)) ++ ((32 ∷ decimal a) ++ ((32 ∷ decimal b) ++ 10 ∷ [])))) first second
    ∙ pieces (decimal (i + 1)) (decimal (i + i + 1)) (decimal (suc (i + i) + 1))
  where
    first : 2 * i + 1 ≡ i + i + 1
    first = omega arith

    second : 2 * i + 2 ≡ suc (i + i) + 1
    second = omega arith

    pieces : (a b d : List ℕ) → codes "pair" ++ ((32 ∷ a) ++ ((32 ∷ b) ++ ((32 ∷ d) ++ 10 ∷ [])))
        ≡ line_text (codes "pair" ∷ a ∷ b ∷ d ∷ [])
    pieces a b d =
        let last : (32 ∷ d) ++ 10 ∷ [] ≡ ((32 ∷ d) ++ []) ++ 10 ∷ [] = ap (λ (t : List ℕ). t ++ 10 ∷ []) (sym (append-nil (32 ∷ d))) in
        ap (λ (t : List ℕ). codes "pair" ++ ((32 ∷ a) ++ ((32 ∷ b) ++ t))) last
        ∙ ap (λ (t : List ℕ). codes "pair" ++ ((32 ∷ a) ++ t)) (sym (append_assoc (32 ∷ b) ((32 ∷ d) ++ []) (10 ∷ [])))
        ∙ ap (λ (t : List ℕ). codes "pair" ++ t) (sym (append_assoc (32 ∷ a) ((32 ∷ b) ++ ((32 ∷ d) ++ [])) (10 ∷ [])))
        ∙ line_pieces (codes "pair") (a ∷ b ∷ d ∷ [])

spelled_two : (a b : List (List ℕ)) (more : List (List (List ℕ))) → line_text a ++ (line_text b ++ spelled more) ≡ spelled (a ∷ b ∷ more)
unfolding spelled
spelled_two a b more = refl

-- the two lines at the head, those of the pairs, and the end
pub reply_pieces : (set : List ℕ) → line_text (counted_words (codes "pairs") 1) ++ (line_text (counted_words (codes "size") (length set))
    ++ (spelled (map pair_words set) ++ codes "end\n")) ≡ spelled (pairs_lines set)
reply_pieces set =
    let head = counted_words (codes "pairs") 1 in let count = counted_words (codes "size") (length set) in let ls = map pair_words set in
    ap (λ (t : List ℕ). line_text head ++ (line_text count ++ (spelled ls ++ t))) (sym end_spelled)
    ∙ ap (λ (t : List ℕ). line_text head ++ (line_text count ++ t)) (sym (spelled-append ls end_line))
    ∙ spelled_two head count (ls ++ end_line)
