-- The texts that are written, line by line.
use Rattle.std.proofs.Common.{◌≡◌, ℕ, ◌<◌, List, [], ◌∷◌, ◌++◌, length, get_or, map, refl, sym, ◌∙◌, ap, ap₂, append_assoc}
use Rattle.std.specs.Prelude.{codes}
use Rattle.std.specs.Fmt.{decimal}
use Rattle.std.specs.List.{flat_map}
use Rattle.std.proofs.lemmas.Grind.{flat_map-append}
use Rattle.std.proofs.lemmas.List.{append-nil, get_or-map}
use Rattle.line_lexer.specs.Words.{line_text, spelled}
use Rattle.parity_lines.specs.Problems.{ParityProblem}
use Rattle.parity_text.specs.Spelled.{pair_words, position_words, problem_lines, set_lines, answer_lines, choice_lines}
use Rattle.text_forms.specs.Spelling.{end_line, counted_words}
use Rattle.parity_text.specs.Values.{AnswerValue}
use Rattle.text_forms.proofs.Pieces.{line_pieces, spelled-append, end_spelled}

-- the line of a pair, by its two vectors
pub pair_at : (xs : List (List ℕ × List ℕ)) (i : ℕ) (u v : List ℕ) → i < length xs → u ≡ (get_or xs i ([], [])).0
    → v ≡ (get_or xs i ([], [])).1 → line_text (pair_words (u, v)) ≡ line_text (get_or (map pair_words xs) i [])
pair_at xs i u v lt p q = ap₂ (λ a b. line_text (pair_words (a, b))) p q ∙ ap line_text (sym (get_or-map pair_words xs i ([], []) [] lt))

pub pair_pieces : (us vs : List (List ℕ))
    → codes "line" ++ (flat_map (λ w. 32 ∷ w) us ++ (codes " |" ++ (flat_map (λ w. 32 ∷ w) vs ++ 10 ∷ [])))
    ≡ line_text (codes "line" ∷ us ++ codes "|" ∷ vs)
pair_pieces us vs =
    ap (λ (t : List ℕ). codes "line" ++ t)
    (sym (append_assoc (flat_map (λ w. 32 ∷ w) us) (codes " |" ++ flat_map (λ w. 32 ∷ w) vs) (10 ∷ []))
    ∙ ap (λ (t : List ℕ). t ++ 10 ∷ []) (sym (flat_map-append (λ w. 32 ∷ w) us (codes "|" ∷ vs))))
    ∙ line_pieces (codes "line") (us ++ codes "|" ∷ vs)

pub problem_pieces : (q : ℕ) (p : ParityProblem)
    → line_text (counted_words (codes "parity") 1)
    ++ (line_text (counted_words (codes "field") q) ++ (line_text (counted_words (codes "dimension") p.dimension)
    ++ (line_text (counted_words (codes "lines") (length p.lines)) ++ spelled (map pair_words p.lines)))) ≡ spelled (problem_lines q p)
unfolding spelled
problem_pieces q p = refl

spelled-cons : (ws : List (List ℕ)) (more : List (List (List ℕ))) → spelled (ws ∷ more) ≡ line_text ws ++ spelled more
unfolding spelled
spelled-cons ws more = refl

pub set_pieces : (set : List ℕ)
    → line_text (counted_words (codes "size") (length set)) ++ line_text (codes "set" ∷ position_words set) ≡ spelled (set_lines set)
unfolding spelled
set_pieces set = ap (λ (t : List ℕ). line_text (counted_words (codes "size") (length set)) ++ t)
    (sym (append-nil (line_text (codes "set" ∷ position_words set))))

pub choice_pieces : (set : List ℕ)
    → line_text (counted_words (codes "choice") 1) ++ (spelled (set_lines set) ++ codes "end\n") ≡ spelled (choice_lines set)
choice_pieces set =
    let first = line_text (counted_words (codes "choice") 1) in
    ap (λ (t : List ℕ). first ++ (spelled (set_lines set) ++ t)) (sym end_spelled)
    ∙ sym (append_assoc first (spelled (set_lines set)) (spelled end_line))
    ∙ ap (λ (t : List ℕ). t ++ spelled end_line) (sym (spelled-cons (counted_words (codes "choice") 1) (set_lines set)))
    ∙ sym (spelled-append (counted_words (codes "choice") 1 ∷ set_lines set) end_line)

-- a line and some more, and what follows
block : (ws : List (List ℕ)) (ls more : List (List (List ℕ))) → line_text ws ++ (spelled ls ++ spelled more) ≡ spelled (ws ∷ ls ++ more)
block ws ls more = sym (append_assoc (line_text ws) (spelled ls) (spelled more))
    ∙ ap (λ (t : List ℕ). t ++ spelled more) (sym (spelled-cons ws ls)) ∙ sym (spelled-append (ws ∷ ls) more)

pub answer_pieces : (a : AnswerValue)
    → line_text (counted_words (codes "answer") 1)
    ++ (spelled (set_lines a.set) ++ (line_text (counted_words (codes "kernel") (length a.kernel.rows))
    ++ (spelled (map (λ v. codes "vector" ∷ map decimal v) a.kernel.rows) ++ (line_text (counted_words (codes "parts") (length a.parts))
    ++ (spelled (map (λ part. codes "part" ∷ position_words part) a.parts) ++ codes "end\n"))))) ≡ spelled (answer_lines a)
answer_pieces a =
    let x = counted_words (codes "answer") 1 in
    let y = counted_words (codes "kernel") (length a.kernel.rows) in
    let z = counted_words (codes "parts") (length a.parts) in
    let kernel = map (λ v. codes "vector" ∷ map decimal v) a.kernel.rows in
    let parts = map (λ part. codes "part" ∷ position_words part) a.parts in
    let S = set_lines a.set in
    ap (λ (t : List ℕ). line_text x ++ (spelled S ++ (line_text y ++ (spelled kernel ++ (line_text z ++ (spelled parts ++ t))))))
    (sym end_spelled)
    ∙ ap (λ (t : List ℕ). line_text x ++ (spelled S ++ (line_text y ++ (spelled kernel ++ t)))) (block z parts end_line)
    ∙ ap (λ (t : List ℕ). line_text x ++ (spelled S ++ t)) (block y kernel (z ∷ parts ++ end_line))
    ∙ block x S (y ∷ kernel ++ (z ∷ parts ++ end_line))
    ∙ ap spelled (sym (append_assoc (x ∷ S) (y ∷ kernel) (z ∷ parts ++ end_line))
    ∙ sym (append_assoc (x ∷ S ++ y ∷ kernel) (z ∷ parts) end_line))
