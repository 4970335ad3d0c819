-- A text that is written piece by piece: what stands where a writer goes on, and where it is stopped.
use Rattle.std.proofs.Common.{◌≡◌, ℕ, suc, ◌+◌, ◌<◌, ◌≤◌, List, [], ◌∷◌, ◌++◌, length, take, take_all, drop, get_or, map, refl, sym, ◌∙◌}
use Rattle.std.proofs.Common.{ap, subst, append_assoc, drop-cons, Result, Ok, Err}
use Rattle.std.specs.Prelude.{codes}
use Rattle.std.specs.Fmt.{decimal}
use Rattle.std.specs.List.{flat_map, join_with_byte}
use Rattle.std.specs.Result.{IsErr}
use Rattle.std.proofs.lemmas.Grind.{flat_map-append}
use Rattle.std.proofs.lemmas.List.{take-append-drop, append-nil, take_more, get_or-map, length-map}
use Rattle.line_lexer.specs.Words.{line_text, spelled}
use Rattle.text_forms.specs.Spelling.{counted_words, end_line}
use Rattle.text_forms.specs.Writes.{Writes}

-- some front of the text stands behind what was there
abbrev pub PutsFront : List ℕ → List ℕ → List ℕ → Type 0
PutsFront old new text = (front rest : List ℕ) × (text ≡ front ++ rest) × (new ≡ old ++ front)

-- one piece, and then the next
pub both : (old mid new a b : List ℕ) → mid ≡ old ++ a → new ≡ mid ++ b → new ≡ old ++ (a ++ b)
both old mid new a b p q = q ∙ ap (λ (t : List ℕ). t ++ b) p ∙ append_assoc old a b

-- the first piece is cut short
pub first_stops : (old new a b : List ℕ) → PutsFront old new a → PutsFront old new (a ++ b)
first_stops old new a b s = (s.0, s.1 ++ b, ap (λ (t : List ℕ). t ++ b) s.2 ∙ append_assoc s.0 s.1 b, s.3)

-- one piece is whole, and what follows is cut short
pub rest_stops : (old mid new a b : List ℕ) → mid ≡ old ++ a → PutsFront mid new b → PutsFront old new (a ++ b)
rest_stops old mid new a b p s =
    (a ++ s.0, s.1, ap (λ (t : List ℕ). a ++ t) s.2 ∙ sym (append_assoc a s.0 s.1), both old mid new a s.0 p s.3)

-- one piece is whole, whatever came of the rest
pub then_rest : {T E : Type 0} (old mid new a b : List ℕ) (r : Result T E) → mid ≡ old ++ a → Writes mid new b r → Writes old new (a ++ b) r
then_rest old mid new a b (Ok x) p w = both old mid new a b p w
then_rest old mid new a b (Err e) p w = rest_stops old mid new a b p w

-- the same text
pub same_front : (old new : List ℕ) (text other : List ℕ) → text ≡ other → PutsFront old new text → PutsFront old new other
same_front old new text other same w = subst (λ t. PutsFront old new t) same w

-- the writer is stopped, and answers an error
pub refused : {T E : Type 0} (r : Result T E) (old new text whole : List ℕ) → text ≡ whole → IsErr r → PutsFront old new text
    → Writes old new whole r
refused (Ok x) old new text whole same is s = absurd (cc is)
refused (Err e) old new text whole same is s = same_front old new text whole same s

-- a piece is whole, whatever came of the second
pub second_is_last : {T E : Type 0} (old mid new a b whole : List ℕ) (r : Result T E) → a ++ b ≡ whole → mid ≡ old ++ a → Writes mid new b r
    → Writes old new whole r
second_is_last old mid new a b whole r same p w = subst (λ t. Writes old new t r) same (then_rest old mid new a b r p w)

-- two pieces are whole, whatever came of the third
pub third_is_last : {T E : Type 0} (old one two new a b d whole : List ℕ) (r : Result T E) → a ++ (b ++ d) ≡ whole → one ≡ old ++ a
    → two ≡ one ++ b → Writes two new d r → Writes old new whole r
third_is_last old one two new a b d whole r same p q w =
    subst (λ t. Writes old new t r) same (then_rest old one new a (b ++ d) r p (then_rest one two new b d r q w))

-- ---- a piece for each element of a list, as a loop writes them

pub each_goes_on : {X : Type 0} (g : X → List ℕ) (xs : List X) (i : ℕ) (d : X) (old mid new piece : List ℕ) → i < length xs
    → piece ≡ g (get_or xs i d)
    → mid ≡ old ++ flat_map g (take i xs) → new ≡ mid ++ piece → new ≡ old ++ flat_map g (take (i + 1) xs)
each_goes_on {X = X} g xs i d old mid new piece lt is so_far more =
    let longer : flat_map g (take (i + 1) xs) ≡ flat_map g (take i xs) ++ piece =
    ap (λ (ys : List X). flat_map g ys) (take_more xs i d lt) ∙ flat_map-append g (take i xs) (get_or xs i d ∷ [])
    ∙ ap (λ (t : List ℕ). flat_map g (take i xs) ++ t) (append-nil (g (get_or xs i d)) ∙ sym is) in
    both old mid new (flat_map g (take i xs)) piece so_far more ∙ ap (λ (t : List ℕ). old ++ t) (sym longer)

pub each_stops : {X : Type 0} (g : X → List ℕ) (xs : List X) (i : ℕ) (d : X) (old mid new piece : List ℕ) → i < length xs
    → piece ≡ g (get_or xs i d)
    → mid ≡ old ++ flat_map g (take i xs) → PutsFront mid new piece → PutsFront old new (flat_map g xs)
each_stops {X = X} g xs i d old mid new piece lt is so_far s =
    let whole : flat_map g (take i xs) ++ (piece ++ flat_map g (drop (suc i) xs)) ≡ flat_map g xs =
    ap (λ (t : List ℕ). flat_map g (take i xs) ++ (t ++ flat_map g (drop (suc i) xs))) is
    ∙ ap (λ (ys : List X). flat_map g (take i xs) ++ flat_map g ys) (sym (drop-cons xs i d lt))
    ∙ sym (flat_map-append g (take i xs) (drop i xs)) ∙ ap (λ (ys : List X). flat_map g ys) (take-append-drop i xs) in
    same_front old new _ _ whole (rest_stops old mid new (flat_map g (take i xs)) _ so_far (first_stops mid new piece _ s))

pub each_is_done : {X : Type 0} (g : X → List ℕ) (xs : List X) (i : ℕ) (old new : List ℕ) → length xs ≤ i
    → new ≡ old ++ flat_map g (take i xs) → new ≡ old ++ flat_map g xs
each_is_done {X = X} g xs i old new le so_far = so_far ∙ ap (λ (ys : List X). old ++ flat_map g ys) (take_all i xs le)

-- the piece of an element, as the list of all pieces has it
pub piece_at : {X Y : Type 0} (g : Y → List ℕ) (h : X → Y) (xs : List X) (i : ℕ) (d : X) (e : Y) (x : X) → i < length xs → x ≡ get_or xs i d
    → g (h x) ≡ g (get_or (map h xs) i e)
piece_at {Y = Y} g h xs i d e x lt is = ap (λ x. g (h x)) is ∙ ap (λ (y : Y). g y) (sym (get_or-map h xs i d e lt))

-- a number's word
pub number_piece : {X : Type 0} (f : X → ℕ) (xs : List X) (i : ℕ) (x : X) (n : ℕ) → i < length xs → x ≡ get_or xs i x → n ≡ f x
    → 32 ∷ decimal n ≡ 32 ∷ get_or (map decimal (map f xs)) i []
number_piece f xs i x n lt is number =
    let within : i < length (map f xs) = rw (length-map xs f) lt in
    ap (λ (w : List ℕ). 32 ∷ w) (ap decimal (number ∙ ap f is ∙ sym (get_or-map f xs i x 0 lt))
    ∙ sym (get_or-map decimal (map f xs) i 0 [] within))

-- ---- a line

-- the first word, and each other one behind a space
pub line_pieces : (name : List ℕ) (ws : List (List ℕ)) → name ++ (flat_map (λ w. 32 ∷ w) ws ++ 10 ∷ []) ≡ line_text (name ∷ ws)
unfolding line_text
line_pieces name [] = refl
line_pieces name (w ∷ ws) =
    let more : (name ++ 32 ∷ join_with_byte 32 (w ∷ ws)) ++ 10 ∷ [] ≡ name
    ++ 32 ∷ (join_with_byte 32 (w ∷ ws) ++ 10 ∷ []) = append_assoc name (32 ∷ join_with_byte 32 (w ∷ ws)) (10 ∷ []) in
    ap (λ (t : List ℕ). name ++ 32 ∷ t) (append_assoc w (flat_map (λ w. 32 ∷ w) ws) (10 ∷ []) ∙ line_pieces w ws) ∙ sym more

pub count_pieces : (name : List ℕ) (n : ℕ) → name ++ ((32 ∷ decimal n) ++ 10 ∷ []) ≡ line_text (counted_words name n)
unfolding line_text
count_pieces name n = sym (append_assoc name (32 ∷ decimal n) (10 ∷ []))

-- ---- lines

pub spelled_is : (ls : List (List (List ℕ))) → flat_map line_text ls ≡ spelled ls
unfolding spelled
spelled_is ls = refl

pub spelled-append : (ls more : List (List (List ℕ))) → spelled (ls ++ more) ≡ spelled ls ++ spelled more
unfolding spelled
spelled-append ls more = flat_map-append line_text ls more

pub end_spelled : spelled end_line ≡ codes "end\n"
unfolding spelled line_text
end_spelled = refl
