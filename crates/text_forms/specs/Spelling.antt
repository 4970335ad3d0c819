-- How values are spelled by words, and what it means that a reader gives the values that are spelled.
use Rattle.std.specs.Prelude.{◌≡◌, ℕ, ◌+◌, ◌<◌, ◌≤◌, ◌↔◌, List, [], ◌∷◌, ◌++◌, length, map, true, Some, Ok, codes}
use Rattle.std.specs.Char.{is_ascii_digit}
use Rattle.std.specs.Fmt.{decimal}
use Rattle.std.specs.List.{AllByRecursion, list_all}
use Rattle.std.specs.List.Sorted.{IsStrictlyIncreasing}
use Rattle.std.specs.Str.Parse.{digits_value}
use Rattle.line_lexer.specs.Lines.{Line}
use Rattle.text_forms.specs.Reading.{Reads}
use Rattle.text_forms.specs.Places.{Place}

-- 1 to 9 digits that write the number; the first may be zeros
pub record IsNumeralOf (n : ℕ) (word : List ℕ) : Type 0 where
  pub some : 1 ≤ length word
  pub few : length word ≤ 9
  pub digits : list_all is_ascii_digit word ≡ true
  pub value : digits_value 10 word ≡ n

-- The reader gives a value exactly where a front of what is left spells it, and leaves the rest.
abbrev pub Takes : {T A : Type 0} → (A → List T → Type 0) → Reads T A → Type 0
Takes {T} {A} spells reader = (at : ℕ) (left rest : List T) (x : A)
    → (reader at left ≡ Ok (x, rest)) ↔ ((front : List T) × (left ≡ front ++ rest) × spells x front)

-- The place gives a value and leaves no word exactly where the words spell it.
abbrev pub Fills : {A : Type 0} → (A → List (List ℕ) → Type 0) → Place A → Type 0
Fills {A} spells place = (line : ℕ) (words : List (List ℕ)) (x : A) → (place line words ≡ Ok (x, [])) ↔ spells x words

-- one word, which is a numeral of the number
abbrev pub IsOneNumeral : ℕ → List (List ℕ) → Type 0
IsOneNumeral n words = (word : List ℕ) × (words ≡ word ∷ []) × IsNumeralOf n word

-- the first word that is left is a numeral of the number
abbrev pub StartsWithNumeral : ℕ → List (List ℕ) → Type 0
StartsWithNumeral n words = (word : List ℕ) × (more : List (List ℕ)) × (words ≡ word ∷ more) × IsNumeralOf n word

-- numerals of the numbers, in order
abbrev pub AreNumerals : List ℕ → List (List ℕ) → Type 0
AreNumerals [] [] = Unit {0}
AreNumerals (n ∷ ns) (word ∷ words) = IsNumeralOf n word × AreNumerals ns words
AreNumerals [] (word ∷ words) = ⊥
AreNumerals (n ∷ ns) [] = ⊥

-- increasing positions below lines, by their numerals, which count from 1
pub record SpellsPositions (lines : ℕ) (ps : List ℕ) (words : List (List ℕ)) : Type 0 where
  pub increasing : IsStrictlyIncreasing ps
  pub below : AllByRecursion (λ p. p < lines) ps
  pub numerals : AreNumerals (map (λ p. p + 1) ps) words

-- the name and a numeral of the number
abbrev pub IsNameAndNumeral : List ℕ → ℕ → List (List ℕ) → Type 0
IsNameAndNumeral name n words = (word : List ℕ) × (words ≡ name ∷ word ∷ []) × IsNumeralOf n word

-- one line, whose words spell the value
abbrev pub IsOneLine : {A : Type 0} → (A → List (List ℕ) → Type 0) → A → List Line → Type 0
IsOneLine spells x ls = (n : ℕ) × (words : List (List ℕ)) × (ls ≡ record { number = n; words = Some words } ∷ []) × spells x words

-- a name and the one decimal of the number, as they are written
abbrev pub counted_words : List ℕ → ℕ → List (List ℕ)
counted_words name n = name ∷ decimal n ∷ []

-- the last line of a text, as it is written
abbrev pub end_line : List (List (List ℕ))
end_line = (codes "end" ∷ []) ∷ []
