-- The bytes of a text.
use Rattle.std.specs.Prelude.{ℕ, Bool, not, ◌||◌, ◌==◌}
use Rattle.std.specs.Char.{is_ascii_graphic}

-- what ends a line
abbrev pub is_newline : ℕ → Bool
is_newline b = b == 10

-- what begins a comment
abbrev pub is_hash : ℕ → Bool
is_hash b = b == 35

-- space and tab
abbrev pub is_blank : ℕ → Bool
is_blank b = b == 32 || b == 9

-- what words are made of: 0x21 to 0x7E
abbrev pub is_word_byte : ℕ → Bool
is_word_byte = is_ascii_graphic

-- what stands between words
abbrev pub is_gap : ℕ → Bool
is_gap b = not (is_word_byte b)

-- what a line may have before its comment, besides its end
abbrev pub is_allowed : ℕ → Bool
is_allowed b = is_blank b || is_word_byte b
