-- How long the text of a problem is.
use Rattle.std.proofs.Common.{◌≡◌, ℕ, ◌+◌, ◌*◌, ◌^◌, ◌<◌, ◌≤◌, List, [], ◌∷◌, ◌++◌, length, map, arith}
use Rattle.std.specs.Prelude.{codes}
use Rattle.std.specs.Fmt.{decimal}
use Rattle.std.specs.List.{AllByRecursion, join_with_byte}
use Rattle.std.proofs.lemmas.Fmt.{length-decimal-le}
use Rattle.std.proofs.lemmas.List.{length-append}
use Rattle.line_lexer.specs.Words.{line_text, spelled}
use Rattle.linear_algebra.specs.Scalars.{Scalars}
use Rattle.linear_algebra.specs.Vectors.{IsVector}
use Rattle.parity_lines.specs.Problems.{ParityProblem}
use Rattle.parity_text.proofs.WrittenWords.{each_of, order_is_small}
use Rattle.parity_text.specs.Spelled.{pair_words, problem_lines}
use Rattle.parity_text.specs.Values.{IsWithinLimits}
use Rattle.text_forms.specs.Spelling.{counted_words}

-- with one byte behind each word
abbrev words_length : List (List ℕ) → ℕ
words_length [] = 0
words_length (w ∷ ws) = length w + 1 + words_length ws

words_length-append : (xs ys : List (List ℕ)) → words_length (xs ++ ys) ≡ words_length xs + words_length ys
words_length-append [] ys = omega arith
words_length-append (x ∷ xs) ys = let more = words_length-append xs ys in omega (arith, more)

joined_length : (ws : List (List ℕ)) → length (join_with_byte 32 ws) ≤ words_length ws
joined_length [] = omega arith
joined_length (w ∷ []) = omega arith
joined_length (w ∷ v ∷ vs) =
    let more = joined_length (v ∷ vs) in
    let both = length-append w (32 ∷ join_with_byte 32 (v ∷ vs)) in
    omega (arith, more, both)

line_length : (ws : List (List ℕ)) → length (line_text ws) ≤ words_length ws + 1
unfolding line_text
line_length ws =
    let joined = joined_length ws in
    let both = length-append (join_with_byte 32 ws) (10 ∷ []) in
    omega (arith, joined, both)

decimals_length : (q : ℕ) → q ≤ 256 → (v : List ℕ) → AllByRecursion (λ x. x < q) v → words_length (map decimal v) ≤ length v * 4
decimals_length q h [] e = omega arith
decimals_length q h (x ∷ v) e =
    let below = e.0 in
    let one = length-decimal-le 3 x (omega arith) (omega (arith, h, below)) (omega (arith, h, below)) in
    let more = decimals_length q h v e.1 in
    omega (arith, one, more)

counted_length : (name : List ℕ) (n : ℕ) → length name ≤ 9 → n < 10 ^ 9 → length (line_text (counted_words name n)) ≤ 21
counted_length name n short small =
    let line = line_length (counted_words name n) in
    let digits = length-decimal-le 9 n (omega arith) small (omega (arith, small)) in
    omega (arith, line, digits, short)

module _ (S : Scalars) (p : ParityProblem) (within : IsWithinLimits S p) where
  small : S.order ≤ 256
  small = order_is_small S.order within.order

  vector_length : (v : List ℕ) → IsVector S p.dimension v → words_length (map decimal v) ≤ 512
  vector_length v h =
      let decimals = decimals_length S.order small v (each_of (λ x. x < S.order) v h.entries) in
      let long = h.length_is in
      let few = within.dimension in
      omega (arith, decimals, long, few)

  pair_length : (l : List ℕ × List ℕ) → IsVector S p.dimension l.0 × IsVector S p.dimension l.1 → length (line_text (pair_words l)) ≤ 1032
  pair_length l h =
      let line = line_length (pair_words l) in
      let parts = words_length-append (map decimal l.0) (codes "|" ∷ map decimal l.1) in
      let first = vector_length l.0 h.0 in
      let second = vector_length l.1 h.1 in
      omega (arith, line, parts, first, second)

  pairs_length : (ls : List (List ℕ × List ℕ))
      → AllByRecursion (λ (l : List ℕ × List ℕ). IsVector S p.dimension l.0 × IsVector S p.dimension l.1) ls
      → length (spelled (map pair_words ls)) ≤ length ls * 1032
  unfolding spelled
  pairs_length [] h = omega arith
  pairs_length (l ∷ ls) h =
      let one = pair_length l h.0 in
      let more = pairs_length ls h.1 in
      let both = length-append (line_text (pair_words l)) (spelled (map pair_words ls)) in
      omega (arith, one, more, both)

  -- a problem within the limits has a text of at most so many bytes
  pub problem_length : length (spelled (problem_lines S.order p)) ≤ 2113620
  unfolding spelled
  problem_length =
      let pairs = spelled (map pair_words p.lines) in
      let version = line_text (counted_words (codes "parity") 1) in
      let field = line_text (counted_words (codes "field") S.order) in
      let dimension = line_text (counted_words (codes "dimension") p.dimension) in
      let count = line_text (counted_words (codes "lines") (length p.lines)) in
      let a = length-append version (field ++ (dimension ++ (count ++ pairs))) in
      let b = length-append field (dimension ++ (count ++ pairs)) in
      let c = length-append dimension (count ++ pairs) in
      let d = length-append count pairs in
      let v = counted_length (codes "parity") 1 (omega arith) (omega arith) in
      let f = counted_length (codes "field") S.order (omega arith) (omega (arith, small)) in
      let g = counted_length (codes "dimension") p.dimension (omega arith) (omega (arith, within.dimension)) in
      let n = counted_length (codes "lines") (length p.lines) (omega arith) (omega (arith, within.lines)) in
      let ls = pairs_length p.lines (each_of _ p.lines within.vectors) in
      let few = within.lines in
      omega (arith, a, b, c, d, v, f, g, n, ls, few)
