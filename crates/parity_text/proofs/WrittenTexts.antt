-- The lines that are written say the value, and each of them has words.
use Rattle.std.proofs.Common.{◌≡◌, ℕ, ◌+◌, ◌^◌, ◌<◌, ◌≤◌, List, [], ◌∷◌, ◌++◌, length, map, All, refl, sym, ap, ◌∙◌, subst, arith}
use Rattle.std.proofs.Common.{append_assoc}
use Rattle.std.specs.Fmt.{decimal}
use Rattle.std.specs.List.{AllByRecursion}
use Rattle.std.specs.Prelude.{◌≢◌, codes}
use Rattle.line_lexer.specs.Lines.{Line}
use Rattle.line_lexer.specs.Words.{IsWord, AreWords, as_lines}
use Rattle.linear_algebra.specs.Scalars.{Scalars}
use Rattle.linear_algebra.specs.Vectors.{IsVector}
use Rattle.parity_lines.specs.LineSets.{IsLineSet}
use Rattle.parity_lines.specs.PartLists.{IsPartList}
use Rattle.parity_lines.specs.Problems.{ParityProblem}
use Rattle.parity_text.specs.Spelled.{position_words, pair_words, problem_lines, set_lines, answer_lines, choice_lines}
use Rattle.text_forms.specs.Spelling.{end_line, SpellsPositions, counted_words}
use Rattle.parity_text.specs.Spells.{SpellsVector, SpellsPair, Named, SpellsHead, SpellsProblem, SpellsSet, SpellsAnswer, SpellsChoice}
use Rattle.parity_text.specs.Values.{AnswerValue, IsWithinLimits, IsAnswerTo}
use Rattle.parity_text.proofs.WrittenLines.{as_lines-append, written_each, each_line}
use Rattle.parity_text.proofs.WrittenWords.{each_of, each_means, each_append, order_is_small, numerals_are_words, written_vector}
use Rattle.parity_text.proofs.WrittenWords.{written_positions, written_count, count_words, named_words}
use Rattle.text_forms.proofs.ListsTake.{positions_are_few}

vector_words : (q d : ℕ) (v : List ℕ) → SpellsVector q d v (map decimal v) → AllByRecursion IsWord (map decimal v)
vector_words q d v h = numerals_are_words v (map decimal v) h.numerals

positions_words : (lines : ℕ) (ps : List ℕ) → SpellsPositions lines ps (position_words ps) → AllByRecursion IsWord (position_words ps)
positions_words lines ps h = numerals_are_words (map (λ p. p + 1) ps) (position_words ps) h.numerals

left_nested : (a b c d e f g : List Line) → (a ++ b) ++ ((c ++ d) ++ ((e ++ f) ++ g)) ≡ a ++ b ++ c ++ d ++ e ++ f ++ g
left_nested a b c d e f g = simp append_assoc

-- the values of a line of a problem, and the line that is written
abbrev PairIsWritten : Scalars → ℕ → List ℕ × List ℕ → Type 0
PairIsWritten S d l = SpellsPair S.order d l (pair_words l) × AreWords (pair_words l)

pair_written : (S : Scalars) (d : ℕ) (l : List ℕ × List ℕ) → S.order ≤ 256 → IsVector S d l.0 × IsVector S d l.1 → PairIsWritten S d l
pair_written S d l small h =
    let first = written_vector S d l.0 small h.0 in
    let second = written_vector S d l.1 small h.1 in
    let bar : IsWord (codes "|") = record { some = omega arith; bytes = refl } in (
      record { first = map decimal l.0; second = map decimal l.1; words_are = refl; spells_first = first; spells_second = second },
      named_words (codes "line") _ (record { some = omega arith; bytes = refl })
          (each_append IsWord (map decimal l.0) (codes "|" ∷ map decimal l.1) (vector_words S.order d l.0 first)
          (bar, vector_words S.order d l.1 second)),
    )

module _ (S : Scalars) (p : ParityProblem) (within : IsWithinLimits S p) where
  small_order : S.order ≤ 256
  small_order = order_is_small S.order within.order

  pairs_written : AllByRecursion (PairIsWritten S p.dimension) p.lines
  pairs_written =
      each_means (λ (l : List ℕ × List ℕ). IsVector S p.dimension l.0 × IsVector S p.dimension l.1) (PairIsWritten S p.dimension)
      (λ l h. pair_written S p.dimension l small_order h) p.lines
      (each_of _ p.lines within.vectors)

  pub written_head : (k : ℕ) → SpellsHead S.order
      (as_lines k (counted_words (codes "parity") 1 ∷ counted_words (codes "field") S.order ∷ []))
  written_head k = record {
    version = as_lines k (counted_words (codes "parity") 1 ∷ []);
    field = as_lines (k + 1) (counted_words (codes "field") S.order ∷ []);
    text_is = refl;
    spells_version = (k, _, refl, written_count (codes "parity") 1 (omega arith));
    spells_field = (k + 1, _, refl, written_count (codes "field") S.order (omega (arith, small_order)));
    order = within.order;
  }

  pub written_problem : (k : ℕ) → SpellsProblem S.order p
      (as_lines k (counted_words (codes "dimension") p.dimension ∷ counted_words (codes "lines") (length p.lines) ∷ map pair_words p.lines))
  written_problem k = record {
    dimension = as_lines k (counted_words (codes "dimension") p.dimension ∷ []);
    count = as_lines (k + 1) (counted_words (codes "lines") (length p.lines) ∷ []);
    lines = as_lines (k + 1 + 1) (map pair_words p.lines);
    text_is = refl;
    spells_dimension = (k, _, refl, written_count (codes "dimension") p.dimension (omega (arith, within.dimension)));
    spells_count = (k + 1, _, refl, written_count (codes "lines") (length p.lines) (omega (arith, within.lines)));
    spells_lines = written_each (SpellsPair S.order p.dimension) pair_words p.lines (k + 1 + 1)
        (each_means (PairIsWritten S p.dimension) _ (λ l h. h.0) p.lines pairs_written);
    dimension_small = within.dimension;
    few = within.lines;
  }

  pub problem_words : AllByRecursion AreWords (problem_lines S.order p)
  problem_words = (
    count_words (codes "parity") 1 (record { some = omega arith; bytes = refl }) (omega arith),
    (
      count_words (codes "field") S.order (record { some = omega arith; bytes = refl }) (omega (arith, small_order)),
      (
        count_words (codes "dimension") p.dimension (record { some = omega arith; bytes = refl }) (omega (arith, within.dimension)),
        (
          count_words (codes "lines") (length p.lines) (record { some = omega arith; bytes = refl }) (omega (arith, within.lines)),
          each_line pair_words p.lines (each_means (PairIsWritten S p.dimension) _ (λ l h. h.1) p.lines pairs_written),
        ),
      ),
    ),
  )

  set_positions : (set : List ℕ) → IsLineSet p set → SpellsPositions (length p.lines) set (position_words set)
  set_positions set h = written_positions (length p.lines) set within.lines h.increasing h.within

  set_is_small : (set : List ℕ) → IsLineSet p set → length set < 10 ^ 9
  set_is_small set h = omega (
    arith,
    within.lines,
    positions_are_few (length p.lines) set h.increasing
        (each_of (λ m. m < length p.lines) set h.within),
  )

  written_set : (set : List ℕ) → IsLineSet p set → (k : ℕ) → SpellsSet (length p.lines) set (as_lines k (set_lines set))
  written_set set h k = record {
    size = as_lines k (counted_words (codes "size") (length set) ∷ []);
    listed = as_lines (k + 1) ((codes "set" ∷ position_words set) ∷ []);
    text_is = refl;
    spells_size = (k, _, refl, written_count (codes "size") (length set) (set_is_small set h));
    spells_listed = (k + 1, _, refl, (position_words set, refl, set_positions set h));
  }

  set_words : (set : List ℕ) → IsLineSet p set → AllByRecursion AreWords (set_lines set)
  set_words set h = (
    count_words (codes "size") (length set) (record { some = omega arith; bytes = refl }) (set_is_small set h),
    (
      named_words (codes "set") (position_words set) (record { some = omega arith; bytes = refl })
          (positions_words (length p.lines) set (set_positions set h)),
      tt,
    ),
  )

  end_words : AllByRecursion AreWords end_line
  end_words = (named_words (codes "end") [] (record { some = omega arith; bytes = refl }) tt, tt)

  pub written_choice : (set : List ℕ) → IsLineSet p set → (k : ℕ) → SpellsChoice (length p.lines) set (as_lines k (choice_lines set))
  written_choice set h k = record {
    version = as_lines k (counted_words (codes "choice") 1 ∷ []);
    set = as_lines (k + 1) (set_lines set);
    end = as_lines (k + 1 + 1 + 1) end_line;
    text_is = refl;
    spells_version = (k, _, refl, written_count (codes "choice") 1 (omega arith));
    spells_set = written_set set h (k + 1);
    spells_end = (k + 1 + 1 + 1, _, refl, refl);
  }

  pub choice_words : (set : List ℕ) → IsLineSet p set → AllByRecursion AreWords (choice_lines set)
  choice_words set h = (
    count_words (codes "choice") 1 (record { some = omega arith; bytes = refl }) (omega arith),
    each_append AreWords
        (set_lines set) end_line (set_words set h) end_words,
  )

  abbrev vector_line : List ℕ → List (List ℕ)
  vector_line v = codes "vector" ∷ map decimal v

  abbrev VectorIsWritten : List ℕ → Type 0
  VectorIsWritten v = Named (codes "vector") (SpellsVector S.order p.dimension) v (vector_line v) × AreWords (vector_line v)

  vector_written : (v : List ℕ) → IsVector S p.dimension v → VectorIsWritten v
  vector_written v h =
      let vector = written_vector S p.dimension v small_order h in (
        (map decimal v, refl, vector),
        named_words (codes "vector") (map decimal v) (record { some = omega arith; bytes = refl })
            (vector_words S.order p.dimension v vector),
      )

  abbrev part_line : List ℕ → List (List ℕ)
  part_line part = codes "part" ∷ position_words part

  abbrev PartIsWritten : List ℕ → Type 0
  PartIsWritten part = Named (codes "part") (λ ps ws. (0 < length ps) × SpellsPositions (length p.lines) ps ws) part (part_line part)
      × AreWords (part_line part)

  some_of : (part : List ℕ) → part ≢ [] → 0 < length part
  some_of [] h = absurd (h refl)
  some_of (m ∷ part) h = omega arith

  part_written : (part : List ℕ) → IsPartList part × All (λ m. m < length p.lines) part → PartIsWritten part
  part_written part h =
      let positions = written_positions (length p.lines) part within.lines h.0.increasing h.1 in (
        (position_words part, refl, (some_of part h.0.nonempty, positions)),
        named_words (codes "part") (position_words part) (record { some = omega arith; bytes = refl })
            (positions_words (length p.lines) part positions),
      )

  each_both : (P Q : List ℕ → Type 0) (xs : List (List ℕ)) → AllByRecursion P xs → AllByRecursion Q xs → AllByRecursion (λ x. P x × Q x) xs
  each_both P Q [] h k = tt
  each_both P Q (x ∷ xs) h k = ((h.0, k.0), each_both P Q xs h.1 k.1)

  module _ (a : AnswerValue) (belongs : IsAnswerTo S p a) where
    kernel_written : AllByRecursion VectorIsWritten a.kernel.rows
    kernel_written = each_means (IsVector S p.dimension) VectorIsWritten vector_written a.kernel.rows
        (each_of (IsVector S p.dimension) a.kernel.rows belongs.kernel)

    parts_written : AllByRecursion PartIsWritten a.parts
    parts_written =
        each_means (λ part. IsPartList part × All (λ m. m < length p.lines) part) PartIsWritten part_written a.parts
        (each_both IsPartList (All (λ m. m < length p.lines)) a.parts (each_of IsPartList a.parts belongs.parts)
        (each_of (All (λ m. m < length p.lines)) a.parts belongs.within))

    abbrev front_lines : List (List (List ℕ))
    front_lines = counted_words (codes "answer") 1 ∷ set_lines a.set

    abbrev kernel_lines : List (List (List ℕ))
    kernel_lines = counted_words (codes "kernel") (length a.kernel.rows) ∷ map vector_line a.kernel.rows

    abbrev parts_lines : List (List (List ℕ))
    parts_lines = counted_words (codes "parts") (length a.parts) ∷ map part_line a.parts

    in_order : answer_lines a ≡ front_lines ++ (kernel_lines ++ (parts_lines ++ end_line))
    in_order = simp append_assoc

    pub written_answer : (k : ℕ) → SpellsAnswer S.order p.dimension (length p.lines) a (as_lines k (answer_lines a))
    written_answer k =
        let kernel_at : ℕ = k + length front_lines in
        let parts_at : ℕ = kernel_at + length kernel_lines in
        let end_at : ℕ = parts_at + length parts_lines in
        let version : List Line = as_lines k (counted_words (codes "answer") 1 ∷ []) in
        let set : List Line = as_lines (k + 1) (set_lines a.set) in
        let kernel_count : List Line = as_lines kernel_at (counted_words (codes "kernel") (length a.kernel.rows) ∷ []) in
        let kernel : List Line = as_lines (kernel_at + 1) (map vector_line a.kernel.rows) in
        let part_count : List Line = as_lines parts_at (counted_words (codes "parts") (length a.parts) ∷ []) in
        let parts : List Line = as_lines (parts_at + 1) (map part_line a.parts) in
        let end : List Line = as_lines end_at end_line in
        let pieces : as_lines k (answer_lines a) ≡ (version ++ set) ++ ((kernel_count ++ kernel) ++ ((part_count ++ parts) ++ end)) =
        ap (λ (ls : List (List (List ℕ))). as_lines k ls) in_order
        ∙ as_lines-append k front_lines (kernel_lines ++ (parts_lines ++ end_line))
        ∙ ap (λ (ls : List Line). as_lines k front_lines ++ ls) (as_lines-append kernel_at kernel_lines (parts_lines ++ end_line))
        ∙ ap (λ (ls : List Line). as_lines k front_lines ++ (as_lines kernel_at kernel_lines ++ ls))
        (as_lines-append parts_at parts_lines end_line) in
        record {
          version = version;
          set = set;
          kernel_count = kernel_count;
          kernel = kernel;
          part_count = part_count;
          parts = parts;
          end = end;
          text_is = pieces ∙ left_nested version set kernel_count kernel part_count parts end;
          spells_version = (k, _, refl, written_count (codes "answer") 1 (omega arith));
          spells_set = written_set a.set belongs.set (k + 1);
          spells_kernel_count = (
            kernel_at,
            _,
            refl,
            written_count (codes "kernel") (length a.kernel.rows)
                (omega (arith, belongs.kernel_long)),
          );
          spells_kernel = written_each (Named (codes "vector") (SpellsVector S.order p.dimension)) vector_line a.kernel.rows (kernel_at + 1)
              (each_means VectorIsWritten _ (λ v h. h.0) a.kernel.rows kernel_written);
          spells_part_count = (parts_at, _, refl, written_count (codes "parts") (length a.parts) (omega (arith, belongs.parts_long)));
          spells_parts = written_each (Named (codes "part")
              (λ ps ws. (0 < length ps) × SpellsPositions (length p.lines) ps ws)) part_line a.parts (parts_at + 1)
              (each_means PartIsWritten _ (λ v h. h.0) a.parts parts_written);
          spells_end = (end_at, _, refl, refl);
          width = belongs.width;
          kernel_small = belongs.kernel_long;
          few_parts = belongs.parts_long;
        }

    pub answer_words : AllByRecursion AreWords (answer_lines a)
    answer_words =
        let front : AllByRecursion AreWords front_lines =
        (count_words (codes "answer") 1 (record { some = omega arith; bytes = refl }) (omega arith), set_words a.set belongs.set) in
        let kernel : AllByRecursion AreWords kernel_lines = (
          count_words (codes "kernel") (length a.kernel.rows) (record { some = omega arith; bytes = refl })
              (omega (arith, belongs.kernel_long)),
          each_line vector_line a.kernel.rows (each_means VectorIsWritten _ (λ v h. h.1) a.kernel.rows kernel_written),
        ) in
        let parts : AllByRecursion AreWords parts_lines = (
          count_words (codes "parts") (length a.parts) (record { some = omega arith; bytes = refl }) (omega (arith, belongs.parts_long)),
          each_line part_line a.parts (each_means PartIsWritten _ (λ v h. h.1) a.parts parts_written),
        ) in
        subst (AllByRecursion AreWords) (sym in_order)
        (each_append AreWords front_lines (kernel_lines ++ (parts_lines ++ end_line)) front
        (each_append AreWords kernel_lines (parts_lines ++ end_line) kernel (each_append AreWords parts_lines end_line parts end_words)))
