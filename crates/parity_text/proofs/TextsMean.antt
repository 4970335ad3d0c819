-- Which values the texts give: those that their lines spell.
use Rattle.std.proofs.Common.{◌≡◌, ℕ, ◌<◌, ◌≤◌, List, [], ◌∷◌, ◌++◌, length, refl, sym, ap, ◌∙◌, subst, append_assoc}
use Rattle.std.specs.List.{Contains}
use Rattle.std.specs.Prelude.{codes}
use Rattle.line_lexer.specs.Lines.{Line}
use Rattle.line_lexer.specs.declared.refusal.Counted.TheVariants.{Dimension, Lines, Kernel, Parts}
use Rattle.parity_lines.specs.Problems.{ParityProblem}
use Rattle.small_fields.specs.FieldName.{field_orders}
use Rattle.parity_text.specs.Spells.{SpellsVector, SpellsPair, Named, SpellsHead, SpellsProblem, SpellsSet, SpellsAnswer, SpellsChoice}
use Rattle.parity_text.specs.Texts.{head, field, pair, problem, sized_set, listed_set, kernel_vector, part, answer, choice}
use Rattle.parity_text.specs.Values.{AnswerValue, most_dimension, most_lines, most_kernel, most_parts}
use Rattle.parity_text.proofs.Meaning.{line_and, each_of_times, times_of_each}
use Rattle.parity_text.proofs.PlacesMean.{Takes-field, Takes-pair, Takes-listed_set, Takes-kernel_vector, Fills-part}
use Rattle.text_forms.specs.Forms.{line, version, counted, counted_within}
use Rattle.text_forms.specs.Places.{fixed, times}
use Rattle.text_forms.specs.Spelling.{IsNameAndNumeral, IsOneLine, SpellsPositions, Takes}
use Rattle.text_forms.proofs.Taking.{Takes-bind, Takes-made, Takes-as}
use Rattle.text_forms.proofs.LinesTake.{Fills-from_Takes, Takes-line, Takes-alone, Takes-counted, Takes-version_line, Takes-counted_within}
use Rattle.text_forms.proofs.ListsTake.{SpellsTimes, Takes-times}

regroup : (a b c d e f g : List Line) → a ++ b ++ c ++ d ++ e ++ f ++ g ≡ a ++ (b ++ (c ++ (d ++ (e ++ (f ++ g)))))
regroup a b c d e f g = simp append_assoc

abbrev VersionLine : List ℕ → Unit {0} → List Line → Type 0
VersionLine name = IsOneLine (λ _ ws. IsNameAndNumeral name 1 ws)

abbrev EndLine : Unit {0} → List Line → Type 0
EndLine = IsOneLine (λ _ ws. ws ≡ codes "end" ∷ [])

abbrev CountedLine : List ℕ → ℕ → List Line → Type 0
CountedLine name = IsOneLine (IsNameAndNumeral name)

abbrev LimitedLine : List ℕ → ℕ → ℕ → List Line → Type 0
LimitedLine name most = IsOneLine (λ n ws. IsNameAndNumeral name n ws × (n ≤ most))

pub Takes-head : Takes SpellsHead head
unfolding head
Takes-head =
    Takes-as head
    (Takes-bind (VersionLine (codes "parity")) (λ _. IsOneLine (λ q ws. IsNameAndNumeral (codes "field") q ws × Contains field_orders q))
    (line (version (codes "parity"))) (λ _. line field)
    (Takes-version_line (codes "parity")) (λ _. Takes-line _ field (Fills-from_Takes _ field Takes-field)))
    (λ q text. (
      λ h.
          let parts = (line_and (IsNameAndNumeral (codes "field")) (λ n. Contains field_orders n) q h.2).0 h.5 in
          record { version = h.1; field = h.2; text_is = h.3; spells_version = h.4; spells_field = parts.0; order = parts.1 },
      λ h. (
        tt,
        h.version,
        h.field,
        h.text_is,
        h.spells_version,
        (line_and (IsNameAndNumeral (codes "field")) (λ n. Contains field_orders n) q h.field).1 (h.spells_field, h.order),
      ),
    ))

abbrev ProblemLines : ℕ → ℕ → ℕ → ParityProblem → List Line → Type 0
ProblemLines q d n p ls = (pairs : List (List ℕ × List ℕ)) × ((length pairs ≡ n) × SpellsTimes (IsOneLine (SpellsPair q d)) pairs ls)
    × (p ≡ record { dimension = d; lines = pairs })

abbrev CountAndLines : ℕ → ℕ → ParityProblem → List Line → Type 0
CountAndLines q d p ls = (n : ℕ) × (front : List Line) × (back : List Line) × (ls ≡ front ++ back)
    × LimitedLine (codes "lines") most_lines n front × ProblemLines q d n p back

abbrev ProblemParts : ℕ → ParityProblem → List Line → Type 0
ProblemParts q p ls = (d : ℕ) × (front : List Line) × (back : List Line) × (ls ≡ front ++ back)
    × LimitedLine (codes "dimension") most_dimension d front × CountAndLines q d p back

problem_forth : (q : ℕ) (p : ParityProblem) (text : List Line) → ProblemParts q p text → SpellsProblem q p text
problem_forth q p text h =
    let count = h.5 in
    let lines = count.5 in
    let dimension_line = (line_and (IsNameAndNumeral (codes "dimension")) (λ n. n ≤ most_dimension) h.0 h.1).0 h.4 in
    let count_line = (line_and (IsNameAndNumeral (codes "lines")) (λ n. n ≤ most_lines) count.0 count.1).0 count.4 in
    let long : length lines.0 ≡ count.0 = lines.1.0 in
    subst (λ (p' : ParityProblem). SpellsProblem q p' text) (sym lines.2) (record {
      dimension = h.1;
      count = count.1;
      lines = count.2;
      text_is = h.3 ∙ ap (λ (t : List Line). h.1 ++ t) count.3 ∙ sym (append_assoc h.1 count.1 count.2);
      spells_dimension = dimension_line.0;
      spells_count = subst (λ (n : ℕ). CountedLine (codes "lines") n count.1) (sym long) count_line.0;
      spells_lines = each_of_times (IsOneLine (SpellsPair q h.0)) lines.0 count.2 lines.1.1;
      dimension_small = dimension_line.1;
      few = subst (λ (n : ℕ). n ≤ most_lines) (sym long) count_line.1;
    })

problem_back : (q : ℕ) (p : ParityProblem) (text : List Line) → SpellsProblem q p text → ProblemParts q p text
problem_back q p text h = (
  p.dimension,
  h.dimension,
  h.count ++ h.lines,
  h.text_is ∙ append_assoc h.dimension h.count h.lines,
  (line_and (IsNameAndNumeral (codes "dimension")) (λ n. n ≤ most_dimension) p.dimension h.dimension).1
      (h.spells_dimension, h.dimension_small),
  (
    length p.lines,
    h.count,
    h.lines,
    refl,
    (line_and (IsNameAndNumeral (codes "lines")) (λ n. n ≤ most_lines) (length p.lines) h.count).1 (h.spells_count, h.few),
    (p.lines, (refl, times_of_each (IsOneLine (SpellsPair q p.dimension)) p.lines h.lines h.spells_lines), refl),
  ),
)

pub Takes-problem : (q : ℕ) → Takes (SpellsProblem q) (problem q)
unfolding problem
Takes-problem q =
    Takes-as (problem q)
    (Takes-bind (LimitedLine (codes "dimension") most_dimension) (CountAndLines q)
    (line (counted_within (codes "dimension") Dimension most_dimension)) _
    (Takes-counted_within (codes "dimension") Dimension most_dimension)
    (λ d. Takes-bind (LimitedLine (codes "lines") most_lines) (ProblemLines q d) (line (counted_within (codes "lines") Lines most_lines)) _
    (Takes-counted_within (codes "lines") Lines most_lines)
    (λ n. Takes-made (λ pairs ls. (length pairs ≡ n) × SpellsTimes (IsOneLine (SpellsPair q d)) pairs ls)
    (λ pairs. record { dimension = d; lines = pairs }) (times n (line (pair q d)))
    (Takes-times (IsOneLine (SpellsPair q d)) n (line (pair q d))
    (Takes-line _ (pair q d) (Fills-from_Takes _ (pair q d) (Takes-pair q d)))))))
    (λ p text. (problem_forth q p text, problem_back q p text))

abbrev SetLines : ℕ → ℕ → List ℕ → List Line → Type 0
SetLines lines s = IsOneLine (Named (codes "set") (λ ps ws. (length ps ≡ s) × SpellsPositions lines ps ws))

abbrev SetParts : ℕ → List ℕ → List Line → Type 0
SetParts lines set ls = (s : ℕ) × (front : List Line) × (back : List Line) × (ls ≡ front ++ back) × CountedLine (codes "size") s front
    × SetLines lines s set back

set_forth : (lines : ℕ) (set : List ℕ) (text : List Line) → SetParts lines set text → SpellsSet lines set text
set_forth lines set text h =
    let named = h.5.3 in
    record {
      size = h.1;
      listed = h.2;
      text_is = h.3;
      spells_size = subst (λ (n : ℕ). CountedLine (codes "size") n h.1) (sym named.2.0) h.4;
      spells_listed = (h.5.0, h.5.1, h.5.2, (named.0, named.1, named.2.1));
    }

set_back : (lines : ℕ) (set : List ℕ) (text : List Line) → SpellsSet lines set text → SetParts lines set text
set_back lines set text h =
    let listed = h.spells_listed in
    (length set, h.size, h.listed, h.text_is, h.spells_size, (listed.0, listed.1, listed.2, (listed.3.0, listed.3.1, (refl, listed.3.2))))

Takes-sized_set : (lines : ℕ) → Takes (SpellsSet lines) (sized_set lines)
unfolding sized_set
Takes-sized_set lines =
    Takes-as (sized_set lines)
    (Takes-bind (CountedLine (codes "size")) (SetLines lines) (line (counted (codes "size"))) (λ s. line (listed_set lines s))
    (Takes-counted (codes "size"))
    (λ s. Takes-line _ (listed_set lines s) (Fills-from_Takes _ (listed_set lines s) (Takes-listed_set lines s))))
    (λ set text. (set_forth lines set text, set_back lines set text))

abbrev EndOfChoice : List ℕ → List ℕ → List Line → Type 0
EndOfChoice set chosen ls = (_ : Unit {0}) × EndLine tt ls × (chosen ≡ set)

abbrev SetAndEnd : ℕ → List ℕ → List Line → Type 0
SetAndEnd lines chosen ls = (set : List ℕ) × (front : List Line) × (back : List Line) × (ls ≡ front ++ back) × SpellsSet lines set front
    × EndOfChoice set chosen back

abbrev ChoiceParts : ℕ → List ℕ → List Line → Type 0
ChoiceParts lines chosen ls = (_ : Unit {0}) × (front : List Line) × (back : List Line) × (ls ≡ front ++ back)
    × VersionLine (codes "choice") tt front × SetAndEnd lines chosen back

choice_forth : (lines : ℕ) (chosen : List ℕ) (text : List Line) → ChoiceParts lines chosen text → SpellsChoice lines chosen text
choice_forth lines chosen text h =
    let set = h.5 in
    subst (λ (c : List ℕ). SpellsChoice lines c text) (sym set.5.2) (record {
      version = h.1;
      set = set.1;
      end = set.2;
      text_is = h.3 ∙ ap (λ (t : List Line). h.1 ++ t) set.3 ∙ sym (append_assoc h.1 set.1 set.2);
      spells_version = h.4;
      spells_set = set.4;
      spells_end = set.5.1;
    })

choice_back : (lines : ℕ) (chosen : List ℕ) (text : List Line) → SpellsChoice lines chosen text → ChoiceParts lines chosen text
choice_back lines chosen text h = (
  tt,
  h.version,
  h.set ++ h.end,
  h.text_is
      ∙ append_assoc h.version h.set h.end,
  h.spells_version,
  (chosen, h.set, h.end, refl, h.spells_set, (tt, h.spells_end, refl)),
)

pub Takes-choice : (lines : ℕ) → Takes (SpellsChoice lines) (choice lines)
unfolding choice
Takes-choice lines =
    Takes-as (choice lines)
    (Takes-bind (VersionLine (codes "choice")) (λ _. SetAndEnd lines) (line (version (codes "choice"))) _
    (Takes-version_line (codes "choice"))
    (λ _. Takes-bind (SpellsSet lines) EndOfChoice (sized_set lines) _ (Takes-sized_set lines)
    (λ set. Takes-made EndLine (λ _. set) (line (fixed (codes "end"))) (Takes-alone (codes "end")))))
    (λ chosen text. (choice_forth lines chosen text, choice_back lines chosen text))

abbrev KernelLine : ℕ → ℕ → List ℕ → List Line → Type 0
KernelLine q d = IsOneLine (Named (codes "vector") (SpellsVector q d))

abbrev PartLine : ℕ → List ℕ → List Line → Type 0
PartLine lines = IsOneLine (Named (codes "part") (λ ps ws. (0 < length ps) × SpellsPositions lines ps ws))

module _ (q d lines : ℕ) where
  abbrev made : List ℕ → List (List ℕ) → List (List ℕ) → AnswerValue
  made set vs ps = record { set = set; kernel = record { width = d; rows = vs }; parts = ps }

  abbrev AnswerEnd : List ℕ → List (List ℕ) → List (List ℕ) → AnswerValue → List Line → Type 0
  AnswerEnd set vs ps a ls = (_ : Unit {0}) × EndLine tt ls × (a ≡ made set vs ps)

  abbrev AnswerParts : List ℕ → List (List ℕ) → ℕ → AnswerValue → List Line → Type 0
  AnswerParts set vs m a ls =
      (ps : List (List ℕ)) × (front : List Line) × (back : List Line) × (ls ≡ front ++ back)
      × ((length ps ≡ m) × SpellsTimes (PartLine lines) ps front) × AnswerEnd set vs ps a back

  abbrev AnswerPartCount : List ℕ → List (List ℕ) → AnswerValue → List Line → Type 0
  AnswerPartCount set vs a ls = (m : ℕ) × (front : List Line) × (back : List Line) × (ls ≡ front ++ back)
      × LimitedLine (codes "parts") most_parts m front × AnswerParts set vs m a back

  abbrev AnswerKernel : List ℕ → ℕ → AnswerValue → List Line → Type 0
  AnswerKernel set k a ls =
      (vs : List (List ℕ)) × (front : List Line) × (back : List Line) × (ls ≡ front ++ back)
      × ((length vs ≡ k) × SpellsTimes (KernelLine q d) vs front) × AnswerPartCount set vs a back

  abbrev AnswerKernelCount : List ℕ → AnswerValue → List Line → Type 0
  AnswerKernelCount set a ls = (k : ℕ) × (front : List Line) × (back : List Line) × (ls ≡ front ++ back)
      × LimitedLine (codes "kernel") most_kernel k front × AnswerKernel set k a back

  abbrev AnswerSet : AnswerValue → List Line → Type 0
  AnswerSet a ls = (set : List ℕ) × (front : List Line) × (back : List Line) × (ls ≡ front ++ back) × SpellsSet lines set front
      × AnswerKernelCount set a back

  abbrev AnswerWhole : AnswerValue → List Line → Type 0
  AnswerWhole a ls = (_ : Unit {0}) × (front : List Line) × (back : List Line) × (ls ≡ front ++ back)
      × VersionLine (codes "answer") tt front × AnswerSet a back

  answer_forth : (a : AnswerValue) (text : List Line) → AnswerWhole a text → SpellsAnswer q d lines a text
  answer_forth a text h =
      let set = h.5 in
      let kernel_count = set.5 in
      let kernel = kernel_count.5 in
      let part_count = kernel.5 in
      let parts = part_count.5 in
      let end = parts.5 in
      let k_line = (line_and (IsNameAndNumeral (codes "kernel")) (λ n. n ≤ most_kernel) kernel_count.0 kernel_count.1).0 kernel_count.4 in
      let m_line = (line_and (IsNameAndNumeral (codes "parts")) (λ n. n ≤ most_parts) part_count.0 part_count.1).0 part_count.4 in
      let k_long : length kernel.0 ≡ kernel_count.0 = kernel.4.0 in
      let m_long : length parts.0 ≡ part_count.0 = parts.4.0 in
      let right : text ≡ h.1 ++ (set.1 ++ (kernel_count.1 ++ (kernel.1 ++ (part_count.1 ++ (parts.1 ++ parts.2))))) = rw
      (h.3, set.3, kernel_count.3, kernel.3, part_count.3, parts.3) refl in
      subst (λ (b : AnswerValue). SpellsAnswer q d lines b text) (sym end.2) (record {
        version = h.1;
        set = set.1;
        kernel_count = kernel_count.1;
        kernel = kernel.1;
        part_count = part_count.1;
        parts = parts.1;
        end = parts.2;
        text_is = right ∙ sym (regroup h.1 set.1 kernel_count.1 kernel.1 part_count.1 parts.1 parts.2);
        spells_version = h.4;
        spells_set = set.4;
        spells_kernel_count = subst (λ (n : ℕ). CountedLine (codes "kernel") n kernel_count.1) (sym k_long) k_line.0;
        spells_kernel = each_of_times (KernelLine q d) kernel.0 kernel.1 kernel.4.1;
        spells_part_count = subst (λ (n : ℕ). CountedLine (codes "parts") n part_count.1) (sym m_long) m_line.0;
        spells_parts = each_of_times (PartLine lines) parts.0 parts.1 parts.4.1;
        spells_end = end.1;
        width = refl;
        kernel_small = subst (λ (n : ℕ). n ≤ most_kernel) (sym k_long) k_line.1;
        few_parts = subst (λ (n : ℕ). n ≤ most_parts) (sym m_long) m_line.1;
      })

  answer_back : (a : AnswerValue) (text : List Line) → SpellsAnswer q d lines a text → AnswerWhole a text
  answer_back a text h = (
    tt,
    h.version,
    h.set ++ (h.kernel_count ++ (h.kernel ++ (h.part_count ++ (h.parts ++ h.end)))),
    h.text_is ∙ regroup h.version h.set h.kernel_count h.kernel h.part_count h.parts h.end,
    h.spells_version,
    (
      a.set,
      h.set,
      h.kernel_count ++ (h.kernel ++ (h.part_count ++ (h.parts ++ h.end))),
      refl,
      h.spells_set,
      (
        length a.kernel.rows,
        h.kernel_count,
        h.kernel ++ (h.part_count ++ (h.parts ++ h.end)),
        refl,
        (line_and (IsNameAndNumeral (codes "kernel")) (λ n. n ≤ most_kernel) (length a.kernel.rows) h.kernel_count).1
            (h.spells_kernel_count, h.kernel_small),
        (
          a.kernel.rows,
          h.kernel,
          h.part_count ++ (h.parts ++ h.end),
          refl,
          (refl, times_of_each (KernelLine q d) a.kernel.rows h.kernel h.spells_kernel),
          (
            length a.parts,
            h.part_count,
            h.parts ++ h.end,
            refl,
            (line_and (IsNameAndNumeral (codes "parts")) (λ n. n ≤ most_parts) (length a.parts) h.part_count).1
                (h.spells_part_count, h.few_parts),
            (
              a.parts,
              h.parts,
              h.end,
              refl,
              (refl, times_of_each (PartLine lines) a.parts h.parts h.spells_parts),
              (tt, h.spells_end, of_width a h.width),
            ),
          ),
        ),
      ),
    ),
  )
    where
      of_width : (a : AnswerValue) → a.kernel.width ≡ d → a ≡ made a.set a.kernel.rows a.parts
      of_width a e = ap (λ (n : ℕ). record { set = a.set; kernel = record { width = n; rows = a.kernel.rows }; parts = a.parts }) e

  pub Takes-answer : Takes (SpellsAnswer q d lines) (answer q d lines)
  unfolding answer
  Takes-answer =
      Takes-as (answer q d lines)
      (Takes-bind (VersionLine (codes "answer")) (λ _. AnswerSet) (line (version (codes "answer"))) _ (Takes-version_line (codes "answer"))
      (λ _. Takes-bind (SpellsSet lines) AnswerKernelCount (sized_set lines) _ (Takes-sized_set lines)
      (λ set. Takes-bind (LimitedLine (codes "kernel") most_kernel) (AnswerKernel set)
      (line (counted_within (codes "kernel") Kernel most_kernel)) _ (Takes-counted_within (codes "kernel") Kernel most_kernel)
      (λ k. Takes-bind (λ vs ls. (length vs ≡ k) × SpellsTimes (KernelLine q d) vs ls) (AnswerPartCount set)
      (times k (line (kernel_vector q d))) _
      (Takes-times (KernelLine q d) k (line (kernel_vector q d))
      (Takes-line _ (kernel_vector q d) (Fills-from_Takes _ (kernel_vector q d) (Takes-kernel_vector q d))))
      (λ vs. Takes-bind (LimitedLine (codes "parts") most_parts) (AnswerParts set vs)
      (line (counted_within (codes "parts") Parts most_parts)) _ (Takes-counted_within (codes "parts") Parts most_parts)
      (λ m. Takes-bind (λ ps ls. (length ps ≡ m) × SpellsTimes (PartLine lines) ps ls) (AnswerEnd set vs) (times m (line (part lines))) _
      (Takes-times (PartLine lines) m (line (part lines)) (Takes-line _ (part lines) (Fills-part lines)))
      (λ ps. Takes-made EndLine (λ _. made set vs ps) (line (fixed (codes "end"))) (Takes-alone (codes "end")))))))))
      (λ a text. (answer_forth a text, answer_back a text))
