-- Which lines of words say a value: those of its form, where each number's word is a numeral of it.
use Rattle.std.specs.Prelude.{◌≡◌, ℕ, ◌<◌, ◌≤◌, List, [], ◌∷◌, ◌++◌, length, codes}
use Rattle.std.specs.List.{AllByRecursion, Contains}
use Rattle.line_lexer.specs.Lines.{Line}
use Rattle.parity_lines.specs.Problems.{ParityProblem}
use Rattle.parity_text.specs.Values.{AnswerValue, most_dimension, most_lines, most_kernel, most_parts}
use Rattle.small_fields.specs.FieldName.{field_orders}
use Rattle.text_forms.specs.Spelling.{AreNumerals, SpellsPositions, IsNameAndNumeral, IsOneLine}

-- d numerals of scalars below q
pub record SpellsVector (q d : ℕ) (v : List ℕ) (words : List (List ℕ)) : Type 0 where
  pub long : length v ≡ d
  pub below : AllByRecursion (λ x. x < q) v
  pub numerals : AreNumerals v words

-- the name, and then what spells the value
abbrev pub Named : {A : Type 0} → List ℕ → (A → List (List ℕ) → Type 0) → A → List (List ℕ) → Type 0
Named name spells x words = (more : List (List ℕ)) × (words ≡ name ∷ more) × spells x more

-- `line`, a vector, `|` and a vector
pub record SpellsPair (q d : ℕ) (l : List ℕ × List ℕ) (words : List (List ℕ)) : Type 0 where
  pub first : List (List ℕ)
  pub second : List (List ℕ)
  pub words_are : words ≡ codes "line" ∷ first ++ codes "|" ∷ second
  pub spells_first : SpellsVector q d l.0 first
  pub spells_second : SpellsVector q d l.1 second

-- one after the other, each spells its value
abbrev pub SpellEach : {A T : Type 0} → (A → List T → Type 0) → List A → List T → Type 0
SpellEach spells [] left = left ≡ []
SpellEach {T = T} spells (x ∷ xs) left = (front back : List T) × (left ≡ front ++ back) × spells x front × SpellEach spells xs back

-- `parity 1` and `field q`
pub record SpellsHead (q : ℕ) (text : List Line) : Type 0 where
  pub version : List Line
  pub field : List Line
  pub text_is : text ≡ version ++ field
  pub spells_version : IsOneLine (λ n words. IsNameAndNumeral (codes "parity") n words) 1 version
  pub spells_field : IsOneLine (IsNameAndNumeral (codes "field")) q field
  pub order : Contains field_orders q

-- `dimension d`, `lines n` and the n lines
pub record SpellsProblem (q : ℕ) (p : ParityProblem) (text : List Line) : Type 0 where
  pub dimension : List Line
  pub count : List Line
  pub lines : List Line
  pub text_is : text ≡ dimension ++ count ++ lines
  pub spells_dimension : IsOneLine (IsNameAndNumeral (codes "dimension")) p.dimension dimension
  pub spells_count : IsOneLine (IsNameAndNumeral (codes "lines")) (length p.lines) count
  pub spells_lines : SpellEach (IsOneLine (SpellsPair q p.dimension)) p.lines lines
  pub dimension_small : p.dimension ≤ most_dimension
  pub few : length p.lines ≤ most_lines

-- `size s` and `set` with s increasing positions
pub record SpellsSet (lines : ℕ) (set : List ℕ) (text : List Line) : Type 0 where
  pub size : List Line
  pub listed : List Line
  pub text_is : text ≡ size ++ listed
  pub spells_size : IsOneLine (IsNameAndNumeral (codes "size")) (length set) size
  pub spells_listed : IsOneLine (Named (codes "set") (SpellsPositions lines)) set listed

-- `answer 1`, the set, the kernel, the parts and `end`
pub record SpellsAnswer (q d lines : ℕ) (a : AnswerValue) (text : List Line) : Type 0 where
  pub version : List Line
  pub set : List Line
  pub kernel_count : List Line
  pub kernel : List Line
  pub part_count : List Line
  pub parts : List Line
  pub end : List Line
  pub text_is : text ≡ version ++ set ++ kernel_count ++ kernel ++ part_count ++ parts ++ end
  pub spells_version : IsOneLine (λ n words. IsNameAndNumeral (codes "answer") n words) 1 version
  pub spells_set : SpellsSet lines a.set set
  pub spells_kernel_count : IsOneLine (IsNameAndNumeral (codes "kernel")) (length a.kernel.rows) kernel_count
  pub spells_kernel : SpellEach (IsOneLine (Named (codes "vector") (SpellsVector q d))) a.kernel.rows kernel
  pub spells_part_count : IsOneLine (IsNameAndNumeral (codes "parts")) (length a.parts) part_count
  pub spells_parts : SpellEach (IsOneLine
      (Named (codes "part") (λ ps words. (0 < length ps) × SpellsPositions lines ps words))) a.parts parts
  pub spells_end : IsOneLine (λ (_ : Unit {0}) words. words ≡ codes "end" ∷ []) tt end
  pub width : a.kernel.width ≡ d
  pub kernel_small : length a.kernel.rows ≤ most_kernel
  pub few_parts : length a.parts ≤ most_parts

-- `choice 1`, the set and `end`
pub record SpellsChoice (lines : ℕ) (chosen : List ℕ) (text : List Line) : Type 0 where
  pub version : List Line
  pub set : List Line
  pub end : List Line
  pub text_is : text ≡ version ++ set ++ end
  pub spells_version : IsOneLine (λ n words. IsNameAndNumeral (codes "choice") n words) 1 version
  pub spells_set : SpellsSet lines chosen set
  pub spells_end : IsOneLine (λ (_ : Unit {0}) words. words ≡ codes "end" ∷ []) tt end

-- a whole text of a problem: the head, and the problem
pub record SpellsProblemText (q : ℕ) (p : ParityProblem) (text : List Line) : Type 0 where
  pub head : List Line
  pub problem : List Line
  pub text_is : text ≡ head ++ problem
  pub spells_head : SpellsHead q head
  pub spells_problem : SpellsProblem q p problem

-- a whole text of a problem, and behind it lines that spell a value by the problem
pub record SpellsWith {A : Type 0} (SpellsRest : ℕ → ParityProblem → A → List Line → Type 0) (q : ℕ) (p : ParityProblem) (x : A)
    (text : List Line) : Type 0 where
  pub problem : List Line
  pub rest : List Line
  pub text_is : text ≡ problem ++ rest
  pub spells_problem : SpellsProblemText q p problem
  pub spells_rest : SpellsRest q p x rest

-- a whole text of a problem with an answer
abbrev pub SpellsAnswerText : ℕ → ParityProblem → AnswerValue → List Line → Type 0
SpellsAnswerText = SpellsWith (λ q p. SpellsAnswer q p.dimension (length p.lines))

-- a whole text of a problem with a choice of its lines
abbrev pub SpellsChoiceText : ℕ → ParityProblem → List ℕ → List Line → Type 0
SpellsChoiceText = SpellsWith (λ _ p. SpellsChoice (length p.lines))
