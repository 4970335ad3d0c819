-- What the texts give depends on the lines that they take alone, and their refusals on the lines up to the refused one.
use Rattle.std.proofs.Common.{ℕ, List, length}
use Rattle.std.specs.Prelude.{codes}
use Rattle.line_lexer.specs.declared.refusal.Counted.{Counted}
use Rattle.line_lexer.specs.declared.refusal.Counted.TheVariants.{Dimension, Lines, Kernel, Parts}
use Rattle.parity_lines.specs.Problems.{ParityProblem}
use Rattle.parity_text.specs.Files.{problem_and, problem_with, problem_file, answer_file, choice_file}
use Rattle.parity_text.specs.Values.{most_dimension, most_lines, most_kernel, most_parts}
use Rattle.parity_text.specs.Texts.{head, pair, problem, sized_set, listed_set, kernel_vector, part, answer, choice, field}
use Rattle.parity_text.proofs.Faults.{FaultsOnLine-field, FaultsOnLine-pair, FaultsOnLine-listed_set, FaultsOnLine-kernel_vector}
use Rattle.parity_text.proofs.Faults.{FaultsOnLine-part}
use Rattle.text_forms.specs.Causality.{FaultsOnLine, GivesCausally, RefusesCausally}
use Rattle.text_forms.specs.Forms.{Form, line, version, counted, counted_within}
use Rattle.text_forms.specs.Places.{Place, fixed, times}
use Rattle.text_forms.specs.Reading.{◌>>=◌, give}
use Rattle.text_forms.proofs.Causal.{GivesCausally-give, RefusesCausally-give, GivesCausally-bind, RefusesCausally-bind}
use Rattle.text_forms.proofs.Causal.{GivesCausally-line, RefusesCausally-line, GivesCausally-times, RefusesCausally-times, RefusesCausally-whole_text}
use Rattle.text_forms.proofs.Faults.{FaultsOnLine-fixed, FaultsOnLine-version, FaultsOnLine-counted, FaultsOnLine-counted_within}

abbrev pub IsCausal : {A : Type 0} → Form A → Type 0
IsCausal form = GivesCausally form × RefusesCausally form

IsCausal-give : {A : Type 0} (x : A) → IsCausal {A = A} (give x)
IsCausal-give x = (GivesCausally-give x, RefusesCausally-give x)

IsCausal-bind : {A B : Type 0} (first : Form A) (next : A → Form B) → IsCausal first → ((x : A) → IsCausal (next x))
    → IsCausal (first >>= next)
IsCausal-bind first next one two =
    (GivesCausally-bind first next one.0 (λ x. (two x).0), RefusesCausally-bind first next one.0 one.1 (λ x. (two x).1))

IsCausal-line : {A : Type 0} (place : Place A) → FaultsOnLine place → IsCausal (line place)
IsCausal-line place faults = (GivesCausally-line place, RefusesCausally-line place faults)

IsCausal-times : {A : Type 0} (n : ℕ) (form : Form A) → IsCausal form → IsCausal (times n form)
IsCausal-times n form h = (GivesCausally-times n form h.0, RefusesCausally-times n form h.0 h.1)

IsCausal-version : (name : List ℕ) → IsCausal (line (version name))
IsCausal-version name = IsCausal-line (version name) (FaultsOnLine-version name)

IsCausal-counted : (name : List ℕ) → IsCausal (line (counted name))
IsCausal-counted name = IsCausal-line (counted name) (FaultsOnLine-counted name)

IsCausal-counted_within : (name : List ℕ) (what : Counted) (most : ℕ) → IsCausal (line (counted_within name what most))
IsCausal-counted_within name what most = IsCausal-line (counted_within name what most) (FaultsOnLine-counted_within name what most)

IsCausal-alone : (name : List ℕ) → IsCausal (line (fixed name))
IsCausal-alone name = IsCausal-line (fixed name) (FaultsOnLine-fixed name)

pub IsCausal-head : IsCausal head
unfolding head
IsCausal-head = IsCausal-bind (line (version (codes "parity"))) _ (IsCausal-version (codes "parity"))
    (λ _. IsCausal-line field FaultsOnLine-field)

pub IsCausal-problem : (q : ℕ) → IsCausal (problem q)
unfolding problem
IsCausal-problem q =
    IsCausal-bind (line (counted_within (codes "dimension") Dimension most_dimension)) _
    (IsCausal-counted_within (codes "dimension") Dimension most_dimension)
    (λ d. IsCausal-bind (line (counted_within (codes "lines") Lines most_lines)) _
    (IsCausal-counted_within (codes "lines") Lines most_lines)
    (λ n. IsCausal-bind (times n (line (pair q d))) _
    (IsCausal-times n (line (pair q d)) (IsCausal-line (pair q d) (FaultsOnLine-pair q d)))
    (λ ls. IsCausal-give (record { dimension = d; lines = ls }))))

IsCausal-sized_set : (lines : ℕ) → IsCausal (sized_set lines)
unfolding sized_set
IsCausal-sized_set lines =
    IsCausal-bind (line (counted (codes "size"))) _ (IsCausal-counted (codes "size"))
    (λ s. IsCausal-line (listed_set lines s) (FaultsOnLine-listed_set lines s))

pub IsCausal-answer : (q d lines : ℕ) → IsCausal (answer q d lines)
unfolding answer
IsCausal-answer q d lines =
    IsCausal-bind (line (version (codes "answer"))) _ (IsCausal-version (codes "answer"))
    (λ _. IsCausal-bind (sized_set lines) _ (IsCausal-sized_set lines)
    (λ set. IsCausal-bind (line (counted_within (codes "kernel") Kernel most_kernel)) _
    (IsCausal-counted_within (codes "kernel") Kernel most_kernel)
    (λ k. IsCausal-bind (times k (line (kernel_vector q d))) _
    (IsCausal-times k (line (kernel_vector q d)) (IsCausal-line (kernel_vector q d) (FaultsOnLine-kernel_vector q d)))
    (λ vs. IsCausal-bind (line (counted_within (codes "parts") Parts most_parts)) _
    (IsCausal-counted_within (codes "parts") Parts most_parts)
    (λ m. IsCausal-bind (times m (line (part lines))) _
    (IsCausal-times m (line (part lines)) (IsCausal-line (part lines) (FaultsOnLine-part lines)))
    (λ ps. IsCausal-bind (line (fixed (codes "end"))) _ (IsCausal-alone (codes "end"))
    (λ _. IsCausal-give (record { set = set; kernel = record { width = d; rows = vs }; parts = ps }))))))))

pub IsCausal-choice : (lines : ℕ) → IsCausal (choice lines)
unfolding choice
IsCausal-choice lines =
    IsCausal-bind (line (version (codes "choice"))) _ (IsCausal-version (codes "choice"))
    (λ _. IsCausal-bind (sized_set lines) _ (IsCausal-sized_set lines)
    (λ set. IsCausal-bind (line (fixed (codes "end"))) _ (IsCausal-alone (codes "end"))
    (λ _. IsCausal-give set)))

-- a problem with what comes behind it, and nothing more
with_problem : {A : Type 0} (behind : ℕ → ParityProblem → Form A) → ((q : ℕ) (p : ParityProblem) → IsCausal (behind q p))
    → RefusesCausally (problem_with behind)
with_problem behind causal =
    let h = IsCausal-bind head _ IsCausal-head (λ q. IsCausal-bind (problem q) (behind q) (IsCausal-problem q) (causal q)) in
    RefusesCausally-whole_text (problem_and behind) h.0 h.1

pub RefusesCausally-problem_file : RefusesCausally problem_file
unfolding problem_file
RefusesCausally-problem_file = with_problem _ (λ q p. IsCausal-give (q, p))

pub RefusesCausally-answer_file : RefusesCausally answer_file
unfolding answer_file
RefusesCausally-answer_file =
    with_problem _ (λ q p. IsCausal-bind (answer q p.dimension (length p.lines)) _ (IsCausal-answer q p.dimension (length p.lines))
    (λ a. IsCausal-give ((q, p), a)))

pub RefusesCausally-choice_file : RefusesCausally choice_file
unfolding choice_file
RefusesCausally-choice_file = with_problem _
    (λ q p. IsCausal-bind (choice (length p.lines)) _ (IsCausal-choice (length p.lines)) (λ set. IsCausal-give ((q, p), set)))
