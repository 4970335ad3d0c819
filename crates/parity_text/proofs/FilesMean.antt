-- Which values whole texts give: those that all of their lines spell.
use Rattle.std.proofs.Common.{◌≡◌, ℕ, ◌↔◌, List, [], ◌++◌, length, Ok, refl, ap, sym, ◌∙◌, subst, append_assoc}
use Rattle.std.proofs.lemmas.List.{append-nil}
use Rattle.line_lexer.specs.Lines.{Line, lines_from}
use Rattle.parity_lines.specs.Problems.{ParityProblem}
use Rattle.parity_text.specs.Files.{problem_and, problem_with, problem_file, answer_file, choice_file}
use Rattle.parity_text.specs.Spells.{SpellsHead, SpellsProblem, SpellsAnswer, SpellsChoice, SpellsProblemText, SpellsWith}
use Rattle.parity_text.specs.Spells.{SpellsAnswerText, SpellsChoiceText}
use Rattle.parity_text.specs.Texts.{head, problem, answer, choice}
use Rattle.parity_text.specs.Values.{AnswerValue}
use Rattle.parity_text.proofs.TextsMean.{Takes-head, Takes-problem, Takes-answer, Takes-choice}
use Rattle.text_forms.specs.Forms.{Form, of_text}
use Rattle.text_forms.specs.Reading.{◌>>=◌, give}
use Rattle.text_forms.specs.Spelling.{Takes}
use Rattle.text_forms.proofs.LinesTake.{whole_text-takes}
use Rattle.text_forms.proofs.Taking.{Takes-as, Takes-bind, Takes-give, Takes-made}

-- some problem's text, and behind it lines that spell a value by the problem
abbrev pub SpellsSomeWith : {A : Type 0} → (ℕ → ParityProblem → A → List Line → Type 0) → A → List Line → Type 0
SpellsSomeWith S x text = (q : ℕ) × (p : ParityProblem) × SpellsWith S q p x text

pub Takes-problem_and : {A : Type 0} (S : ℕ → ParityProblem → A → List Line → Type 0) (behind : ℕ → ParityProblem → Form A)
    → ((q : ℕ) (p : ParityProblem) → Takes (S q p) (behind q p))
    → Takes (SpellsSomeWith S) (problem_and behind)
Takes-problem_and S behind takes =
    Takes-as (problem_and behind)
    (Takes-bind SpellsHead (λ q x back. (p : ParityProblem) × (front : List Line) × (rest : List Line) × (back ≡ front ++ rest)
    × SpellsProblem q p front × S q p x rest) head
    (λ q. problem q >>= behind q) Takes-head
    (λ q. Takes-bind (SpellsProblem q) (S q) (problem q) (behind q) (Takes-problem q) (takes q)))
    (λ x text. (
      λ h. let more = h.5 in (
        h.0,
        more.0,
        record {
          problem = h.1 ++ more.1;
          rest = more.2;
          text_is = h.3 ∙ ap (λ (t : List Line). h.1 ++ t) more.3 ∙ sym (append_assoc h.1 more.1 more.2);
          spells_problem = record { head = h.1; problem = more.1; text_is = refl; spells_head = h.4; spells_problem = more.4 };
          spells_rest = more.5;
        },
      ),
      λ h. let w = h.2 in let t = w.spells_problem in (
        h.0,
        t.head,
        t.problem ++ w.rest,
        w.text_is ∙ ap (λ (front : List Line). front ++ w.rest) t.text_is ∙ append_assoc t.head t.problem w.rest,
        t.spells_head,
        (h.1, t.problem, w.rest, refl, t.spells_problem, w.spells_rest),
      ),
    ))

pub problem_file-means : (bytes : List ℕ) (q : ℕ) (p : ParityProblem)
    → (of_text problem_file bytes ≡ Ok ((q, p), [])) ↔ SpellsProblemText q p (lines_from 1 bytes)
unfolding problem_file
problem_file-means bytes q p =
    let S : ℕ → ParityProblem → ℕ × ParityProblem → List Line → Type 0 = λ q p x rest. (x ≡ (q, p)) × (rest ≡ []) in
    let takes = whole_text-takes (SpellsSomeWith S) (problem_and (λ q p. give (q, p)))
    (Takes-problem_and S (λ q p. give (q, p)) (λ q p. Takes-give (q, p))) bytes (q, p) in
    let text = lines_from 1 bytes in (
      λ e. let h = takes.0 e in let w = h.2 in
          subst (λ (x : ℕ × ParityProblem). SpellsProblemText x.0 x.1 text) (sym w.spells_rest.0)
          (subst (SpellsProblemText h.0 h.1)
          (sym (w.text_is ∙ ap (λ (t : List Line). w.problem ++ t) w.spells_rest.1 ∙ append-nil w.problem)) w.spells_problem),
      λ h. takes.1 (
        q,
        p,
        record {
          problem = text;
          rest = [];
          text_is = sym (append-nil text);
          spells_problem = h;
          spells_rest =
              (refl, refl);
        },
      ),
    )

-- a problem with a value behind it, which is given with the problem
with-means : {A : Type 0} (S : ℕ → ParityProblem → A → List Line → Type 0) (rest : ℕ → ParityProblem → Form A)
    → ((q : ℕ) (p : ParityProblem) → Takes (S q p) (rest q p))
    → (bytes : List ℕ) (q : ℕ) (p : ParityProblem) (x : A)
    → (of_text {A = (ℕ × ParityProblem) × A} (problem_with (λ q p. rest q p >>= λ y. give ((q, p), y))) bytes ≡ Ok (((q, p), x), []))
    ↔ SpellsWith S q p x (lines_from 1 bytes)
with-means {A} S rest takes bytes q p x =
    let R : ℕ → ParityProblem → (ℕ × ParityProblem) × A → List Line → Type 0 = λ q p z back. (y : A) × S q p y back × (z ≡ ((q, p), y)) in
    let form : Form ((ℕ × ParityProblem) × A) = problem_and (λ q p. rest q p >>= λ y. give ((q, p), y)) in
    let means = whole_text-takes (SpellsSomeWith R) form
    (Takes-problem_and R (λ q p. rest q p >>= λ y. give ((q, p), y))
    (λ q p. Takes-made (S q p) (λ y. ((q, p), y)) (rest q p) (takes q p))) bytes ((q, p), x) in (
      λ e. let h = means.0 e in let w = h.2 in
          subst (λ (z : (ℕ × ParityProblem) × A). SpellsWith S z.0.0 z.0.1 z.1 (lines_from 1 bytes)) (sym w.spells_rest.2)
          (record {
            problem = w.problem;
            rest = w.rest;
            text_is = w.text_is;
            spells_problem = w.spells_problem;
            spells_rest =
                w.spells_rest.1;
          }),
      λ h. means.1 (
        q,
        p,
        record {
          problem = h.problem;
          rest = h.rest;
          text_is = h.text_is;
          spells_problem = h.spells_problem;
          spells_rest =
              (x, h.spells_rest, refl);
        },
      ),
    )

pub answer_file-means : (bytes : List ℕ) (q : ℕ) (p : ParityProblem) (a : AnswerValue)
    → (of_text answer_file bytes ≡ Ok (((q, p), a), [])) ↔ SpellsAnswerText q p a (lines_from 1 bytes)
unfolding answer_file
answer_file-means = with-means (λ q p. SpellsAnswer q p.dimension (length p.lines)) (λ q p. answer q p.dimension (length p.lines))
    (λ q p. Takes-answer q p.dimension (length p.lines))

pub choice_file-means : (bytes : List ℕ) (q : ℕ) (p : ParityProblem) (chosen : List ℕ)
    → (of_text choice_file bytes ≡ Ok (((q, p), chosen), [])) ↔ SpellsChoiceText q p chosen (lines_from 1 bytes)
unfolding choice_file
choice_file-means = with-means (λ _ p. SpellsChoice (length p.lines)) (λ _ p. choice (length p.lines))
    (λ _ p. Takes-choice (length p.lines))
