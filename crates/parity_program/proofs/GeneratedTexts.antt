-- The problem of a number is within the limits of a problem's text, and its text is accepted by `solve`.
use Rattle.std.proofs.Common.{◌≡◌, ℕ, ◌+◌, ◌-◌, ◌*◌, ◌/◌, ◌%◌, ◌^◌, ◌<◌, ◌≤◌, List, [], length, get_or, false, Ok, inl, inr, refl, ap, arith}
use Rattle.std.proofs.Math.Decide.{dec_lt}
use Rattle.std.proofs.Math.Nat.{mod-lt}
use Rattle.std.proofs.lemmas.Bool.{le-ltb}
use Rattle.std.proofs.lemmas.List.Elements.{All-from_get_or}
use Rattle.std.specs.Prelude.{nat_lt}
use Rattle.generator.specs.GeneratedProblems.{bit, IsBlockVector, IsGeneratedProblem}
use Rattle.generator.specs.Sequence.{answer}
use Rattle.line_lexer.specs.Lines.{lines}
use Rattle.line_lexer.specs.Seen.{most_bytes}
use Rattle.line_lexer.specs.Words.{spelled}
use Rattle.linear_algebra.specs.Scalars.{Scalars}
use Rattle.linear_algebra.specs.Vectors.{IsVector}
use Rattle.parity_lines.specs.Problems.{ParityProblem}
use Rattle.parity_program.specs.Inputs.{accepted, reading}
use Rattle.parity_program.specs.Inputs.Input.{posed}
use Rattle.parity_program.specs.declared.command.Command.TheVariants.{OfText}
use Rattle.parity_program.specs.declared.command.ProblemCommand.TheVariants.{Solve}
use Rattle.parity_program.specs.declared.command.TextCommand.TheVariants.{OverProblem}
use Rattle.parity_text.proofs.ReadAgain.{read_at}
use Rattle.parity_text.proofs.WrittenLengths.{problem_length}
use Rattle.parity_text.specs.Spelled.{problem_lines}
use Rattle.parity_text.specs.Values.{IsWithinLimits}
use Rattle.small_fields.specs.FieldName.{field_orders}
use Rattle.small_fields.specs.ScalarsOf.{scalars_of}
use Rattle.vector_spaces.proofs.Members.{contains-In}

abbrev two : Scalars
two = scalars_of 2

-- ---- vectors of bits

bit_below : (x position : ℕ) → bit x position < 2
bit_below x position = mod-lt (x / 2 ^ position) (omega arith)

entry_below : (b x : ℕ) (v : List ℕ) → IsBlockVector b x v → (c : ℕ) → c < length v → get_or v c 0 < 2
entry_below b x v h c within = in_hub (dec_lt c 4)
  where
    above : 4 ≤ c → Dec (c < 7 * b + 4) → Dec (c < 7 * b + 11) → get_or v c 0 < 2
    above far (yes before) after = let zero = h.elsewhere c far (inl before) in omega (arith, zero)
    above far (no before) (no after) = let zero = h.elsewhere c far (inr (omega (arith, after))) in omega (arith, zero)
    above far (no before) (yes after) =
        let j : ℕ = c - 7 * b in
        let place : 7 * b + j ≡ c = omega (arith, before) in
        let entry = h.block j (omega (arith, place, before)) (omega (arith, place, after)) in
        let small = bit_below x j in
        rw (← place) (rw (← entry) at small)

    in_hub : Dec (c < 4) → get_or v c 0 < 2
    in_hub (yes hub) = let entry = h.hub c hub in let small = bit_below x c in omega (arith, entry, small)
    in_hub (no far) = above (omega (arith, far)) (dec_lt c (7 * b + 4)) (dec_lt c (7 * b + 11))

block_vector : (b x : ℕ) (v : List ℕ) → IsBlockVector b x v → IsVector two 60 v
block_vector b x v h = record { length_is = h.long; entries = All-from_get_or (λ a. a < 2) v 0 (entry_below b x v h) }

-- ---- the problem

generated_within : (n : ℕ) (p : ParityProblem) → IsGeneratedProblem n p → IsWithinLimits two p
generated_within n p h =
    let dimension = h.dimension in
    let count = h.lines.count in
    record {
      order = contains-In field_orders 2 (inl refl);
      dimension = omega (arith, dimension);
      lines = omega (arith, count);
      vectors = All-from_get_or (λ l. IsVector two p.dimension l.0 × IsVector two p.dimension l.1) p.lines ([], [])
          (λ i within. pair i (omega (arith, count, within)));
    }
  where
    pair : (i : ℕ) → i < 150
        → IsVector two p.dimension (get_or p.lines i ([], [])).0 × IsVector two p.dimension (get_or p.lines i ([], [])).1
    pair i within = rw h.dimension (
      block_vector (i % 8) (answer n (2 * i)) _ (h.lines.first i within),
      block_vector (i % 8) (answer n (2 * i + 1)) _ (h.lines.second i within),
    )

-- ---- its text

read_text : (p : ParityProblem) → IsWithinLimits two p → reading (OfText (OverProblem Solve)) (spelled (problem_lines 2 p)) ≡ Ok (posed 2 p)
unfolding reading
read_text p within =
    let text : List ℕ = spelled (problem_lines 2 p) in
    let short = problem_length two p within in
    let few : nat_lt most_bytes (length text) ≡ false = le-ltb most_bytes (length text) (omega (arith, short)) in
    rw few (ap accepted (read_at two p within posed (length (lines text)) 1))

pub generated_solvable : (n : ℕ) (p : ParityProblem) → IsGeneratedProblem n p
    → reading (OfText (OverProblem Solve)) (spelled (problem_lines 2 p)) ≡ Ok (posed 2 p)
generated_solvable n p h = read_text p (generated_within n p h)
