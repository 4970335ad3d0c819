-- A line more of the problem of a number.
use Rattle.std.proofs.Common.{◌≡◌, ℕ, suc, ◌+◌, ◌*◌, ◌/◌, ◌%◌, ◌<◌, List, [], ◌∷◌, ◌++◌, length, get_or, sym, ◌∙◌, ap, subst, refl, arith, add-one}
use Rattle.std.proofs.Math.Decide.{ℕ_discrete}
use Rattle.std.proofs.Math.ListN.{get_or-append}
use Rattle.std.proofs.Math.Seq.{get_or-append_seam}
use Rattle.std.proofs.lemmas.List.{length-append}
use Rattle.generator.specs.GeneratedProblems.{HasGeneratedLines, IsBlockVector}
use Rattle.generator.specs.Sequence.{answer, following, state_after}
use Rattle.generator.specs.TakenLines.{TakesLine}
use Rattle.parity_lines.specs.Problems.{ParityProblem}

pub two_states_on : (n k : ℕ) → state_after n (2 * suc k) ≡ following (following (state_after n (2 * k)))
unfolding state_after
two_states_on n k = let e : 2 * suc k ≡ suc (suc (2 * k)) = omega arith in rw e refl

pub first_answer : (n k : ℕ) → answer n (2 * k) ≡ following (state_after n (2 * k)) / 65536
unfolding state_after
first_answer n k = refl

pub second_answer : (n k : ℕ) → answer n (2 * k + 1) ≡ following (following (state_after n (2 * k))) / 65536
unfolding state_after
second_answer n k = rw add-one refl

-- the lines after one more
pub one_line_more : (n k x y : ℕ) (before after : ParityProblem) → x ≡ state_after n (2 * k) → HasGeneratedLines n k before.lines → TakesLine (k % 8) x y before after
    → (y ≡ state_after n (2 * suc k)) × (after.dimension ≡ before.dimension) × HasGeneratedLines n (suc k) after.lines
one_line_more n k x y before after s h t = (
  t.state ∙ ap (λ z. following (following z)) s ∙ sym (two_states_on n k),
  ap (λ (p : ParityProblem). p.dimension) t.is,
  subst (HasGeneratedLines n (suc k)) (sym (ap (λ (p : ParityProblem). p.lines) t.is)) more,
)
  where
    at_new : (i : ℕ) → i ≡ k → get_or (before.lines ++ (t.first, t.second) ∷ []) i ([], []) ≡ (t.first, t.second)
    at_new i e = ap (λ j. get_or (before.lines ++ (t.first, t.second) ∷ []) j ([], [])) (e ∙ sym h.count) ∙ get_or-append_seam before.lines (t.first, t.second) [] ([], [])

    at_old : (i : ℕ) → i < k → get_or (before.lines ++ (t.first, t.second) ∷ []) i ([], []) ≡ get_or before.lines i ([], [])
    at_old i l = let c = h.count in get_or-append before.lines ((t.first, t.second) ∷ []) ([], []) i (omega arith)

    first_new : IsBlockVector (k % 8) (answer n (2 * k)) t.first
    first_new = subst (λ z. IsBlockVector (k % 8) z t.first) (ap (λ z. following z / 65536) s ∙ sym (first_answer n k)) t.first_is

    second_new : IsBlockVector (k % 8) (answer n (2 * k + 1)) t.second
    second_new = subst (λ z. IsBlockVector (k % 8) z t.second) (ap (λ z. following (following z) / 65536) s ∙ sym (second_answer n k)) t.second_is

    first : (i : ℕ) → i < suc k → Dec (i ≡ k) → IsBlockVector (i % 8) (answer n (2 * i)) (get_or (before.lines ++ (t.first, t.second) ∷ []) i ([], [])).0
    first i l (yes e) = rw (at_new i e) (subst (λ j. IsBlockVector (j % 8) (answer n (2 * j)) t.first) (sym e) first_new)
    first i l (no d) = let b : i < k = omega arith in rw (at_old i b) (h.first i b)

    second : (i : ℕ) → i < suc k → Dec (i ≡ k) → IsBlockVector (i % 8) (answer n (2 * i + 1)) (get_or (before.lines ++ (t.first, t.second) ∷ []) i ([], [])).1
    second i l (yes e) = rw (at_new i e) (subst (λ j. IsBlockVector (j % 8) (answer n (2 * j + 1)) t.second) (sym e) second_new)
    second i l (no d) = let b : i < k = omega arith in rw (at_old i b) (h.second i b)

    more : HasGeneratedLines n (suc k) (before.lines ++ (t.first, t.second) ∷ [])
    more = record {
      count = length-append before.lines ((t.first, t.second) ∷ []) ∙ (let c = h.count in omega arith);
      first = λ i l. first i l (ℕ_discrete i k);
      second = λ i l. second i l (ℕ_discrete i k);
    }

pub no_lines : (n : ℕ) (lines : List (List ℕ × List ℕ)) → lines ≡ [] → HasGeneratedLines n 0 lines
no_lines n lines e = record { count = ap length e; first = λ i l. absurd (omega arith); second = λ i l. absurd (omega arith) }
