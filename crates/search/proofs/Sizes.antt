-- States of sets of one size, and what goes along with them.
use Rattle.std.proofs.Common.{◌≡◌, ℕ, ◌<◌, List, [], ◌∷◌, ◌++◌, length, All, refl, sym, ◌∙◌, subst}
use Rattle.std.proofs.lemmas.List.Elements.{All-push, All-weaker}
use Rattle.linear_algebra.specs.Scalars.{Scalars}
use Rattle.matching_state.proofs.StepSets.{swap_of}
use Rattle.matching_state.specs.Chosen.{Chosen}
use Rattle.matching_state.specs.DirectSteps.{IsSwap}
use Rattle.parity_lines.specs.LineSets.{IsIndependentSet}
use Rattle.parity_lines.specs.Problems.{ParityProblem}
use Rattle.search.specs.Found.{IsAsLargeAs, KeepsSize}
use Rattle.search.specs.Notes.{AreNotes, AreOf}
use Rattle.search.specs.Walks.{IsTrail}
use Rattle.search.specs.declared.notes.Notes.{Notes}
use Rattle.search.specs.declared.walking.Trail.{Trail}

pub keeps_itself : (s : Chosen) → KeepsSize s s
keeps_itself s = record { problem = refl; size = refl }

pub keeps_on : (s t u : Chosen) → KeepsSize s t → KeepsSize t u → KeepsSize s u
keeps_on s t u a b = record { problem = b.problem ∙ a.problem; size = b.size ∙ a.size }

-- an exchange
pub keeps_exchanged : (S : Scalars) (s t : Chosen) (m e : ℕ) → t.problem ≡ s.problem → IsIndependentSet S s.problem s.set →
    IsIndependentSet S t.problem t.set → IsSwap s.set m e t.set → KeepsSize s t
keeps_exchanged S s t m e p i j k = record {
  problem = p;
  size = (swap_of s.set t.set m e i.line_set.increasing j.line_set.increasing k).same_length;
}

pub as_large_along : (S : Scalars) (p q : ParityProblem) (M N : List ℕ) → q ≡ p → length N ≡ length M → (L : List ℕ) → IsAsLargeAs S p M L → IsAsLargeAs S q N L
as_large_along S p q M N e k L h = (subst (λ p. IsIndependentSet S p L) (sym e) h.0, h.1 ∙ sym k)

-- the set itself is put last
pub set_noted : (S : Scalars) (p : ParityProblem) (M L : List ℕ) (Ls Ks : List (List ℕ)) → Ks ≡ Ls ++ L ∷ [] → L ≡ M → IsIndependentSet S p M →
    All (IsAsLargeAs S p M) Ls → All (IsAsLargeAs S p M) Ks
set_noted S p M L Ls Ks e k i h = subst (All (IsAsLargeAs S p M)) (sym e)
    (All-push (IsAsLargeAs S p M) Ls L h (subst (IsAsLargeAs S p M) (sym k) (i, refl)))

-- notes
pub notes_along : (S : Scalars) (p q : ParityProblem) (M N : List ℕ) (notes : Notes) → q ≡ p → length N ≡ length M → AreNotes S p M notes → AreNotes S q N notes
notes_along S p q M N notes e k h = record {
  labels = subst (λ (p : ParityProblem). AreOf (length p.lines) notes.labels) (sym e) h.labels;
  sets = All-weaker (IsAsLargeAs S p M) (IsAsLargeAs S q N) (as_large_along S p q M N e k) notes.sets.items h.sets;
}

pub notes_kept : (S : Scalars) (s t : Chosen) (notes : Notes) → KeepsSize s t → AreNotes S s.problem s.set notes → AreNotes S t.problem t.set notes
notes_kept S s t notes k h = notes_along S s.problem t.problem s.set t.set notes k.problem k.size h

pub order_kept : (s t : Chosen) (order : List ℕ) → KeepsSize s t → All (λ m. m < length s.problem.lines) order → All (λ m. m < length t.problem.lines) order
order_kept s t order k h = subst (λ (p : ParityProblem). All (λ m. m < length p.lines) order) (sym k.problem) h

pub trail_kept : (s t : Chosen) (trail : Trail) → KeepsSize s t → IsTrail (length s.problem.lines) trail → IsTrail (length t.problem.lines) trail
trail_kept s t trail k h = subst (λ (p : ParityProblem). IsTrail (length p.lines) trail) (sym k.problem) h
