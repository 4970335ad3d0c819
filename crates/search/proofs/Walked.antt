-- Walkers that begin.
use Rattle.std.proofs.Common.{◌≡◌, ℕ, ◌<◌, List, length, All, sym, ap, ◌∙◌, subst}
use Rattle.linear_algebra.specs.Scalars.{Scalars}
use Rattle.parity_lines.specs.Problems.{ParityProblem}
use Rattle.search.specs.Notes.{AreNotes}
use Rattle.search.specs.Repeats.{AreFirsts}
use Rattle.search.specs.Walkers.{IsReady}
use Rattle.search.specs.declared.walker.Walker.{Walker}

module _ {X : Type 0} (S : Scalars) where
  -- a new walker, of the first lines of the problem that its state is of
  pub starts_ready : (w : Walker X) (q : ParityProblem) (n : ℕ) (firsts : List ℕ) → q ≡ w.state.problem → n ≡ length q.lines → firsts ≡ w.firsts.items →
      ((S : Scalars) (p : ParityProblem) (M : List ℕ) → length p.lines ≡ n → AreNotes S p M w.notes) →
      AreFirsts (length q.lines) w.firsts.items → All (λ m. m < length firsts) w.order.items → IsReady S w
  starts_ready w q n firsts e k is notes f o =
      let h : AreFirsts (length w.state.problem.lines) w.firsts.items = subst (λ (p : ParityProblem). AreFirsts (length p.lines) w.firsts.items) e f in
      record {
        notes = notes S w.state.problem w.state.set (ap (λ (p : ParityProblem). length p.lines) (sym e) ∙ sym k);
        firsts = h;
        order = subst (λ k. All (λ m. m < k) w.order.items) (ap length is ∙ h.one_each) o;
      }
