-- A vector that isn't zero has a component at some line of a set that spans it.
use Rattle.std.proofs.Common.{◌≡◌, ◌≢◌, ℕ, ◌*◌, ◌<◌, ◌⊎◌, inl, inr, List, [], length, get_or, ap, sym, ◌∙◌, Bool, true, false}
use Rattle.std.proofs.lemmas.Bool.{false≢true}
use Rattle.linear_algebra.proofs.Coordinates.{space, tuple}
use Rattle.linear_algebra.proofs.Elements.{scalar_field}
use Rattle.linear_algebra.specs.Scalars.{IsField, Scalars}
use Rattle.linear_algebra.specs.Spans.{Combines}
use Rattle.linear_algebra.specs.Vectors.{IsVector, zero_vector}
use Rattle.matching_state.proofs.FoundSupports.{IsZeroAt}
use Rattle.matching_state.proofs.Ties.{combining, component_of_support, coordinates_vector, pairs, tuple_not_null}
use Rattle.matching_state.specs.Supports.{HasComponent}
use Rattle.parity_lines.proofs.Border.{tuples_at}
use Rattle.parity_lines.specs.LineSets.{IsIndependentSet}
use Rattle.parity_lines.specs.Problems.{IsProblem, ParityProblem, vectors_at}
use Rattle.parity_theory.proofs.Supports.{InSupport, SupportIn, gathered, support_in_or_not}
use Rattle.vector_spaces.proofs.Members.{In, decide_in}

module _ (S : Scalars) (F : IsField S) (p : ParityProblem) (P : IsProblem S p) (point M cs : List ℕ) (v : IsVector S p.dimension point)
    (z : point ≢ zero_vector S p.dimension) (a : IsIndependentSet S p M) (c : Combines S p.dimension (vectors_at p M) cs point) where
  pub point_component : (m : ℕ) × HasComponent S M cs m
  point_component = go (support_in_or_not (scalar_field S F) (λ m. In m []) (λ m. decide_in m []) (pairs S F cs) M)
    where
      coordinates_in : IsVector S (2 * length M) cs
      coordinates_in = coordinates_vector S F p P M cs point c

      go : SupportIn (scalar_field S F) (λ m. In m []) (pairs S F cs) M ⊎
          ((m : ℕ) × InSupport (scalar_field S F) m (pairs S F cs) M × ¬ (In m [])) → (m : ℕ) × HasComponent S M cs m
      go (inl k) = absurd (tuple_not_null S F p P point v z
          (sym (combining S F p P M cs a.line_set.within coordinates_in ∙ ap (tuple S F p.dimension) c.gives)
          ∙ gathered (space S F p.dimension) (tuples_at S F p) [] (pairs S F cs) M k))
      go (inr r) = (r.0, component_of_support S F p P M cs r.0 coordinates_in r.1)

-- a line whose window isn't zero, by the test that tells it
pub component_seen : (S : Scalars) (M cs : List ℕ) (i m : ℕ) (told : Bool) → i < length M → m ≡ get_or M i 0 → told ≡ false →
    (IsZeroAt S cs i → told ≡ true) → HasComponent S M cs m
component_seen S M cs i m told b e f h = record { index = i; within = b; line = sym e; not_zero = λ z. false≢true (sym f ∙ h z) }
