-- The table of a family's members up to one, by the table before it and the directions over it.
use Rattle.std.proofs.Common.{◌≡◌, ℕ, ◌+◌, ◌<◌, inl, inr, List, [], ◌∷◌, ◌++◌, length, get_or, take, sym, ap, ◌∙◌, subst, arith}
use Rattle.std.proofs.lemmas.List.{length-take-le, take_more}
use Rattle.vector_spaces.proofs.Members.{In-append}
use Rattle.linear_algebra.specs.Scalars.{Scalars, IsField}
use Rattle.linear_algebra.specs.Vectors.{IsVector}
use Rattle.linear_algebra.proofs.Coordinates.{space}
use Rattle.parity_lines.proofs.Border.{tuples_at}
use Rattle.parity_lines.proofs.LinePairs.{line_at_vectors}
use Rattle.parity_lines.specs.LineSets.{IsIndependentSet}
use Rattle.parity_lines.specs.Problems.{ParityProblem, IsProblem, line_at}
use Rattle.parity_theory.proofs.Lines.{IsFree}
use Rattle.classes.proofs.DirectionLaws.{not_free, not_wide, wide_of_apart}
use Rattle.classes.proofs.TableLaws.{AreNextRows, next_tells}
use Rattle.classes.specs.Directions.{AreDirections}
use Rattle.classes.specs.Tables.{IsSquare, IsTableOf, Separators, TellLive, separator_at}
use Rattle.classes.specs.declared.direction.Direction.{Direction}
use Rattle.classes.specs.declared.direction.Direction.TheVariants.{Inside}

module _ (S : Scalars) (F : IsField S) (p : ParityProblem) (P : IsProblem S p) (M : List ℕ) (i : IsIndependentSet S p M) {X : Type 0}
    (ds : List (Direction X)) (a : AreDirections S F p M (length p.lines) ds) (t after : Separators) (square : IsSquare t)
    (live : after.live ≡ t.live) where
  abbrev at : ℕ → Direction X
  at e = get_or ds e Inside

  pair : (e : ℕ) → e < length p.lines → IsVector S p.dimension (line_at p e).0 × IsVector S p.dimension (line_at p e).1
  pair e h = line_at_vectors S p e P h

  pub table_step : (sets : List (List ℕ)) → IsTableOf S F p sets t → AreNextRows ds (length sets) t.rows (length t.rows) after.rows →
      IsTableOf S F p (sets ++ M ∷ []) after
  table_step sets h rows = record {
    lives = subst (TellLive (space S F p.dimension) (tuples_at S F p) (length p.lines)) (sym live) h.lives;
    not_free = λ N j. elim (In-append N sets (M ∷ []) j) [
      | inl k ↦ h.not_free N k
      | inr k ↦ elim k [
        | inl e ↦ subst (λ L. (e : ℕ) → e < length p.lines → ¬ (IsFree (space S F p.dimension) (tuples_at S F p) L e)) (sym e)
            (λ e b. not_free S F p P M i e (at e) (pair e b) (a.each e Inside b))
        | inr o ↦ absurd o
      ]
    ];
    tells = λ e g b c.
        let n = h.lives.long in
        let m = square.long in
        let row : e < length t.rows = omega arith in
        let wide = square.wide e [] row in
        next_tells (space S F p.dimension) (tuples_at S F p) sets M e g (at e) (at g)
        (wide_of_apart S F p P M i e g (pair e b) (pair g c) (at e) (at g) (a.each e Inside b) (a.each g Inside c))
        (not_wide S F p P M i e g (pair e b) (pair g c) (at e) (at g) (a.each e Inside b) (a.each g Inside c))
        (separator_at t e g) (separator_at after e g) (h.tells e g b c) ((rows.each e row).each g Inside Inside (omega arith));
  }

  -- so for the members up to one
  pub table_up_to : (sets : List (List ℕ)) (m : ℕ) → m < length sets → M ≡ get_or sets m [] → IsTableOf S F p (take m sets) t →
      AreNextRows ds m t.rows (length t.rows) after.rows → IsTableOf S F p (take (m + 1) sets) after
  table_up_to sets m b is h rows =
      let l : m ≡ length (take m sets) = sym (length-take-le m sets (omega arith)) in
      subst (λ L. IsTableOf S F p L after) (sym (take_more sets m [] b ∙ ap (λ N. take m sets ++ N ∷ []) (sym is)))
      (table_step (take m sets) h (subst (λ k. AreNextRows ds k t.rows (length t.rows) after.rows) l rows))
