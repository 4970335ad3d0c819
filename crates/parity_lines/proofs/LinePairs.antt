-- The pairs of vectors that the lines of a problem are seen as.
use Rattle.std.proofs.Common.{◌≡◌, ℕ, ◌<◌, List, [], ◌∷◌, ◌++◌, length, get_or, sym, ap, ◌∙◌, subst, All}
use Rattle.std.proofs.lemmas.List.{length-map, map-append, get_or-map}
use Rattle.std.proofs.lemmas.List.Elements.{All-push, All-get_or}
use Rattle.linear_algebra.specs.Scalars.{Scalars}
use Rattle.linear_algebra.specs.Vectors.{IsVector}
use Rattle.parity_lines.specs.Problems.{ParityProblem, IsProblem, line_at}
use Rattle.parity_lines.specs.Shown.{pairs_of}
use Rattle.parity_lines.specs.declared.problem.Line.{Line}

-- both are vectors
abbrev pub IsPair : Scalars → ℕ → List ℕ × List ℕ → Type 0
IsPair S d line = IsVector S d line.0 × IsVector S d line.1

pub line_at_vectors : (S : Scalars) (p : ParityProblem) (m : ℕ) → IsProblem S p → m < length p.lines → IsPair S p.dimension (line_at p m)
line_at_vectors S p m P h = All-get_or (IsPair S p.dimension) p.lines m ([], []) h P

module _ {X : Type 0} where
  pub pairs_of-push : (S : Scalars) (d : ℕ) (lines new : List (Line X)) (line : Line X) → new ≡ lines ++ line ∷ [] → All (IsPair S d) (pairs_of lines) → IsPair S d (line.first, line.second) → All (IsPair S d) (pairs_of new)
  pairs_of-push S d lines new line e h k =
      subst (All (IsPair S d)) (sym (ap pairs_of e ∙ map-append (λ (l : Line X). (l.first, l.second)) lines (line ∷ [])))
      (All-push (IsPair S d) (pairs_of lines) (line.first, line.second) h k)

  pub pair_at : (lines : List (Line X)) (m : ℕ) (line : Line X) → m < length lines → line ≡ get_or lines m line → (line.first, line.second) ≡ get_or (pairs_of lines) m ([], [])
  pair_at lines m line h e = ap (λ (l : Line X). (l.first, l.second)) e ∙ sym (get_or-map (λ (l : Line X). (l.first, l.second)) lines m line ([], []) h)

  pub pairs_long : (lines : List (Line X)) → length (pairs_of lines) ≡ length lines
  pairs_long lines = length-map lines (λ (l : Line X). (l.first, l.second))
