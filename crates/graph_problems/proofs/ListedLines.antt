-- Problems whose lines are those of the members of a list, in order.
use Rattle.std.proofs.Common.{◌≡◌, ℕ, ◌+◌, ◌<◌, List, [], ◌∷◌, ◌++◌, length, take, get_or, map, ap, ap₂, sym, ◌∙◌, subst}
use Rattle.std.proofs.lemmas.List.{length-map, get_or-map, map-append, take_more}
use Rattle.std.proofs.lemmas.List.Elements.{All-map}
use Rattle.vector_spaces.proofs.Members.{In, In-get_or, all-In}
use Rattle.linear_algebra.specs.Scalars.{Scalars}
use Rattle.linear_algebra.specs.Vectors.{IsVector}
use Rattle.parity_lines.specs.Problems.{ParityProblem, IsProblem, line_at}
use Rattle.graph_theory.specs.Counts.{InRange}
use Rattle.graph_theory.specs.Walks.{edge_at}
use Rattle.graph_theory.proofs.Shuffles.{range_in}

module _ {X : Type 0} (p : ParityProblem) (line : X → List ℕ × List ℕ) (xs : List X) (lines : p.lines ≡ map line xs) where
  pub as_many : length p.lines ≡ length xs
  as_many = ap length lines ∙ length-map xs line

  pub line_of : (i : ℕ) (x : X) → i < length p.lines → line_at p i ≡ line (get_or xs i x)
  line_of i x l = ap (λ z. get_or z i ([], [])) lines ∙ get_or-map line xs i x ([], []) (subst (λ z. i < z) as_many l)

pub listed_problem : {X : Type 0} (S : Scalars) (d : ℕ) (line : X → List ℕ × List ℕ) (xs : List X)
    → ((x : X) → In x xs → IsVector S d (line x).0 × IsVector S d (line x).1) → IsProblem S (record { dimension = d; lines = map line xs })
listed_problem S d line xs h = All-map (λ (l : List ℕ × List ℕ). IsVector S d l.0 × IsVector S d l.1) line xs (all-In _ xs h)

-- the line of one member more
pub one_line_more : {X : Type 0} (d : ℕ) (line : X → List ℕ × List ℕ) (xs : List X) (i : ℕ) (x : X) (p q : ParityProblem) (new : List ℕ × List ℕ)
    → i < length xs → p ≡ record { dimension = d; lines = map line (take i xs) } → q ≡ record p { lines = p.lines ++ new ∷ [] }
    → new ≡ line (get_or xs i x) → q ≡ record { dimension = d; lines = map line (take (i + 1) xs) }
one_line_more d line xs i x p q new l h k e = k ∙ ap₂ (λ (r : ParityProblem) n. record r { lines = r.lines ++ n ∷ [] }) h e
    ∙ ap (λ ls. record { dimension = d; lines = ls }) (sym (ap (map line) (take_more xs i x l) ∙ map-append line (take i xs) (get_or xs i x ∷ [])))

-- the ends of an edge are vertices
pub ends_below : (n : ℕ) (E : List (ℕ × ℕ)) → InRange n E → (i : ℕ) → i < length E → ((edge_at E i).0 < n) × ((edge_at E i).1 < n)
ends_below n E r i l = range_in n E r (edge_at E i) (In-get_or E i (0, 0) l)
