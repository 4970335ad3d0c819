-- The vectors of the first lines of a set, with those of one line more.
use Rattle.std.proofs.Common.{◌≡◌, ℕ, ◌+◌, ◌<◌, List, [], ◌∷◌, ◌++◌, length, take, get_or, sym, ap, ap₂, ◌∙◌}
use Rattle.std.proofs.lemmas.List.{take_more}
use Rattle.field_core.specs.Matrix.{Matrix}
use Rattle.parity_lines.proofs.Growth.{vectors_at-push}
use Rattle.parity_lines.specs.Problems.{ParityProblem, line_at, vectors_at}

-- what the loop over the lines of a set has
abbrev pub lines_taken : ParityProblem → List ℕ → Matrix
lines_taken p lines = record { width = p.dimension; rows = vectors_at p lines }

pub no_line_taken : (p : ParityProblem) (m : Matrix) (d : ℕ) → d ≡ p.dimension → m ≡ record { width = d; rows = [] } → m ≡ lines_taken p []
unfolding vectors_at
no_line_taken p m d w e = e ∙ ap (λ n. let m : Matrix = record { width = n; rows = [] } in m) w

pub line_taken : (p : ParityProblem) (set : List ℕ) (i m : ℕ) (u v : List ℕ) (before mid after : Matrix) → i < length set → m ≡ get_or set i 0 →
    u ≡ (line_at p m).0 → v ≡ (line_at p m).1 → before ≡ lines_taken p (take i set) → mid ≡ record before { rows = before.rows ++ u ∷ [] } →
    after ≡ record mid { rows = mid.rows ++ v ∷ [] } → after ≡ lines_taken p (take (i + 1) set)
line_taken p set i m u v before mid after h at first second e e' e'' =
    let vs : List (List ℕ) = vectors_at p (take i set) in
    let lines : vectors_at p (take (i + 1) set) ≡ (vs ++ u ∷ []) ++ v ∷ [] =
    ap (vectors_at p) (take_more set i 0 h ∙ ap (λ k. take i set ++ k ∷ []) (sym at)) ∙ vectors_at-push p (take i set) m
    ∙ ap₂ (λ x y. (vs ++ x ∷ []) ++ y ∷ []) (sym first) (sym second) in
    cc
