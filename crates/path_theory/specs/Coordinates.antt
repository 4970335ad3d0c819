-- The coordinates of vertices: one for a terminal, two for another vertex, by vertex number.
use Rattle.std.specs.Prelude.{ℕ, zero, suc, Bool, true, false}

-- one coordinate more for a terminal, two for another vertex
abbrev pub wider : Bool → ℕ → ℕ
wider true d = suc d
wider false d = suc (suc d)

-- the coordinates of the vertices below n
abbrev pub dimension : ℕ → (ℕ → Bool) → ℕ
dimension zero P = zero
dimension (suc n) P = wider (P zero) (dimension n (λ v. P (suc v)))
