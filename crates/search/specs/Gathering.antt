-- What is kept of the vectors of a part, of one width.
use Rattle.std.specs.Prelude.{◌≡◌, ℕ, length}
use Rattle.search.specs.declared.kernel.Gathering.{Gathering}

-- all are of one width, and one vector is kept for each residue
pub record Fits {X : Type 0} (g : Gathering X) (width : ℕ) : Type 0 where
  pub residues : g.residues.width ≡ width
  pub taken : g.taken.width ≡ width
  pub found : g.found.width ≡ width
  pub kernel : g.kernel.width ≡ width
  pub one_each : length g.taken.rows ≡ length g.residues.rows
