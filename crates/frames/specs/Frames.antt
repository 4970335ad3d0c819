-- A basis of the vectors of one length, and lists of coordinates over it.
use Rattle.std.specs.Prelude.{◌≡◌, ℕ, ◌<◌, List, [], length, slice_index_or}
use Rattle.coordinates.specs.Bases.{IsBasis}
use Rattle.linear_algebra.specs.Scalars.{Scalars}
use Rattle.linear_algebra.specs.Spans.{Combines}
use Rattle.linear_algebra.specs.Vectors.{AreVectors}

pub record Framed : Type 0 where
  pub width : ℕ
  pub basis : List (List ℕ)
  pub kept : List (List ℕ)

pub record IsFrame (S : Scalars) (f : Framed) : Type 0 where
  pub is_basis : IsBasis S f.width f.basis
  pub lists : AreVectors S f.width f.kept

-- the list that is kept at a place
abbrev pub kept_at : Framed → ℕ → List ℕ
kept_at f t = slice_index_or f.kept t []

-- as many lists, and each combines the new basis to the vector to which it combined the old one
pub record KeepsVectors (S : Scalars) (before after : Framed) : Type 0 where
  pub width : after.width ≡ before.width
  pub many : length after.kept ≡ length before.kept
  pub same : (t : ℕ) (x : List ℕ) → t < length before.kept → Combines S before.width before.basis (kept_at before t) x →
      Combines S after.width after.basis (kept_at after t) x
