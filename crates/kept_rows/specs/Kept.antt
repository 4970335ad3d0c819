-- Rows that are kept plain, or as bits where there are two scalars.
use Rattle.std.specs.Prelude.{◌≡◌, ◌≢◌, ℕ, ◌<◌, ◌==◌, List, All, map, if◌then◌else◌}
use Rattle.linear_algebra.specs.Scalars.{Scalars}
use Rattle.kept_rows.specs.declared.kept.Kept.{Kept}
use Rattle.kept_rows.specs.declared.kept.Kept.TheVariants.{Plain as LentPlain, Packed as LentPacked}
use Rattle.kept_rows.specs.declared.kept.Entries.{Entries}
use Rattle.kept_rows.specs.declared.kept.Entries.TheVariants.{Plain, Packed}

-- the scalar that a bit stands for
abbrev pub scalar_of : Scalars → ℕ → ℕ
scalar_of S b = if b == 1 then S.one else S.zero

-- the scalars that bits stand for
abbrev pub unpacked : Scalars → List ℕ → List ℕ
unpacked S bits = map (scalar_of S) bits

-- the scalars of a row
abbrev pub scalars_kept : {X : Type 0} → Scalars → Entries X → List ℕ
scalars_kept S (Plain row) = row
scalars_kept S (Packed bits) = unpacked S bits

-- a row is packed exactly where the order is 2, and then each of its elements is a bit
abbrev pub IsPackedForTwo : {X : Type 0} → ℕ → Entries X → Type 0
IsPackedForTwo order (Plain row) = order ≢ 2
IsPackedForTwo order (Packed bits) = (order ≡ 2) × All (λ b. b < 2) bits

-- the row v is lent: packed exactly where the order is 2
abbrev pub Lends : {X : Type 0} → ℕ → Scalars → List ℕ → Kept X → Type 0
Lends order S v (LentPlain row) = (order ≢ 2) × (row.now ≡ v)
Lends order S v (LentPacked bits) = (order ≡ 2) × (unpacked S bits.now ≡ v)
