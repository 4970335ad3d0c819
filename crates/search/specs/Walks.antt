-- What a walk keeps.
use Rattle.std.specs.Prelude.{ℕ, ◌<◌, All}
use Rattle.search.specs.declared.walking.Taken.{Taken}
use Rattle.search.specs.declared.walking.Trail.{Trail}
use Rattle.search.specs.declared.walking.Useful.{Useful}

-- the lines that were exchanged are below n
abbrev pub IsTrail : ℕ → Trail → Type 0
IsTrail n trail = All (λ (t : Taken). t.out < n) trail.taken.items

-- a place in an order of so many lines, and the index of one of so many lines of a set
abbrev pub IsPlaceIn : ℕ → ℕ → Useful → Type 0
IsPlaceIn order set u = (u.at < order) × (u.index < set)
