-- A list in which an element is carried to another place.
use Rattle.std.specs.Prelude.{ℕ, List, ◌++◌, take, drop}
use Rattle.std.specs.List.{remove}

-- the element at `from` is taken out, and put in so that it stands at `to`
abbrev pub carried : {X : Type 0} → List X → ℕ → ℕ → List X
carried xs from to = take to (remove xs from) ++ take 1 (drop from xs) ++ drop to (remove xs from)
