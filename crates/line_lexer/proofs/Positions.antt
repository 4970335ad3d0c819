-- Where the first element stands that passes a test, or the length.
use Rattle.std.proofs.Common.{◌≡◌, ◌≤◌, List, length, Bool, not, arith}
use Rattle.std.specs.Prelude.{unwrap_or, position}
use Rattle.std.specs.List.{position_or_len}
use Rattle.std.proofs.lemmas.Grind.{common_steps}
use Rattle.std.proofs.lemmas.List.Sums.{prefix_len-le-length}

pub position_or_len_within : {X : Type 0} (p : X → Bool) (xs : List X) → position_or_len p xs ≤ length xs
position_or_len_within p xs = prefix_len-le-length (λ x. not (p x)) xs

pub unwrap_or_position : {X : Type 0} (p : X → Bool) (xs : List X) → unwrap_or (position p xs) (length xs) ≡ position_or_len p xs
unwrap_or_position {X} p xs = grind (arith, common_steps, position_or_len_within {X = X} p xs)
