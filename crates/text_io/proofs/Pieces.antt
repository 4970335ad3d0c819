-- Pieces that are read or written one after the other.
use Rattle.std.proofs.Common.{◌≡◌, ℕ, ◌+◌, ◌-◌, List, ◌++◌, take, drop, length, Option, arith}
use Rattle.std.proofs.KnownBytes.{Appends-trans, Consumes-trans}
use Rattle.std.proofs.Math.Seq.{take-add}
use Rattle.std.proofs.lemmas.Grind.{common_steps}
use Rattle.std.specs.Io.KnownBytes.{Appends, Consumes}
use Rattle.text_io.specs.Told.{LosesFront}

-- what went first, and what went then, stood at the front
pub loses_both : (old mid new : Option (List ℕ)) (x y : List ℕ) → Consumes old mid x → Consumes mid new y → LosesFront old new
loses_both old mid new x y p q = (x ++ y, Consumes-trans old mid new x y p q)

whole_rest : (bytes : List ℕ) (k : ℕ) → take (length bytes - k) (drop k bytes) ≡ drop k bytes
whole_rest bytes k = grind (arith, common_steps)

-- the first k bytes, and then n of the rest
pub next_piece : (old mid new : Option (List ℕ)) (bytes : List ℕ) (k n : ℕ) → Appends old mid (take k bytes) → Appends mid new (take n (take (length bytes - k) (drop k bytes)))
    → Appends old new (take (k + n) bytes)
next_piece old mid new bytes k n p q =
    rw (take-add k n bytes) (Appends-trans old mid new (take k bytes) (take n (drop k bytes)) p (rw whole_rest at q))
