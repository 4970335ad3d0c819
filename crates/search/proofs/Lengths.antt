-- How long vectors are.
use Rattle.std.proofs.Common.{◌≡◌, ℕ, List, length, sym, ap, ◌∙◌}
use Rattle.std.proofs.lemmas.List.{length-map}
use Rattle.field_core.proofs.Loops.{length-vector_sum}
use Rattle.linear_algebra.specs.Scalars.{Scalars}
use Rattle.linear_algebra.specs.Vectors.{multiple, vector_sum}

-- a vector with a multiple of another added stays as long
pub added_long : (S : Scalars) (left row after : List ℕ) (c n : ℕ) → after ≡ vector_sum S left (multiple S c row) → length left ≡ n →
    length row ≡ n → length after ≡ n
added_long S left row after c n e l r =
    ap length e ∙ length-vector_sum S left (multiple S c row) (l ∙ sym (length-map row (S.product c) ∙ r)) ∙ l
