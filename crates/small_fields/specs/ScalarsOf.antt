-- The scalars of a field, by the order of the field.
use Rattle.std.specs.Prelude.{ℕ, ◌+◌, ◌*◌, ◌%◌, ◌==◌, if◌then◌else◌}
use Rattle.std.specs.Int.Bits.{bit_xor}
use Rattle.linear_algebra.specs.Scalars.{Scalars}
use Rattle.small_fields.specs.Bytes.{byte_product}

-- the scalars of the field of q elements: for 256, sums are exclusive or and products are those of bytes as polynomials; for any other q, both are taken modulo q
abbrev pub scalars_of : ℕ → Scalars
scalars_of q = record {
  order = q;
  zero = 0;
  one = 1;
  sum = λ a b. if q == 256 then bit_xor a b else (a + b) % q;
  product = λ a b. if q == 256 then byte_product a b else (a * b) % q;
}
