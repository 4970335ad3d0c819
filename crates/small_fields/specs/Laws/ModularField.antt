-- The laws of a field, modulo a prime.
use Rattle.std.specs.Prelude.{◌≡◌, ℕ, ◌+◌, ◌-◌, ◌*◌, ◌%◌, ◌<◌}
use Rattle.std.proofs.Common.{sym, ◌∙◌, ap, arith}
use Rattle.std.proofs.Math.Nat.{add-mod-mod, mod-add-mod, mul_comm, mul_assoc, mul-add, mod-eq_of_lt, mod_self, mul-one, add-zero, add_comm, add_assoc, mod-lt}
use Rattle.std.proofs.lemmas.Nat.{mul-mod_first, mul-mod_second}
use Rattle.linear_algebra.specs.Scalars.{IsField}
use Rattle.small_fields.specs.Modular.{modulo}
use Rattle.small_fields.specs.Prime.{IsPrime}
use Rattle.small_fields.specs.Laws.Inverses.{inverse_of}

-- the numbers modulo a prime meet the laws of a field
pub modular_field : (q : ℕ) → IsPrime q → IsField (modulo q)
modular_field q prime =
    let big : 1 < q = prime.above_one in
    let some : 0 < q = omega arith in
    record {
      zero_in = some;
      one_in = big;
      sum_in = λ a b p r. mod-lt (a + b) some;
      product_in = λ a b p r. mod-lt (a * b) some;
      sum_comm = λ a b p r. ap (λ n. n % q) (add_comm a b);
      sum_assoc = λ a b c p r s. mod-add-mod (a + b) q c ∙ ap (λ n. n % q) (add_assoc a b c) ∙ sym (add-mod-mod a (b + c) q);
      sum-zero = λ a p. ap (λ n. n % q) (add-zero a) ∙ mod-eq_of_lt p;
      negative = λ a p. ((q - a) % q, mod-lt (q - a) some, add-mod-mod a (q - a) q ∙ ap (λ n. n % q) (let e : a + (q - a) ≡ q = omega arith in e) ∙ mod_self q);
      product_comm = λ a b p r. ap (λ n. n % q) (mul_comm a b);
      product_assoc = λ a b c p r s. mul-mod_first (a * b) c q ∙ ap (λ n. n % q) (mul_assoc a b c) ∙ sym (mul-mod_second a (b * c) q);
      product-one = λ a p. ap (λ n. n % q) (mul-one a) ∙ mod-eq_of_lt p;
      product-sum = λ a b c p r s. mul-mod_second a (b + c) q ∙ ap (λ n. n % q) (mul-add a b c) ∙ sym (mod-add-mod (a * b) q ((a * c) % q) ∙ add-mod-mod (a * b) (a * c) q);
      inverse = λ a p n. let i = inverse_of q a prime (omega arith) p in (i.0, i.1.small, ap (λ t. t % q) (mul_comm a i.0) ∙ i.1.leaves);
      one≢zero = λ e. absurd (omega (arith, e));
    }
