-- Inverses modulo a prime. While f times a leaves r modulo q, minus (q / r) * f times a leaves q % r, which is smaller, and not zero where q is prime: so in the end some factor leaves one.
use Rattle.std.specs.Prelude.{◌≡◌, ◌≢◌, ℕ, ◌+◌, ◌-◌, ◌*◌, ◌/◌, ◌%◌, ◌<◌, ◌≤◌}
use Rattle.std.proofs.Common.{zero, suc, sym, ◌∙◌, ap, arith, inl, inr, one-mul}
use Rattle.std.proofs.Math.Nat.{add-mod-mod, mod-add-mod, mul_assoc, add-mul, mod-eq_of_lt, mul-mod_right, mod-lt, mod-eq-sub-mod, div-add-mod'}
use Rattle.std.proofs.lemmas.Bool.{cases_lt, cases_eq}
use Rattle.std.proofs.lemmas.Nat.{mul-mod_first, mul-mod_second}
use Rattle.small_fields.specs.Prime.{IsPrime}

-- f times a leaves r modulo q
abbrev pub Leaves : ℕ → ℕ → ℕ → ℕ → Type 0
Leaves q a f r = (f * a) % q ≡ r

-- minus k times f, modulo q
abbrev pub next_factor : ℕ → ℕ → ℕ → ℕ
next_factor q k f = q - (k * f) % q

-- a number below q that has, with p, a multiple of q as its sum, has q as that sum, where p is above zero and at most q
rest_of : (q u p : ℕ) → u < q → 0 < p → p ≤ q → (u + p) % q ≡ 0 → u + p ≡ q
rest_of q u p small above below e =
    elim (cases_lt (u + p) q) [
      | inl l ↦ absurd (omega (arith, sym (mod-eq_of_lt l) ∙ e))
      | inr g ↦
          let less : u + p - q < q = omega arith in
          omega (arith, sym (mod-eq-sub-mod g ∙ mod-eq_of_lt less) ∙ e)
    ]

-- the next factor times a, and k times r, sum up to a multiple of q
next_sum : (q a f r k : ℕ) → 0 < q → Leaves q a f r → ((next_factor q k f * a) % q + k * r) % q ≡ 0
next_sum q a f r k big e =
    let w = (k * f) % q in
    let x = next_factor q k f * a in
    let below : w < q = mod-lt (k * f) big in
    let whole : next_factor q k f + w ≡ q = omega arith in
    let product : (k * r) % q ≡ (w * a) % q = ap (λ t. (k * t) % q) (sym e) ∙ mul-mod_second k (f * a) q ∙ ap (λ t. t % q) (sym (mul_assoc k f a)) ∙ sym (mul-mod_first (k * f) a q) in
    mod-add-mod x q (k * r) ∙ sym (add-mod-mod x (k * r) q) ∙ ap (λ t. (x + t) % q) product ∙ add-mod-mod x (w * a) q ∙ ap (λ t. t % q) (sym (add-mul (next_factor q k f) w a) ∙ ap (λ t. t * a) whole) ∙ mul-mod_right q a

-- the next factor leaves the next rest
pub next_leaves : (q a f r : ℕ) → 0 < r → r < q → Leaves q a f r → Leaves q a (next_factor q (q / r) f) (q % r)
next_leaves q a f r above below e =
    let split : q / r * r + q % r ≡ q = div-add-mod' q r in
    let less : q % r < r = mod-lt q above in
    let big : 0 < q = omega arith in
    let u = (next_factor q (q / r) f * a) % q in
    let small : u < q = mod-lt _ big in
    let p = q / r * r in
    let p_above : 0 < p = omega arith in
    let p_below : p ≤ q = omega arith in
    let whole : u + p ≡ q = rest_of q u p small p_above p_below (next_sum q a f r (q / r) big e) in
    omega arith

-- and is below q, since it would leave zero otherwise
pub next_below : (q a f r : ℕ) → IsPrime q → 1 < r → r < q → Leaves q a f r → next_factor q (q / r) f < q
next_below q a f r prime above below e =
    let w = (q / r * f) % q in
    let big : 0 < q = omega arith in
    elim (cases_eq w 0) [
      | inl z ↦
          let whole : next_factor q (q / r) f ≡ q = omega arith in
          absurd (prime.undivided r above below (sym (next_leaves q a f r (omega arith) below e) ∙ ap (λ t. (t * a) % q) whole ∙ mul-mod_right q a))
      | inr n ↦ omega arith
    ]

-- b is an inverse of a modulo q
pub record IsInverse (q a b : ℕ) : Type 0 where
  pub small : b < q
  pub leaves : Leaves q a b 1

-- an inverse from any factor and what it leaves, in at most n steps
inverse_from : (n q a f r : ℕ) → IsPrime q → r < n → 0 < r → r < q → f < q → Leaves q a f r → (b : ℕ) × IsInverse q a b
inverse_from zero q a f r prime fuel above below small e = absurd (omega arith)
inverse_from (suc n) q a f r prime fuel above below small e =
    elim (cases_eq r 1) [
      | inl one ↦ (f, record { small = small; leaves = e ∙ one })
      | inr more ↦
          let big : 1 < r = omega arith in
          let less : q % r < r = mod-lt q above in
          let left : q % r ≢ 0 = prime.undivided r big below in
          inverse_from n q a (next_factor q (q / r) f) (q % r) prime (omega arith) (omega arith) (omega arith) (next_below q a f r prime big below e) (next_leaves q a f r above below e)
    ]

-- each number below a prime but zero has an inverse
pub inverse_of : (q a : ℕ) → IsPrime q → 0 < a → a < q → (b : ℕ) × IsInverse q a b
inverse_of q a prime above below =
    inverse_from (suc a) q a 1 a prime (omega arith) above below prime.above_one (ap (λ t. t % q) (one-mul a) ∙ mod-eq_of_lt below)
