-- The first vertex at which a graph isn't cubic and simple: where there is none, it is so at each.
use Rattle.std.proofs.Common.{◌≡◌, ℕ, ◌<◌, List, [], ◌∷◌, length, true, false, not, Option, None, Some, refl, sym, ap, arith}
use Rattle.std.specs.Prelude.{IfNone, IfSome, nat_eq}
use Rattle.std.proofs.lemmas.Bool.{and_from, and_parts, eqb-true, eq-eqb, false_from_ne_true, not-false}
use Rattle.cubic_front.specs.CubicGraphs.{IsCubic, IsCubicAt, ways_from}
use Rattle.edge_lists.proofs.Occurrences.{count-not_in, count_of_in}
use Rattle.edge_lists.specs.Occurrences.{count}
use Rattle.parity_program.proofs.FirstNumbers as numbers
use Rattle.parity_program.specs.CubicVertices.{are_different, first_not_cubic, is_cubic_at}
use Rattle.vector_spaces.proofs.Distinct.{IsDistinct}

distinct_of : (xs : List ℕ) → are_different xs ≡ true → IsDistinct xs
distinct_of [] h = tt
distinct_of (x ∷ xs) h =
    let parts = and_parts (nat_eq (count x xs) 0) (are_different xs) h in
    let none = eqb-true (count x xs) 0 parts.0 in
    (λ i. omega (arith, count_of_in x xs i, none), distinct_of xs parts.1)

different_of : (xs : List ℕ) → IsDistinct xs → are_different xs ≡ true
different_of [] d = refl
different_of (x ∷ xs) d =
    and_from (nat_eq (count x xs) 0) (are_different xs) (eq-eqb (count x xs) 0 (count-not_in x xs d.0)) (different_of xs d.1)

module _ (E : List (ℕ × ℕ)) (v : ℕ) where
  abbrev ways : List ℕ
  ways = ways_from v E

  cubic_of : is_cubic_at E v ≡ true → IsCubicAt E v
  cubic_of h =
      let parts = and_parts (nat_eq (length ways) 3) (are_different (v ∷ ways)) h in
      record { three = eqb-true (length ways) 3 parts.0; different = distinct_of (v ∷ ways) parts.1 }

  of_cubic : IsCubicAt E v → is_cubic_at E v ≡ true
  of_cubic K = and_from (nat_eq (length ways) 3) (are_different (v ∷ ways)) (eq-eqb (length ways) 3 K.three)
      (different_of (v ∷ ways) K.different)

  fails : ¬ (IsCubicAt E v) → not (is_cubic_at E v) ≡ true
  fails n = ap not (false_from_ne_true (is_cubic_at E v) (λ h. n (cubic_of h)))

module _ (n : ℕ) (E : List (ℕ × ℕ)) where
  -- the first at which the graph isn't cubic
  pub first_is : (v : ℕ) → v < n → ¬ (IsCubicAt E v) → IsCubic v E → first_not_cubic n E ≡ Some v
  unfolding first_not_cubic
  first_is v l not_so before = numbers.first_is n (λ v. not (is_cubic_at E v)) v l (λ u m. ap not (of_cubic E u (before u m))) (fails E v not_so)

  pub first_none : IsCubic n E → first_not_cubic n E ≡ None
  unfolding first_not_cubic
  first_none all = numbers.first_none n (λ v. not (is_cubic_at E v)) (λ u l. ap not (of_cubic E u (all u l)))

  -- then it is cubic
  pub is_cubic : first_not_cubic n E ≡ None → IsCubic n E
  unfolding first_not_cubic
  is_cubic none v l = cubic_of E v (not-false (is_cubic_at E v) (numbers.fails_below n (λ v. not (is_cubic_at E v)) none v l))

  -- what a search for the vertex says
  pub found : (r : Option ℕ) → IfSome r (λ v. (v < n) × ¬ (IsCubicAt E v) × IsCubic v E) → IfNone r (IsCubic n E)
      → r ≡ first_not_cubic n E
  found None some none = sym (first_none none)
  found (Some v) some none = sym (first_is v some.0 some.1 some.2)
