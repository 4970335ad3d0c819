-- The first steps of a basis are a basis.
use Rattle.vector_spaces.proofs.Members.{all-In, In-all, In-append_left, In-append_right}
use Rattle.echelon.proofs.Reduction.{taken-vectors}
use Rattle.std.proofs.Common.{◌≡◌, ℕ, zero, suc, ◌+◌, ◌<◌, ◌≤◌, List, [], ◌∷◌, ◌++◌, length, take, drop, get_or, refl, sym, ap, ◌∙◌, subst, arith}
use Rattle.std.proofs.lemmas.List.{length-take-le, get_or-take, take-append-drop}
use Rattle.linear_algebra.specs.Scalars.{Scalars, IsField}
use Rattle.linear_algebra.specs.Vectors.{AreVectors, IsVector}
use Rattle.linear_algebra.specs.Spans.{combination, IsIndependent}
use Rattle.linear_algebra.proofs.IndependenceLaws.{independent_left}
use Rattle.echelon.specs.Eliminations.{reduced, taken, IsStep, IsEchelon}
use Rattle.echelon.specs.declared.step.Step.{Step}
use Rattle.echelon.proofs.Insertion.{length-taken, combination-front}

pub taken-take : {X : Type 0} (ss : List (Step X)) (n : ℕ) → taken (take n ss) ≡ take n (taken ss)
taken-take ss zero = refl
taken-take [] (suc n) = refl
taken-take (s ∷ ss) (suc n) = ap (λ vs. s.vector ∷ vs) (taken-take ss n)

pub taken-append : {X : Type 0} (us ws : List (Step X)) → taken (us ++ ws) ≡ taken us ++ taken ws
taken-append [] ws = refl
taken-append (u ∷ us) ws = ap (λ vs. u.vector ∷ vs) (taken-append us ws)

append_parts : (S : Scalars) (d : ℕ) (us ws : List (List ℕ)) → AreVectors S d (us ++ ws) → AreVectors S d us × AreVectors S d ws
append_parts S d us ws h = (
  all-In (IsVector S d) us (λ x i. In-all (IsVector S d) (us ++ ws) h x (In-append_left x us ws i)),
  all-In (IsVector S d) ws (λ x i. In-all (IsVector S d) (us ++ ws) h x (In-append_right x us ws i)),
)

take-take_less : {X : Type 0} (i n : ℕ) (xs : List X) → i ≤ n → take i (take n xs) ≡ take i xs
take-take_less zero n xs h = refl
take-take_less (suc i) zero xs h = absurd (omega arith)
take-take_less (suc i) (suc n) [] h = refl
take-take_less (suc i) (suc n) (x ∷ xs) h = ap (λ ys. x ∷ ys) (take-take_less i n xs (omega arith))

module _ (S : Scalars) (F : IsField S) (d : ℕ) {X : Type 0} where
  prefix_is_echelon : (ss : List (Step X)) (n : ℕ) → n ≤ length ss → IsEchelon S d ss → IsEchelon S d (take n ss)
  prefix_is_echelon ss n h e = record {
    steps = λ i s l. subst (IsStep S d (take n ss) i) (sym (get_or-take n ss i s (let q = long in omega arith))) (step i s (let q = long in omega arith));
    independent = independent_left S F d (taken (take n ss)) (taken (drop n ss)) (front_in (taken-vectors S F d ss e)) (back_in (taken-vectors S F d ss e)) (subst (IsIndependent S d) split e.independent);
  }
    where
      long : length (take n ss) ≡ n
      long = length-take-le n ss h

      split : taken ss ≡ taken (take n ss) ++ taken (drop n ss)
      split = ap taken (sym (take-append-drop n ss)) ∙ taken-append (take n ss) (drop n ss)

      front_in : AreVectors S d (taken ss) → AreVectors S d (taken (take n ss))
      front_in v = (append_parts S d (taken (take n ss)) (taken (drop n ss)) (subst (AreVectors S d) split v)).0

      back_in : AreVectors S d (taken ss) → AreVectors S d (taken (drop n ss))
      back_in v = (append_parts S d (taken (take n ss)) (taken (drop n ss)) (subst (AreVectors S d) split v)).1

      step : (i : ℕ) (s : Step X) → i < n → IsStep S d (take n ss) i (get_or ss i s)
      step i s l =
          let r = e.steps i s (omega arith) in
          record {
            vector = r.vector;
            row = r.row;
            coefficients = r.coefficients;
            made = sym (ap (combination S d (get_or ss i s).coefficients) split ∙ combination-front S d (get_or ss i s).coefficients (taken (take n ss)) (taken (drop n ss)) (let a = r.coefficients.length_is in let b = length-taken (take n ss) in let c = long in omega arith)) ∙ r.made;
            minus_one = r.minus_one;
            leads = r.leads;
            zero_at_earlier = λ j t m. ap (λ (u : Step X). get_or (get_or ss i s).row u.pivot 0) (get_or-take n ss j t (omega arith)) ∙ r.zero_at_earlier j t m;
            removes = ap (λ ts. reduced S ts (get_or ss i s).vector) (take-take_less (i + 1) n ss (omega arith)) ∙ r.removes;
          }

-- the steps that are kept, by another name
pub kept_is_echelon : (S : Scalars) (F : IsField S) (d : ℕ) {X : Type 0} (ss kept : List (Step X)) (n : ℕ) → kept ≡ take n ss → n ≤ length ss → IsEchelon S d ss → IsEchelon S d kept
kept_is_echelon S F d ss kept n e h i = subst (IsEchelon S d) (sym e) (prefix_is_echelon S F d ss n h i)
