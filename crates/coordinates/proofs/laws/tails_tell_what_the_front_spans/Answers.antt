use Rattle.std.proofs.Common.{◌≡◌, ◌≤◌, ◌-◌, length, drop, map, sym, ap, subst, ◌∙◌}
use Rattle.linear_algebra.specs.Vectors.{zero_vector}
use Rattle.linear_algebra.specs.Spans.{IsIndependent}
use Rattle.coordinates.proofs.Tails.{zero_tail_of_front, front_of_zero_tail}
use Rattle.coordinates.proofs.IndependentTails.{tails_of_independent, independent_of_tails}
use Rattle.coordinates.proofs.laws.tails_tell_what_the_front_spans.Goals as goal

pub returns : goal.returns
returns c = record {
  spanned = λ S d k vs cs x F b l h.
      let at : k ≤ length vs = subst (λ n. k ≤ n) (sym b.length_is) l in
      let zeros : zero_vector S (length vs - k) ≡ zero_vector S (d - k) = ap (λ n. zero_vector S (n - k)) b.length_is in (
        (λ s. zero_tail_of_front S F d vs b.vectors k at b.independent cs x h s ∙ zeros),
        (λ z. record { coefficients = _; combine = front_of_zero_tail S F d vs b.vectors k at cs x h (z ∙ sym zeros) }),
      );
  coordinates = λ S d k vs cs x F b l h z.
      front_of_zero_tail S F d vs b.vectors k (subst (λ n. k ≤ n) (sym b.length_is) l) cs x h (z ∙ sym (ap (λ n. zero_vector S (n - k)) b.length_is));
  independent = λ S d k vs css xs F b l h.
      let at : k ≤ length vs = subst (λ n. k ≤ n) (sym b.length_is) l in (
        (λ i. subst (λ n. IsIndependent S (n - k) (map (drop k) css)) b.length_is (tails_of_independent S F d vs b.vectors k at css xs h i)),
        (λ i. independent_of_tails S F d vs b.vectors k at css xs h b.independent
            (subst (λ n. IsIndependent S (n - k) (map (drop k) css)) (sym b.length_is) i)),
      );
}
