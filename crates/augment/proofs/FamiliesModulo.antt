-- The family modulo a point, set by set.
use Rattle.std.proofs.Common.{◌≡◌, ◌<◌, ℕ, suc, List, [], ◌∷◌, ◌++◌, length, refl, sym, ◌∙◌, subst, arith, All}
use Rattle.std.proofs.lemmas.List.{get_or_append_left, length_push}
use Rattle.std.proofs.lemmas.List.Elements.{All-cons, All-nil, All-push, All-weaker}
use Rattle.families.specs.Families.{SetFamily}
use Rattle.linear_algebra.specs.Scalars.{Scalars}
use Rattle.parity_lines.specs.LineSets.{IsIndependentSet}
use Rattle.parity_lines.specs.Problems.{ParityProblem}
use Rattle.augment.specs.Divided.{IsModulo, IsShortened}
use Rattle.augment.specs.FirstSets.{first_of}

-- a family of q, each of whose sets is one line shorter than M
pub record AreShortened (S : Scalars) (q : ParityProblem) (M : List ℕ) (f : SetFamily) : Type 0 where
  pub problem : f.problem ≡ q
  pub first : IsShortened S q M (first_of f)
  pub some : 0 < length f.sets
  pub sizes : All (λ s. suc (length s) ≡ length M) f.sets

-- a set that lost a line, modulo the point of p, which is r
pub shortened_below : (S : Scalars) (point : List ℕ) (p r q : ParityProblem) (M N : List ℕ) → p ≡ r → IsModulo S point r q →
    ((t : ParityProblem) → IsModulo S point p t → IsShortened S t M N) → IsShortened S q M N
shortened_below S point p r q M N e m h = h q (subst (λ t. IsModulo S point t q) (sym e) m)

module _ (S : Scalars) (q : ParityProblem) (M : List ℕ) where
  -- N comes of K, which is as long as M
  module _ (f : SetFamily) (K N : List ℕ) (s : IsShortened S q K N) where
    pub below_first : f ≡ record { problem = q; sets = N ∷ [] } → K ≡ M → AreShortened S q M f
    below_first e k =
        let t : IsShortened S q M N = subst (λ L. IsShortened S q L N) k s in
        subst (AreShortened S q M) (sym e) (record {
          problem = refl;
          first = t;
          some = omega arith;
          sizes = All-cons (λ r. suc (length r) ≡ length M) N [] t.shorter (All-nil (λ r. suc (length r) ≡ length M));
        })

    module _ (l : length M ≡ length K) (h : AreShortened S q M f) where
      pub below_fits : All (λ t. length t ≡ length N) f.sets
      below_fits = let n = s.shorter in
          All-weaker (λ t. suc (length t) ≡ length M) (λ t. length t ≡ length N) (λ t i. omega arith) f.sets h.sizes

      pub below_independent : IsIndependentSet S f.problem N
      below_independent = subst (λ p. IsIndependentSet S p N) (sym h.problem) s.independent

      pub below_more : (g : SetFamily) → g ≡ record f { sets = f.sets ++ N ∷ [] } → AreShortened S q M g
      below_more g e =
          let more = length_push f.sets N in
          subst (AreShortened S q M) (sym e) (record {
            problem = h.problem;
            first = subst (IsShortened S q M) (sym (get_or_append_left f.sets (N ∷ []) [] 0 h.some)) h.first;
            some = omega arith;
            sizes = All-push (λ r. suc (length r) ≡ length M) f.sets N h.sizes (s.shorter ∙ sym l);
          })
