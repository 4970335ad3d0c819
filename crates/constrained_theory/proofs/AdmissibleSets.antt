-- Sets that hold each required line and no forbidden one, and what they hold beside the required lines.
use Rattle.std.proofs.Common.{◌≡◌, ℕ, ◌+◌, inl, inr, List, [], ◌∷◌, ◌++◌, length, refl, sym, ap, subst, arith}
use Rattle.vector_spaces.proofs.Distinct.{IsDistinct}
use Rattle.vector_spaces.proofs.Members.{In}
use Rattle.vector_spaces.proofs.Middles.{in_middle, in_others, in_split, length-middle, middle_in}

-- M holds each required position and no forbidden one
pub record IsAdmissible (required forbidden M : List ℕ) : Type 0 where
  pub holds : (l : ℕ) → In l required → In l M
  pub avoids : (l : ℕ) → In l forbidden → ¬ (In l M)

-- I is R and the rest
pub record IsRest (R I rest : List ℕ) : Type 0 where
  pub size : length I ≡ length R + length rest
  pub inside : (l : ℕ) → In l rest → In l I
  pub all : (l : ℕ) → In l I → In l (R ++ rest)

pub rest_of : (R I : List ℕ) → IsDistinct R → ((l : ℕ) → In l R → In l I) → (rest : List ℕ) × IsRest R I rest
rest_of [] I d h = (I, record { size = omega arith; inside = λ l i. i; all = λ l i. i })
rest_of (r ∷ R) I d h =
    let t = in_split r I (h r (inl refl)) in
    go t.0 t.1 t.2 (rest_of R (t.0 ++ t.1) d.1
    (λ l i. in_others t.0 r t.1 l (subst (λ L. In l L) t.2 (h l (inr i))) (λ e. d.0 (subst (λ m. In m R) e i))))
  where
    go : (P Q : List ℕ) → I ≡ P ++ r ∷ Q → (rest : List ℕ) × IsRest R (P ++ Q) rest → (rest : List ℕ) × IsRest (r ∷ R) I rest
    go P Q e (rest, x) = (
      rest,
      record {
        size = (let a = x.size in let b = length-middle P r Q in let c : length I ≡ length (P ++ r ∷ Q) = ap length e in omega arith);
        inside = λ l i. subst (λ L. In l L) (sym e) (middle_in P r Q l (inr (x.inside l i)));
        all = λ l i. at l (in_middle P r Q l (subst (λ L. In l L) e i)) x;
      },
    )
      where
        at : (l : ℕ) → In l (r ∷ P ++ Q) → IsRest R (P ++ Q) rest → In l (r ∷ R ++ rest)
        at l (inl q) x = inl q
        at l (inr j) x = inr (x.all l j)
