-- The first entry that isn't zero is where the vector leads, and what makes it minus one.
use Rattle.std.proofs.Common.{◌≡◌, ℕ, ◌<◌, List, length, map, take, get_or, replicate, Bool, true, not, IsTrue, sym, ap, ◌∙◌, arith}
use Rattle.std.proofs.lemmas.List.{get_or-map, get_or-replicate, get_or-take, take-map, length-map}
use Rattle.linear_algebra.specs.Scalars.{Scalars, IsScalar, IsField}
use Rattle.linear_algebra.proofs.Elements.{product-zero}
use Rattle.echelon.specs.Leads.{LeadsAt}

-- `differs` is what `!=` answered of the entry x and the zero value o, whose `==` answers same
pub leads_at : (S : Scalars) {X : Type 0} (f : X → ℕ) (v : List X) (i : ℕ) (x o : X) (same differs : Bool) → i < length v → x ≡ get_or v i x → f o ≡ S.zero → (f x ≡ f o → IsTrue same) → differs ≡ not same → differs ≡ true →
    map f (take i v) ≡ replicate i S.zero → LeadsAt S (map f v) i
leads_at S f v i x o same differs h is_x is_o tells is_not holds before = record {
  within = let e = length-map v f in omega arith;
  not_zero = λ z.
      let equal : same ≡ true = tells (ap f is_x ∙ sym (get_or-map f v i x 0 h) ∙ z ∙ sym is_o) in
      cc;
  zero_before = λ k l. sym (get_or-take i (map f v) k 0 l) ∙ ap (λ w. get_or w k 0) (take-map f i v ∙ before) ∙ get_or-replicate i k S.zero 0 l;
}

-- y, the negative of the inverse i of x, gives minus one
pub minus_times : (S : Scalars) (F : IsField S) (x i y : ℕ) → IsScalar S x → IsScalar S i → IsScalar S y → S.product x i ≡ S.one → S.sum i y ≡ S.zero → S.sum S.one (S.product y x) ≡ S.zero
minus_times S F x i y hx hi hy is_one is_zero =
    ap (S.sum S.one) (F.product_comm y x hy hx) ∙ ap (λ a. S.sum a (S.product x y)) (sym is_one) ∙ sym (F.product-sum x i y hx hi hy) ∙ ap (S.product x) is_zero ∙ product-zero S F x hx
