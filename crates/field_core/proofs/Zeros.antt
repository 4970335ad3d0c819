-- Vectors of zeros, and a vector with an entry that isn't zero.
use Rattle.std.proofs.Common.{◌≡◌, ℕ, zero, suc, ◌<◌, List, ◌∷◌, length, map, get_or, replicate, Bool, true, not, IsTrue, refl, sym, ap, ◌∙◌}
use Rattle.std.proofs.lemmas.List.{get_or-map, get_or-replicate}

-- `differs` is what `!=` answered of the entry x and the zero value o, whose `==` answers same
pub not_all_zero : {X : Type 0} (f : X → ℕ) (v : List X) (i z : ℕ) (x o : X) (same differs : Bool) → i < length v → x ≡ get_or v i x → f o ≡ z → (f x ≡ f o → IsTrue same) → differs ≡ not same → differs ≡ true → map f v ≡ replicate (length v) z → ⊥
not_all_zero f v i z x o same differs short is_x is_o tells is_not holds whole =
    let at_map : f x ≡ get_or (map f v) i 0 = ap f is_x ∙ sym (get_or-map f v i x 0 short) in
    let at_zero : get_or (map f v) i 0 ≡ z = ap (λ w. get_or w i 0) whole ∙ get_or-replicate (length v) i z 0 short in
    let equal : same ≡ true = tells (at_map ∙ at_zero ∙ sym is_o) in
    cc

pub map-replicate : {X : Type 0} (f : X → ℕ) (n : ℕ) (x : X) → map f (replicate n x) ≡ replicate n (f x)
map-replicate f zero x = refl
map-replicate f (suc n) x = ap (λ xs. f x ∷ xs) (map-replicate f n x)
