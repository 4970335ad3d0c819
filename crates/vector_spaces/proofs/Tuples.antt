-- Spaces that are made: the one point, the field itself, pairs, and tuples of coordinates.
use Rattle.std.proofs.Common.{◌≡◌, ℕ, zero, suc, refl, ap, ap₂, ◌∙◌}
use Rattle.std.specs.Prelude.{⊤}
use Rattle.vector_spaces.proofs.Space.{Field, Space}

abbrev pub pair_dec : {V W : Type 0} → ((u v : V) → Dec (u ≡ v)) → ((u v : W) → Dec (u ≡ v)) → (u v : V × W) → Dec (u ≡ v)
pair_dec d e u v = go (d u.0 v.0) (e u.1 v.1)
  where
    go : Dec (u.0 ≡ v.0) → Dec (u.1 ≡ v.1) → Dec (u ≡ v)
    go (yes p) (yes q) = yes (ap₂ (λ x y. (x, y)) p q)
    go (yes p) (no n) = no (λ e. n (ap (λ t. t.1) e))
    go (no n) q = no (λ e. n (ap (λ t. t.0) e))

module _ {K : Type 0} (f : Field K) where
  abbrev pub point : Space f ⊤
  point = record {
    null = tt;
    ◌⊕◌ = λ u v. tt;
    ◌·◌ = λ c v. tt;
    plus_assoc = λ u v w. refl;
    plus_comm = λ u v. refl;
    plus-null = λ u. refl;
    scale-plus = λ a u v. refl;
    add-scale = λ a b u. refl;
    mul-scale = λ a b u. refl;
    one-scale = λ u. refl;
    zero-scale = λ u. refl;
    same_vector = λ u v. yes refl;
  }

  abbrev pub line : Space f K
  line = record {
    null = f.zero;
    ◌⊕◌ = f.◌⊞◌;
    ◌·◌ = f.◌⊠◌;
    plus_assoc = f.add_assoc;
    plus_comm = f.add_comm;
    plus-null = f.add-zero;
    scale-plus = f.mul-add;
    add-scale = λ a b u. f.mul_comm (f.◌⊞◌ a b) u ∙ f.mul-add u a b ∙ ap₂ f.◌⊞◌ (f.mul_comm u a) (f.mul_comm u b);
    mul-scale = f.mul_assoc;
    one-scale = λ u. f.mul_comm f.one u ∙ f.mul-one u;
    zero-scale = λ u. f.mul_comm f.zero u ∙ f.mul-zero u;
    same_vector = f.same_scalar;
  }

  abbrev pub both : {V W : Type 0} → Space f V → Space f W → Space f (V × W)
  both s t = record {
    null = (s.null, t.null);
    ◌⊕◌ = λ u v. (s.◌⊕◌ u.0 v.0, t.◌⊕◌ u.1 v.1);
    ◌·◌ = λ c v. (s.◌·◌ c v.0, t.◌·◌ c v.1);
    plus_assoc = λ u v w. ap₂ (λ x y. (x, y)) (s.plus_assoc u.0 v.0 w.0) (t.plus_assoc u.1 v.1 w.1);
    plus_comm = λ u v. ap₂ (λ x y. (x, y)) (s.plus_comm u.0 v.0) (t.plus_comm u.1 v.1);
    plus-null = λ u. ap₂ (λ x y. (x, y)) (s.plus-null u.0) (t.plus-null u.1);
    scale-plus = λ a u v. ap₂ (λ x y. (x, y)) (s.scale-plus a u.0 v.0) (t.scale-plus a u.1 v.1);
    add-scale = λ a b u. ap₂ (λ x y. (x, y)) (s.add-scale a b u.0) (t.add-scale a b u.1);
    mul-scale = λ a b u. ap₂ (λ x y. (x, y)) (s.mul-scale a b u.0) (t.mul-scale a b u.1);
    one-scale = λ u. ap₂ (λ x y. (x, y)) (s.one-scale u.0) (t.one-scale u.1);
    zero-scale = λ u. ap₂ (λ x y. (x, y)) (s.zero-scale u.0) (t.zero-scale u.1);
    same_vector = pair_dec s.same_vector t.same_vector;
  }

-- d coordinates
abbrev pub Tuple : Type 0 → ℕ → Type 0
Tuple K zero = ⊤
Tuple K (suc d) = K × Tuple K d

abbrev pub tuples : {K : Type 0} (f : Field K) (d : ℕ) → Space f (Tuple K d)
tuples f zero = point f
tuples f (suc d) = both f (line f) (tuples f d)

-- the coordinate at p
abbrev pub at : {K : Type 0} (f : Field K) (d p : ℕ) → Tuple K d → K
at f zero p t = f.zero
at f (suc d) zero t = t.0
at f (suc d) (suc p) t = at f d p t.1
