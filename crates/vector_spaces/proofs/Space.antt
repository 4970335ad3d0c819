-- A finite field K and a vector space V over it, by operations and laws that hold of all elements.
use Rattle.std.proofs.Common.{◌≡◌, ◌≢◌, List, sym, ap, ◌∙◌}
use Rattle.vector_spaces.proofs.Members.{In}

pub record Field (K : Type 0) : Type 0 where
  infixl 65 ◌⊞◌
  infixl 70 ◌⊠◌
  pub zero : K
  pub one : K
  pub minus : K
  pub ◌⊞◌ : K → K → K
  pub ◌⊠◌ : K → K → K
  pub inv : K → K
  pub add_assoc : (a b c : K) → a ⊞ b ⊞ c ≡ a ⊞ (b ⊞ c)
  pub add_comm : (a b : K) → a ⊞ b ≡ b ⊞ a
  pub add-zero : (a : K) → a ⊞ zero ≡ a
  pub one-minus : one ⊞ minus ≡ zero
  pub mul_assoc : (a b c : K) → a ⊠ b ⊠ c ≡ a ⊠ (b ⊠ c)
  pub mul_comm : (a b : K) → a ⊠ b ≡ b ⊠ a
  pub mul-one : (a : K) → a ⊠ one ≡ a
  pub mul-zero : (a : K) → a ⊠ zero ≡ zero
  pub mul-add : (a b c : K) → a ⊠ (b ⊞ c) ≡ a ⊠ b ⊞ a ⊠ c
  pub mul-inv : (a : K) → a ≢ zero → a ⊠ inv a ≡ one
  pub one≢zero : one ≢ zero
  pub same_scalar : (a b : K) → Dec (a ≡ b)
  pub scalars : List K
  pub every : (a : K) → In a scalars

pub record Space {K : Type 0} (f : Field K) (V : Type 0) : Type 0 where
  infixl 65 ◌⊕◌
  infixl 70 ◌·◌
  pub null : V
  pub ◌⊕◌ : V → V → V
  pub ◌·◌ : K → V → V
  pub plus_assoc : (u v w : V) → u ⊕ v ⊕ w ≡ u ⊕ (v ⊕ w)
  pub plus_comm : (u v : V) → u ⊕ v ≡ v ⊕ u
  pub plus-null : (u : V) → u ⊕ null ≡ u
  pub scale-plus : (a : K) (u v : V) → a · (u ⊕ v) ≡ a · u ⊕ a · v
  pub add-scale : (a b : K) (u : V) → f.◌⊞◌ a b · u ≡ a · u ⊕ b · u
  pub mul-scale : (a b : K) (u : V) → f.◌⊠◌ a b · u ≡ a · (b · u)
  pub one-scale : (u : V) → f.one · u ≡ u
  pub zero-scale : (u : V) → f.zero · u ≡ null
  pub same_vector : (u v : V) → Dec (u ≡ v)

module _ {K : Type 0} (f : Field K) where
  infixl 65 ◌⊞◌
  infixl 70 ◌⊠◌
  open f use {zero, one, minus, ◌⊞◌, ◌⊠◌, inv}

  pub add_left_comm : (a b c : K) → a ⊞ (b ⊞ c) ≡ b ⊞ (a ⊞ c)
  add_left_comm a b c = sym (f.add_assoc a b c) ∙ ap (λ x. x ⊞ c) (f.add_comm a b) ∙ f.add_assoc b a c

  pub mul_left_comm : (a b c : K) → a ⊠ (b ⊠ c) ≡ b ⊠ (a ⊠ c)
  mul_left_comm a b c = sym (f.mul_assoc a b c) ∙ ap (λ x. x ⊠ c) (f.mul_comm a b) ∙ f.mul_assoc b a c

  pub assoc_k : (a b c : K) → a ⊞ b ⊞ c ≡ a ⊞ (b ⊞ c)
  assoc_k = f.add_assoc

  pub comm_k : (a b : K) → a ⊞ b ≡ b ⊞ a
  comm_k = f.add_comm

  pub zero_k : (a : K) → a ⊞ zero ≡ a
  zero_k = f.add-zero

  pub massoc_k : (a b c : K) → a ⊠ b ⊠ c ≡ a ⊠ (b ⊠ c)
  massoc_k = f.mul_assoc

  pub mcomm_k : (a b : K) → a ⊠ b ≡ b ⊠ a
  mcomm_k = f.mul_comm

  pub one_k : (a : K) → a ⊠ one ≡ a
  one_k = f.mul-one

  pub dist_k : (a b c : K) → a ⊠ (b ⊞ c) ≡ a ⊠ b ⊞ a ⊠ c
  dist_k = f.mul-add

  pub kill_k : (a : K) → a ⊠ zero ≡ zero
  kill_k = f.mul-zero

module _ {K V : Type 0} (f : Field K) (s : Space f V) where
  infixl 65 ◌⊞◌
  infixl 70 ◌⊠◌
  infixl 65 ◌⊕◌
  infixl 70 ◌·◌
  open f use {zero, one, minus, ◌⊞◌, ◌⊠◌, inv}
  open s use {null, ◌⊕◌, ◌·◌}

  pub null-plus : (u : V) → null ⊕ u ≡ u
  null-plus u = s.plus_comm null u ∙ s.plus-null u

  pub plus_left_comm : (u v w : V) → u ⊕ (v ⊕ w) ≡ v ⊕ (u ⊕ w)
  plus_left_comm u v w = sym (s.plus_assoc u v w) ∙ ap (λ x. x ⊕ w) (s.plus_comm u v) ∙ s.plus_assoc v u w

  pub scale-null : (a : K) → a · null ≡ null
  scale-null a = ap (λ x. a · x) (sym (s.zero-scale null)) ∙ sym (s.mul-scale a zero null) ∙ ap (λ k. k · null) (f.mul-zero a) ∙ s.zero-scale null

  pub plus-minus : (u : V) → u ⊕ minus · u ≡ null
  plus-minus u = ap (λ x. x ⊕ minus · u) (sym (s.one-scale u)) ∙ sym (s.add-scale one minus u) ∙ ap (λ k. k · u) f.one-minus ∙ s.zero-scale u

  pub minus-plus : (u : V) → minus · u ⊕ u ≡ null
  minus-plus u = s.plus_comm (minus · u) u ∙ plus-minus u

  pub plus-minus-plus : (u v : V) → u ⊕ (minus · u ⊕ v) ≡ v
  plus-minus-plus u v = sym (s.plus_assoc u (minus · u) v) ∙ ap (λ x. x ⊕ v) (plus-minus u) ∙ null-plus v

  pub minus-plus-plus : (u v : V) → minus · u ⊕ (u ⊕ v) ≡ v
  minus-plus-plus u v = sym (s.plus_assoc (minus · u) u v) ∙ ap (λ x. x ⊕ v) (minus-plus u) ∙ null-plus v

  pub plus-minus_far : (u x : V) → u ⊕ (x ⊕ minus · u) ≡ x
  plus-minus_far u x = ap (λ y. u ⊕ y) (s.plus_comm x (minus · u)) ∙ plus-minus-plus u x

  pub minus-plus_far : (u x : V) → minus · u ⊕ (x ⊕ u) ≡ x
  minus-plus_far u x = ap (λ y. minus · u ⊕ y) (s.plus_comm x u) ∙ minus-plus-plus u x

  pub plus-minus_far2 : (u x y : V) → u ⊕ (x ⊕ (minus · u ⊕ y)) ≡ x ⊕ y
  plus-minus_far2 u x y = ap (λ z. u ⊕ z) (plus_left_comm x (minus · u) y) ∙ plus-minus-plus u (x ⊕ y)

  pub minus-plus_far2 : (u x y : V) → minus · u ⊕ (x ⊕ (u ⊕ y)) ≡ x ⊕ y
  minus-plus_far2 u x y = ap (λ z. minus · u ⊕ z) (plus_left_comm x u y) ∙ minus-plus-plus u (x ⊕ y)

  pub scale_comm : (a b : K) (u : V) → a · (b · u) ≡ b · (a · u)
  scale_comm a b u = sym (s.mul-scale a b u) ∙ ap (λ k. k · u) (f.mul_comm a b) ∙ s.mul-scale b a u

  pub scale-minus : (a : K) (u : V) → a · (minus · u) ≡ minus · (a · u)
  scale-minus a u = scale_comm a minus u

  pub minus-minus : (u : V) → minus · (minus · u) ≡ u
  minus-minus u = sym (plus-minus-plus u (minus · (minus · u))) ∙ ap (λ x. u ⊕ x) (plus-minus (minus · u)) ∙ s.plus-null u

  -- the laws as lemmas over s, so that a named set can hold them

  pub assoc_v : (u v w : V) → u ⊕ v ⊕ w ≡ u ⊕ (v ⊕ w)
  assoc_v = s.plus_assoc

  pub comm_v : (u v : V) → u ⊕ v ≡ v ⊕ u
  comm_v = s.plus_comm

  pub null_v : (u : V) → u ⊕ null ≡ u
  null_v = s.plus-null

  pub dist_v : (a : K) (u v : V) → a · (u ⊕ v) ≡ a · u ⊕ a · v
  dist_v = s.scale-plus

  pub add_v : (a b : K) (u : V) → (a ⊞ b) · u ≡ a · u ⊕ b · u
  add_v = s.add-scale

  pub mul_v : (a b : K) (u : V) → (a ⊠ b) · u ≡ a · (b · u)
  mul_v = s.mul-scale

  pub one_v : (u : V) → one · u ≡ u
  one_v = s.one-scale

  pub zero_v : (u : V) → zero · u ≡ null
  zero_v = s.zero-scale

  -- a term that is taken away is moved to the other side: where `linear` leaves u and minus · u apart
  pub move : (x y z : V) → x ≡ z ⊕ y → x ⊕ minus · y ≡ z
  move x y z e = ap (λ t. t ⊕ minus · y) e ∙ s.plus_assoc z y (minus · y) ∙ ap (λ t. z ⊕ t) (plus-minus y) ∙ s.plus-null z

  -- the other way round than `mul_v`, so that scalars are sorted in the field
  pub merge_v : (a b : K) (u : V) → a · (b · u) ≡ (a ⊠ b) · u
  merge_v a b u = sym (s.mul-scale a b u)

pub ruleset linear = (assoc_k, comm_k, zero_k, massoc_k, mcomm_k, one_k, dist_k, assoc_v, comm_v, null_v, dist_v, add_v, mul_v, one_v, zero_v, null-plus, add_left_comm, mul_left_comm, plus_left_comm, kill_k, scale-null, plus-minus, minus-plus, plus-minus-plus, minus-plus-plus, plus-minus_far, minus-plus_far, plus-minus_far2, minus-plus_far2, minus-minus, scale-minus)

-- as `linear`, with the scalars before a vector in one product: for goals that turn on their order
pub ruleset merging = (merge_v, assoc_v, comm_v, plus_left_comm, dist_v, add_v, assoc_k, comm_k, add_left_comm, dist_k, massoc_k, mcomm_k, mul_left_comm, null_v, null-plus, one_v, zero_v, one_k, zero_k, kill_k)
