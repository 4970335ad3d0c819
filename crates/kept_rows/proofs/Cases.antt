-- What a row is kept as: what is known in each case, and what the calls on its bits leave.
use Rattle.std.proofs.Common.{◌≡◌, ◌≢◌, ◌↔◌, ℕ, ◌<◌, List, [], ◌∷◌, Bool, IsTrue, All, length, get_or, replicate, refl, sym, ap, ap₂}
use Rattle.std.proofs.Common.{subst, ◌∙◌, arith}
use Rattle.std.proofs.Math.ListN.{set}
use Rattle.std.proofs.lemmas.List.{get_or-map, length-map, length-replicate}
use Rattle.std.proofs.lemmas.List.Elements.{All-head, All-tail}
use Rattle.linear_algebra.specs.Scalars.{Scalars, IsScalar, IsField}
use Rattle.linear_algebra.specs.Vectors.{vector_sum, multiple}
use Rattle.small_fields.specs.Modular.{modulo}
use Rattle.packed_rows.specs.Carried.{carried}
use Rattle.packed_rows.proofs.Carries.{map-carried, All-carried}
use Rattle.kept_rows.specs.declared.kept.Entries.{Entries}
use Rattle.kept_rows.specs.declared.kept.Entries.TheVariants.{Plain, Packed}
use Rattle.kept_rows.specs.Kept.{scalar_of, unpacked, scalars_kept, IsPackedForTwo}
use Rattle.kept_rows.proofs.Bits.{AreBits, zeros-bits, set-bits, sum-bits, multiple-bits, unpacked-zeros, unpacked-set, unpacked-sum}
use Rattle.kept_rows.proofs.Bits.{unpacked-multiple, zeros_from_unpacked}

-- what is equal serves in the place of the other
pub moved : {A : Type 0} {a b : A} → a ≡ b → (P : A → Type 0) → P b → P a
moved e P h = subst P (sym e) h

module _ {X : Type 0} (S : Scalars) (order : ℕ) (entries : Entries X) (u : List ℕ) (view : scalars_kept S entries ≡ u) (kept : IsPackedForTwo order entries) where
  pub plain_view : (row : List ℕ) → entries ≡ Plain row → row ≡ u
  plain_view row is = sym (ap (scalars_kept S) is) ∙ view

  pub plain_order : (row : List ℕ) → entries ≡ Plain row → order ≢ 2
  plain_order row is = subst (IsPackedForTwo order) is kept

  pub packed_view : (bits : List ℕ) → entries ≡ Packed bits → unpacked S bits ≡ u
  packed_view bits is = sym (ap (scalars_kept S) is) ∙ view

  pub packed_kept : (bits : List ℕ) → entries ≡ Packed bits → (order ≡ 2) × AreBits bits
  packed_kept bits is = subst (IsPackedForTwo order) is kept

pub set_plain : (row next u : List ℕ) (i x : ℕ) → row ≡ u → next ≡ set row i x → next ≡ set u i x
set_plain row next u i x e is = is ∙ ap (λ v. set v i x) e

pub multiple_plain : (S : Scalars) (row next u : List ℕ) (x : ℕ) → row ≡ u → next ≡ multiple S x row → next ≡ multiple S x u
multiple_plain S row next u x e is = is ∙ ap (multiple S x) e

pub carried_plain : (row next u : List ℕ) (from to : ℕ) → row ≡ u → next ≡ carried row from to → next ≡ carried u from to
carried_plain row next u from to e is = is ∙ ap (λ v. carried v from to) e

pub carried_kept : (S : Scalars) (bits next u : List ℕ) (from to : ℕ) → unpacked S bits ≡ u → next ≡ carried bits from to →
    unpacked S next ≡ carried u from to
carried_kept S bits next u from to e is = ap (unpacked S) is ∙ map-carried (scalar_of S) bits from to ∙ ap (λ v. carried v from to) e

pub length-unpacked : (S : Scalars) (bits u : List ℕ) → unpacked S bits ≡ u → length bits ≡ length u
length-unpacked S bits u e = sym (length-map bits (scalar_of S)) ∙ ap length e

-- the scalar at a position is that of the bit there
pub unpacked-at : (S : Scalars) (bits u : List ℕ) (i : ℕ) → unpacked S bits ≡ u → i < length u →
    scalar_of S (get_or bits i 0) ≡ get_or u i 0
unpacked-at S bits u i e l =
    let k : i < length bits = omega (arith, length-unpacked S bits u e, l) in
    sym (get_or-map (scalar_of S) bits i 0 0 k) ∙ ap (λ v. get_or v i 0) e

module _ (S : Scalars) (F : IsField S) where
  pub zeros_kept : (bits : List ℕ) (n : ℕ) → bits ≡ replicate n 0 → unpacked S bits ≡ replicate n S.zero
  zeros_kept bits n e = ap (unpacked S) e ∙ unpacked-zeros S F n

  pub set_kept : (bits next u : List ℕ) (i b x : ℕ) → unpacked S bits ≡ u → next ≡ set bits i b → scalar_of S b ≡ x →
      unpacked S next ≡ set u i x
  set_kept bits next u i b x e is stands = ap (unpacked S) is ∙ unpacked-set S F bits i b ∙ ap₂ (λ v y. set v i y) e stands

  pub multiple_kept : (bits next u : List ℕ) (c x : ℕ) → AreBits bits → c < 2 → unpacked S bits ≡ u → next ≡ multiple (modulo 2) c bits →
      scalar_of S c ≡ x →
      unpacked S next ≡ multiple S x u
  multiple_kept bits next u c x are l e is stands = ap (unpacked S) is ∙ unpacked-multiple S F c bits l are ∙ ap₂ (multiple S) stands e

  pub sum_kept : S.order ≡ 2 → (bits other next v : List ℕ) (c x : ℕ) → AreBits bits → AreBits other → c < 2 → unpacked S other ≡ v →
      next ≡ vector_sum (modulo 2) bits (multiple (modulo 2) c other) → scalar_of S c ≡ x →
      unpacked S next ≡ vector_sum S (unpacked S bits) (multiple S x v)
  sum_kept two bits other next v c x are both l e is stands =
      ap (unpacked S) is ∙ unpacked-sum S F two bits (multiple (modulo 2) c other) are (multiple-bits c other)
      ∙ ap (vector_sum S (unpacked S bits)) (unpacked-multiple S F c other l both ∙ ap₂ (multiple S) stands e)

  pub zero_kept : (bits u : List ℕ) (b : Bool) → AreBits bits → unpacked S bits ≡ u → (IsTrue b ↔ (bits ≡ replicate (length bits) 0)) →
      (IsTrue b ↔ (u ≡ replicate (length u) S.zero))
  zero_kept bits u b are e h =
      let long : length bits ≡ length u = length-unpacked S bits u e in
      let same : replicate (length bits) S.zero ≡ replicate (length u) S.zero = ap (λ n. replicate n S.zero) long in (
        λ t. sym e ∙ zeros_kept bits (length bits) (h.0 t) ∙ same,
        λ z. h.1 (zeros_from_unpacked S F bits are (e ∙ z ∙ sym same)),
      )

  -- one time u, added to zeros, is u
  sum_one : (u : List ℕ) → All (IsScalar S) u → vector_sum S (replicate (length u) S.zero) (multiple S S.one u) ≡ u
  unfolding vector_sum
  sum_one [] are = refl
  sum_one (x ∷ u) are =
      let h : IsScalar S x = All-head (IsScalar S) x u are in
      let times : S.product S.one x ≡ x = F.product_comm S.one x F.one_in h ∙ F.product-one x h in
      ap₂ (λ y ys. y ∷ ys) (ap (S.sum S.zero) times ∙ F.sum_comm S.zero x F.zero_in h ∙ F.sum-zero x h) (sum_one u (All-tail (IsScalar S) x u are))

  pub copied : (row next u : List ℕ) (n one : ℕ) → All (IsScalar S) u → row ≡ replicate n S.zero → n ≡ length u → one ≡ S.one →
      next ≡ vector_sum S row (multiple S one u) → next ≡ u
  copied row next u n one are e long is_one is =
      is ∙ ap₂ (vector_sum S) (e ∙ ap (λ k. replicate k S.zero) long) (ap (λ c. multiple S c u) is_one) ∙ sum_one u are

-- rows of zeros, and one element replaced
pub zeros_long : (row : List ℕ) (n z : ℕ) → row ≡ replicate n z → length row ≡ n
zeros_long row n z e = ap length e ∙ length-replicate n z

pub bits_of_zeros : (bits : List ℕ) (n : ℕ) → bits ≡ replicate n 0 → AreBits bits
bits_of_zeros bits n e = subst AreBits (sym e) (zeros-bits n)

pub bits_of_set : (bits next : List ℕ) (i b : ℕ) → AreBits bits → b < 2 → next ≡ set bits i b → AreBits next
bits_of_set bits next i b are l e = subst AreBits (sym e) (set-bits bits i b l are)

pub bits_of_sum : (bits other next : List ℕ) → next ≡ vector_sum (modulo 2) bits other → AreBits next
bits_of_sum bits other next e = subst AreBits (sym e) (sum-bits bits other)

pub bits_of_multiple : (bits next : List ℕ) (c : ℕ) → next ≡ multiple (modulo 2) c bits → AreBits next
bits_of_multiple bits next c e = subst AreBits (sym e) (multiple-bits c bits)

pub bits_of_carried : (bits next : List ℕ) (from to : ℕ) → AreBits bits → next ≡ carried bits from to → AreBits next
bits_of_carried bits next from to are e = subst AreBits (sym e) (All-carried (λ b. b < 2) bits from to are)
