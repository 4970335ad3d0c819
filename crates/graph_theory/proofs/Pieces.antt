-- Lists that share no member, as the pieces of one list without repetition: any different ones of them, in any order, share none.
use Rattle.std.proofs.Common.{◌≡◌, inl, inr, List, [], ◌∷◌, refl, sym, subst, ◌∙◌}
use Rattle.std.specs.List.{flat_map}
use Rattle.vector_spaces.proofs.Members.{In, In-flat_map, In_flat_map-from}
use Rattle.vector_spaces.proofs.Distinct.{IsDistinct, distinct_append, distinct_left, distinct_right, distinct_apart}

module _ {X Y : Type 0} (f : X → List Y) where
  pub piece_distinct : (xs : List X) → IsDistinct (flat_map f xs) → (x : X) → In x xs → IsDistinct (f x)
  piece_distinct [] d x i = absurd i
  piece_distinct (z ∷ xs) d x (inl e) = subst (λ t. IsDistinct (f t)) (sym e) (distinct_left (f z) (flat_map f xs) d)
  piece_distinct (z ∷ xs) d x (inr i) = piece_distinct xs (distinct_right (f z) (flat_map f xs) d) x i

  -- two pieces with a common member are the same
  pub common_member : (xs : List X) → IsDistinct (flat_map f xs) → (x z : X) → In x xs → In z xs → (y : Y) → In y (f x) → In y (f z) → x ≡ z
  common_member [] d x z i j y a b = absurd i
  common_member (w ∷ xs) d x z (inl p) (inl q) y a b = p ∙ sym q
  common_member (w ∷ xs) d x z (inl p) (inr j) y a b =
      absurd (distinct_apart (f w) (flat_map f xs) d y (subst (λ t. In y (f t)) p a) (In-flat_map f xs z y j b))
  common_member (w ∷ xs) d x z (inr i) (inl q) y a b =
      absurd (distinct_apart (f w) (flat_map f xs) d y (subst (λ t. In y (f t)) q b) (In-flat_map f xs x y i a))
  common_member (w ∷ xs) d x z (inr i) (inr j) y a b = common_member xs (distinct_right (f w) (flat_map f xs) d) x z i j y a b

  pub some_pieces : (xs zs : List X) → IsDistinct (flat_map f xs) → IsDistinct zs → ((z : X) → In z zs → In z xs) →
      IsDistinct (flat_map f zs)
  some_pieces xs [] d k h = tt
  some_pieces xs (z ∷ zs) d k h = distinct_append (f z) (flat_map f zs) (piece_distinct xs d z (h z (inl refl)))
      (some_pieces xs zs d k.1 (λ x i. h x (inr i))) apart
    where
      apart : (y : Y) → In y (f z) → ¬ (In y (flat_map f zs))
      apart y i j = let q = In_flat_map-from f zs y j in
          k.0 (subst (λ t. In t zs) (sym (common_member xs d z q.0 (h z (inl refl)) (h q.0 (inr q.1)) y i q.2)) q.1)
