-- Lists with a member in the middle.
use Rattle.std.proofs.Common.{◌≡◌, ◌≢◌, suc, inl, inr, List, [], ◌∷◌, ◌++◌, length, sym, ap, arith}
use Rattle.std.proofs.lemmas.List.{length-append}
use Rattle.vector_spaces.proofs.Members.{In, In-append_right}
use Rattle.vector_spaces.proofs.Sublists.{sub_in, sub_drop}

pub length-middle : {X : Type 0} (us : List X) (v : X) (vs : List X) → length (us ++ v ∷ vs) ≡ suc (length (us ++ vs))
length-middle us v vs = let a = length-append us (v ∷ vs) in let b = length-append us vs in omega arith

-- the member in the middle moved to the front, and back
pub in_middle : {X : Type 0} (us : List X) (v : X) (vs : List X) (x : X) → In x (us ++ v ∷ vs) → In x (v ∷ us ++ vs)
in_middle [] v vs x i = i
in_middle (u ∷ us) v vs x (inl e) = inr (inl e)
in_middle (u ∷ us) v vs x (inr i) = elim (in_middle us v vs x i) [ inl e ↦ inl e | inr j ↦ inr (inr j) ]

pub middle_in : {X : Type 0} (us : List X) (v : X) (vs : List X) (x : X) → In x (v ∷ us ++ vs) → In x (us ++ v ∷ vs)
middle_in us v vs x (inl e) = In-append_right x us (v ∷ vs) (inl e)
middle_in us v vs x (inr i) = sub_in (us ++ vs) (us ++ v ∷ vs) (sub_drop us v vs) x i

-- the others than the one in the middle
pub in_others : {X : Type 0} (us : List X) (v : X) (vs : List X) (x : X) → In x (us ++ v ∷ vs) → x ≢ v → In x (us ++ vs)
in_others us v vs x i n = elim (in_middle us v vs x i) [ inl e ↦ absurd (n e) | inr j ↦ j ]

-- a list splits at each of its members
pub in_split : {X : Type 0} (x : X) (xs : List X) → In x xs → (us : List X) × (vs : List X) × (xs ≡ us ++ x ∷ vs)
in_split x [] i = absurd i
in_split x (y ∷ xs) (inl e) = ([], xs, ap (λ t. t ∷ xs) (sym e))
in_split x (y ∷ xs) (inr i) = let r = in_split x xs i in (y ∷ r.0, r.1, ap (λ t. y ∷ t) r.2)
