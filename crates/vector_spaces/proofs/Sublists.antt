-- Lists without some of their members.
use Rattle.std.proofs.Common.{◌≡◌, ◌⊎◌, inl, inr, List, [], ◌∷◌, ◌++◌, map, refl, sym, ap, ◌∙◌, subst}
use Rattle.vector_spaces.proofs.Members.{In}

-- us is vs without some of its members
abbrev pub IsSublist : {X : Type 0} → List X → List X → Type 0
IsSublist us [] = us ≡ []
IsSublist {X} us (v ∷ vs) = IsSublist us vs ⊎ ((ts : List X) × (us ≡ v ∷ ts) × IsSublist ts vs)

pub sub_in : {X : Type 0} (us vs : List X) → IsSublist us vs → (x : X) → In x us → In x vs
sub_in us [] h x i = subst (λ t. In x t) h i
sub_in us (v ∷ vs) (inl h) x i = inr (sub_in us vs h x i)
sub_in us (v ∷ vs) (inr h) x i = elim (subst (λ t. In x t) h.1 i) [ inl e ↦ inl e | inr j ↦ inr (sub_in h.0 vs h.2 x j) ]

pub sub_nil : {X : Type 0} (vs : List X) → IsSublist [] vs
sub_nil [] = refl
sub_nil (v ∷ vs) = inl (sub_nil vs)

pub sub_self : {X : Type 0} (vs : List X) → IsSublist vs vs
sub_self [] = refl
sub_self (v ∷ vs) = inr (vs, refl, sub_self vs)

pub sub_member : {X : Type 0} (x : X) (xs : List X) → In x xs → IsSublist (x ∷ []) xs
sub_member x [] i = absurd i
sub_member x (y ∷ xs) (inl e) = inr ([], ap (λ t. t ∷ []) e, sub_nil xs)
sub_member x (y ∷ xs) (inr i) = inl (sub_member x xs i)

-- one left out
pub sub_drop : {X : Type 0} (us : List X) (v : X) (vs : List X) → IsSublist (us ++ vs) (us ++ v ∷ vs)
sub_drop [] v vs = inl (sub_self vs)
sub_drop (u ∷ us) v vs = inr (us ++ vs, refl, sub_drop us v vs)

pub sub_trans : {X : Type 0} (us vs ws : List X) → IsSublist us vs → IsSublist vs ws → IsSublist us ws
sub_trans us vs [] h k = subst (λ t. IsSublist us t) k h
sub_trans us vs (w ∷ ws) h (inl k) = inl (sub_trans us vs ws h k)
sub_trans us vs (w ∷ ws) h (inr k) = elim (subst (λ t. IsSublist us t) k.1 h) [ inl p ↦ inl (sub_trans us k.0 ws p k.2) | inr p ↦ inr (p.0, p.1, sub_trans p.0 k.0 ws p.2 k.2) ]

-- a sublist of a mapped list is the image of a sublist
pub sub_map-from : {X Y : Type 0} (g : X → Y) (ys : List Y) (xs : List X) → IsSublist ys (map g xs) → (us : List X) × IsSublist us xs × (map g us ≡ ys)
sub_map-from g ys [] h = ([], refl, sym h)
sub_map-from g ys (x ∷ xs) (inl h) = let r = sub_map-from g ys xs h in (r.0, inl r.1, r.2)
sub_map-from g ys (x ∷ xs) (inr h) = let r = sub_map-from g h.0 xs h.2 in (x ∷ r.0, inr (r.0, refl, r.1), ap (λ t. g x ∷ t) r.2 ∙ sym h.1)
