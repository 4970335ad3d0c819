-- A vector is brought to a place of the basis: a pivot, and then an exchange of places.
use Rattle.std.proofs.Common.{◌≡◌, ℕ, ◌+◌, ◌<◌, ◌≤◌, List, [], ◌∷◌, ◌++◌, length, get_or, set, take, drop, swap, refl, sym, ap, ap₂, ◌∙◌, subst, arith}
use Rattle.std.proofs.lemmas.List.{length-set, length-drop, length-replicate, take-set, take-set-le, take_more_set, get_or-set_same, get_or-drop, get_or-replicate, same_lists, get_or_default}
use Rattle.std.proofs.lemmas.List.Edits.{swap_is}
use Rattle.linear_algebra.specs.Scalars.{Scalars}
use Rattle.linear_algebra.specs.Vectors.{zero_vector}
use Rattle.frames.specs.Frames.{Framed, IsFrame, KeepsVectors}

pub keeps_all : (S : Scalars) (f : Framed) → KeepsVectors S f f
keeps_all S f = record { width = refl; many = refl; same = λ t x l c. c }

pub keeps_twice : (S : Scalars) (a b c : Framed) → KeepsVectors S a b → KeepsVectors S b c → KeepsVectors S a c
keeps_twice S a b c p q = record {
  width = q.width ∙ p.width;
  many = q.many ∙ p.many;
  same = λ t x l h. q.same t x (subst (λ n. t < n) (sym p.many) l) (p.same t x l h);
}

-- v comes in at t, and then goes to the place `at`
module _ (basis : List (List ℕ)) (at t : ℕ) (v : List ℕ) (l : at ≤ t) (in_t : t < length basis) where
  abbrev put : List (List ℕ)
  put = set basis t v

  as_sets : set (set put t (get_or put at [])) at (get_or put t []) ≡ swap put t at
  as_sets = let e = length-set basis t v in swap_is put t at [] (omega arith) (omega arith)

  pub before_stays : take at (swap put t at) ≡ take at basis
  before_stays =
      ap (take at) (sym as_sets) ∙ take-set (set put t (get_or put at [])) at (get_or put t []) ∙ take-set-le at put t (get_or put at []) l
      ∙ take-set-le at basis t v l

  pub comes_to : take (at + 1) (swap put t at) ≡ take at basis ++ v ∷ []
  comes_to =
      let e = length-set basis t v in
      let f = length-set put t (get_or put at []) in
      ap (take (at + 1)) (sym as_sets) ∙ take_more_set (set put t (get_or put at [])) at (get_or put t []) (omega arith)
      ∙ ap₂ (λ xs x. xs ++ x ∷ []) (take-set-le at put t (get_or put at []) l ∙ take-set-le at basis t v l) (get_or-set_same basis t v [] in_t)

-- in a frame
module _ (S : Scalars) (a b c : Framed) (at t : ℕ) (v : List ℕ) (l : at ≤ t) (in_t : t < a.width) (b_is : b.basis ≡ set a.basis t v) (frame : IsFrame S b)
    (keeps : KeepsVectors S a b) (c_is : c.basis ≡ swap b.basis t at) where
  in_basis : t < length a.basis
  in_basis =
      let e = length-set a.basis t v in
      let f = ap length b_is in
      let g = frame.is_basis.length_is in
      let h = keeps.width in
      omega arith

  pub frame_before : take at c.basis ≡ take at a.basis
  frame_before = ap (take at) (c_is ∙ ap (λ vs. swap vs t at) b_is) ∙ before_stays a.basis at t v l in_basis

  pub frame_brought : take (at + 1) c.basis ≡ take at a.basis ++ v ∷ []
  frame_brought = ap (take (at + 1)) (c_is ∙ ap (λ vs. swap vs t at) b_is) ∙ comes_to a.basis at t v l in_basis

-- zeros from a place on
pub zero_tail : (S : Scalars) (at : ℕ) (cs : List ℕ) → ((i : ℕ) → at ≤ i → i < length cs → get_or cs i 0 ≡ S.zero) →
    drop at cs ≡ zero_vector S (length (drop at cs))
zero_tail S at cs h =
    same_lists (drop at cs) (zero_vector S (length (drop at cs))) (sym (length-replicate (length (drop at cs)) S.zero))
    (λ i d l.
    let e = length-drop at cs in
    get_or-drop at cs i d ∙ get_or_default cs (at + i) d 0 (omega arith) ∙ h (at + i) (omega arith) (omega arith)
    ∙ sym (get_or-replicate (length (drop at cs)) i S.zero d l))
