-- Two vectors of a list in each other's place, and so the coordinates over it.
use Rattle.std.proofs.Common.{◌≡◌, ◌≢◌, ℕ, ◌<◌, List, [], ◌∷◌, length, map, get_or, set, refl, sym, ap, ap₂, ◌∙◌, subst, arith, All}
use Rattle.std.specs.List.{swap}
use Rattle.std.proofs.Math.Decide.{ℕ_discrete}
use Rattle.std.proofs.lemmas.List.{length-map, length-set, map-set, set-get_or, set-set, set_comm, get_or-map, get_or-set_same}
use Rattle.std.proofs.lemmas.List.{get_or-set_other}
use Rattle.std.proofs.lemmas.List.Edits.{length-swap, swap_is}
use Rattle.std.proofs.lemmas.List.Sorted.{All-permutation, Contains-permutation, IsPermutation-swap}
use Rattle.vector_spaces.proofs.Members.{all-In, In-contains, contains-In}
use Rattle.vector_spaces.proofs.Space.{Field, Space, linear}
use Rattle.vector_spaces.proofs.Combination.{combination as combination_of}
use Rattle.linear_algebra.specs.Scalars.{Scalars, IsScalar, IsField}
use Rattle.linear_algebra.specs.Vectors.{IsVector, AreVectors}
use Rattle.linear_algebra.specs.Spans.{Combines, InSpan}
use Rattle.linear_algebra.proofs.Elements.{scalar_field}
use Rattle.linear_algebra.proofs.Coordinates.{list, tuple, element, space}
use Rattle.linear_algebra.proofs.Transfer.{tuples_of, combination_tuples}
use Rattle.linear_algebra.proofs.SpanLaws.{span_member}
use Rattle.linear_algebra.proofs.IndependenceLaws.{same_length_independent}
use Rattle.coordinates.specs.Bases.{IsBasis}
use Rattle.coordinates.proofs.Replacements.{replaced}

pub swap_same : {X : Type 0} (xs : List X) (i : ℕ) → swap xs i i ≡ xs
swap_same [] i = refl
swap_same (x ∷ xs) i = set-set (x ∷ xs) i _ _ ∙ set-get_or (x ∷ xs) i x

pub map-swap : {X Y : Type 0} (g : X → Y) (xs : List X) (i j : ℕ) → i < length xs → j < length xs →
    map g (swap xs i j) ≡ swap (map g xs) i j
map-swap g [] i j h k = refl
map-swap g (x ∷ xs) i j h k =
    map-set g (set (x ∷ xs) i (get_or (x ∷ xs) j x)) j (get_or (x ∷ xs) i x)
    ∙ ap₂ (λ ys y. set ys j y)
    (map-set g (x ∷ xs) i (get_or (x ∷ xs) j x) ∙ ap (set (map g (x ∷ xs)) i) (sym (get_or-map g (x ∷ xs) j x (g x) k)))
    (sym (get_or-map g (x ∷ xs) i x (g x) h))

module _ {K V : Type 0} (f : Field K) (s : Space f V) where
  infixl 65 ◌⊕◌
  infixl 70 ◌·◌
  open f use {zero as o}
  open s use {null, ◌⊕◌, ◌·◌}

  module _ (cs : List K) (vs : List V) (i j : ℕ) (e : length cs ≡ length vs) (h : i < length vs) (k : j < length vs) (n : i ≢ j) where
    a : K
    a = get_or cs i o

    b : K
    b = get_or cs j o

    v : V
    v = get_or vs i null

    w : V
    w = get_or vs j null

    others : V
    others = combination_of s (set (set cs i o) j o) vs

    as_they_stand : combination_of s cs vs ≡ others ⊕ a · v ⊕ b · w
    unfolding a b v w others
    as_they_stand =
        ap (combination_of s cs) (sym (set-get_or vs j null)) ∙ replaced f s cs vs j w k e
        ∙ ap (λ t. t ⊕ b · w) (ap (combination_of s (set cs j o)) (sym (set-get_or vs i null)) ∙ replaced f s (set cs j o) vs i v h (length-set cs j o ∙ e)
        ∙ ap₂ (λ x y. combination_of s x vs ⊕ y · v) (sym (set_comm cs i j o o n)) (get_or-set_other cs j i o o n))

    swapped : combination_of s (set (set cs i b) j a) (set (set vs i w) j v) ≡ others ⊕ b · w ⊕ a · v
    unfolding a b v w others
    swapped =
        let ds : List K = set (set cs i b) j a in
        let at_j : get_or ds j o ≡ a = get_or-set_same (set cs i b) j a o (subst (λ m. j < m) (sym (length-set cs i b ∙ e)) k) in
        let less : set ds j o ≡ set (set cs i b) j o = set-set (set cs i b) j a o in
        let at_i : get_or (set (set cs i b) j o) i o ≡ b = get_or-set_other (set cs i b) j i o o n ∙ get_or-set_same cs i b o (subst (λ m. i < m) (sym e) h) in
        let both : set (set (set cs i b) j o) i o ≡ set (set cs i o) j o = ap (λ x. set x i o) (set_comm cs i j b o n) ∙ set-set (set cs j o) i b o ∙ sym (set_comm cs i j o o n) in
        replaced f s ds (set vs i w) j v (subst (λ m. j < m) (sym (length-set vs i w)) k) (length-set (set cs i b) j a ∙ length-set cs i b ∙ e ∙ sym (length-set vs i w))
        ∙ ap₂ (λ x y. x ⊕ y · v) (ap (λ x. combination_of s x (set vs i w)) less ∙ replaced f s (set (set cs i b) j o) vs i w h (length-set (set cs i b) j o ∙ length-set cs i b ∙ e) ∙ ap₂ (λ x y. combination_of s x vs ⊕ y · w) both at_i) at_j

  turned : (x y z : V) → x ⊕ y ⊕ z ≡ x ⊕ z ⊕ y
  turned x y z = simp linear

  pub combination-swap : (cs : List K) (vs : List V) (i j : ℕ) → length cs ≡ length vs → i < length vs → j < length vs →
      combination_of s (swap cs i j) (swap vs i j) ≡ combination_of s cs vs
  unfolding a b v w
  combination-swap cs vs i j e h k = go (ℕ_discrete i j)
    where
      go : Dec (i ≡ j) → combination_of s (swap cs i j) (swap vs i j) ≡ combination_of s cs vs
      go (yes q) =
          ap (λ m. combination_of s (swap cs i m) (swap vs i m)) (sym q) ∙ ap₂ (combination_of s) (swap_same cs i) (swap_same vs i)
      go (no n) =
          ap₂ (combination_of s) (sym (swap_is cs i j o (subst (λ m. i < m) (sym e) h) (subst (λ m. j < m) (sym e) k))) (sym (swap_is vs i j null h k))
          ∙ swapped cs vs i j e h k n ∙ turned (others cs vs i j e h k n) _ _ ∙ sym (as_they_stand cs vs i j e h k n)

module _ (S : Scalars) (F : IsField S) (d : ℕ) where
  -- the columns of coordinates go with the vectors
  pub swap_combines : (vs : List (List ℕ)) (i j : ℕ) (cs x : List ℕ) → AreVectors S d vs → i < length vs → j < length vs →
      Combines S d vs cs x →
      Combines S d (swap vs i j) (swap cs i j) x
  swap_combines vs i j cs x h k l c =
      let i_in : i < length cs = subst (λ n. i < n) (sym c.one_each.length_is) k in
      let j_in : j < length cs = subst (λ n. j < n) (sym c.one_each.length_is) l in
      let entries : All (IsScalar S) (swap cs i j) = All-permutation (IsScalar S) cs (swap cs i j) (IsPermutation-swap cs (swap cs i j) i j i_in j_in refl) c.one_each.entries in
      let vectors : AreVectors S d (swap vs i j) = All-permutation (IsVector S d) vs (swap vs i j) (IsPermutation-swap vs (swap vs i j) i j k l refl) h in
      let as_many : length (tuples_of S F d vs) ≡ length vs = length-map vs (tuple S F d) in
      record {
        one_each = record { length_is = length-swap cs i j ∙ c.one_each.length_is ∙ sym (length-swap vs i j); entries = entries };
        gives =
            sym (combination_tuples S F d (swap cs i j) (swap vs i j) entries vectors)
            ∙ ap₂ (λ ks ts. list S d (combination_of (space S F d) ks ts)) (map-swap (element S F) cs i j i_in j_in) (map-swap (tuple S F d) vs i j k l)
            ∙ ap (list S d) (combination-swap (scalar_field S F) (space S F d) (map (element S F) cs) (tuples_of S F d vs) i j
            (length-map cs (element S F) ∙ c.one_each.length_is ∙ sym as_many) (subst (λ n. i < n) (sym as_many) k) (subst (λ n. j < n) (sym as_many) l))
            ∙ combination_tuples S F d cs vs c.one_each.entries h ∙ c.gives;
      }

  pub swap_basis : (vs : List (List ℕ)) (i j : ℕ) → IsBasis S d vs → i < length vs → j < length vs → IsBasis S d (swap vs i j)
  swap_basis vs i j basis k l =
      let shuffled = IsPermutation-swap vs (swap vs i j) i j k l refl in
      let vectors : AreVectors S d (swap vs i j) = All-permutation (IsVector S d) vs (swap vs i j) shuffled basis.vectors in
      record {
        vectors = vectors;
        length_is = length-swap vs i j ∙ basis.length_is;
        independent = same_length_independent S F d vs (swap vs i j) basis.vectors vectors basis.independent
            (all-In (InSpan S d (swap vs i j)) vs (λ v m. span_member S F d (swap vs i j) v vectors
            (In-contains (swap vs i j) v (Contains-permutation vs (swap vs i j) v shuffled (contains-In vs v m)))))
            (let e = length-swap vs i j in omega arith);
      }
