-- The list of the vector that comes in becomes a unit vector.
use Rattle.std.proofs.Common.{◌≡◌, ℕ, ◌<◌, inl, inr, List, [], ◌∷◌, ◌++◌, length, get_or, set, refl, sym, ap, ap₂, ◌∙◌, subst, arith, All}
use Rattle.std.proofs.Math.Seq.{get_or-append_seam}
use Rattle.std.proofs.lemmas.List.{length-append, length-replicate, set-set, set-get_or, get_or-set_same, get_or-replicate}
use Rattle.std.proofs.lemmas.List.Elements.{All-head, All-tail}
use Rattle.vector_spaces.proofs.Members.{In-all, all-In, In-append_left, In-append_right}
use Rattle.linear_algebra.specs.Scalars.{Scalars, IsScalar, IsField}
use Rattle.linear_algebra.specs.Vectors.{IsVector, AreVectors, zero_vector, vector_sum, multiple}
use Rattle.linear_algebra.proofs.VectorLaws.{zero-vector}
use Rattle.coordinates.specs.Bases.{IsPivoted, unit_vector}
use Rattle.coordinates.proofs.Pivots.{set-vector, zero_multiple}
use Rattle.coordinates.proofs.Units.{zeros-sum}
use Rattle.frames.proofs.Walks.{changed_around}

module _ (S : Scalars) (F : IsField S) where
  pub became_unit : (ts ws ds : List ℕ) (z o i : ℕ) → All (IsScalar S) ts → z ≡ S.zero → ws ≡ multiple S z ts → o ≡ S.one → ds ≡ set ws i o →
      ds ≡ unit_vector S (length ts) i
  became_unit ts ws ds z o i h is_z is_ws is_o is_ds =
      is_ds ∙ ap₂ (λ w x. set w i x) (is_ws ∙ ap (λ c. multiple S c ts) is_z ∙ zero_multiple S F ts h) is_o

  one_multiple : (v : List ℕ) → All (IsScalar S) v → multiple S S.one v ≡ v
  one_multiple [] h = refl
  one_multiple (a ∷ v) h =
      let a_in = All-head (IsScalar S) a v h in
      ap₂ (λ x xs. x ∷ xs) (F.product_comm S.one a F.one_in a_in ∙ F.product-one a a_in) (one_multiple v (All-tail (IsScalar S) a v h))

  pub unit_pivoted : (n i : ℕ) (ts : List ℕ) → IsVector S n ts → i < n → IsPivoted S i ts ts (unit_vector S n i)
  unit_pivoted n i ts h l =
      let zs = zero_vector S n in
      let long : length zs ≡ n = length-replicate n S.zero in
      let at : get_or (unit_vector S n i) i 0 ≡ S.one = get_or-set_same zs i S.one 0 (omega arith) in
      let cleared : set (unit_vector S n i) i S.zero ≡ zs =
      set-set zs i S.one S.zero ∙ ap (set zs i) (sym (get_or-replicate n i S.zero 0 l)) ∙ set-get_or zs i 0 in
      record {
        is_vector = subst (λ m. IsVector S m (unit_vector S n i)) (sym h.length_is) (set-vector S F n i S.one zs (zero-vector S F n) F.one_in);
        gives = ap₂ (vector_sum S) cleared (ap (λ x. multiple S x ts) at ∙ one_multiple ts h.entries) ∙ zeros-sum S F n ts h;
      }

-- all lists: those in front of the one at j, it, and those behind
module _ (S : Scalars) (j : ℕ) (lists front back rest : List (List ℕ)) (x : List ℕ) (is_lists : lists ≡ front ++ back) (is_back : back ≡ x ∷ rest) (at : length front ≡ j) where
  whole : lists ≡ front ++ x ∷ rest
  whole = is_lists ∙ ap (λ xs. front ++ xs) is_back

  pub one_at : get_or lists j [] ≡ x
  one_at = ap (λ xs. get_or xs j []) whole ∙ ap (λ m. get_or (front ++ x ∷ rest) m []) (sym at) ∙ get_or-append_seam front x rest []

  module _ (vectors : AreVectors S (length (get_or lists j [])) lists) where
    all_in : AreVectors S (length x) (front ++ x ∷ rest)
    all_in = subst (λ y. AreVectors S (length y) (front ++ x ∷ rest)) one_at (subst (AreVectors S (length (get_or lists j []))) whole vectors)

    pub front_lists : AreVectors S (length x) front
    front_lists = all-In (IsVector S (length x)) front (λ v m. In-all (IsVector S (length x)) (front ++ x ∷ rest) all_in v (In-append_left v front (x ∷ rest) m))

    pub incoming_vector : IsVector S (length x) x
    incoming_vector = In-all (IsVector S (length x)) (front ++ x ∷ rest) all_in x (In-append_right x front (x ∷ rest) (inl refl))

    pub rest_lists : AreVectors S (length x) rest
    rest_lists = all-In (IsVector S (length x)) rest (λ v m. In-all (IsVector S (length x)) (front ++ x ∷ rest) all_in v (In-append_right v front (x ∷ rest) (inr m)))

  pub incoming_place : (i : ℕ) → i < length (get_or lists j []) → i < length x
  incoming_place i l = subst (λ y. i < length y) one_at l

  pub incoming_factor : (i a : ℕ) → S.product (get_or (get_or lists j []) i 0) a ≡ S.one → S.product (get_or x i 0) a ≡ S.one
  incoming_factor i a e = subst (λ y. S.product (get_or y i 0) a ≡ S.one) one_at e

  module _ (F : IsField S) (i : ℕ) (front_now rest_now : List (List ℕ)) (y : List ℕ) (front_many : length front_now ≡ length front) (rest_many : length rest_now ≡ length rest)
      (front_each : (t : ℕ) → t < length front → IsPivoted S i x (get_or front t []) (get_or front_now t []))
      (rest_each : (t : ℕ) → t < length rest → IsPivoted S i x (get_or rest t []) (get_or rest_now t []))
      (vectors : AreVectors S (length (get_or lists j [])) lists) (place : i < length (get_or lists j [])) (is_y : y ≡ unit_vector S (length x) i) where
    abbrev after : List (List ℕ)
    after = front_now ++ y ∷ rest_now

    pub all_many : length after ≡ length lists
    all_many =
        let a = length-append front_now (y ∷ rest_now) in
        let b = length-append front (x ∷ rest) in
        let c = ap length whole in
        omega arith

    pub all_pivoted : (t : ℕ) → t < length lists → IsPivoted S i (get_or lists j []) (get_or lists t []) (get_or after t [])
    all_pivoted t k =
        let here : IsPivoted S i x x y = subst (IsPivoted S i x x) (sym is_y) (unit_pivoted S F (length x) i x (incoming_vector vectors) (incoming_place i place)) in
        subst (λ z. IsPivoted S i z (get_or lists t []) (get_or after t [])) (sym one_at)
        (subst (λ zs. IsPivoted S i x (get_or zs t []) (get_or after t [])) (sym whole)
        (changed_around (IsPivoted S i x) front front_now rest rest_now x y front_many front_each here rest_each t (subst (λ zs. t < length zs) whole k)))
