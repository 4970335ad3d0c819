-- Tails of coordinates: what stands behind the first k. They tell the span of the first k vectors of a basis, and what is
-- independent of them.
use Rattle.std.proofs.Common.{◌≡◌, ℕ, ◌≤◌, ◌-◌, List, ◌++◌, length, take, drop, sym, ap, ap₂, ◌∙◌, subst, arith}
use Rattle.std.proofs.lemmas.List.{length-append, length-take-le, length-drop, length-replicate, take-append-drop, drop_at}
use Rattle.std.proofs.lemmas.List.Elements.{All-take, All-drop, All-append}
use Rattle.linear_algebra.specs.Scalars.{Scalars, IsScalar, IsField}
use Rattle.linear_algebra.specs.Vectors.{IsVector, AreVectors, zero_vector, vector_sum}
use Rattle.linear_algebra.specs.Spans.{combination, Combines, InSpan, IsIndependent}
use Rattle.linear_algebra.proofs.VectorLaws.{zero-vector}
use Rattle.linear_algebra.proofs.Combinations.{combination-append, combination-push_zeros}
use Rattle.linear_algebra.proofs.IndependenceLaws.{unique_coefficients}
use Rattle.echelon.proofs.Insertion.{combination-front}

module _ (S : Scalars) (F : IsField S) where
  take_vector : (n k : ℕ) (v : List ℕ) → IsVector S n v → k ≤ n → IsVector S k (take k v)
  take_vector n k v h l = record { length_is = length-take-le k v (let e = h.length_is in omega arith); entries = All-take (IsScalar S) k v h.entries }

  pub drop_vector : (n k : ℕ) (v : List ℕ) → IsVector S n v → IsVector S (n - k) (drop k v)
  drop_vector n k v h = record { length_is = length-drop k v ∙ ap (λ m. m - k) h.length_is; entries = All-drop (IsScalar S) k v h.entries }

  module _ (d : ℕ) (vs : List (List ℕ)) (basis_vectors : AreVectors S d vs) (k : ℕ) (l : k ≤ length vs) where
    pub front_vectors : AreVectors S d (take k vs)
    front_vectors = All-take (IsVector S d) k vs basis_vectors

    pub back_vectors : AreVectors S d (drop k vs)
    back_vectors = All-drop (IsVector S d) k vs basis_vectors

    -- the coordinates in front, and those behind
    combination-split : (cs : List ℕ) → IsVector S (length vs) cs →
        combination S d cs vs ≡ vector_sum S (combination S d (take k cs) (take k vs)) (combination S d (drop k cs) (drop k vs))
    combination-split cs h =
        ap₂ (combination S d) (sym (take-append-drop k cs)) (sym (take-append-drop k vs))
        ∙ combination-append S F d (take k cs) (drop k cs) (take k vs) (drop k vs)
        (subst (λ n. IsVector S n (take k cs)) (sym (length-take-le k vs l)) (take_vector (length vs) k cs h l))
        (All-drop (IsScalar S) k cs h.entries) front_vectors back_vectors

    -- coordinates over the front are coordinates over the whole, with zeros behind
    pub front_combines : (es x : List ℕ) → Combines S d (take k vs) es x → Combines S d vs (es ++ zero_vector S (length vs - k)) x
    front_combines es x c =
        let at : length es ≡ k = c.one_each.length_is ∙ length-take-le k vs l in
        let zs = zero_vector S (length vs - k) in
        record {
          one_each = record {
            length_is = length-append es zs ∙ (let e = length-replicate (length vs - k) S.zero in omega arith);
            entries = All-append (IsScalar S) es zs c.one_each.entries (zero-vector S F (length vs - k)).entries;
          };
          gives =
              combination-push_zeros S F d (length vs - k) es vs c.one_each.entries basis_vectors
              ∙ ap (combination S d es) (sym (take-append-drop k vs))
              ∙ combination-front S d es (take k vs) (drop k vs) (let e = length-take-le k vs l in omega arith) ∙ c.gives;
        }

    -- with zeros behind, the coordinates in front are enough
    pub front_of_zero_tail : (cs x : List ℕ) → Combines S d vs cs x → drop k cs ≡ zero_vector S (length vs - k) →
        Combines S d (take k vs) (take k cs) x
    front_of_zero_tail cs x c z =
        let in_front : IsVector S k (take k cs) = take_vector (length vs) k cs c.one_each l in
        record {
          one_each = subst (λ n. IsVector S n (take k cs)) (sym (length-take-le k vs l)) in_front;
          gives =
              sym (combination-front S d (take k cs) (take k vs) (drop k vs) (let e = length-take-le k vs l in let f = in_front.length_is in omega arith))
              ∙ ap (combination S d (take k cs)) (take-append-drop k vs)
              ∙ sym (combination-push_zeros S F d (length vs - k) (take k cs) vs in_front.entries basis_vectors)
              ∙ ap (λ t. combination S d (take k cs ++ t) vs) (sym z) ∙ ap (λ t. combination S d t vs) (take-append-drop k cs) ∙ c.gives;
        }

    module _ (i : IsIndependent S d vs) where
      pub zero_tail_of_front : (cs x : List ℕ) → Combines S d vs cs x → InSpan S d (take k vs) x → drop k cs ≡ zero_vector S (length vs - k)
      zero_tail_of_front cs x c s =
          let es = s.coefficients in
          let at : length es ≡ k = s.combine.one_each.length_is ∙ length-take-le k vs l in
          ap (drop k) (unique_coefficients S F d vs x cs (es ++ zero_vector S (length vs - k)) basis_vectors i c (front_combines es x s.combine))
          ∙ drop_at es (zero_vector S (length vs - k)) k at
