-- Triangles as lists of vertices, and the cactus of the lists at the positions of a set.
use Rattle.std.proofs.Common.{◌≡◌, ℕ, ◌<◌, List, [], ◌∷◌, All, length, map, get_or, refl, ap, ap₂, ◌∙◌, subst}
use Rattle.std.proofs.lemmas.List.{length-map, get_or-map}
use Rattle.linear_algebra.specs.Scalars.{Scalars, IsField}
use Rattle.linear_algebra.specs.Vectors.{vector_sum, multiple}
use Rattle.linear_algebra.proofs.VectorLaws.{vector_sum-vector, multiple-one}
use Rattle.graph_theory.specs.Cacti.{corners}
use Rattle.graph_problems.specs.GraphLines.{unit_vector}
use Rattle.graph_problems.proofs.UnitVectors.{unit-vector}
use Rattle.cactus_front.specs.CactusLists.{triple_of}

pub sum-length : (S : Scalars) → IsField S → (n a b : ℕ) → length (vector_sum S (unit_vector S n a) (unit_vector S n b)) ≡ n
sum-length S F n a b = (vector_sum-vector S F n (unit_vector S n a) (unit_vector S n b) (unit-vector S F n a) (unit-vector S F n b)).length_is

-- a vector and one times another are their sum
pub sum-units : (S : Scalars) → IsField S → (n a b one : ℕ) (old new v : List ℕ) → new ≡ vector_sum S old (multiple S one v) → one ≡ S.one
    → old ≡ unit_vector S n a → v ≡ unit_vector S n b → new ≡ vector_sum S (unit_vector S n a) (unit_vector S n b)
sum-units S F n a b one old new v is o h k =
    is ∙ ap₂ (vector_sum S) h (ap₂ (multiple S) o k ∙ multiple-one S F (unit_vector S n b) (unit-vector S F n b).entries)

-- corners are three
pub three_corners : (Ts : List (ℕ × ℕ × ℕ)) (lists : List (List ℕ)) → lists ≡ map corners Ts → All (λ t. length t ≡ 3) lists
three_corners Ts lists e = λ k d l. let m : k < length Ts = subst (λ z. k < z) (ap length e ∙ length-map Ts corners) l in
    ap length (ap (λ z. get_or z k d) e ∙ get_or-map corners Ts k (0, 0, 0) d m)

pub triples_of_corners : (Ts : List (ℕ × ℕ × ℕ)) (lists : List (List ℕ)) → lists ≡ map corners Ts → map triple_of lists ≡ Ts
triples_of_corners Ts lists e = ap (map triple_of) e ∙ back Ts
  where
    back : (Us : List (ℕ × ℕ × ℕ)) → map triple_of (map corners Us) ≡ Us
    back [] = refl
    back (t ∷ Us) = ap (λ z. t ∷ z) (back Us)
