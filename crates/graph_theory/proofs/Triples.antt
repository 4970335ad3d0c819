-- Lists of triples in lexicographic order: they have no repetition, and what stands at increasing places is in order.
use Rattle.std.proofs.Common.{ℕ, zero, suc, ◌<◌, inl, inr, List, [], ◌∷◌, length, map, subst, sym, arith, ◌+◌}
use Rattle.std.specs.List.Sorted.{IsStrictlyIncreasing}
use Rattle.std.proofs.lemmas.List.Kept.{AllPairs-from_increasing}
use Rattle.vector_spaces.proofs.Members.{In, In-get_or, In_map-from, contains-In}
use Rattle.vector_spaces.proofs.Distinct.{IsDistinct}
use Rattle.graph_theory.specs.Cacti.{IsBefore, IsLexicographic, triple_at, corners}

not_before_itself : (t : ℕ × ℕ × ℕ) → ¬ (IsBefore t t)
not_before_itself t (inl l) = omega arith
not_before_itself t (inr (e, inl l)) = omega arith
not_before_itself t (inr (e, inr (d, l))) = omega arith

pub lexicographic_distinct : (Ts : List (ℕ × ℕ × ℕ)) → IsLexicographic Ts → IsDistinct Ts
lexicographic_distinct [] h = tt
lexicographic_distinct (t ∷ Ts) h = ((λ i. not_before_itself t (h.0 t i)), lexicographic_distinct Ts h.1)

-- at a smaller place stands the triple before
before_at : (Ts : List (ℕ × ℕ × ℕ)) → IsLexicographic Ts → (i j : ℕ) → i < j → j < length Ts → IsBefore (triple_at Ts i) (triple_at Ts j)
before_at [] h i j l k = absurd (omega arith)
before_at (t ∷ Ts) h i zero l k = absurd (omega arith)
before_at (t ∷ Ts) h zero (suc j) l k = h.0 (triple_at Ts j) (In-get_or Ts j (0, 0, 0) (omega arith))
before_at (t ∷ Ts) h (suc i) (suc j) l k = before_at Ts h.1 i j (omega arith) (omega arith)

pub lexicographic_at : (Ts : List (ℕ × ℕ × ℕ)) → IsLexicographic Ts → (L : List ℕ) → IsStrictlyIncreasing L →
    ((i : ℕ) → In i L → i < length Ts) →
    IsLexicographic (map (triple_at Ts) L)
lexicographic_at Ts h [] s b = tt
lexicographic_at Ts h (i ∷ L) s b =
    let pairs = AllPairs-from_increasing (i ∷ L) s in (
      λ u m.
          let r = In_map-from (triple_at Ts) u L m in let c = contains-In L r.0 r.1 in
          let k = pairs 0 (suc c.0) r.0 (omega arith) (let l = c.1 in omega arith) in
          subst (IsBefore (triple_at Ts i)) (sym r.2) (before_at Ts h i r.0 (let e = c.2 in omega arith) (b r.0 (inr r.1))),
      lexicographic_at Ts h L (λ k l. pairs (suc k) (suc (k + 1)) 0 (omega arith) (omega arith)) (λ j m. b j (inr m)),
    )

-- an increasing triple has three different corners
pub corners_distinct : (t : ℕ × ℕ × ℕ) → (t.0 < t.1) × (t.1 < t.2) → IsDistinct (corners t)
corners_distinct t l = let a = l.0 in let b = l.1 in (
  λ i. elim i [ inl e ↦ omega arith | inr (inl e) ↦ omega arith | inr (inr n) ↦ n ],
  ((λ i. elim i [ inl e ↦ omega arith | inr n ↦ n ]), ((λ i. i), tt)),
)
