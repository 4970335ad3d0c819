-- A graph has one list of triangles in lexicographic order, so it has one problem of triangles.
use Rattle.std.proofs.Common.{◌≡◌, ℕ, inl, inr, List, [], ◌∷◌, refl, sym, ap, ap₂, ◌∙◌, subst, arith}
use Rattle.vector_spaces.proofs.Members.{In}
use Rattle.linear_algebra.specs.Scalars.{Scalars}
use Rattle.parity_lines.specs.Problems.{ParityProblem}
use Rattle.graph_theory.specs.Cacti.{IsBefore, IsLexicographic}
use Rattle.graph_problems.specs.GraphLines.{triangle_problem, IsCactusProblem}

not_both_before : (t u : ℕ × ℕ × ℕ) → IsBefore t u → ¬ (IsBefore u t)
not_both_before t u (inl l) (inl k) = omega arith
not_both_before t u (inl l) (inr (e, k)) = omega arith
not_both_before t u (inr (e, l)) (inl k) = omega arith
not_both_before t u (inr (e, inl l)) (inr (d, inl k)) = omega arith
not_both_before t u (inr (e, inl l)) (inr (d, inr (c, k))) = omega arith
not_both_before t u (inr (e, inr (b, l))) (inr (d, inl k)) = omega arith
not_both_before t u (inr (e, inr (b, l))) (inr (d, inr (c, k))) = omega arith

-- lists in order with the same members are the same
same_in_order : (Ts Us : List (ℕ × ℕ × ℕ)) → IsLexicographic Ts → IsLexicographic Us → ((t : ℕ × ℕ × ℕ) → In t Ts → In t Us)
    → ((t : ℕ × ℕ × ℕ) → In t Us → In t Ts) → Ts ≡ Us
same_in_order [] [] h k a b = refl
same_in_order [] (u ∷ Us) h k a b = absurd (b u (inl refl))
same_in_order (t ∷ Ts) [] h k a b = absurd (a t (inl refl))
same_in_order (t ∷ Ts) (u ∷ Us) h k a b = ap₂ (λ x xs. x ∷ xs) first (same_in_order Ts Us h.1 k.1 forward back)
  where
    first : t ≡ u
    first = elim (a t (inl refl)) [
      | inl e ↦ e
      | inr i ↦ elim (b u (inl refl)) [
        | inl e ↦ sym e
        | inr j ↦ absurd (not_both_before t u (h.0 u j) (k.0 t i))
      ]
    ]

    forward : (x : ℕ × ℕ × ℕ) → In x Ts → In x Us
    forward x i = elim (a x (inr i)) [
      | inl e ↦ absurd (not_both_before t t (subst (IsBefore t) (e ∙ sym first) (h.0 x i)) (subst (IsBefore t) (e ∙ sym first) (h.0 x i)))
      | inr j ↦ j
    ]

    back : (x : ℕ × ℕ × ℕ) → In x Us → In x Ts
    back x i = elim (b x (inr i)) [
      | inl e ↦ absurd (not_both_before u u (subst (IsBefore u) (e ∙ first) (k.0 x i)) (subst (IsBefore u) (e ∙ first) (k.0 x i)))
      | inr j ↦ j
    ]

pub one_cactus_problem : (S : Scalars) (n : ℕ) (E : List (ℕ × ℕ)) (p q : ParityProblem) → IsCactusProblem S n E p → IsCactusProblem S n E q → p ≡ q
one_cactus_problem S n E p q h k = h.problem ∙ ap (triangle_problem S n) (same_in_order h.triples k.triples h.triangles.ordered k.triangles.ordered
    (λ t i. k.triangles.all t (h.triangles.each t i)) (λ t i. h.triangles.all t (k.triangles.each t i))) ∙ sym k.problem
