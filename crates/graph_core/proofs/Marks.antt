-- The marks at the neighbours of a vertex, edge by edge.
use Rattle.std.proofs.Common.{◌≡◌, ℕ, zero, suc, ◌+◌, ◌<◌, ◌⊎◌, inl, inr, List, [], ◌∷◌, ◌++◌, Bool, true, false, IsTrue, length, get_or, take, nat_eq, refl, sym, ap, ap₂, subst, ◌∙◌, arith}
use Rattle.std.specs.Prelude.{slice_set, ◌↔◌, if◌then◌else◌}
use Rattle.std.proofs.lemmas.Bool.{eqb-true, eqb-false}
use Rattle.std.proofs.lemmas.List.{take_more, length-set}
use Rattle.vector_spaces.proofs.Members.{In, In-append, In-append_left, In-append_right}
use Rattle.graph_theory.specs.Walks.{AreAdjacent}
use Rattle.graph_core.specs.Gathered.{marked_by}

abbrev IsMarked : List Bool → ℕ → Type 0
IsMarked xs b = IsTrue (get_or xs b false)

set_marked : (xs : List Bool) (j b : ℕ) → IsMarked (slice_set xs j true) b → IsMarked xs b ⊎ (j ≡ b)
set_marked [] j b h = inl h
set_marked (x ∷ xs) zero zero h = inr refl
set_marked (x ∷ xs) zero (suc b) h = inl h
set_marked (x ∷ xs) (suc j) zero h = inl h
set_marked (x ∷ xs) (suc j) (suc b) h = elim (set_marked xs j b h) [ inl k ↦ inl k | inr e ↦ inr (ap suc e) ]

marked_set : (xs : List Bool) (j b : ℕ) → IsMarked xs b → IsMarked (slice_set xs j true) b
marked_set [] j b h = h
marked_set (x ∷ xs) zero zero h = refl
marked_set (x ∷ xs) zero (suc b) h = h
marked_set (x ∷ xs) (suc j) zero h = h
marked_set (x ∷ xs) (suc j) (suc b) h = marked_set xs j b h

marked_here : (xs : List Bool) (j : ℕ) → j < length xs → IsMarked (slice_set xs j true) j
marked_here [] j l = absurd (omega arith)
marked_here (x ∷ xs) zero l = refl
marked_here (x ∷ xs) (suc j) l = marked_here xs j (omega arith)

-- the edge e joins v and b
abbrev Joins : ℕ × ℕ → ℕ → ℕ → Type 0
Joins e v b = ((e.0 ≡ v) × (e.1 ≡ b)) ⊎ ((e.1 ≡ v) × (e.0 ≡ b))

from_marked_by : (marks : List Bool) (e : ℕ × ℕ) (v b : ℕ) → IsMarked (marked_by marks e v) b → IsMarked marks b ⊎ Joins e v b
from_marked_by marks e v b = go (nat_eq e.0 v) (nat_eq e.1 v) refl refl
  where
    go : (x y : Bool) → nat_eq e.0 v ≡ x → nat_eq e.1 v ≡ y →
        IsMarked (if y then slice_set (if x then slice_set marks e.1 true else marks) e.0 true else
        (if x then slice_set marks e.1 true else marks)) b → IsMarked marks b ⊎ Joins e v b
    go true true p q h = elim (set_marked (slice_set marks e.1 true) e.0 b h) [
      | inl k ↦ elim (set_marked marks e.1 b k) [ inl m ↦ inl m | inr m ↦ inr (inl (eqb-true e.0 v p, m)) ]
      | inr k ↦ inr (inr (eqb-true e.1 v q, k))
    ]
    go true false p q h = elim (set_marked marks e.1 b h) [ inl m ↦ inl m | inr m ↦ inr (inl (eqb-true e.0 v p, m)) ]
    go false true p q h = elim (set_marked marks e.0 b h) [ inl m ↦ inl m | inr m ↦ inr (inr (eqb-true e.1 v q, m)) ]
    go false false p q h = inl h

to_marked_by : (marks : List Bool) (e : ℕ × ℕ) (v b : ℕ) → b < length marks → IsMarked marks b ⊎ Joins e v b →
    IsMarked (marked_by marks e v) b
to_marked_by marks e v b l = go (nat_eq e.0 v) (nat_eq e.1 v) refl refl
  where
    go : (x y : Bool) → nat_eq e.0 v ≡ x → nat_eq e.1 v ≡ y → IsMarked marks b ⊎ Joins e v b →
        IsMarked (if y then slice_set (if x then slice_set marks e.1 true else marks) e.0 true else
        (if x then slice_set marks e.1 true else marks)) b
    go true true p q (inl h) = marked_set (slice_set marks e.1 true) e.0 b (marked_set marks e.1 b h)
    go true false p q (inl h) = marked_set marks e.1 b h
    go false true p q (inl h) = marked_set marks e.0 b h
    go false false p q (inl h) = h
    go true true p q (inr (inl j)) = marked_set (slice_set marks e.1 true) e.0 b
        (subst (λ z. IsMarked (slice_set marks z true) b) (sym j.1) (marked_here marks b l))
    go true false p q (inr (inl j)) = subst (λ z. IsMarked (slice_set marks z true) b) (sym j.1) (marked_here marks b l)
    go false y p q (inr (inl j)) = absurd (eqb-false e.0 v p j.0)
    go x true p q (inr (inr j)) = subst (λ z. IsMarked (slice_set (if x then slice_set marks e.1 true else marks) z true) b) (sym j.1)
        (marked_here (if x then slice_set marks e.1 true else marks) b (long x))
      where
        long : (x : Bool) → b < length (if x then slice_set marks e.1 true else marks)
        long true = omega (arith, length-set marks e.1 true)
        long false = l
    go x false p q (inr (inr j)) = absurd (eqb-false e.1 v q j.0)

pub length-marked_by : (marks : List Bool) (e : ℕ × ℕ) (v : ℕ) → length (marked_by marks e v) ≡ length marks
length-marked_by marks e v = go (nat_eq e.0 v) (nat_eq e.1 v)
  where
    go : (x y : Bool) → length (if y then slice_set (if x then slice_set marks e.1 true else marks) e.0 true else
        (if x then slice_set marks e.1 true else marks)) ≡ length marks
    go true true = length-set (slice_set marks e.1 true) e.0 true ∙ length-set marks e.1 true
    go true false = length-set marks e.1 true
    go false true = length-set marks e.0 true
    go false false = refl

-- the marks are those of the first i edges; then with edge i they are those of one more
pub marked_more : (E : List (ℕ × ℕ)) (i v b : ℕ) (marks : List Bool) → i < length E → b < length marks →
    IsTrue (get_or marks b false) ↔ AreAdjacent (take i E) v b →
    IsTrue (get_or (marked_by marks (get_or E i (0, 0)) v) b false) ↔ AreAdjacent (take (i + 1) E) v b
marked_more E i v b marks l m h = subst (λ L. IsTrue (get_or (marked_by marks e v) b false) ↔ AreAdjacent L v b)
    (sym (take_more E i (0, 0) l)) (
      λ k. elim (from_marked_by marks e v b k) [ inl x ↦ old (h.0 x) | inr j ↦ new j ],
      λ a. to_marked_by marks e v b m (elim a [
        | inl x ↦ elim (In-append (v, b) (take i E) (e ∷ []) x) [ inl y ↦ inl (h.1 (inl y)) | inr y ↦ inr (inl (one y)) ]
        | inr x ↦ elim (In-append (b, v) (take i E) (e ∷ []) x) [ inl y ↦ inl (h.1 (inr y)) | inr y ↦ inr (inr (other y)) ]
      ]),
    )
  where
    e : ℕ × ℕ
    e = get_or E i (0, 0)

    old : AreAdjacent (take i E) v b → AreAdjacent (take i E ++ e ∷ []) v b
    old (inl x) = inl (In-append_left (v, b) (take i E) (e ∷ []) x)
    old (inr x) = inr (In-append_left (b, v) (take i E) (e ∷ []) x)

    new : Joins e v b → AreAdjacent (take i E ++ e ∷ []) v b
    new (inl j) = inl (In-append_right (v, b) (take i E) (e ∷ []) (inl (ap₂ (λ x y. (x, y)) (sym j.0) (sym j.1))))
    new (inr j) = inr (In-append_right (b, v) (take i E) (e ∷ []) (inl (ap₂ (λ x y. (x, y)) (sym j.1) (sym j.0))))

    one : In (v, b) (e ∷ []) → (e.0 ≡ v) × (e.1 ≡ b)
    one (inl q) = (sym (ap (λ p. p.0) q), sym (ap (λ p. p.1) q))
    one (inr n) = absurd n

    other : In (b, v) (e ∷ []) → (e.1 ≡ v) × (e.0 ≡ b)
    other (inl q) = (sym (ap (λ p. p.1) q), sym (ap (λ p. p.0) q))
    other (inr n) = absurd n
