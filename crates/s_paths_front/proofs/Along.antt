-- The vertices along the edges of a path, one edge after another.
use Rattle.std.proofs.Common.{◌≡◌, ℕ, zero, suc, ◌+◌, ◌<◌, ◌⊎◌, List, [], ◌∷◌, ◌++◌, length, take, get_or, sym, ap, ap₂, ◌∙◌, subst, arith}
use Rattle.std.proofs.lemmas.List.{take_more}
use Rattle.graph_theory.specs.Paths.{LeadThrough}

-- e has the ends x and y, either first
abbrev pub Joins : ℕ × ℕ → ℕ → ℕ → Type 0
Joins e x y = (e ≡ (x, y)) ⊎ (e ≡ (y, x))

step : (ends : ℕ → ℕ × ℕ) (x : ℕ) (es vs : List ℕ) → LeadThrough ends x es vs → (i : ℕ) → i < length es
    → Joins (ends (get_or es i 0)) (get_or (x ∷ vs) i 0) (get_or vs i 0) × (i < length vs)
step ends x [] vs l i m = absurd (omega arith)
step ends x (e ∷ es) [] l i m = absurd l
step ends x (e ∷ es) (v ∷ vs) l zero m = (l.0, omega arith)
step ends x (e ∷ es) (v ∷ vs) l (suc i) m = let r = step ends v es vs l.1 i (omega arith) in (r.0, (let k = r.1 in omega arith))

pub as_long : (ends : ℕ → ℕ × ℕ) (x : ℕ) (es vs : List ℕ) → LeadThrough ends x es vs → length es ≡ length vs
as_long ends x [] [] l = omega arith
as_long ends x [] (v ∷ vs) l = absurd l
as_long ends x (e ∷ es) [] l = absurd l
as_long ends x (e ∷ es) (v ∷ vs) l = ap suc (as_long ends v es vs l.1)

-- one vertex more
pub one_more : (ends : ℕ → ℕ × ℕ) (from : ℕ) (es others vertices new : List ℕ) (i at next : ℕ) → i < length es
    → LeadThrough ends from es others
    → (vertices ≡ from ∷ take i others) × (at ≡ get_or (from ∷ others) i 0)
    → ((other : ℕ) → Joins (ends (get_or es i 0)) at other → next ≡ other) → new ≡ vertices ++ next ∷ []
    → (new ≡ from ∷ take (i + 1) others) × (next ≡ get_or (from ∷ others) (i + 1) 0)
one_more ends from es others vertices new i at next m l v h k =
    let q = step ends from es others l i m in
    let e : next ≡ get_or others i 0 = h (get_or others i 0) (subst (λ a. Joins (ends (get_or es i 0)) a (get_or others i 0))
    (sym v.1) q.0) in
    let j : suc i ≡ i + 1 = omega arith in (
      k ∙ ap₂ (λ xs x. xs ++ x ∷ []) v.0 e ∙ ap (λ z. from ∷ z) (sym (take_more others i 0 q.1)),
      e ∙ ap (λ a. get_or (from ∷ others) a 0) j,
    )
