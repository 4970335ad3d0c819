-- Parts as increasing lists of positions of a problem, none of them empty.
use Rattle.std.proofs.Common.{◌≡◌, ◌≢◌, ℕ, suc, ◌+◌, ◌/◌, ◌<◌, ◌≤◌, inl, inr, List, [], ◌∷◌, length, refl, ap, ap₂, ◌∙◌, arith, All, cond, eqb}
use Rattle.std.specs.List.{list_any}
use Rattle.std.specs.Prelude.{sum_by}
use Rattle.std.specs.Cmp.Derive.{one_truth}
use Rattle.std.proofs.lemmas.List.Elements.{All-cons, All-nil}
use Rattle.std.proofs.lemmas.List.Sums.{sum_by-cons}
use Rattle.parity_theory.proofs.InOrder.{in_in_order, in_order, in_order-increases, in_order-within, in_order_in}
use Rattle.parity_lines.proofs.EasyHalf.{any-has}
use Rattle.parity_lines.specs.Certificates.{parts_with}
use Rattle.parity_lines.specs.LineSets.{IsLineSet}
use Rattle.parity_lines.specs.Problems.{ParityProblem}
use Rattle.parity_theory.proofs.Parts.{halves, has, has_in, hits, in_has}
use Rattle.vector_spaces.proofs.Members.{In}

-- a part put before others, if it has a member
kept : List ℕ → List (List ℕ) → List (List ℕ)
kept [] parts = parts
kept (m ∷ part) parts = (m ∷ part) ∷ parts

kept_all : (P : List ℕ → Type 0) (part : List ℕ) (parts : List (List ℕ)) → P part → All P parts → All P (kept part parts)
unfolding kept
kept_all P [] parts h k = k
kept_all P (m ∷ part) parts h k = All-cons P (m ∷ part) parts h k

kept_nonempty : (part : List ℕ) (parts : List (List ℕ)) → All (λ x. x ≢ []) parts → All (λ x. x ≢ []) (kept part parts)
unfolding kept
kept_nonempty [] parts k = k
kept_nonempty (m ∷ part) parts k =
    All-cons (λ x. x ≢ []) (m ∷ part) parts (λ e. let z : suc (length part) ≡ 0 = ap length e in absurd (omega arith)) k

-- a sum over them, where the empty list counts nothing
sum-kept : (g : List ℕ → ℕ) (part : List ℕ) (parts : List (List ℕ)) → g [] ≡ 0 → sum_by g (kept part parts) ≡ g part + sum_by g parts
unfolding kept
sum-kept g [] parts e = omega arith
sum-kept g (m ∷ part) parts e = sum_by-cons g (m ∷ part) parts

sum_kept_le : (g : List ℕ → ℕ) (part : List ℕ) (parts : List (List ℕ)) → sum_by g (kept part parts) ≤ g part + sum_by g parts
unfolding kept
sum_kept_le g [] parts = omega arith
sum_kept_le g (m ∷ part) parts = let e = sum_by-cons g (m ∷ part) parts in omega arith

-- the parts in order
pub parts_in_order : ℕ → List (List ℕ × ℕ) → List (List ℕ)
parts_in_order n [] = []
parts_in_order n (x ∷ ps) = kept (in_order n x.0) (parts_in_order n ps)

pub parts_in_order-nonempty : (n : ℕ) (ps : List (List ℕ × ℕ)) → All (λ part. part ≢ []) (parts_in_order n ps)
unfolding parts_in_order
parts_in_order-nonempty n [] = All-nil (λ part. part ≢ [])
parts_in_order-nonempty n (x ∷ ps) = kept_nonempty (in_order n x.0) (parts_in_order n ps) (parts_in_order-nonempty n ps)

pub parts_in_order-sets : (p : ParityProblem) (ps : List (List ℕ × ℕ)) → All (IsLineSet p) (parts_in_order (length p.lines) ps)
unfolding parts_in_order
parts_in_order-sets p [] = All-nil (IsLineSet p)
parts_in_order-sets p (x ∷ ps) = kept_all (IsLineSet p) (in_order (length p.lines) x.0) (parts_in_order (length p.lines) ps)
    (record { increasing = in_order-increases (length p.lines) x.0; within = in_order-within (length p.lines) x.0 })
    (parts_in_order-sets p ps)

-- whether a position stands in a part
has-in_order : (n : ℕ) (L : List ℕ) (m : ℕ) → m < n → has (in_order n L) m ≡ has L m
has-in_order n L m b = one_truth (has (in_order n L) m) (has L m)
    (λ e. in_has L m (in_order_in n L m (has_in (in_order n L) m e))) (λ e. in_has (in_order n L) m (in_in_order n L m (has_in L m e) b))

-- each position stands in as many parts as before
pub parts_with-in_order : (n : ℕ) (ps : List (List ℕ × ℕ)) (m : ℕ) → m < n → parts_with (parts_in_order n ps) m ≡ hits m ps
unfolding parts_in_order
parts_with-in_order n [] m b = refl
parts_with-in_order n (x ∷ ps) m b = sum-kept (λ q. cond (list_any (λ l. eqb l m) q) 1 0) (in_order n x.0) (parts_in_order n ps) refl
    ∙ ap₂ (λ a c. cond a 1 0 + c) (any-has (in_order n x.0) m ∙ has-in_order n x.0 m b) (parts_with-in_order n ps m b)

-- a sum over them is at most the halves of the parts, where each term is
pub sum_in_order_le : (g : List ℕ → ℕ) (n : ℕ) (ps : List (List ℕ × ℕ)) → ((x : List ℕ × ℕ) → In x ps → g (in_order n x.0) ≤ x.1 / 2) →
    sum_by g (parts_in_order n ps) ≤ halves ps
unfolding parts_in_order
sum_in_order_le g n [] h = omega arith
sum_in_order_le g n (x ∷ ps) h =
    let a = h x (inl refl) in
    let b = sum_in_order_le g n ps (λ y i. h y (inr i)) in
    let c = sum_kept_le g (in_order n x.0) (parts_in_order n ps) in
    omega arith
