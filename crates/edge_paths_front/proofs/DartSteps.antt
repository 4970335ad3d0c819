-- The tail and the reverse of a dart, by its remainder.
use Rattle.std.proofs.Common.{◌≡◌, ℕ, ◌+◌, ◌-◌, ◌<◌, length, subst, ◌/◌, ◌%◌, true, false, cond, sym, ap, ◌∙◌, arith, inl, inr}
use Rattle.graph_core.specs.NamedGraphs.{NamedGraph, IsNamedGraph}
use Rattle.graph_theory.specs.Walks.{edge_at}
use Rattle.edge_path_theory.specs.Darts.{edge_of, is_second, reverse_of, tail}
use Rattle.edge_path_theory.proofs.DartLaws.{edge_half, side_rest}

pub reverse_even : (d : ℕ) → d % 2 ≡ 0 → d + 1 ≡ reverse_of d
reverse_even d e = elim (side_rest d) [
  | inl h ↦ let a = h.2 in omega arith
  | inr h ↦ let a = h.1 in absurd (omega arith)
]

pub reverse_odd : (d : ℕ) → d % 2 ≡ 1 → d - 1 ≡ reverse_of d
reverse_odd d e = elim (side_rest d) [
  | inl h ↦ let a = h.1 in absurd (omega arith)
  | inr h ↦ let a = h.2 in omega arith
]

side_even : (d : ℕ) → d % 2 ≡ 0 → is_second d ≡ false
side_even d e = elim (side_rest d) [ inl h ↦ h.0 | inr h ↦ let a = h.1 in absurd (omega arith) ]

side_odd : (d : ℕ) → d % 2 ≡ 1 → is_second d ≡ true
side_odd d e = elim (side_rest d) [ inl h ↦ let a = h.1 in absurd (omega arith) | inr h ↦ h.0 ]

pub tail_of_even : (ends : ℕ → ℕ × ℕ) (d : ℕ) (e : ℕ × ℕ) → d % 2 ≡ 0 → e ≡ ends (d / 2) → e.0 ≡ tail ends d
tail_of_even ends d e z q = ap (λ p. p.0) (q ∙ ap ends (sym (edge_half d)))
    ∙ sym (ap (λ s. cond s (ends (edge_of d)).1 (ends (edge_of d)).0) (side_even d z))

pub tail_of_odd : (ends : ℕ → ℕ × ℕ) (d : ℕ) (e : ℕ × ℕ) → d % 2 ≡ 1 → e ≡ ends (d / 2) → e.1 ≡ tail ends d
tail_of_odd ends d e z q = ap (λ p. p.1) (q ∙ ap ends (sym (edge_half d)))
    ∙ sym (ap (λ s. cond s (ends (edge_of d)).1 (ends (edge_of d)).0) (side_odd d z))

-- a dart of a graph leaves a vertex
pub tail_within : (g : NamedGraph) (d : ℕ) → IsNamedGraph g → d < length g.ends + length g.ends → tail (edge_at g.ends) d < length g.names
tail_within g d h l = elim (side_rest d) [
  | inl r ↦ subst (λ s. cond s (edge_at g.ends (edge_of d)).1 (edge_at g.ends (edge_of d)).0 < length g.names) (sym r.0) both.0
  | inr r ↦ subst (λ s. cond s (edge_at g.ends (edge_of d)).1 (edge_at g.ends (edge_of d)).0 < length g.names) (sym r.0) both.1
]
  where
    both : ((edge_at g.ends (edge_of d)).0 < length g.names) × ((edge_at g.ends (edge_of d)).1 < length g.names)
    both = h.within (edge_of d) (0, 0) (let e = edge_half d in omega arith)
