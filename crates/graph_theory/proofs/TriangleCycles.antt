-- A cycle of triangles is a cycle of the blocks of their corners, and the other way round.
use Rattle.std.proofs.Common.{ℕ, List, [], ◌∷◌, refl, sym, subst, arith}
use Rattle.vector_spaces.proofs.Members.{In}
use Rattle.graph_theory.specs.Blocks.{Chain, IsBlockCycle}
use Rattle.graph_theory.specs.Cacti.{corners, first_triple, ShareCorners, IsTriangleCycle}

-- from x, a corner of the first triple, to a corner of t
chain_of_shared : (cs : List ((ℕ × ℕ × ℕ) × ℕ)) (t : ℕ × ℕ × ℕ) (x : ℕ) → In x (corners (first_triple cs t)) → ShareCorners cs t →
    (q : ℕ) × Chain corners x cs q × In q (corners t)
chain_of_shared [] t x i h = (x, refl, i)
chain_of_shared (c ∷ cs) t x i h = let r = chain_of_shared cs t c.1 h.1 h.2 in (r.0, (i, h.0, r.1), r.2)

shared_of_chain : (x : ℕ) (cs : List ((ℕ × ℕ × ℕ) × ℕ)) (q : ℕ) (t : ℕ × ℕ × ℕ) → Chain corners x cs q → In q (corners t) →
    ShareCorners cs t × In x (corners (first_triple cs t))
shared_of_chain x [] q t e i = (tt, subst (λ z. In z (corners t)) (sym e) i)
shared_of_chain x (c ∷ cs) q t h i = let r = shared_of_chain c.1 cs q t h.2 i in ((h.1, r.1, r.0), h.0)

pub block_cycle_of_triangles : (Ts : List (ℕ × ℕ × ℕ)) (c : (ℕ × ℕ × ℕ) × ℕ) (cs : List ((ℕ × ℕ × ℕ) × ℕ)) → IsTriangleCycle Ts c cs →
    (p : ℕ) × IsBlockCycle corners Ts p (c ∷ cs)
block_cycle_of_triangles Ts c cs h = let r = chain_of_shared cs c.0 c.1 h.shared.1 h.shared.2 in (
  r.0,
  record { two = h.two; inside = h.inside; blocks = h.triples; corners = h.vertices; chain = (r.2, h.shared.0, r.1) },
)

pub triangles_of_block_cycle : (Ts : List (ℕ × ℕ × ℕ)) (p : ℕ) (c : (ℕ × ℕ × ℕ) × ℕ) (cs : List ((ℕ × ℕ × ℕ) × ℕ)) →
    IsBlockCycle corners Ts p (c ∷ cs) →
    IsTriangleCycle Ts c cs
triangles_of_block_cycle Ts p c cs h = let r = shared_of_chain c.1 cs p c.0 h.chain.2 h.chain.0 in
    record { two = h.two; inside = h.inside; triples = h.blocks; vertices = h.corners; shared = (h.chain.1, r.1, r.0) }

pub no_block_cycle : (Ts : List (ℕ × ℕ × ℕ)) → ((c : (ℕ × ℕ × ℕ) × ℕ) (cs : List ((ℕ × ℕ × ℕ) × ℕ)) → ¬ (IsTriangleCycle Ts c cs)) →
    (p : ℕ) (ks : List ((ℕ × ℕ × ℕ) × ℕ)) → ¬ (IsBlockCycle corners Ts p ks)
no_block_cycle Ts n p [] h = let l = h.two in absurd (omega arith)
no_block_cycle Ts n p (c ∷ cs) h = n c cs (triangles_of_block_cycle Ts p c cs h)
