-- The search from a vertex along the edges of a forest: for each vertex the way back, where it is reached.
use Rattle.std.specs.Prelude.{◌≡◌, ℕ, zero, suc, ◌+◌, ◌<◌, ◌⊎◌, List, [], ◌∷◌, Bool, true, false, not, Option, Some, None, is_some, All, length, slice_set, slice_index_or}
use Rattle.std.specs.List.{filter}
use Rattle.vector_spaces.proofs.Members.{In}
use Rattle.graph_core.specs.declared.ways.Way.{Way}

abbrev pub way_at : List (Option Way) → ℕ → Option Way
way_at T v = slice_index_or T v None

abbrev pub is_reached : List (Option Way) → ℕ → Bool
is_reached T v = is_some (way_at T v)

-- how many vertices are not reached
abbrev pub unreached : List (Option Way) → ℕ
unreached T = length (filter (λ o. not (is_some o)) T)

-- the way w from v is an edge of F to a vertex from which the way is one step shorter
pub record IsStep (ends : ℕ → ℕ × ℕ) (F : List ℕ) (T : List (Option Way)) (v : ℕ) (w : Way) : Type 0 where
  pub held : In w.edge F
  pub joins : (ends w.edge ≡ (v, w.next)) ⊎ (ends w.edge ≡ (w.next, v))
  pub after : Way
  pub next : way_at T w.next ≡ Some after
  pub shorter : after.steps + 1 ≡ w.steps

-- the vertex `to` is reached by no step, each other vertex that is reached by a step, and all by few steps
pub record AreWays (ends : ℕ → ℕ × ℕ) (F : List ℕ) (to : ℕ) (T : List (Option Way)) : Type 0 where
  pub start : Way
  pub started : (way_at T to ≡ Some start) × (start.steps ≡ 0)
  pub each : (v : ℕ) (w : Way) → way_at T v ≡ Some w → ((v ≡ to) × (w.steps ≡ 0)) ⊎ IsStep ends F T v w
  pub short : (v : ℕ) (w : Way) → way_at T v ≡ Some w → w.steps + unreached T < length T

-- each edge of F has both ends reached, or neither
abbrev pub AreClosed : (ℕ → ℕ × ℕ) → List ℕ → List (Option Way) → Type 0
AreClosed ends F T = All (λ e. is_reached T (ends e).0 ≡ is_reached T (ends e).1) F

-- each way is a step to a way that is one shorter, or has no step
abbrev pub GoDown : List (Option Way) → Type 0
GoDown T = (v : ℕ) (w : Way) → way_at T v ≡ Some w → (w.steps ≡ 0) ⊎ ((x : Way) × (way_at T w.next ≡ Some x) × (x.steps + 1 ≡ w.steps))

-- with a way for the end that isn't reached, where the other is
abbrev pub extended_by : Option Way → Option Way → List (Option Way) → ℕ × ℕ → ℕ → List (Option Way)
extended_by None None T e i = T
extended_by None (Some w) T e i = slice_set T e.0 (Some (record { steps = w.steps + 1; edge = i; next = e.1 }))
extended_by (Some w) None T e i = slice_set T e.1 (Some (record { steps = w.steps + 1; edge = i; next = e.0 }))
extended_by (Some w) (Some x) T e i = T

abbrev pub extended : List (Option Way) → ℕ × ℕ → ℕ → List (Option Way)
extended T e i = extended_by (way_at T e.0) (way_at T e.1) T e i

-- whether one of two is reached and the other isn't
abbrev pub differ : Bool → Bool → Bool
differ true b = not b
differ false b = b

abbrev pub before : Option Way → (ℕ → List ℕ) → List ℕ
before None f = []
before (Some w) f = w.edge ∷ f w.next

-- the edges of k steps from v on
abbrev pub back : List (Option Way) → ℕ → ℕ → List ℕ
back T zero v = []
back T (suc k) v = before (way_at T v) (λ u. back T k u)
