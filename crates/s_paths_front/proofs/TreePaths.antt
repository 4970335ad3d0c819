-- The paths from one vertex to greater terminals, by the path between two vertices of a forest.
use Rattle.std.proofs.Common.{◌≡◌, ℕ, ◌+◌, ◌<◌, List, ◌∷◌, map, All, sym, subst, arith, Bool, true}
use Rattle.std.specs.Prelude.{Option, Some, IfSome}
use Rattle.std.proofs.Math.Decide.{ℕ_discrete}
use Rattle.vector_spaces.proofs.Members.{In-all, all-In}
use Rattle.graph_theory.specs.Labels.{Connected}
use Rattle.graph_theory.specs.Paths.{IsPath, LeadThrough}
use Rattle.graph_theory.proofs.Paths.{path_linked}
use Rattle.graph_core.specs.OnlyPaths.{IsOnlyPath}
use Rattle.s_paths_front.specs.PathsUp.{IsPathUp}

-- of the path that a search finds
module _ (ends : ℕ → ℕ × ℕ) (F : List ℕ) (s t : ℕ) (found : Option (List ℕ)) (es : List ℕ) (some : found ≡ Some es)
    (told : IfSome found (IsOnlyPath ends F s t)) where
  path : IsPath ends F s t es
  path = (subst (λ o. IfSome o (IsOnlyPath ends F s t)) some told).path

  pub path_within : (m : ℕ) → All (λ e. e < m) F → All (λ e. e < m) es
  path_within m h = all-In (λ e. e < m) es (λ i j. In-all (λ e. e < m) F h i (path.inside i j))

  pub path_up : (terminal : ℕ → Bool) (vs : List ℕ) → s < t → terminal t ≡ true → ((others : List ℕ) → LeadThrough ends s es others
      → vs ≡ s ∷ others)
      → IsPathUp terminal (map ends F) s vs
  path_up terminal vs l b h = record {
    others = path.others;
    vertices = h path.others path.leads;
    linked = path_linked ends F s t es path;
    distinct = path.distinct;
    greater = subst (λ z. s < z) (sym path.last) l;
    ends = subst (λ z. terminal z ≡ true) (sym path.last) b;
  }

-- nor is the next vertex a terminal in the tree of s
pub none_next : (terminal : ℕ → Bool) (L : List (ℕ × ℕ)) (s next : ℕ) → ((t : ℕ) → s < t → t < next → terminal t ≡ true
    → ¬ (Connected L s t))
    → (terminal next ≡ true → ¬ (Connected L s next)) → (t : ℕ) → s < t → t < next + 1 → terminal t ≡ true → ¬ (Connected L s t)
none_next terminal L s next below here t l m b c = elim (ℕ_discrete t next) [
  | yes e ↦ here (subst (λ z. terminal z ≡ true) e b) (subst (λ z. Connected L s z) e c)
  | no d ↦ below t l (omega arith) b c
]
