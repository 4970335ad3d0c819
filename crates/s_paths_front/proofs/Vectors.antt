-- The vectors of pairs, one vertex after another, and the lines of edges.
use Rattle.std.proofs.Common.{◌≡◌, ℕ, ◌+◌, List, ◌++◌, length, map, sym, ap, ap₂, ◌∙◌, add-one, Bool, refl}
use Rattle.std.specs.Prelude.{◌≢◌, Option, None, Some, IfSome, is_some, slice_index_or}
use Rattle.std.proofs.lemmas.List.{length-map}
use Rattle.linear_algebra.specs.Scalars.{Scalars}
use Rattle.graph_problems.specs.PathLines.{edge_pair, pair_entries, path_line, zero_entries, pair_vector}
use Rattle.graph_problems.proofs.PairGrowth.{pair_vector_here, pair_vector_away, pair_vector-length}
use Rattle.path_theory.specs.Classes.{class_of, is_terminal, number_of}
use Rattle.path_theory.specs.Coordinates.{dimension}

-- the entries of vertex n are put last
module _ (S : Scalars) (minus x y n : ℕ) (classes : List (Option ℕ)) (v : ℕ) (old : List ℕ)
    (invariant : old ≡ pair_vector S minus n (is_terminal classes) (class_of classes) v x y)
    (o : Option ℕ) (class : o ≡ slice_index_or classes n None) (pushed new : List ℕ) (same : new ≡ pushed) where
  pub here : n ≡ v → pushed ≡ old ++ pair_entries S minus (is_some o) (number_of o) x y
      → new ≡ pair_vector S minus (n + 1) (is_terminal classes) (class_of classes) v x y
  here e h = same ∙ h
      ∙ ap₂ (λ us k. us ++ pair_entries S minus (is_some k) (number_of k) x y)
      (invariant ∙ ap (λ z. pair_vector S minus n (is_terminal classes) (class_of classes) z x y) (sym e)) class
      ∙ sym (pair_vector_here S minus x y n (is_terminal classes) (class_of classes))
      ∙ ap₂ (λ m z. pair_vector S minus m (is_terminal classes) (class_of classes) z x y) (sym (add-one n)) e

  pub away : n ≢ v → pushed ≡ old ++ zero_entries S (is_some o) → new ≡ pair_vector S minus (n + 1) (is_terminal classes)
      (class_of classes) v x y
  away d h = same ∙ h ∙ ap₂ (λ us k. us ++ zero_entries S (is_some k)) invariant class
      ∙ sym (pair_vector_away S minus x y n (is_terminal classes) (class_of classes) v d)
      ∙ ap (λ m. pair_vector S minus m (is_terminal classes) (class_of classes) v x y) (sym (add-one n))

pub if_some : (o : Option ℕ) (P : ℕ → Type 0) → ((c : ℕ) → o ≡ Some c → P c) → IfSome o P
if_some None P h = tt
if_some (Some c) P h = h c refl

-- the numbers of a pair vector are as many as coordinates
pub as_many : {X : Type 0} (S : Scalars) (minus x y n : ℕ) (P : ℕ → Bool) (class : ℕ → ℕ) (v : ℕ) (number : X → ℕ) (xs : List X)
    → map number xs ≡ pair_vector S minus n P class v x y → length xs ≡ dimension n P
as_many S minus x y n P class v number xs h = sym (length-map xs number) ∙ ap length h ∙ pair_vector-length S minus x y n P class v

-- the line of an edge with the ends d
pub line_of_ends : (S : Scalars) (minus n : ℕ) (P : ℕ → Bool) (class : ℕ → ℕ) (e d : ℕ × ℕ) (a b p q : ℕ) (u v : List ℕ) → e ≡ d
    → a ≡ S.one → b ≡ S.zero → p ≡ S.zero → q ≡ S.one → u ≡ edge_pair S minus n P class e a b → v ≡ edge_pair S minus n P class e p q
    → (u, v) ≡ path_line S minus n P class d
line_of_ends S minus n P class e d a b p q u v same one zero zero' one' h k = ap₂ (λ s t. (s, t))
    (h ∙ ap (λ z. edge_pair S minus n P class z a b) same ∙ ap₂ (edge_pair S minus n P class d) one zero)
    (k ∙ ap (λ z. edge_pair S minus n P class z p q) same ∙ ap₂ (edge_pair S minus n P class d) zero' one')
