-- What the kept coordinates of a state combine the basis to.
use Rattle.std.proofs.Common.{◌≡◌, ℕ, zero, suc, ◌+◌, ◌*◌, ◌<◌, ◌≤◌, List, [], ◌∷◌, length, take, take_all, get_or, refl, sym, ap, ◌∙◌, subst, arith}
use Rattle.std.specs.List.{range_with_len}
use Rattle.std.proofs.Math.Decide.{dec_lt}
use Rattle.std.proofs.lemmas.List.{length-append, length-map, get_or_append_left, get_or-append-add, get_or_default}
use Rattle.std.proofs.lemmas.List.FromFn.{get_or-range_with_len, length-range_with_len, get_or-map-range_with_len}
use Rattle.coordinates.specs.Bases.{unit_vector, unit_vectors}
use Rattle.linear_algebra.specs.Scalars.{Scalars, IsField}
use Rattle.linear_algebra.specs.Spans.{Combines}
use Rattle.linear_algebra.specs.Vectors.{IsVector}
use Rattle.linear_algebra.proofs.Combinations.{combination-vector}
use Rattle.matching_state.specs.Bases.{IsKept, kept_vectors}
use Rattle.matching_state.specs.Chosen.{Chosen}
use Rattle.parity_lines.proofs.IndependentLines.{length-vectors_at}
use Rattle.parity_lines.specs.Problems.{ParityProblem, IsProblem, line_at, vectors_at}

-- the vectors of lines, by their places
pub first_vector : (p : ParityProblem) (M : List ℕ) (i : ℕ) → i < length M → get_or (vectors_at p M) (2 * i) [] ≡ (line_at p (get_or M i 0)).0
unfolding vectors_at
first_vector p [] i h = absurd (omega arith)
first_vector p (m ∷ M) zero h = refl
first_vector p (m ∷ M) (suc i) h =
    let e : 2 * suc i ≡ suc (suc (2 * i)) = omega arith in
    ap (λ n. get_or (vectors_at p (m ∷ M)) n []) e ∙ first_vector p M i (omega arith)

pub second_vector : (p : ParityProblem) (M : List ℕ) (i : ℕ) → i < length M → get_or (vectors_at p M) (2 * i + 1) [] ≡ (line_at p (get_or M i 0)).1
unfolding vectors_at
second_vector p [] i h = absurd (omega arith)
second_vector p (m ∷ M) zero h = refl
second_vector p (m ∷ M) (suc i) h =
    let e : 2 * suc i + 1 ≡ suc (suc (2 * i + 1)) = omega arith in
    ap (λ n. get_or (vectors_at p (m ∷ M)) n []) e ∙ second_vector p M i (omega arith)

from_zero : (n : ℕ) → 0 + n ≡ n
from_zero n = omega arith

module _ (S : Scalars) (p : ParityProblem) where
  abbrev all_lines : List ℕ
  all_lines = range_with_len 0 (length p.lines)

  as_many : length (vectors_at p all_lines) ≡ 2 * length p.lines
  as_many = length-vectors_at p all_lines ∙ ap (λ n. 2 * n) (length-range_with_len 0 (length p.lines))

  pub length-kept_vectors : length (kept_vectors S p) ≡ 2 * length p.lines + p.dimension
  length-kept_vectors =
      let a = length-append (vectors_at p all_lines) (unit_vectors S p.dimension) in
      let b = as_many in
      let c = length-map (range_with_len 0 p.dimension) (unit_vector S p.dimension) in
      let d = length-range_with_len 0 p.dimension in
      omega arith

  pub kept_first : (e : ℕ) → e < length p.lines → get_or (kept_vectors S p) (2 * e) [] ≡ (line_at p e).0
  kept_first e h =
      get_or_append_left (vectors_at p all_lines) (unit_vectors S p.dimension) [] (2 * e) (let b = as_many in omega arith)
      ∙ first_vector p all_lines e (let b = length-range_with_len 0 (length p.lines) in omega arith)
      ∙ ap (λ m. (line_at p m).0) (get_or-range_with_len 0 (length p.lines) e 0 h ∙ from_zero e)

  pub kept_second : (e : ℕ) → e < length p.lines → get_or (kept_vectors S p) (2 * e + 1) [] ≡ (line_at p e).1
  kept_second e h =
      get_or_append_left (vectors_at p all_lines) (unit_vectors S p.dimension) [] (2 * e + 1) (let b = as_many in omega arith)
      ∙ second_vector p all_lines e (let b = length-range_with_len 0 (length p.lines) in omega arith)
      ∙ ap (λ m. (line_at p m).1) (get_or-range_with_len 0 (length p.lines) e 0 h ∙ from_zero e)

  pub kept_unit : (i : ℕ) → i < p.dimension → get_or (kept_vectors S p) (2 * length p.lines + i) [] ≡ unit_vector S p.dimension i
  kept_unit i h =
      ap (λ n. get_or (kept_vectors S p) (n + i) []) (sym as_many)
      ∙ get_or-append-add (vectors_at p all_lines) (unit_vectors S p.dimension) i []
      ∙ get_or-map-range_with_len (unit_vector S p.dimension) 0 p.dimension i i [] h (from_zero i)

module _ (S : Scalars) (F : IsField S) (state : Chosen) (K : IsKept S state) where
  abbrev p : ParityProblem
  p = state.problem

  pub kept_long : length state.kept ≡ 2 * length p.lines + p.dimension
  kept_long = K.listed.coordinates.one_each ∙ length-kept_vectors S p

  pub first_combined : (e : ℕ) → e < length p.lines → Combines S p.dimension state.basis (get_or state.kept (2 * e) []) (line_at p e).0
  first_combined e h = subst (Combines S p.dimension state.basis (get_or state.kept (2 * e) [])) (kept_first S p e h)
      (K.listed.coordinates.combine (2 * e) (let n = length-kept_vectors S p in omega arith))

  pub second_combined : (e : ℕ) → e < length p.lines → Combines S p.dimension state.basis (get_or state.kept (2 * e + 1) []) (line_at p e).1
  second_combined e h = subst (Combines S p.dimension state.basis (get_or state.kept (2 * e + 1) [])) (kept_second S p e h)
      (K.listed.coordinates.combine (2 * e + 1) (let n = length-kept_vectors S p in omega arith))

  pub unit_combined : (i : ℕ) → i < p.dimension → Combines S p.dimension state.basis (get_or state.kept (2 * length p.lines + i) []) (unit_vector S p.dimension i)
  unit_combined i h = subst (Combines S p.dimension state.basis (get_or state.kept (2 * length p.lines + i) [])) (kept_unit S p i h)
      (K.listed.coordinates.combine (2 * length p.lines + i) (let n = length-kept_vectors S p in omega arith))

  pub combined_vector : (cs v : List ℕ) → Combines S p.dimension state.basis cs v → IsVector S p.dimension v
  combined_vector cs v c = subst (IsVector S p.dimension) c.gives (combination-vector S F p.dimension cs state.basis c.one_each.entries K.listed.is_basis.vectors)

  pub kept_problem : IsProblem S p
  kept_problem e line h =
      let at = get_or_default p.lines e line ([], []) h in
      subst (λ (l : List ℕ × List ℕ). IsVector S p.dimension l.0 × IsVector S p.dimension l.1) (sym at)
      (combined_vector _ _ (first_combined e h), combined_vector _ _ (second_combined e h))

  -- the basis is as long as the vectors, and M's vectors stand in front
  pub front_within : 2 * length state.set ≤ length state.basis
  front_within = go (dec_lt (length state.basis) (2 * length state.set))
    where
      long : length (take (2 * length state.set) state.basis) ≡ 2 * length state.set
      long = ap length K.listed.begins ∙ length-vectors_at p state.set

      go : Dec (length state.basis < 2 * length state.set) → 2 * length state.set ≤ length state.basis
      go (no n) = omega arith
      go (yes l) =
          let whole = ap length (take_all (2 * length state.set) state.basis (omega arith)) in
          let e = long in
          omega arith
