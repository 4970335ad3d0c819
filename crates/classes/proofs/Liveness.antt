-- Which lines of a problem have a vector that isn't zero.
use Rattle.std.proofs.Common.{◌≡◌, ◌≢◌, ℕ, ◌+◌, ◌<◌, inl, inr, List, [], ◌∷◌, ◌++◌, length, get_or, refl, sym, ap, ◌∙◌, subst, arith, Bool, true, false, not}
use Rattle.std.specs.Prelude.{◌↔◌}
use Rattle.std.proofs.Math.Decide.{dec_lt}
use Rattle.std.proofs.lemmas.Bool.{true≢false}
use Rattle.std.proofs.lemmas.List.{length_push, get_or_append_left, get_or_push}
use Rattle.vector_spaces.proofs.Space.{Field, Space}
use Rattle.linear_algebra.specs.Scalars.{Scalars, IsField}
use Rattle.linear_algebra.specs.Vectors.{IsVector, zero_vector}
use Rattle.linear_algebra.proofs.Coordinates.{tuple}
use Rattle.linear_algebra.proofs.VectorLaws.{tuple-zero}
use Rattle.matching_state.proofs.Ties.{tuple_not_null}
use Rattle.parity_lines.specs.Problems.{ParityProblem, IsProblem, line_at}
use Rattle.classes.specs.Tables.{IsLive, TellLive, TellsLive}

module _ (S : Scalars) (F : IsField S) (p : ParityProblem) (P : IsProblem S p) (i : ℕ)
    (pair : IsVector S p.dimension (line_at p i).0 × IsVector S p.dimension (line_at p i).1) where
  pub live_by_first : (b : Bool) → b ≡ true → (line_at p i).0 ≢ zero_vector S p.dimension → IsLive S F p i b
  live_by_first b e n = record {
    alive = λ d. (tuple S F p.dimension (line_at p i).0, inl refl, tuple_not_null S F p P (line_at p i).0 pair.0 n);
    dead = λ d. absurd (true≢false (sym e ∙ d));
  }

  -- where the first one is zero
  pub live_by_second : (b : Bool) → (line_at p i).0 ≡ zero_vector S p.dimension →
      (b ≡ true → (line_at p i).1 ≢ zero_vector S p.dimension) → (b ≡ false → (line_at p i).1 ≡ zero_vector S p.dimension) → IsLive S F p i b
  live_by_second b z yes_ no_ = record {
    alive = λ e. (tuple S F p.dimension (line_at p i).1, inr (inl refl), tuple_not_null S F p P (line_at p i).1 pair.1 (yes_ e));
    dead = λ e q j. elim j [
      | inl d ↦ d ∙ ap (tuple S F p.dimension) z ∙ tuple-zero S F p.dimension
      | inr k ↦ elim k [ inl d ↦ d ∙ ap (tuple S F p.dimension) (no_ e) ∙ tuple-zero S F p.dimension | inr o ↦ absurd o ]
    ];
  }

  pub live_by_tests : (r : Bool) → (line_at p i).0 ≡ zero_vector S p.dimension → (r ≡ true) ↔ ((line_at p i).1 ≡ zero_vector S p.dimension) →
      IsLive S F p i (not r)
  live_by_tests true z t = live_by_second false z (λ e. absurd (true≢false (sym e))) (λ e. t.0 refl)
  live_by_tests false z t = live_by_second true z (λ e k. true≢false (sym (t.1 k))) (λ e. absurd (true≢false e))

module _ {K V : Type 0} {f : Field K} (s : Space f V) (line : ℕ → V × V) where
  pub lives_none : (live : List Bool) → live ≡ [] → TellLive s line 0 live
  lives_none live e = record { long = ap length e; each = λ i h. absurd (omega arith) }

  pub lives_more : (n : ℕ) (live after : List Bool) (b : Bool) → TellLive s line n live → TellsLive s line n b → after ≡ live ++ b ∷ [] →
      TellLive s line (n + 1) after
  lives_more n live after b h t e = subst (TellLive s line (n + 1)) (sym e) (record {
    long = let k = length_push live b in let l = h.long in omega arith;
    each = λ i k. go i k (dec_lt i n);
  })
    where
      go : (i : ℕ) → i < n + 1 → Dec (i < n) → TellsLive s line i (get_or (live ++ b ∷ []) i false)
      go i k (yes l) = let q = h.long in
          subst (TellsLive s line i) (sym (get_or_append_left live (b ∷ []) false i (omega arith))) (h.each i l)
      go i k (no l) =
          let q = h.long in
          let last : n ≡ i = omega arith in
          subst (TellsLive s line i) (sym (get_or_push live b false i (omega arith))) (subst (λ m. TellsLive s line m b) last t)
