-- The numbers of values of a field are scalars.
use Rattle.std.proofs.Common.{◌≡◌, ℕ, List, [], ◌∷◌, ◌++◌, length, map, slice_set, sym, ap, ◌∙◌, subst, All}
use Rattle.std.specs.List.{refill}
use Rattle.std.proofs.lemmas.List.{length-map}
use Rattle.std.proofs.lemmas.List.Elements.{All-nil, All-cons, All-push, All-set}
use Rattle.linear_algebra.specs.Scalars.{Scalars, IsScalar}
use Rattle.linear_algebra.specs.Vectors.{IsVector}
use Rattle.field_core.specs.Matrix.{Matrix}

module _ (S : Scalars) {X : Type 0} (f : X → ℕ) (in_scalars : (x : X) → IsScalar S (f x)) where
  pub numbers_of_values : (v : List X) → All (IsScalar S) (map f v)
  numbers_of_values [] = All-nil (IsScalar S)
  numbers_of_values (x ∷ v) = All-cons (IsScalar S) (f x) (map f v) (in_scalars x) (numbers_of_values v)

  pub vector_of_values : (v : List X) (d : ℕ) → length v ≡ d → IsVector S d (map f v)
  vector_of_values v d e = record { length_is = length-map v f ∙ e; entries = numbers_of_values v }

  -- `held` and `seen` are the rows before, as they are kept and as they are seen
  pub push_values : (held seen : Matrix) (rows : List (List ℕ)) (row : List ℕ) (v : List X) → All (IsVector S held.width) held.rows →
      held ≡ seen → length v ≡ seen.width → row ≡ map f v → rows ≡ held.rows ++ row ∷ [] → All (IsVector S held.width) rows
  push_values held seen rows row v before same long is_row is_pushed =
      let is_vector : IsVector S held.width row = subst (IsVector S held.width) (sym is_row)
      (vector_of_values v held.width (long ∙ sym (ap (λ (m : Matrix). m.width) same))) in
      subst (All (IsVector S held.width)) (sym is_pushed) (All-push (IsVector S held.width) held.rows row before is_vector)

  -- values are written in the place of a row
  pub put_values : (width i : ℕ) (rows : List (List ℕ)) (held : List ℕ) (v : List X) → All (IsVector S width) rows → length v ≡ width
      → ((written : List ℕ) → length written ≡ length held → refill (length held) held written ≡ written) → length (map f v) ≡ length held
      → All (IsVector S width) (slice_set rows i (refill (length held) held (map f v)))
  put_values width i rows held v before long whole same =
      let now : List ℕ = refill (length held) held (map f v) in
      All-set (IsVector S width) rows i now
      (subst (IsVector S width) {y = now} (sym (whole (map f v) same)) (vector_of_values v width long)) before
