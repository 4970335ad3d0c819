-- What one step of the walk tells.
use Rattle.std.proofs.Common.{◌≡◌, ℕ, ◌-◌, List, length, take, drop, take_all, map, refl, sym, ap, ap₂, ◌∙◌, subst, arith, inr, length-drop}
use Rattle.std.proofs.lemmas.List.{drop-map}
use Rattle.field_core.specs.Matrix.{Matrix}
use Rattle.linear_algebra.specs.Scalars.{Scalars}
use Rattle.linear_algebra.specs.Spans.{combination}
use Rattle.linear_algebra.specs.Vectors.{IsVector, vector_sum}
use Rattle.echelon.specs.Inserted.{Inserts}
use Rattle.echelon.specs.declared.basis.Inserted.{Inserted}
use Rattle.echelon.specs.declared.basis.Inserted.TheVariants.{Old}
use Rattle.quotients.specs.Meetings.{Takes, with_row}

-- the last of the coefficients
tail_of : {Y : Type 0} (f : Y → ℕ) (slice : List Y) (cs : List ℕ) (first : ℕ) → map f slice ≡ cs → map f (take (length slice - first) (drop first slice)) ≡ drop first cs
tail_of f slice cs first e = ap (map f) (take_all (length slice - first) (drop first slice) (let l = length-drop first slice in omega arith)) ∙ sym (drop-map f first slice) ∙ ap (drop first) e

-- an old vector
pub takes_old : {X Y Z : Type 0} (S : Scalars) (f : Y → ℕ) (basis added common after common' : Matrix) (w : List ℕ) (found : Inserted Z) (cs : List ℕ) (slice : List Y) (rank many : ℕ) (part pushed : List ℕ) → found ≡ Old cs → Inserts S basis w after found →
    map f slice ≡ cs → rank ≡ length after.rows → many ≡ length added.rows → added.width ≡ basis.width → IsVector S added.width part → w ≡
    vector_sum S part (combination S added.width (map f (take (length slice - (rank - many)) (drop (rank - many) slice))) added.rows) →
    pushed ≡ part → common' ≡ with_row common pushed →
    Takes {X = X} S (record { basis = basis; added = added; common = common }) w (record { basis = after; added = added; common = common' })
takes_old S f basis added common after common' w found cs slice rank many part pushed is i shown is_rank is_many width part_in sum is_pushed c =
    let old = subst (λ x. Inserts S basis w after x) is i in
    let first_is : rank - many ≡ length basis.rows - length added.rows = ap₂ (λ m n. m - n)
    (is_rank ∙ ap (λ (m : Matrix). length m.rows) old.1) is_many in
    inr (record {
      basis = old.1;
      added = refl;
      coefficients = cs;
      combine = old.0;
      part = part;
      vector = subst (λ d. IsVector S d part) width part_in;
      sum =
          sum ∙ ap (vector_sum S part) (ap₂ (λ d ds. combination S d ds added.rows) width
          (tail_of f slice cs (rank - many) shown ∙ ap (λ n. drop n cs) first_is));
      common = c ∙ ap (with_row common) is_pushed;
    })
