-- One turn of each loop over the steps.
use Rattle.std.proofs.Common.{◌≡◌, ℕ, ◌+◌, ◌<◌, List, [], ◌∷◌, ◌++◌, length, map, take, get_or, refl, sym, ap, ap₂, ◌∙◌, subst, arith}
use Rattle.std.proofs.lemmas.List.{take_more, get_or-map, map-append, length-append}
use Rattle.std.proofs.lemmas.List.Elements.{All-push}
use Rattle.linear_algebra.specs.Scalars.{Scalars, IsScalar, IsField}
use Rattle.linear_algebra.specs.Vectors.{IsVector, vector_sum, multiple}
use Rattle.linear_algebra.specs.Spans.{combination}
use Rattle.linear_algebra.proofs.Combinations.{combination-sum, combination-multiple, combination-vector, combination-push_zero}
use Rattle.linear_algebra.proofs.VectorLaws.{multiple-vector, vector_sum_assoc, vector_sum-zero}
use Rattle.echelon.specs.Eliminations.{eliminated, reduced, taken, IsStep, IsEchelon}
use Rattle.echelon.specs.declared.step.Step.{Step}
use Rattle.std.specs.List.{refill}
use Rattle.field_core.proofs.Refills.{refill_same}
use Rattle.echelon.proofs.Transfers.{reduced-push}
use Rattle.echelon.proofs.Reduction.{taken-vectors}

-- the multiple of the row that the code adds is the one of the step
pub step_eliminates : (S : Scalars) {X Y : Type 0} (f : X → ℕ) (s : Step Y) (v row : List X) (new : List ℕ) (a : X) → s.pivot < length v → a ≡ get_or v s.pivot a → map f row ≡ s.row → new ≡ vector_sum S (map f v) (multiple S (f a) (map f row))
    → (f a ≡ get_or (map f v) s.pivot 0) × (new ≡ eliminated S s (map f v))
step_eliminates S f s v row new a h is_a is_row e =
    let factor : f a ≡ get_or (map f v) s.pivot 0 = ap f is_a ∙ sym (get_or-map f v s.pivot a 0 h) in
    (factor, e ∙ ap₂ (λ c w. vector_sum S (map f v) (multiple S c w)) factor is_row)

-- what is left after a write through the slice
pub refilled : {X : Type 0} (n : ℕ) (items new pushed : List X) → length new ≡ length pushed → length pushed ≡ n → refill n items new ≡ new
refilled n items new pushed a b = refill_same n items new (a ∙ b)

module _ {X : Type 0} (old mid pushed new final : List X) where
  pub one_longer : (x : X) → final ≡ new → pushed ≡ mid → mid ≡ old ++ x ∷ [] → length new ≡ length pushed → length final ≡ length old + 1
  one_longer x e is_mid is same = ap length e ∙ same ∙ ap length (is_mid ∙ is) ∙ length-append old (x ∷ [])

-- the coefficients with one more behind, and the multiple added
pub coefficients_added : (S : Scalars) {X : Type 0} (f : X → ℕ) (old mid pushed new final : List X) (ds : List ℕ) (zero factor : X) (row : List X) → final ≡ new → f zero ≡ S.zero → pushed ≡ mid → mid ≡ old ++ zero ∷ [] → map f row ≡ ds
    → map f new ≡ vector_sum S (map f pushed) (multiple S (f factor) (map f row)) → map f final ≡ vector_sum S (map f old ++ S.zero ∷ []) (multiple S (f factor) ds)
coefficients_added S f old mid pushed new final ds zero factor row is_new is_zero is_mid is_pushed is_row e =
    ap (map f) is_new ∙ e ∙ ap₂ (λ us w. vector_sum S us (multiple S (f factor) w)) (ap (map f) (is_mid ∙ is_pushed) ∙ map-append f old (zero ∷ []) ∙ ap (λ z. map f old ++ z ∷ []) is_zero) is_row

pub reduced_more : (S : Scalars) {Y : Type 0} (ss : List (Step Y)) (i : ℕ) (s : Step Y) (first v new : List ℕ) → i < length ss → s ≡ get_or ss i s → v ≡ reduced S (take i ss) first → new ≡ eliminated S s v → new ≡ reduced S (take (i + 1) ss) first
reduced_more S ss i s first v new h is so_far step =
    step ∙ ap (eliminated S s) so_far ∙ sym (ap (λ ts. reduced S ts first) (take_more ss i s h ∙ ap (λ t. take i ss ++ t ∷ []) (sym is)) ∙ reduced-push S (take i ss) s first)

module _ (S : Scalars) (F : IsField S) (d : ℕ) {Y : Type 0} (ss : List (Step Y)) (e : IsEchelon S d ss) where
  -- what was added, with the coefficients of one step more
  pub added_more : (i : ℕ) (s : Step Y) (first v new cs more : List ℕ) (c : ℕ) → i < length ss → s ≡ get_or ss i s → IsVector S d first → IsVector S i cs → IsScalar S c →
      c ≡ get_or v s.pivot 0 → new ≡ eliminated S s v → more ≡ vector_sum S (cs ++ S.zero ∷ []) (multiple S c s.coefficients) → v ≡ vector_sum S first (combination S d cs (taken ss)) → new ≡ vector_sum S first (combination S d more (taken ss))
  added_more i s first v new cs more c h is first_in cs_in c_in is_c is_new is_more so_far =
      let r : IsStep S d ss i s = subst (IsStep S d ss i) (sym is) (e.steps i s h) in
      let w = taken-vectors S F d ss e in
      let longer : IsVector S (i + 1) (cs ++ S.zero ∷ []) = record { length_is = length-append cs (S.zero ∷ []) ∙ ap (λ n. n + 1) cs_in.length_is; entries = All-push (IsScalar S) cs S.zero cs_in.entries F.zero_in } in
      let scaled = multiple-vector S F (i + 1) c s.coefficients c_in r.coefficients in
      let old = combination-vector S F d cs (taken ss) cs_in.entries w in
      let row = multiple-vector S F d c s.row c_in r.row in
      is_new ∙ ap (λ a. vector_sum S v (multiple S a s.row)) (sym is_c) ∙ ap (λ u. vector_sum S u (multiple S c s.row)) so_far
      ∙ vector_sum_assoc S F d first (combination S d cs (taken ss)) (multiple S c s.row) first_in old row
      ∙ ap (vector_sum S first) (sym (ap (λ ds. combination S d ds (taken ss)) is_more
      ∙ combination-sum S F d (i + 1) (cs ++ S.zero ∷ []) (multiple S c s.coefficients) (taken ss) longer scaled w
      ∙ ap₂ (vector_sum S) (combination-push_zero S F d cs (taken ss) cs_in.entries w) (combination-multiple S F d (i + 1) c s.coefficients (taken ss) c_in r.coefficients w ∙ ap (multiple S c) r.made)))

pub reduced-none : (Y : Type 0) (S : Scalars) (v : List ℕ) → v ≡ reduced {X = Y} S [] v
unfolding reduced
reduced-none Y S v = refl

-- the pivot of a step is within the vectors, and its row and coefficients have their lengths
pub pivot_within : (S : Scalars) (d : ℕ) {Y : Type 0} (ss : List (Step Y)) (e : IsEchelon S d ss) (i : ℕ) (s : Step Y) → i < length ss → s ≡ get_or ss i s → (s.pivot < d) × (length s.row ≡ d) × (length s.coefficients ≡ i + 1)
pivot_within S d ss e i s h is =
    let r : IsStep S d ss i s = subst (IsStep S d ss i) (sym is) (e.steps i s h) in
    let w = r.leads.within in
    let n = r.row.length_is in
    (omega arith, n, r.coefficients.length_is)

pub added-none : (S : Scalars) (F : IsField S) (d : ℕ) (v : List ℕ) (vs : List (List ℕ)) → IsVector S d v → v ≡ vector_sum S v (combination S d [] vs)
unfolding combination
added-none S F d v vs h = sym (vector_sum-zero S F d v h)
