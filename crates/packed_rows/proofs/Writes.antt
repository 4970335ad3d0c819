-- A list that is written element by element.
use Rattle.std.proofs.Common.{◌≡◌, ℕ, ◌+◌, ◌<◌, ◌≤◌, inl, inr, List, map, length, get_or, replicate, sym, ap, subst, ◌∙◌, arith}
use Rattle.std.proofs.Math.ListN.{set}
use Rattle.std.proofs.lemmas.Bool.{cases_eq}
use Rattle.std.proofs.lemmas.List.{ext_get_or, get_or-map, get_or-set_same, get_or-set_other, length-map, length-set, length-replicate}

-- `row` is as long as v, and its first i elements are those of v
pub record IsWritten (i : ℕ) (v row : List ℕ) : Type 0 where
  pub long : length row ≡ length v
  pub first : (k : ℕ) → k < i → get_or row k 0 ≡ get_or v k 0

pub written_none : (v row : List ℕ) → length row ≡ length v → IsWritten 0 v row
written_none v row e = record { long = e; first = λ k l. absurd (omega arith) }

pub written_more : (v row : List ℕ) (i x : ℕ) → i < length v → x ≡ get_or v i 0 → IsWritten i v row → IsWritten (i + 1) v (set row i x)
written_more v row i x l is so_far = record {
  long = length-set row i x ∙ so_far.long;
  first = λ k m. elim (cases_eq k i) [
    | inl e ↦ ap (λ n. get_or (set row i x) n 0) e ∙ get_or-set_same row i x 0 (omega (arith, so_far.long)) ∙ is ∙ ap (λ n. get_or v n 0) (sym e)
    | inr apart ↦ get_or-set_other row i k x 0 apart ∙ so_far.first k (omega (arith, apart))
  ];
}

pub written_all : (v row : List ℕ) (i : ℕ) → length v ≤ i → IsWritten i v row → row ≡ v
written_all v row i l done = ext_get_or 0 row v done.long (λ k m. done.first k (omega (arith, done.long)))

-- an element of a list of values, by its number
pub number-at : {X : Type 0} (f : X → ℕ) (xs : List X) (i : ℕ) (x : X) → i < length xs → x ≡ get_or xs i x → f x ≡ get_or (map f xs) i 0
number-at f xs i x l is = ap f is ∙ sym (get_or-map f xs i x 0 l)

-- the numbers of a list of values
abbrev pub numbers : {X : Type 0} → List X → (X → ℕ) → List ℕ
numbers v f = map f v

pub zeros_written : {X : Type 0} (v : List X) (f : X → ℕ) (row : List ℕ) → row ≡ replicate (length v) 0 → IsWritten 0 (numbers v f) row
zeros_written v f row e = written_none (numbers v f) row (ap length e ∙ length-replicate (length v) 0 ∙ sym (length-map v f))

pub value_written : {X : Type 0} (v : List X) (f : X → ℕ) (row next : List ℕ) (i : ℕ) (x : X) → i < length v → x ≡ get_or v i x →
    next ≡ set row i (f x) →
    IsWritten i (numbers v f) row → IsWritten (i + 1) (numbers v f) next
value_written v f row next i x l is e so_far =
    let long : i < length (numbers v f) = omega (arith, length-map v f) in
    subst (IsWritten (i + 1) (numbers v f)) (sym e) (written_more (numbers v f) row i (f x) long (number-at f v i x l is) so_far)

pub values_written : {X : Type 0} (v : List X) (f : X → ℕ) (row : List ℕ) (i : ℕ) → length v ≤ i → IsWritten i (numbers v f) row →
    row ≡ numbers v f
values_written v f row i l done = written_all (numbers v f) row i (omega (arith, length-map v f)) done

pub place_written : {X : Type 0} (v : List X) (f : X → ℕ) (row : List ℕ) (i : ℕ) → i < length v → IsWritten i (numbers v f) row →
    i < length row
place_written v f row i l so_far = omega (arith, so_far.long, length-map v f, l)
