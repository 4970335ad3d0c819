-- A part of a list that is turned by one place: its first element is carried to its end, or its last to its front.
use Rattle.std.proofs.Common.{◌≡◌, ℕ, suc, ◌+◌, ◌-◌, ◌<◌, ◌≤◌, List, [], ◌∷◌, ◌++◌, length, map, get_or, take, drop}
use Rattle.std.proofs.Common.{sym, ap, ap₂, ◌∙◌, arith, append_assoc, drop-cons}
use Rattle.std.specs.List.{remove}
use Rattle.std.proofs.Math.Seq.{take-append-add, drop-append-add}
use Rattle.std.proofs.lemmas.List.{length-take-le, length-drop, take-append-le, drop-append-le, take-take, take_at, drop_at, drop-drop, drop-take, take_more, get_or-drop, length-map}
use Rattle.packed_rows.specs.Carried.{carried}
use Rattle.packed_rows.proofs.Carries.{map-carried}

module _ {X : Type 0} (xs : List X) (d : X) (from n : ℕ) (within : from + n < length xs) where
  front : List X
  front = take from xs

  x : X
  x = get_or xs from d

  behind : List X
  behind = drop (suc from) xs

  front-long : length front ≡ from
  unfolding front
  front-long = length-take-le from xs (omega arith)

  -- ys: the part from `from` on, of n + 1 elements, with its first element behind the others
  pub turned-left : (ys : List X) → ys ≡ drop 1 (take (suc n) (drop from xs)) ++ take 1 (take (suc n) (drop from xs)) →
      take from xs ++ (ys ++ drop (suc n) (drop from xs)) ≡ carried xs from (from + n)
  unfolding front x behind
  turned-left ys e =
      let cut : drop from xs ≡ x ∷ behind = drop-cons xs from d (omega arith) in
      let to : from + n ≡ length front + n = ap (λ m. m + n) (sym front-long) in
      let turned : ys ≡ take n behind ++ x ∷ [] = e ∙ ap (λ l. drop 1 (take (suc n) l) ++ take 1 (take (suc n) l)) cut in
      let rest : drop (suc n) (drop from xs) ≡ drop n behind = ap (drop (suc n)) cut in
      let ahead : take (from + n) (remove xs from) ≡ front ++ take n behind = ap (λ m. take m (front ++ behind)) to ∙ take-append-add front behind n in
      let after : drop (from + n) (remove xs from) ≡ drop n behind = ap (λ m. drop m (front ++ behind)) to ∙ drop-append-add front behind n in
      let one : take 1 (drop from xs) ≡ x ∷ [] = ap (take 1) cut in
      ap₂ (λ u v. front ++ (u ++ v)) turned rest
      ∙ sym (append_assoc front (take n behind ++ x ∷ []) (drop n behind)) ∙ ap (λ l. l ++ drop n behind) (sym (append_assoc front (take n behind) (x ∷ [])))
      ∙ sym (ap₂ (λ u v. u ++ v) (ap₂ (λ u v. u ++ v) ahead one) after)

-- ys: the part from `to` on, of n + 1 elements, with its last element before the others
pub turned-right : {X : Type 0} (xs : List X) (d : X) (to n k : ℕ) (ys : List X) → to + n < length xs → k ≡ n →
    ys ≡ drop k (take (suc n) (drop to xs)) ++ take k (take (suc n) (drop to xs)) →
    take to xs ++ (ys ++ drop (suc n) (drop to xs)) ≡ carried xs (to + n) to
turned-right {X} xs d to n k ys within is e =
    let from = to + n in
    let x : X = get_or xs from d in
    let part : List X = take n (drop to xs) in
    let room : n < length (drop to xs) = omega (arith, length-drop to xs) in
    let more : take (suc n) (drop to xs) ≡ part ++ x ∷ [] =
    (let on : suc n ≡ n + 1 = omega arith in ap (λ m. take m (drop to xs)) on ∙ take_more (drop to xs) n d room ∙ ap (λ y. part ++ y ∷ []) (get_or-drop to xs n d)) in
    let long : length part ≡ n = length-take-le n (drop to xs) (omega arith) in
    let turned : ys ≡ (x ∷ []) ++ part =
    e ∙ ap (λ m. drop m (take (suc n) (drop to xs)) ++ take m (take (suc n) (drop to xs))) is
    ∙ ap (λ l. drop n l ++ take n l) more ∙ ap₂ (λ u v. u ++ v) (drop_at part (x ∷ []) n long) (take_at part (x ∷ []) n long) in
    let on : suc from ≡ to + suc n = omega arith in
    let rest : drop (suc n) (drop to xs) ≡ drop (suc from) xs = drop-drop (suc n) to xs ∙ ap (λ m. drop m xs) (sym on) in
    let front-long : length (take from xs) ≡ from = length-take-le from xs (omega arith) in
    let ahead : take to (remove xs from) ≡ take to xs = take-append-le to (take from xs) (drop (suc from) xs) (omega (arith, front-long)) ∙ take-take to from xs (omega arith) in
    let after : drop to (remove xs from) ≡ part ++ drop (suc from) xs =
    drop-append-le to (take from xs) (drop (suc from) xs) (omega (arith, front-long)) ∙ ap (λ l. l ++ drop (suc from) xs) (drop-take to n xs) in
    let one : take 1 (drop from xs) ≡ x ∷ [] = ap (take 1) (drop-cons xs from d within) in
    ap₂ (λ u v. take to xs ++ (u ++ v)) turned rest
    ∙ ap (λ l. take to xs ++ l) (append_assoc (x ∷ []) part (drop (suc from) xs)) ∙ sym (append_assoc (take to xs) (x ∷ []) (part ++ drop (suc from) xs))
    ∙ sym (ap₂ (λ u v. u ++ v) (ap₂ (λ u v. u ++ v) ahead one) after)

-- ---- as a loan of the part writes it back

pub carried-to-end : {X : Type 0} (xs ys : List X) (from to : ℕ) → from ≤ to → to < length xs →
    ys ≡ drop 1 (take (to + 1 - from) (drop from xs)) ++ take 1 (take (to + 1 - from) (drop from xs)) →
    take from xs ++ (ys ++ drop (to + 1 - from) (drop from xs)) ≡ carried xs from to
carried-to-end [] ys from to p q e = absurd (omega arith)
carried-to-end {X} (x ∷ xs) ys from to p q e =
    let l : List X = x ∷ xs in
    let many : to + 1 - from ≡ suc (to - from) = omega arith in
    let on : from + (to - from) ≡ to = omega arith in
    let within : from + (to - from) < length l = omega arith in
    ap (λ m. take from l ++ (ys ++ drop m (drop from l))) many
    ∙ turned-left l x from (to - from) within ys (e ∙ ap (λ m. drop 1 (take m (drop from l)) ++ take 1 (take m (drop from l))) many)
    ∙ ap (carried l from) on

pub carried-to-front : {X : Type 0} (xs ys : List X) (from to : ℕ) → to ≤ from → from < length xs →
    ys ≡ drop (length (take (from + 1 - to) (drop to xs)) - 1) (take (from + 1 - to) (drop to xs))
    ++ take (length (take (from + 1 - to) (drop to xs)) - 1) (take (from + 1 - to) (drop to xs)) →
    take to xs ++ (ys ++ drop (from + 1 - to) (drop to xs)) ≡ carried xs from to
carried-to-front [] ys from to p q e = absurd (omega arith)
carried-to-front {X} (x ∷ xs) ys from to p q e =
    let l : List X = x ∷ xs in
    let many : from + 1 - to ≡ suc (from - to) = omega arith in
    let on : to + (from - to) ≡ from = omega arith in
    let within : to + (from - to) < length l = omega arith in
    let k = length (take (from + 1 - to) (drop to l)) - 1 in
    let last : k ≡ from - to = omega (arith, length-take-le (from + 1 - to) (drop to l) (omega (arith, length-drop to l))) in
    ap (λ m. take to l ++ (ys ++ drop m (drop to l))) many
    ∙ turned-right l x to (from - to) k ys within last (e ∙ ap (λ m. drop k (take m (drop to l)) ++ take k (take m (drop to l))) many)
    ∙ ap (λ m. carried l m to) on

-- a list of values of which an element is carried, by their numbers
module _ {X : Type 0} (f : X → ℕ) (entries written : List X) (row : List ℕ) (from to : ℕ)
    (value : map f entries ≡ row) (len : length written ≡ length entries) (after : written ≡ carried entries from to) where
  pub carried-length : length (map f written) ≡ length row
  carried-length = length-map written f ∙ len ∙ sym (length-map entries f) ∙ ap length value

  pub carried-numbers : map f written ≡ carried row from to
  carried-numbers = ap (map f) after ∙ map-carried f entries from to ∙ ap (λ v. carried v from to) value
