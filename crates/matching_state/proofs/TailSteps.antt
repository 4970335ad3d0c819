-- The multiple of a tail that is made entry by entry, and the inverse of its first entry that isn't zero.
use Rattle.std.proofs.Common.{◌≡◌, ℕ, ◌+◌, ◌-◌, ◌<◌, ◌≤◌, List, [], ◌∷◌, ◌++◌, length, map, take, take_all, drop, get_or, sym, ap, ◌∙◌, arith}
use Rattle.std.proofs.lemmas.List.{length-drop, length-map, get_or-drop, get_or-map, map-append, take_more}
use Rattle.linear_algebra.specs.Scalars.{Scalars}
use Rattle.linear_algebra.specs.Vectors.{multiple}
use Rattle.parity_lines.specs.Relations.{IsLeadInverse}

module _ (S : Scalars) (f from i : ℕ) (row : List ℕ) (l : from ≤ i) where
  abbrev whole : List ℕ
  whole = multiple S f (drop from row)

  long : length (multiple S f (drop from row)) ≡ length row - from
  long = length-map (drop from row) (λ x. S.product f x) ∙ length-drop from row

  pub tail_step : i < length row → take (i + 1 - from) (multiple S f (drop from row)) ≡ take (i - from) (multiple S f (drop from row)) ++ S.product f (get_or row i 0) ∷ []
  tail_step h =
      let e : i + 1 - from ≡ (i - from) + 1 = omega arith in
      let at : from + (i - from) ≡ i = omega arith in
      let n = long in
      let m = length-drop from row in
      ap (λ n. take n whole) e ∙ take_more whole (i - from) 0 (omega arith)
      ∙ ap (λ y. take (i - from) whole ++ y ∷ []) (get_or-map (λ x. S.product f x) (drop from row) (i - from) 0 0 (omega arith) ∙ ap (S.product f) (get_or-drop from row (i - from) 0 ∙ ap (λ t. get_or row t 0) at))

  -- as a loop makes it
  pub tail_pushed : i < length row → (old new : List ℕ) (x y z : ℕ) → new ≡ old ++ x ∷ [] → old ≡ take (i - from) (multiple S f (drop from row)) → x ≡ y → y ≡ S.product f z → z ≡ get_or row i 0 →
      new ≡ take (i + 1 - from) (multiple S f (drop from row))
  tail_pushed h old new x y z e before p q r = e ∙ ap (λ xs. xs ++ x ∷ []) before ∙ ap (λ t. take (i - from) whole ++ t ∷ []) (p ∙ q ∙ ap (S.product f) r) ∙ sym (tail_step h)

  pub tail_whole : length row ≤ i → take (i - from) (multiple S f (drop from row)) ≡ multiple S f (drop from row)
  tail_whole h = let n = long in take_all (i - from) whole (omega arith)

lead_inverse_from : (S : Scalars) (row : List ℕ) (from i b : ℕ) → from ≤ i → i < length row → ((j : ℕ) → from ≤ j → j < i → get_or row j 0 ≡ S.zero) → S.product (get_or row i 0) b ≡ S.one → IsLeadInverse S (drop from row) b
lead_inverse_from S row from i b l h before one =
    let at : from + (i - from) ≡ i = omega arith in
    let long = length-drop from row in
    record {
      lead = i - from;
      within = omega arith;
      inverse = ap (λ x. S.product x b) (get_or-drop from row (i - from) 0 ∙ ap (λ t. get_or row t 0) at) ∙ one;
      zero_before = λ k m. get_or-drop from row k 0 ∙ before (from + k) (omega arith) (omega arith);
    }

-- as it is read
pub lead_inverse_read : (S : Scalars) (row : List ℕ) (from i x b : ℕ) → from ≤ i → i < length row → ((j : ℕ) → from ≤ j → j < i → get_or row j 0 ≡ S.zero) → x ≡ get_or row i 0 → S.product x b ≡ S.one → IsLeadInverse S (drop from row) b
lead_inverse_read S row from i x b l h before is one = lead_inverse_from S row from i b l h before (ap (λ y. S.product y b) (sym is) ∙ one)

-- entries read one after another
pub read_more : {X : Type 0} (n : X → ℕ) (old : List X) (x : X) (new : List X) (row : List ℕ) (i : ℕ) → new ≡ old ++ x ∷ [] → n x ≡ get_or row i 0 → i < length row → map n old ≡ take i row → map n new ≡ take (i + 1) row
read_more n old x new row i e is h before = ap (map n) e ∙ map-append n old (x ∷ []) ∙ ap (λ xs. xs ++ n x ∷ []) before ∙ ap (λ y. take i row ++ y ∷ []) is ∙ sym (take_more row i 0 h)
