-- Lists that are put together from the parts of another, and what a projection and a lift are made of.
use Rattle.std.proofs.Common.{◌≡◌, ℕ, suc, ◌+◌, ◌-◌, ◌<◌, List, [], ◌∷◌, ◌++◌, length, take, drop, take_all, get_or, map, sym, ap, ap₂, ◌∙◌, subst, arith, add-one, append_assoc, length-drop}
use Rattle.std.specs.List.{insert, remove, drop-map, take-map}
use Rattle.std.proofs.lemmas.List.{get_or-map, map-append, length-map}
use Rattle.field_core.proofs.Loops.{length-vector_sum}
use Rattle.linear_algebra.specs.Scalars.{Scalars, IsScalar}
use Rattle.linear_algebra.specs.Vectors.{vector_sum, multiple}
use Rattle.quotient_spaces.specs.Projections.{IsFirstPivot}
use Rattle.quotients.specs.Quotients.{ProjectsBy, LiftsBy}

whole_rest : {X : Type 0} (xs : List X) (i : ℕ) → take (length xs - i) (drop i xs) ≡ drop i xs
whole_rest xs i = take_all (length xs - i) (drop i xs) (let l = length-drop i xs in omega arith)

-- without the item at i
pub without_items : {X : Type 0} (f : X → ℕ) (v empty first all shown : List X) (i : ℕ) (w : List ℕ) → empty ≡ [] →
    first ≡ empty ++ take i v → all ≡ first ++ take (length v - (i + 1)) (drop (i + 1) v) → shown ≡ all → w ≡ map f shown →
    w ≡ remove (map f v) i
without_items f v empty first all shown i w e is_first is_all is_shown is_w =
    let front : first ≡ take i v = is_first ∙ ap (λ xs. xs ++ take i v) e in
    is_w ∙ ap (map f) (is_shown ∙ is_all ∙ ap₂ (λ xs ys. xs ++ ys) front (whole_rest v (i + 1) ∙ ap (λ n. drop n v) (add-one i))) ∙
    map-append f (take i v) (drop (suc i) v) ∙ ap₂ (λ xs ys. xs ++ ys) (sym (take-map f i v)) (sym (drop-map f (suc i) v))

-- with an item put in at i
pub inserted_items : {X : Type 0} (f : X → ℕ) (v empty first pushed all shown : List X) (i z : ℕ) (x : X) (w : List ℕ) → empty ≡ [] →
    first ≡ empty ++ take i v → f x ≡ z → pushed ≡ first ++ x ∷ [] → all ≡ pushed ++ take (length v - i) (drop i v) → shown ≡ all →
    w ≡ map f shown → w ≡ insert (map f v) i z
inserted_items f v empty first pushed all shown i z x w e is_first is_z is_pushed is_all is_shown is_w =
    let front : pushed ≡ take i v ++ x ∷ [] = is_pushed ∙ ap (λ xs. xs ++ x ∷ []) (is_first ∙ ap (λ xs. xs ++ take i v) e) in
    is_w ∙ ap (map f) (is_shown ∙ is_all ∙ ap₂ (λ xs ys. xs ++ ys) front (whole_rest v i) ∙ append_assoc (take i v) (x ∷ []) (drop i v)) ∙
    map-append f (take i v) (x ∷ drop i v)
    ∙ ap₂ (λ xs ys. xs ++ ys) (sym (take-map f i v)) (ap₂ (λ y ys. y ∷ ys) is_z (sym (drop-map f i v)))

module _ (S : Scalars) {X : Type 0} (f : X → ℕ) (inner point : List ℕ) (i : ℕ) (is_point : inner ≡ point) (first : IsFirstPivot S inner i) where
  -- y is the point's entry, x that of v
  pub projects : (v slice : List X) (start cleared shown w : List ℕ) (x y factor : X) → IsScalar S (f factor) → map f slice ≡ inner →
      length v ≡ length point → x ≡ get_or v i x → y ≡ get_or slice i y → S.sum (S.product (f factor) (f y)) (f x) ≡ S.zero →
      start ≡ map f v → cleared ≡ vector_sum S start (multiple S (f factor) (map f slice)) → shown ≡ cleared → w ≡ remove shown i →
      ProjectsBy S point (map f v) w
  projects v slice start cleared shown w x y factor c_in is_slice long is_x is_y clears is_start is_cleared is_shown is_w =
      let l : i < length inner = first.pivot.in_range in
      let l' : i < length slice = (let e = ap length is_slice in let k = length-map slice f in omega arith) in
      let l'' : i < length v = (let e = ap length is_point in omega arith) in
      let at_y : f y ≡ get_or point i S.zero = ap f is_y ∙ sym (get_or-map f slice i y S.zero l') ∙ ap (λ u. get_or u i S.zero) (is_slice ∙ is_point) in
      let at_x : f x ≡ get_or (map f v) i S.zero = ap f is_x ∙ sym (get_or-map f v i x S.zero l'') in
      record {
        pivot = i;
        first = subst (λ u. IsFirstPivot S u i) is_point first;
        projection = record {
          factor = f factor;
          is_scalar = c_in;
          clears = ap₂ (λ a b. S.sum (S.product (f factor) a) b) (sym at_y) (sym at_x) ∙ clears;
          gives =
              is_w ∙ ap (λ u. remove u i) (is_shown ∙ is_cleared ∙ ap₂ (λ t u. vector_sum S t (multiple S (f factor) u)) is_start
              (is_slice ∙ is_point));
        };
      }

  pub lifts : (w v : List ℕ) → v ≡ insert w i S.zero → LiftsBy S point w v
  lifts w v e = record { pivot = i; first = subst (λ u. IsFirstPivot S u i) is_point first; lift = e }

-- with a multiple of the point added, v is as long as before
pub cleared_long : (S : Scalars) {X : Type 0} (f : X → ℕ) (v slice : List X) (inner point start cleared : List ℕ) (c : ℕ) → inner ≡ point →
    length v ≡ length point → map f slice ≡ inner → start ≡ map f v → cleared ≡ vector_sum S start (multiple S c (map f slice)) →
    length cleared ≡ length inner
cleared_long S f v slice inner point start cleared c is_point long is_slice is_start e =
    let m = ap length is_start ∙ length-map v f ∙ long ∙ sym (ap length is_point) in
    let n = length-map (map f slice) (λ a. S.product c a) ∙ ap length is_slice in
    ap length e ∙ length-vector_sum S start (multiple S c (map f slice)) (m ∙ sym n) ∙ m
