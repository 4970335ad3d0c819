-- What the loops over a vector leave, number by number: the first coordinates are done, and the others as they were.
use Rattle.std.proofs.Common.{◌≡◌, ℕ, suc, ◌+◌, ◌<◌, List, [], ◌∷◌, ◌++◌, length, map, take, drop, get_or, refl, sym, ap, ap₂, ◌∙◌, arith, append_assoc, add-one, drop-cons}
use Rattle.std.proofs.Math.ListN.{set}
use Rattle.std.proofs.lemmas.List.{map-set, set_at, take_more, length-take-le, length-map, map-append, get_or-map, get_or_at}
use Rattle.linear_algebra.specs.Scalars.{Scalars}
use Rattle.linear_algebra.specs.Vectors.{vector_sum, multiple}

-- the next value is written behind those that are done
map-write_next : {X : Type 0} (f : X → ℕ) (xs : List X) (first done : List ℕ) (i : ℕ) (x : X) → i < length first → length done ≡ i → map f xs ≡ done ++ drop i first → map f (set xs i x) ≡ (done ++ f x ∷ []) ++ drop (i + 1) first
map-write_next f xs first done i x h e k =
    map-set f xs i x ∙ ap (λ l. set l i (f x)) (k ∙ ap (λ l. done ++ l) (drop-cons first i 0 h)) ∙ set_at done (get_or first i 0) (drop (suc i) first) (f x) i e
    ∙ sym (append_assoc done (f x ∷ []) (drop (i + 1) first) ∙ ap (λ n. done ++ f x ∷ drop n first) (add-one i))

-- and the value that is read there is the first one
read_next : {X : Type 0} (f : X → ℕ) (xs : List X) (first done : List ℕ) (i : ℕ) (x : X) → i < length xs → i < length first → length done ≡ i → map f xs ≡ done ++ drop i first → x ≡ get_or xs i x → f x ≡ get_or first i 0
read_next f xs first done i x h l e k is =
    ap f is ∙ sym (get_or-map f xs i x 0 h) ∙ ap (λ t. get_or t i 0) (k ∙ ap (λ t. done ++ t) (drop-cons first i 0 l)) ∙ get_or_at done (get_or first i 0) (drop (suc i) first) 0 i e

module _ (S : Scalars) where
  vector_sum-push : (u v : List ℕ) (a b : ℕ) → length u ≡ length v → vector_sum S (u ++ a ∷ []) (v ++ b ∷ []) ≡ vector_sum S u v ++ S.sum a b ∷ []
  unfolding vector_sum
  vector_sum-push [] [] a b e = refl
  vector_sum-push [] (y ∷ v) a b e = absurd (omega arith)
  vector_sum-push (x ∷ u) [] a b e = absurd (omega arith)
  vector_sum-push (x ∷ u) (y ∷ v) a b e = ap (λ w. S.sum x y ∷ w) (vector_sum-push u v a b (omega arith))

  pub length-vector_sum : (u v : List ℕ) → length u ≡ length v → length (vector_sum S u v) ≡ length u
  unfolding vector_sum
  length-vector_sum [] v e = refl
  length-vector_sum (x ∷ u) [] e = absurd (omega arith)
  length-vector_sum (x ∷ u) (y ∷ v) e = ap suc (length-vector_sum u v (omega arith))

  multiple_more : (v : List ℕ) (c i : ℕ) → i < length v → multiple S c (take (i + 1) v) ≡ multiple S c (take i v) ++ S.product c (get_or v i 0) ∷ []
  multiple_more v c i h = ap (multiple S c) (take_more v i 0 h) ∙ map-append (λ a. S.product c a) (take i v) (get_or v i 0 ∷ [])

  length-multiple_front : (v : List ℕ) (c i : ℕ) → i < length v → length (multiple S c (take i v)) ≡ i
  length-multiple_front v c i h = length-map (take i v) (λ a. S.product c a) ∙ length-take-le i v (omega arith)

  -- c times v is added to the first i coordinates of u
  abbrev pub summed : ℕ → ℕ → List ℕ → List ℕ → List ℕ
  summed i c u v = vector_sum S (take i u) (multiple S c (take i v)) ++ drop i u

  pub summed-none : (c : ℕ) (u v : List ℕ) → summed 0 c u v ≡ u
  unfolding vector_sum
  summed-none c u v = refl

  pub summed_more : {X : Type 0} (f : X → ℕ) (xs ys : List X) (u : List ℕ) (c i : ℕ) (x y z : X) → i < length ys → length xs ≡ length ys → length u ≡ length ys → x ≡ get_or xs i x → y ≡ get_or ys i y → f z ≡ S.sum (f x) (S.product c (f y)) →
      map f xs ≡ summed i c u (map f ys) → map f (set xs i z) ≡ summed (i + 1) c u (map f ys)
  summed_more f xs ys u c i x y z h lx lu is_x is_y is_z so_far =
      let v : List ℕ = map f ys in
      let lv : length v ≡ length ys = length-map ys f in
      let done : List ℕ = vector_sum S (take i u) (multiple S c (take i v)) in
      let lt : length (take i u) ≡ i = length-take-le i u (omega arith) in
      let lm : length (multiple S c (take i v)) ≡ i = length-multiple_front v c i (omega arith) in
      let ld : length done ≡ i = length-vector_sum (take i u) (multiple S c (take i v)) (lt ∙ sym lm) ∙ lt in
      let is_first : f x ≡ get_or u i 0 = read_next f xs u done i x (omega arith) (omega arith) ld so_far is_x in
      let is_second : f y ≡ get_or v i 0 = ap f is_y ∙ sym (get_or-map f ys i y 0 h) in
      let value : f z ≡ S.sum (get_or u i 0) (S.product c (get_or v i 0)) = is_z ∙ ap₂ (λ a b. S.sum a (S.product c b)) is_first is_second in
      let one_more : vector_sum S (take (i + 1) u) (multiple S c (take (i + 1) v)) ≡ done ++ f z ∷ [] =
      ap₂ (vector_sum S) (take_more u i 0 (omega arith)) (multiple_more v c i (omega arith)) ∙ vector_sum-push (take i u) (multiple S c (take i v)) (get_or u i 0) (S.product c (get_or v i 0)) (lt ∙ sym lm) ∙ ap (λ a. done ++ a ∷ []) (sym value) in
      map-write_next f xs u done i z (omega arith) ld so_far ∙ ap (λ t. t ++ drop (i + 1) u) (sym one_more)

  -- the first i coordinates of u are multiplied by c
  abbrev pub scaled : ℕ → ℕ → List ℕ → List ℕ
  scaled i c u = multiple S c (take i u) ++ drop i u

  pub scaled_more : {X : Type 0} (f : X → ℕ) (xs : List X) (u : List ℕ) (c i : ℕ) (x z : X) → i < length xs → length u ≡ length xs →
      x ≡ get_or xs i x → f z ≡ S.product c (f (get_or xs i x)) → map f xs ≡ scaled i c u → map f (set xs i z) ≡ scaled (i + 1) c u
  scaled_more f xs u c i x z h lu is_x is_z so_far =
      let done : List ℕ = multiple S c (take i u) in
      let ld : length done ≡ i = length-multiple_front u c i (omega arith) in
      let value : f z ≡ S.product c (get_or u i 0) = is_z ∙ ap (S.product c)
      (ap f (sym is_x) ∙ read_next f xs u done i x h (omega arith) ld so_far is_x) in
      map-write_next f xs u done i z (omega arith) ld so_far ∙ ap (λ t. t ++ drop (i + 1) u) (ap (λ a. done ++ a ∷ []) value ∙ sym (multiple_more u c i (omega arith)))
