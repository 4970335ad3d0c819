-- The rank of a list of vectors of length d: the greatest length of an independent selection of its positions.
use Rattle.std.specs.Prelude.{ℕ, zero, suc, ◌-◌, List, [], ◌∷◌, ◌++◌, length, map, max, filter, Bool, ◌||◌, not}
use Rattle.std.specs.List.{flat_map, list_all, range_with_len}
use Rattle.std.specs.Str.{bytes_eq}
use Rattle.linear_algebra.specs.Scalars.{Scalars}
use Rattle.linear_algebra.specs.Vectors.{zero_vector}
use Rattle.linear_algebra.specs.Spans.{combination}

-- all lists of n scalars
unfoldable pub scalar_lists : Scalars → ℕ → List (List ℕ)
scalar_lists S zero = [] ∷ []
scalar_lists S (suc n) = flat_map (λ c. map (λ cs. c ∷ cs) (scalar_lists S n)) (range_with_len 0 S.order)

-- whether vs is independent, by trying all coefficients
unfoldable pub is_independent : Scalars → ℕ → List (List ℕ) → Bool
is_independent S d vs = list_all (λ cs. not (bytes_eq (combination S d cs vs) (zero_vector S d)) || bytes_eq cs (zero_vector S (length vs))) (scalar_lists S (length vs))

-- the vectors at each selection of positions
unfoldable pub selections : {X : Type 0} → List X → List (List X)
selections [] = [] ∷ []
selections (v ∷ vs) = map (λ us. v ∷ us) (selections vs) ++ selections vs

abbrev pub greatest : List ℕ → ℕ
greatest [] = 0
greatest (n ∷ ns) = max n (greatest ns)

-- the greatest length of an independent selection
unfoldable pub rank : Scalars → ℕ → List (List ℕ) → ℕ
rank S d vs = greatest (map length (filter (is_independent S d) (selections vs)))

-- the rank that vs adds to us
abbrev pub rank_over : Scalars → ℕ → List (List ℕ) → List (List ℕ) → ℕ
rank_over S d us vs = rank S d (us ++ vs) - rank S d us
