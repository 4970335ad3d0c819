-- What a pivot and an exchange of columns make of a frame.
use Rattle.std.proofs.Common.{◌≡◌, ◌≢◌, ℕ, ◌+◌, ◌<◌, List, [], ◌∷◌, ◌++◌, length, map, get_or, set, refl, sym, ap, ◌∙◌, subst, arith}
use Rattle.std.specs.List.{range_with_len, swap}
use Rattle.std.proofs.lemmas.List.{length-map, get_or-map}
use Rattle.std.proofs.lemmas.List.FromFn.{map-range_with_len_more}
use Rattle.std.proofs.lemmas.List.Elements.{All-get_or, All-from_get_or, All-nil, All-push}
use Rattle.linear_algebra.specs.Scalars.{Scalars, IsField}
use Rattle.linear_algebra.specs.Vectors.{IsVector, AreVectors}
use Rattle.linear_algebra.specs.Spans.{combination, Combines}
use Rattle.coordinates.specs.Bases.{IsBasis, IsPivoted, unit_vector, unit_vectors}
use Rattle.coordinates.proofs.Pivots.{pivot_basis, pivot_combines}
use Rattle.coordinates.proofs.Swaps.{swap_basis, swap_combines}
use Rattle.coordinates.proofs.Units.{units_basis}
use Rattle.field_core.specs.Matrix.{Matrix}
use Rattle.frames.specs.Frames.{Framed, IsFrame, KeepsVectors, kept_at}

module _ (S : Scalars) (F : IsField S) (before after : Framed) (frame : IsFrame S before) where
  kept_vector : (t : ℕ) → t < length before.kept → IsVector S before.width (kept_at before t)
  kept_vector t l = All-get_or (IsVector S before.width) before.kept t [] l frame.lists

  -- the vector that the list at t combines
  combined_by : (t : ℕ) → t < length before.kept → Combines S before.width before.basis (kept_at before t) (combination S before.width (kept_at before t) before.basis)
  combined_by t l = record { one_each = subst (λ n. IsVector S n (kept_at before t)) (sym frame.is_basis.length_is) (kept_vector t l); gives = refl }

  within_basis : (i : ℕ) → i < before.width → i < length before.basis
  within_basis i l = subst (λ n. i < n) (sym frame.is_basis.length_is) l

  module _ (i j : ℕ) (v : List ℕ) (in_width : i < before.width) (in_kept : j < length before.kept) (width : after.width ≡ before.width)
      (combined : Combines S before.width before.basis (kept_at before j) v) (put : after.basis ≡ set before.basis i v)
      (many : length after.kept ≡ length before.kept)
      (each : (t : ℕ) → t < length before.kept → IsPivoted S i (kept_at before j) (kept_at before t) (kept_at after t)) where
    after_combines : (t : ℕ) (x : List ℕ) → t < length before.kept → Combines S before.width before.basis (kept_at before t) x →
        Combines S after.width after.basis (kept_at after t) x
    after_combines t x l c =
        subst (λ n. Combines S n after.basis (kept_at after t) x) (sym width) (subst (λ b. Combines S before.width b (kept_at after t) x) (sym put)
        (pivot_combines S F before.width before.basis i (kept_at before j) (kept_at before t) (kept_at after t) v x frame.is_basis.vectors (within_basis i in_width)
        combined c (each t l)))

    pub pivots : KeepsVectors S before after
    pivots = record { width = width; many = many; same = after_combines }

    pub pivoted_frame : get_or (kept_at before j) i 0 ≢ S.zero → IsFrame S after
    pivoted_frame n = record {
      is_basis = subst (λ m. IsBasis S m after.basis) (sym width) (subst (IsBasis S before.width) (sym put)
          (pivot_basis S F before.width before.basis i (kept_at before j) v frame.is_basis (within_basis i in_width) combined n));
      lists = All-from_get_or (IsVector S after.width) after.kept [] (λ t l.
          let k : t < length before.kept = subst (λ m. t < m) many l in
          subst (λ m. IsVector S m (kept_at after t)) ((kept_vector t k).length_is ∙ sym width) (each t k).is_vector);
    }

  module _ (i j : ℕ) (in_i : i < before.width) (in_j : j < before.width) (width : after.width ≡ before.width) (put : after.basis ≡ swap before.basis i j)
      (kept : after.kept ≡ map (λ list. swap list i j) before.kept) where
    many : length after.kept ≡ length before.kept
    many = ap length kept ∙ length-map before.kept (λ list. swap list i j)

    after_swapped : (t : ℕ) → t < length before.kept → kept_at after t ≡ swap (kept_at before t) i j
    after_swapped t l = ap (λ xs. get_or xs t []) kept ∙ get_or-map (λ list. swap list i j) before.kept t [] [] l

    swapped_combines : (t : ℕ) (x : List ℕ) → t < length before.kept → Combines S before.width before.basis (kept_at before t) x →
        Combines S after.width after.basis (kept_at after t) x
    swapped_combines t x l c =
        subst (λ n. Combines S n after.basis (kept_at after t) x) (sym width) (subst (λ b. Combines S before.width b (kept_at after t) x) (sym put)
        (subst (λ cs. Combines S before.width (swap before.basis i j) cs x) (sym (after_swapped t l))
        (swap_combines S F before.width before.basis i j (kept_at before t) x frame.is_basis.vectors (within_basis i in_i) (within_basis j in_j) c)))

    pub swaps : KeepsVectors S before after
    swaps = record { width = width; many = many; same = swapped_combines }

    pub swapped_frame : IsFrame S after
    swapped_frame =
        let basis : IsBasis S after.width after.basis = subst (λ m. IsBasis S m after.basis) (sym width)
        (subst (IsBasis S before.width) (sym put) (swap_basis S F before.width before.basis i j frame.is_basis (within_basis i in_i) (within_basis j in_j))) in
        record {
          is_basis = basis;
          lists = All-from_get_or (IsVector S after.width) after.kept [] (λ t l.
              subst (λ m. IsVector S m (kept_at after t)) basis.length_is
              (swapped_combines t _ (subst (λ m. t < m) many l) (combined_by t (subst (λ m. t < m) many l))).one_each);
        }

-- the unit vectors, and no list
pub units_frame : (S : Scalars) → IsField S → (m : Matrix) (width : ℕ) (kept : List (List ℕ)) → m ≡ record { width = width; rows = unit_vectors S width } → kept ≡ [] →
    IsFrame S (record { width = m.width; basis = m.rows; kept = kept })
units_frame S F m width kept e k =
    subst (λ (n : Matrix). IsFrame S (record { width = n.width; basis = n.rows; kept = kept })) (sym e)
    (subst (λ lists. IsFrame S (record { width = width; basis = unit_vectors S width; kept = lists })) (sym k)
    (record { is_basis = units_basis S F width; lists = All-nil (IsVector S width) }))

-- one list more
pub pushed_frame : (S : Scalars) (f : Framed) (kept : List (List ℕ)) (list : List ℕ) → IsFrame S f → IsVector S f.width list → kept ≡ f.kept ++ list ∷ [] →
    IsFrame S (record f { kept = kept })
pushed_frame S f kept list h k e = record {
  is_basis = h.is_basis;
  lists = subst (AreVectors S f.width) (sym e) (All-push (IsVector S f.width) f.kept list h.lists k);
}

pub kept_length : (S : Scalars) (f : Framed) (j : ℕ) → IsFrame S f → j < length f.kept → length (kept_at f j) ≡ f.width
kept_length S f j h l = (All-get_or (IsVector S f.width) f.kept j [] l h.lists).length_is

-- one unit vector more
pub units_more : (S : Scalars) (width i : ℕ) (rows after : Matrix) (row : List ℕ) → rows ≡ record { width = width; rows = map (unit_vector S width) (range_with_len 0 i) } →
    row ≡ unit_vector S width i → after ≡ record rows { rows = rows.rows ++ row ∷ [] } → after ≡ record { width = width; rows = map (unit_vector S width) (range_with_len 0 (i + 1)) }
units_more S width i rows after row so_far is_row is_after =
    is_after ∙ ap (λ (m : Matrix). record m { rows = m.rows ++ row ∷ [] }) so_far
    ∙ ap (λ us. record { width = width; rows = us })
    (ap (λ r. map (unit_vector S width) (range_with_len 0 i) ++ r ∷ []) is_row ∙ sym (map-range_with_len_more (unit_vector S width) 0 i i (omega arith)))
