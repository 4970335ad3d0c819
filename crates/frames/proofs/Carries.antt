-- What becomes of a frame where a vector of the basis is carried to another place.
use Rattle.std.proofs.Common.{◌≡◌, ℕ, ◌+◌, ◌<◌, ◌≤◌, List, [], length, map, get_or, refl, sym, ap, ◌∙◌, subst, arith}
use Rattle.std.specs.List.{swap}
use Rattle.std.proofs.lemmas.List.{length-map, get_or-map}
use Rattle.std.proofs.lemmas.List.Elements.{All-get_or, All-from_get_or}
use Rattle.linear_algebra.specs.Scalars.{Scalars, IsField}
use Rattle.linear_algebra.specs.Vectors.{IsVector}
use Rattle.linear_algebra.specs.Spans.{combination, Combines}
use Rattle.packed_rows.specs.Carried.{carried}
use Rattle.packed_rows.proofs.Carries.{length-carried}
use Rattle.coordinates.specs.Bases.{IsBasis}
use Rattle.coordinates.proofs.Carries.{carried_here, carried_on, carried_back, basis-carried, combines-carried}
use Rattle.field_core.specs.Matrix.{Matrix}
use Rattle.frames.specs.Frames.{Framed, IsFrame, KeepsVectors, kept_at}
use Rattle.frames.proofs.Parts.{framing, written, written_is}

-- ---- the rows, swap by swap

pub rows_here : (m : Matrix) (from : ℕ) → from < length m.rows → m ≡ record m { rows = carried m.rows from from }
rows_here m from source = ap (λ rows. record m { rows = rows }) (sym (carried_here m.rows [] from source))

pub rows_on : (m now next : Matrix) (from at : ℕ) → from ≤ at → at + 1 < length m.rows → now ≡ record m { rows = carried m.rows from at } →
    next ≡ record now { rows = swap now.rows at (at + 1) } → next ≡ record m { rows = carried m.rows from (at + 1) }
rows_on m now next from at on within so_far is =
    is ∙ ap (λ (n : Matrix). record n { rows = swap n.rows at (at + 1) }) so_far
    ∙ ap (λ rows. record m { rows = rows }) (sym (carried_on m.rows [] from (omega arith) at on within))

pub rows_back : (m now next : Matrix) (from to at : ℕ) → to + 1 ≡ at → to < from → from < length m.rows → now ≡ record m { rows = carried m.rows from at } →
    next ≡ record now { rows = swap now.rows to at } → next ≡ record m { rows = carried m.rows from to }
rows_back m now next from to at e back within so_far is =
    is ∙ ap (λ (n : Matrix). record n { rows = swap n.rows to at }) so_far
    ∙ ap (λ rows. record m { rows = rows }) (ap (λ n. swap (carried m.rows from n) to n) (sym e) ∙ sym (carried_back m.rows [] from within to back))

pub rows_there : (m now : Matrix) (from at to : ℕ) → now ≡ record m { rows = carried m.rows from at } → at ≡ to →
    now ≡ record m { rows = carried m.rows from to }
rows_there m now from at to so_far e = so_far ∙ ap (λ n. record m { rows = carried m.rows from n }) e

pub row_within : (m now : Matrix) (from at : ℕ) → from < length m.rows → at < length m.rows → now ≡ record m { rows = carried m.rows from at } →
    (i : ℕ) → i < length m.rows → i < length now.rows
row_within m now from at source target e i l =
    subst (λ n. i < n) (sym (ap (λ (n : Matrix). length n.rows) e ∙ length-carried m.rows from at [] source target)) l

-- ---- the frame

module _ (S : Scalars) (F : IsField S) (before after : Framed) (frame : IsFrame S before) (from to : ℕ)
    (source : from < before.width) (target : to < before.width) (width : after.width ≡ before.width)
    (basis : after.basis ≡ carried before.basis from to) (kept : after.kept ≡ map (λ list. carried list from to) before.kept) where
  within_basis : (i : ℕ) → i < before.width → i < length before.basis
  within_basis i l = subst (λ n. i < n) (sym frame.is_basis.length_is) l

  many : length after.kept ≡ length before.kept
  many = ap length kept ∙ length-map before.kept (λ list. carried list from to)

  after_carried : (t : ℕ) → t < length before.kept → kept_at after t ≡ carried (kept_at before t) from to
  after_carried t l = ap (λ xs. get_or xs t []) kept ∙ get_or-map (λ list. carried list from to) before.kept t [] [] l

  carried_combines : (t : ℕ) (x : List ℕ) → t < length before.kept → Combines S before.width before.basis (kept_at before t) x →
      Combines S after.width after.basis (kept_at after t) x
  carried_combines t x l c =
      subst (λ n. Combines S n after.basis (kept_at after t) x) (sym width) (subst (λ b. Combines S before.width b (kept_at after t) x) (sym basis)
      (subst (λ cs. Combines S before.width (carried before.basis from to) cs x) (sym (after_carried t l))
      (combines-carried S F before.width before.basis from to frame.is_basis (within_basis from source) (within_basis to target) (kept_at before t) x c)))

  carries : KeepsVectors S before after
  carries = record { width = width; many = many; same = carried_combines }

  -- the vector that the list at t combines
  combined_by : (t : ℕ) → t < length before.kept → Combines S before.width before.basis (kept_at before t) (combination S before.width (kept_at before t) before.basis)
  combined_by t l = record {
    one_each = subst (λ n. IsVector S n (kept_at before t)) (sym frame.is_basis.length_is) (All-get_or (IsVector S before.width) before.kept t [] l frame.lists);
    gives = refl;
  }

  carried_frame : IsFrame S after
  carried_frame =
      let is_basis : IsBasis S after.width after.basis = subst (λ m. IsBasis S m after.basis) (sym width)
      (subst (IsBasis S before.width) (sym basis) (basis-carried S F before.width before.basis from to frame.is_basis (within_basis from source) (within_basis to target))) in
      record {
        is_basis = is_basis;
        lists = All-from_get_or (IsVector S after.width) after.kept [] (λ t l.
            subst (λ m. IsVector S m (kept_at after t)) is_basis.length_is
            (carried_combines t _ (subst (λ m. t < m) many l) (combined_by t (subst (λ m. t < m) many l))).one_each);
      }

-- what it makes of the parts
module _ (S : Scalars) (F : IsField S) (basis : Matrix) (items : List (List ℕ)) (frame : IsFrame S (framing basis items)) (from to : ℕ) where
  pub record IsCarried (after : Framed) : Type 0 where
    pub is_frame : IsFrame S after
    pub keeps : KeepsVectors S (framing basis items) after
    pub kept : after.kept ≡ map (λ list. carried list from to) items

  module _ (len : ℕ) (after : Matrix) (shown now : List (List ℕ)) (source : from < basis.width) (target : to < basis.width)
      (is_after : after ≡ record basis { rows = carried basis.rows from to }) (is_shown : shown ≡ items) (is_now : now ≡ map (λ list. carried list from to) shown)
      (whole : len ≡ length items) where
    long : length now ≡ length items
    long = ap length is_now ∙ length-map shown (λ list. carried list from to) ∙ ap length is_shown

    carried_kept : written len items now ≡ map (λ list. carried list from to) items
    carried_kept = written_is len items now whole long ∙ is_now ∙ ap (map (λ list. carried list from to)) is_shown

    pub carried_parts : IsCarried (framing after (written len items now))
    carried_parts =
        let width : after.width ≡ basis.width = ap (λ (m : Matrix). m.width) is_after in
        let rows : after.rows ≡ carried basis.rows from to = ap (λ (m : Matrix). m.rows) is_after in
        let before = framing basis items in
        let changed = framing after (written len items now) in
        record {
          is_frame = carried_frame S F before changed frame from to source target width rows carried_kept;
          keeps = carries S F before changed frame from to source target width rows carried_kept;
          kept = carried_kept;
        }
