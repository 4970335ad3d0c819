-- A frame by its parts: the basis as rows, and the lists as items of a `Vec`, of which a slice is shown and changed.
use Rattle.std.proofs.Common.{◌≡◌, ◌≢◌, ℕ, ◌<◌, List, [], ◌++◌, length, map, get_or, set, take, drop, sym, ap, ◌∙◌, subst, All}
use Rattle.std.specs.List.{swap}
use Rattle.std.proofs.lemmas.List.{length-map, take_at, get_or_default}
use Rattle.std.proofs.lemmas.List.Elements.{All-get_or, All-weaker}
use Rattle.field_core.specs.Matrix.{Matrix}
use Rattle.linear_algebra.specs.Scalars.{Scalars, IsField}
use Rattle.linear_algebra.specs.Vectors.{IsVector, AreVectors}
use Rattle.linear_algebra.specs.Spans.{Combines}
use Rattle.linear_algebra.proofs.Combinations.{combination-vector}
use Rattle.coordinates.specs.Bases.{IsPivoted}
use Rattle.frames.specs.Frames.{Framed, IsFrame, KeepsVectors, kept_at}
use Rattle.frames.proofs.Steps.{pivots, pivoted_frame, swaps, swapped_frame}

abbrev pub framing : Matrix → List (List ℕ) → Framed
framing m items = record { width = m.width; basis = m.rows; kept = items }

-- the items of a `Vec` of so many after its slice was written
abbrev pub written : ℕ → List (List ℕ) → List (List ℕ) → List (List ℕ)
written len items now = take len (now ++ drop (length now) items)

pub written_is : (len : ℕ) (items now : List (List ℕ)) → len ≡ length items → length now ≡ length items → written len items now ≡ now
written_is len items now e h = take_at now (drop (length now) items) len (h ∙ sym e)

module _ (S : Scalars) (F : IsField S) (basis : Matrix) (items : List (List ℕ)) (frame : IsFrame S (framing basis items)) where
  -- what a list has to be for a call
  pub item_is : (j : ℕ) (x held : List ℕ) → held ≡ x → x ≡ get_or items j x → j < length items → held ≡ get_or items j []
  item_is j x held e h l = e ∙ h ∙ get_or_default items j x [] l

  pub item_vector : (j : ℕ) (held : List ℕ) → held ≡ get_or items j [] → j < length items → IsVector S basis.width held
  item_vector j held e l = subst (IsVector S basis.width) (sym e) (All-get_or (IsVector S basis.width) items j [] l frame.lists)

  pub row_place : (i : ℕ) → i < basis.width → i < length basis.rows
  row_place i l = subst (λ n. i < n) (sym frame.is_basis.length_is) l

  pub long_lists : (shown : List (List ℕ)) (i : ℕ) → shown ≡ items → i < basis.width → All (λ list. i < length list) shown
  long_lists shown i e l =
      subst (All (λ list. i < length list)) (sym e)
      (All-weaker (IsVector S basis.width) (λ list. i < length list) (λ list h. subst (λ n. i < n) (sym h.length_is) l) items frame.lists)

  -- the list at j of the lists that are shown
  pub shown_vector : (shown : List (List ℕ)) (j : ℕ) → shown ≡ items → j < length items → IsVector S basis.width (get_or shown j [])
  shown_vector shown j e l = item_vector j (get_or shown j []) (ap (λ xs. get_or xs j []) e) l

  pub vector_lists : (shown : List (List ℕ)) (j : ℕ) → shown ≡ items → j < length items → AreVectors S (length (get_or shown j [])) shown
  vector_lists shown j e l =
      subst (λ n. AreVectors S n shown) (sym (shown_vector shown j e l).length_is) (subst (AreVectors S basis.width) (sym e) frame.lists)

  pub held_place : (i : ℕ) (held : List ℕ) → IsVector S basis.width held → i < basis.width → i < length held
  held_place i held h l = subst (λ n. i < n) (sym h.length_is) l

  -- the incoming vector is as long as the others
  pub incoming_long : {X : Type 0} (f : X → ℕ) (j : ℕ) (v : List X) → Combines S basis.width basis.rows (get_or items j []) (map f v) → length v ≡ basis.width
  incoming_long f j v c =
      sym (length-map v f) ∙ (subst (IsVector S basis.width) c.gives (combination-vector S F basis.width (get_or items j []) basis.rows c.one_each.entries frame.is_basis.vectors)).length_is

  -- the factor, of the list that is shown
  pub shown_factor : (shown : List (List ℕ)) (j i x a : ℕ) (held : List ℕ) → shown ≡ items → held ≡ get_or items j [] → x ≡ get_or held i 0 → S.product x a ≡ S.one →
      S.product (get_or (get_or shown j []) i 0) a ≡ S.one
  shown_factor shown j i x a held e h k p =
      ap (λ y. S.product y a) (ap (λ xs. get_or (get_or xs j []) i 0) e ∙ ap (λ xs. get_or xs i 0) (sym h) ∙ sym k) ∙ p

  -- what an exchange of columns makes of it
  pub record IsSwapped (i j : ℕ) (after : Framed) : Type 0 where
    pub is_frame : IsFrame S after
    pub keeps : KeepsVectors S (framing basis items) after
    pub kept : after.kept ≡ map (λ list. swap list i j) items

  module _ (i j len : ℕ) (after : Matrix) (shown now : List (List ℕ)) (in_i : i < basis.width) (in_j : j < basis.width)
      (is_after : after ≡ record basis { rows = swap basis.rows i j }) (is_shown : shown ≡ items) (is_now : now ≡ map (λ list. swap list i j) shown)
      (long : length now ≡ length items) (whole : len ≡ length items) where
    swapped_kept : written len items now ≡ map (λ list. swap list i j) items
    swapped_kept = written_is len items now whole long ∙ is_now ∙ ap (map (λ list. swap list i j)) is_shown

    pub swapped_parts : IsSwapped i j (framing after (written len items now))
    swapped_parts =
        let width : after.width ≡ basis.width = ap (λ (m : Matrix). m.width) is_after in
        let rows : after.rows ≡ swap basis.rows i j = ap (λ (m : Matrix). m.rows) is_after in
        let before = framing basis items in
        let changed = framing after (written len items now) in
        record {
          is_frame = swapped_frame S F before changed frame i j in_i in_j width rows swapped_kept;
          keeps = swaps S F before changed frame i j in_i in_j width rows swapped_kept;
          kept = swapped_kept;
        }

  -- what a pivot makes of it
  pub record ArePivots (i j : ℕ) (after : Framed) : Type 0 where
    pub is_frame : IsFrame S after
    pub keeps : KeepsVectors S (framing basis items) after
    pub pivoted : (t : ℕ) → t < length items → IsPivoted S i (get_or items j []) (get_or items t []) (kept_at after t)

  module _ (i j len : ℕ) (after : Matrix) (shown now : List (List ℕ)) (v : List ℕ) (in_i : i < basis.width) (in_j : j < length items)
      (combined : Combines S basis.width basis.rows (get_or items j []) v)
      (is_after : after ≡ record basis { rows = set basis.rows i v }) (is_shown : shown ≡ items) (long : length now ≡ length shown) (whole : len ≡ length items)
      (each : (t : ℕ) → t < length shown → IsPivoted S i (get_or shown j []) (get_or shown t []) (get_or now t []))
      (nonzero : get_or (get_or items j []) i 0 ≢ S.zero) where
    same_long : length now ≡ length items
    same_long = long ∙ ap length is_shown

    pivoted_each : (t : ℕ) → t < length items → IsPivoted S i (get_or items j []) (get_or items t []) (get_or (written len items now) t [])
    pivoted_each t l =
        subst (λ xs. IsPivoted S i (get_or items j []) (get_or items t []) (get_or xs t [])) (sym (written_is len items now whole same_long))
        (subst (λ xs. IsPivoted S i (get_or xs j []) (get_or xs t []) (get_or now t [])) is_shown (each t (subst (λ xs. t < length xs) (sym is_shown) l)))

    pub pivoted_parts : ArePivots i j (framing after (written len items now))
    pivoted_parts =
        let width : after.width ≡ basis.width = ap (λ (m : Matrix). m.width) is_after in
        let rows : after.rows ≡ set basis.rows i v = ap (λ (m : Matrix). m.rows) is_after in
        let many : length (written len items now) ≡ length items = ap length (written_is len items now whole same_long) ∙ same_long in
        let before = framing basis items in
        let changed = framing after (written len items now) in
        record {
          is_frame = pivoted_frame S F before changed frame i j v in_i in_j width combined rows many pivoted_each nonzero;
          keeps = pivots S F before changed frame i j v in_i in_j width combined rows many pivoted_each;
          pivoted = pivoted_each;
        }
