-- The table of a family as the theory's table of akin lines, and after one member more.
use Rattle.std.proofs.Common.{◌≡◌, ℕ, ◌+◌, ◌<◌, inl, inr, List, [], ◌∷◌, ◌++◌, length, get_or, refl, sym, ap, ◌∙◌, subst, arith, Bool, true, false, ◌&&◌, Option, None, Some, All, replicate, zero, suc}
use Rattle.std.specs.Option.{is_none}
use Rattle.std.proofs.Math.Decide.{dec_lt}
use Rattle.std.proofs.lemmas.Bool.{false≢true, true≢false}
use Rattle.std.proofs.lemmas.List.{length-replicate, length_push, get_or-replicate, get_or_append_left, get_or_default, get_or_push}
use Rattle.vector_spaces.proofs.Members.{In-append, In-get_or}
use Rattle.vector_spaces.proofs.Space.{Field, Space}
use Rattle.class_theory.proofs.AkinTables.{IsAkinTable}
use Rattle.parity_theory.proofs.Lines.{vectors}
use Rattle.parity_theory.proofs.Widths.{IsWide}
use Rattle.classes.specs.Directions.{AreApart}
use Rattle.classes.specs.Tables.{IsNextRow, IsNextSeparator, IsSquare, IsTable, Separators, TellLive, TellsSeparator, akin_at, live_at, separator_at}
use Rattle.classes.specs.declared.direction.Direction.{Direction}

akin_true : (a b : Bool) (o : Option ℕ) → (a && b && is_none o) ≡ true → (a ≡ true) × (b ≡ true) × (o ≡ None)
akin_true true true None e = (refl, refl, refl)
akin_true true true (Some m) e = absurd (false≢true e)
akin_true true false o e = absurd (false≢true e)
akin_true false b o e = absurd (false≢true e)

akin_false : (a b : Bool) (o : Option ℕ) → a ≡ true → b ≡ true → (a && b && is_none o) ≡ false → (m : ℕ) × (o ≡ Some m)
akin_false true true None p q e = absurd (true≢false e)
akin_false true true (Some m) p q e = (m, refl)
akin_false true false o p q e = absurd (true≢false (sym q))
akin_false false b o p q e = absurd (true≢false (sym p))

module _ {K V : Type 0} {f : Field K} (s : Space f V) (line : ℕ → V × V) (family : List (List ℕ)) where
  pub akin_table : (n : ℕ) (t : Separators) → IsTable s line family n t → IsAkinTable s line family n (live_at t) (akin_at t)
  akin_table n t h = record {
    first_live = λ i j a b e. (akin_true (live_at t i) (live_at t j) (separator_at t i j) e).0;
    second_live = λ i j a b e. (akin_true (live_at t i) (live_at t j) (separator_at t i j) e).1;
    none = λ i j a b e. subst (TellsSeparator s line family i j) (akin_true (live_at t i) (live_at t j) (separator_at t i j) e).2 (h.tells i j a b);
    some = λ i j a b u v e.
        let r = akin_false (live_at t i) (live_at t j) (separator_at t i j) u v e in
        let w : TellsSeparator s line family i j (Some r.0) = subst (TellsSeparator s line family i j) r.1 (h.tells i j a b) in
        (get_or family r.0 [], In-get_or family r.0 [] w.0, w.1);
  }

  module _ (M : List ℕ) (i j : ℕ) {X : Type 0} (x y : Direction X) (wide : AreApart x y → IsWide s line M (vectors line (i ∷ j ∷ [])))
      (narrow : ¬ (AreApart x y) → ¬ (IsWide s line M (vectors line (i ∷ j ∷ [])))) where
    -- the separator after M has become the last member
    pub next_tells : (old new : Option ℕ) → TellsSeparator s line family i j old → IsNextSeparator x y (length family) old new →
        TellsSeparator s line (family ++ M ∷ []) i j new
    next_tells (Some m) new h e = subst (TellsSeparator s line (family ++ M ∷ []) i j) (sym e) (
      (let l = h.0 in let k = length_push family M in omega arith),
      subst (λ N. IsWide s line N (vectors line (i ∷ j ∷ []))) (sym (get_or_append_left family (M ∷ []) [] m h.0)) h.1,
    )
    next_tells None new h (inl e) = subst (TellsSeparator s line (family ++ M ∷ []) i j) (sym e.0) (
      (let k = length_push family M in omega arith),
      subst (λ N. IsWide s line N (vectors line (i ∷ j ∷ []))) (sym (get_or_push family M [] (length family) refl)) (wide e.1),
    )
    next_tells None new h (inr e) = subst (TellsSeparator s line (family ++ M ∷ []) i j) (sym e.0) (λ N k.
        elim (In-append N family (M ∷ []) k) [
          | inl q ↦ h N q
          | inr q ↦ elim q [
            | inl d ↦ subst (λ L. ¬ (IsWide s line L (vectors line (i ∷ j ∷ [])))) (sym d) (narrow e.1)
            | inr o ↦ absurd o
          ]
        ])

-- the first m rows after one member more
pub record AreNextRows {X : Type 0} (ds : List (Direction X)) (member : ℕ) (old : List (List (Option ℕ))) (m : ℕ)
    (new : List (List (Option ℕ))) : Type 0 where
  pub long : length new ≡ m
  pub each : (i : ℕ) → i < m → IsNextRow ds i member (get_or old i []) (get_or new i [])

module _ {X : Type 0} (ds : List (Direction X)) (member : ℕ) (old : List (List (Option ℕ))) where
  pub no_rows : (new : List (List (Option ℕ))) → new ≡ [] → AreNextRows ds member old 0 new
  no_rows new e = record { long = ap length e; each = λ i h. absurd (omega arith) }

  pub one_row_more : (m : ℕ) (new after : List (List (Option ℕ))) (row : List (Option ℕ)) → AreNextRows ds member old m new →
      IsNextRow ds m member (get_or old m []) row → after ≡ new ++ row ∷ [] → AreNextRows ds member old (m + 1) after
  one_row_more m new after row h r e = subst (AreNextRows ds member old (m + 1)) (sym e) (record {
    long = let k = length_push new row in let l = h.long in omega arith;
    each = λ i k. go i k (dec_lt i m);
  })
    where
      go : (i : ℕ) → i < m + 1 → Dec (i < m) → IsNextRow ds i member (get_or old i []) (get_or (new ++ row ∷ []) i [])
      go i k (yes l) = let q = h.long in
          subst (IsNextRow ds i member (get_or old i [])) (sym (get_or_append_left new (row ∷ []) [] i (omega arith))) (h.each i l)
      go i k (no l) =
          let q = h.long in
          let last : m ≡ i = omega arith in
          subst (IsNextRow ds i member (get_or old i [])) (sym (get_or_push new row [] i (omega arith)))
          (subst (λ t. IsNextRow ds t member (get_or old t []) row) last r)

-- so the table is square
pub square_after : {X : Type 0} (ds : List (Direction X)) (member : ℕ) (t after : Separators) → IsSquare t → after.live ≡ t.live →
    AreNextRows ds member t.rows (length t.rows) after.rows → IsSquare after
square_after ds member t after q e r = record {
  long = r.long ∙ q.long ∙ ap length (sym e);
  wide = λ i d h. let l = r.long in subst (λ m. length (get_or after.rows i d) ≡ m) (ap length (sym e)) (go i d (omega arith) h);
}
  where
    go : (i : ℕ) (d : List (Option ℕ)) → i < length t.rows → i < length after.rows → length (get_or after.rows i d) ≡ length t.live
    go i d h k = ap length (get_or_default after.rows i d [] k) ∙ (r.each i h).long ∙ q.wide i [] h

-- the first m separators of a row after one member more
pub record AreNextSeparators {X : Type 0} (ds : List (Direction X)) (line member : ℕ) (old : List (Option ℕ)) (m : ℕ)
    (new : List (Option ℕ)) : Type 0 where
  pub long : length new ≡ m
  pub each : (j : ℕ) (d e : Direction X) → j < m → IsNextSeparator (get_or ds line d) (get_or ds j e) member (get_or old j None) (get_or new j None)

module _ {X : Type 0} (ds : List (Direction X)) (line member : ℕ) (old : List (Option ℕ)) where
  pub no_separators : (new : List (Option ℕ)) → new ≡ [] → AreNextSeparators ds line member old 0 new
  no_separators new e = record { long = ap length e; each = λ j d e h. absurd (omega arith) }

  pub one_separator_more : (m : ℕ) (new after : List (Option ℕ)) (x y : Direction X) (a b : Option ℕ) → AreNextSeparators ds line member old m new →
      line < length ds → m < length ds → x ≡ get_or ds line x → y ≡ get_or ds m y → a ≡ get_or old m None → IsNextSeparator x y member a b →
      after ≡ new ++ b ∷ [] → AreNextSeparators ds line member old (m + 1) after
  one_separator_more m new after x y a b h in_line in_m is_x is_y is_a t e = subst (AreNextSeparators ds line member old (m + 1)) (sym e) (record {
    long = let k = length_push new b in let l = h.long in omega arith;
    each = λ j d e k. go j d e k (dec_lt j m);
  })
    where
      go : (j : ℕ) (d e : Direction X) → j < m + 1 → Dec (j < m) →
          IsNextSeparator (get_or ds line d) (get_or ds j e) member (get_or old j None) (get_or (new ++ b ∷ []) j None)
      go j d e k (yes l) = let q = h.long in
          subst (IsNextSeparator (get_or ds line d) (get_or ds j e) member (get_or old j None))
          (sym (get_or_append_left new (b ∷ []) None j (omega arith))) (h.each j d e l)
      go j d e k (no l) =
          let q = h.long in
          let last : m ≡ j = omega arith in
          let here = subst (λ v. IsNextSeparator (get_or ds line d) v member (get_or old m None) b)
          (is_y ∙ get_or_default ds m y e in_m)
          (subst (λ u. IsNextSeparator u y member (get_or old m None) b) (is_x ∙ get_or_default ds line x d in_line)
          (subst (λ o. IsNextSeparator x y member o b) is_a t)) in
          subst (IsNextSeparator (get_or ds line d) (get_or ds j e) member (get_or old j None)) (sym (get_or_push new b None j (omega arith)))
          (subst (λ n. IsNextSeparator (get_or ds line d) (get_or ds n e) member (get_or old n None) b) last here)

  pub next_row : (new : List (Option ℕ)) → AreNextSeparators ds line member old (length old) new → IsNextRow ds line member old new
  next_row new h = record { long = h.long; each = h.each }

-- one copy more of x
pub replicate_more : {X : Type 0} (n : ℕ) (x : X) (xs after : List X) → xs ≡ replicate n x → after ≡ xs ++ x ∷ [] → after ≡ replicate (n + 1) x
replicate_more {X} n x xs after e a = a ∙ ap (λ t. t ++ x ∷ []) e ∙ go n ∙ (let k : suc n ≡ n + 1 = omega arith in ap (λ m. replicate m x) k)
  where
    go : (n : ℕ) → replicate n x ++ x ∷ [] ≡ replicate (suc n) x
    go zero = refl
    go (suc n) = ap (λ t. x ∷ t) (go n)

-- the table without separators is that of no member, and is square
module _ {K V : Type 0} {f : Field K} (s : Space f V) (line : ℕ → V × V) (n : ℕ) (t : Separators) (rows : t.rows ≡ replicate n (replicate n None)) where
  pub empty_table : TellLive s line n t.live → IsTable s line [] n t
  empty_table h = record {
    lives = h;
    not_free = λ N j. absurd j;
    tells = λ i j a b. subst (TellsSeparator s line [] i j) (sym (ap (λ r. get_or (get_or r i []) j None) rows
        ∙ ap (λ r. get_or r j None) (get_or-replicate n i (replicate n None) [] a) ∙ get_or-replicate n j None None b)) (λ N k. absurd k);
  }

  pub empty_square : length t.live ≡ n → IsSquare t
  empty_square l = record {
    long = ap length rows ∙ length-replicate n (replicate n None) ∙ sym l;
    wide = subst (All (λ row. length row ≡ length t.live)) (sym rows) (λ i d h.
        let k = length-replicate n (replicate {A = Option ℕ} n None) in
        ap length (get_or-replicate n i (replicate n None) d (omega arith)) ∙ length-replicate n None ∙ sym l);
  }

-- each row of a table is as long as there are lines
pub row_long : (t : Separators) (rows : List (List (Option ℕ))) (row : List (Option ℕ)) (i : ℕ) → IsSquare t → rows ≡ t.rows →
    row ≡ get_or rows i row → i < length rows → length row ≡ length t.live
row_long t rows row i q e is h = ap length (is ∙ ap (λ r. get_or r i row) e) ∙ q.wide i row (subst (λ r. i < length r) e h)
