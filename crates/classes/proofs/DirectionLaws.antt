-- What directions over a set tell: which lines it spans, and which pairs of lines it separates.
use Rattle.std.proofs.Common.{◌≡◌, ◌≢◌, ℕ, ◌+◌, ◌<◌, ◌⊎◌, inl, inr, List, [], ◌∷◌, ◌++◌, length, get_or, refl, sym, ap, ◌∙◌, subst, arith}
use Rattle.std.proofs.Math.Decide.{dec_lt}
use Rattle.std.proofs.lemmas.List.{length_push, get_or_append_left, get_or_push}
use Rattle.vector_spaces.proofs.Members.{In}
use Rattle.vector_spaces.proofs.Space.{Space, move}
use Rattle.vector_spaces.proofs.Span.{InSpan as InSpan_of, span_minus, span_null}
use Rattle.vector_spaces.proofs.Tuples.{Tuple}
use Rattle.vector_spaces.proofs.Within.{Within, first_outside, head_in, left_in, right_in, within_append, within_cons, within_left, within_nil, within_self, within_trans}
use Rattle.linear_algebra.specs.Scalars.{Scalars, IsScalar, IsField}
use Rattle.linear_algebra.specs.Vectors.{IsVector, multiple, zero_vector}
use Rattle.linear_algebra.proofs.Coordinates.{tuple, space}
use Rattle.linear_algebra.proofs.Elements.{Element, scalar_field}
use Rattle.linear_algebra.proofs.VectorLaws.{tuple-zero}
use Rattle.echelon.specs.Residues.{IsResidue}
use Rattle.matching_state.proofs.Residues.{missed_alone, missed_together, not_missed_together, residue_tuple}
use Rattle.matching_state.proofs.Ties.{span_to}
use Rattle.parity_lines.proofs.Border.{tuples_at}
use Rattle.parity_lines.proofs.LinePairs.{IsPair, line_at_vectors}
use Rattle.parity_lines.specs.LineSets.{IsIndependentSet}
use Rattle.parity_lines.specs.Problems.{ParityProblem, IsProblem, line_at, vectors_at}
use Rattle.parity_lines.specs.Relations.{IsMonicMultiple}
use Rattle.parity_theory.proofs.Lines.{IsFree, Misses, vectors}
use Rattle.parity_theory.proofs.Positions.{vector_of_line}
use Rattle.parity_theory.proofs.Widths.{IsNarrow, IsWide, two_missed, wide_not_narrow}
use Rattle.matching_state.proofs.Monics.{monic_entries, multiple_multiple, not_zero_of_monic, of_monic, same_monics, zero_of_length}
use Rattle.classes.specs.Directions.{AreApart, AreDirections, HaveResidues, IsAlong, IsDirection}
use Rattle.classes.specs.declared.direction.Direction.{Direction}
use Rattle.classes.specs.declared.direction.Direction.TheVariants.{Inside, Along}

module _ (S : Scalars) (F : IsField S) (p : ParityProblem) (P : IsProblem S p) (M : List ℕ) (i : IsIndependentSet S p M) where
  abbrev sp : Space (scalar_field S F) (Tuple (Element S) p.dimension)
  sp = space S F p.dimension

  abbrev line : ℕ → Tuple (Element S) p.dimension × Tuple (Element S) p.dimension
  line = tuples_at S F p

  abbrev as_tuple : List ℕ → Tuple (Element S) p.dimension
  as_tuple x = tuple S F p.dimension x

  abbrev Leaves : List ℕ → List ℕ → Type 0
  Leaves u a = IsResidue S p.dimension (vectors_at p M) u a

  -- a vector that leaves zero is spanned
  spanned_by_set : (u a : List ℕ) → IsVector S p.dimension u → Leaves u a → a ≡ zero_vector S p.dimension →
      InSpan_of sp (vectors line M) (as_tuple u)
  spanned_by_set u a k r z =
      let null_is : sp.null ≡ sp.◌⊕◌ (as_tuple u) (as_tuple r.added) =
      sym (tuple-zero S F p.dimension) ∙ ap as_tuple (sym z) ∙ residue_tuple S F p P M i u a k r in
      subst (λ w. InSpan_of sp (vectors line M) w) (move (scalar_field S F) sp sp.null (as_tuple r.added) (as_tuple u) null_is)
      (span_minus (scalar_field S F) sp (vectors line M) sp.null (as_tuple r.added) (span_null (scalar_field S F) sp (vectors line M))
      (span_to S F p P M r.added i.line_set.within r.in_span))

  module _ (u v a b : List ℕ) (hu : IsVector S p.dimension u) (hv : IsVector S p.dimension v) (r : Leaves u a) (q : Leaves v b)
      (n : a ≢ zero_vector S p.dimension) where
    -- what leaves a multiple of what u leaves is spanned with u
    spanned_with : (c : ℕ) → IsScalar S c → b ≡ multiple S c a → InSpan_of sp (vectors line M ++ as_tuple u ∷ []) (as_tuple v)
    spanned_with c hc e = go (first_outside sp (as_tuple v ∷ []) (vectors line M ++ as_tuple u ∷ []))
      where
        go : Within sp (as_tuple v ∷ []) (vectors line M ++ as_tuple u ∷ [])
            ⊎ ((x : Tuple (Element S) p.dimension) × In x (as_tuple v ∷ []) × ¬ (InSpan_of sp (vectors line M ++ as_tuple u ∷ []) x)) →
            InSpan_of sp (vectors line M ++ as_tuple u ∷ []) (as_tuple v)
        go (inl w) = w.each (as_tuple v) (inl refl)
        go (inr (x, inl j, m)) = absurd (not_missed_together S F p P M i u v a b c hu hv hc r q e
            (two_missed sp line M (as_tuple u) (as_tuple v) (missed_alone S F p P M i u a hu r n)
            (subst (λ t. ¬ (InSpan_of sp (vectors line M ++ as_tuple u ∷ []) t)) j m)))
        go (inr (x, inr o, m)) = absurd o

    module _ (s t : List ℕ) (k : IsMonicMultiple S a s) (l : IsMonicMultiple S b t) where
      -- with the same monic multiple
      pub spanned_along : s ≡ t → InSpan_of sp (vectors line M ++ as_tuple u ∷ []) (as_tuple v)
      spanned_along e =
          let d = of_monic S F b t q.vector.entries l in
          spanned_with (S.product d.0 k.factor) (F.product_in d.0 k.factor d.1 k.factor_in)
          (d.2 ∙ ap (multiple S d.0) (sym e ∙ k.is_multiple) ∙ multiple_multiple S F d.0 k.factor a d.1 k.factor_in r.vector.entries)

      -- and with others
      pub missed_apart : s ≢ t → Misses sp line M (as_tuple u ∷ as_tuple v ∷ [])
      missed_apart m = missed_together S F p P M i u v a b hu hv r q n (λ c hc e.
          let d = of_monic S F a s r.vector.entries k in
          let h : IsScalar S (S.product c d.0) = F.product_in c d.0 hc d.1 in
          m (sym (same_monics S F b a t s (S.product l.factor (S.product c d.0)) (monic_entries S F a s r.vector.entries k)
          (F.product_in l.factor (S.product c d.0) l.factor_in h)
          (l.is_multiple ∙ ap (multiple S l.factor) (e ∙ ap (multiple S c) d.2
          ∙ multiple_multiple S F c d.0 s hc d.1 (monic_entries S F a s r.vector.entries k))
          ∙ multiple_multiple S F l.factor (S.product c d.0) s l.factor_in h (monic_entries S F a s r.vector.entries k)) l k)))

  module _ (e : ℕ) (h : e < length p.lines) (a b : List ℕ) (t : HaveResidues S p M e a b) where
    both : IsPair S p.dimension (line_at p e)
    both = line_at_vectors S p e P h

    first_zero : a ≡ zero_vector S (length a) → InSpan_of sp (vectors line M) (line e).0
    first_zero z = spanned_by_set (line_at p e).0 a both.0 t.first (zero_of_length S p.dimension a t.first.vector.length_is z)

    second_zero : b ≡ zero_vector S (length b) → InSpan_of sp (vectors line M) (line e).1
    second_zero z = spanned_by_set (line_at p e).1 b both.1 t.second (zero_of_length S p.dimension b t.second.vector.length_is z)

    -- the line by what its vectors leave
    pub direction_inside : a ≡ zero_vector S (length a) → b ≡ zero_vector S (length b) → Within sp (vectors line (e ∷ [])) (vectors line M)
    direction_inside z w = within_cons sp (line e).0 ((line e).1 ∷ []) (vectors line M) (first_zero z)
        (within_cons sp (line e).1 [] (vectors line M) (second_zero w) (within_nil sp (vectors line M)))

    pub direction_second : (s : List ℕ) → a ≡ zero_vector S (length a) → IsMonicMultiple S b s → IsAlong S F p M e s
    direction_second s z k = record {
      outer = (line_at p e).1;
      of_line = inr refl;
      residue = b;
      is_residue = t.second;
      not_zero = not_zero_of_monic S F p.dimension b s k;
      monic = k;
      spans = within_cons sp (line e).0 ((line e).1 ∷ []) (vectors line M ++ (line e).1 ∷ [])
          (left_in sp (vectors line M) ((line e).1 ∷ []) (line e).0 (first_zero z))
          (within_cons sp (line e).1 [] (vectors line M ++ (line e).1 ∷ [])
          (right_in sp (vectors line M) ((line e).1 ∷ []) (line e).1 (head_in sp (line e).1 []))
          (within_nil sp (vectors line M ++ (line e).1 ∷ [])));
    }

    module _ (s : List ℕ) (k : IsMonicMultiple S a s) where
      first_left : a ≢ zero_vector S p.dimension
      first_left = not_zero_of_monic S F p.dimension a s k

      first_with : InSpan_of sp (vectors line M ++ (line e).0 ∷ []) (line e).1 → IsAlong S F p M e s
      first_with c = record {
        outer = (line_at p e).0;
        of_line = inl refl;
        residue = a;
        is_residue = t.first;
        not_zero = first_left;
        monic = k;
        spans = within_cons sp (line e).0 ((line e).1 ∷ []) (vectors line M ++ (line e).0 ∷ [])
            (right_in sp (vectors line M) ((line e).0 ∷ []) (line e).0 (head_in sp (line e).0 []))
            (within_cons sp (line e).1 [] (vectors line M ++ (line e).0 ∷ []) c (within_nil sp (vectors line M ++ (line e).0 ∷ [])));
      }

      pub direction_first : b ≡ zero_vector S (length b) → IsAlong S F p M e s
      direction_first z = first_with (left_in sp (vectors line M) ((line e).0 ∷ []) (line e).1 (second_zero z))

      pub direction_both : (r : List ℕ) → IsMonicMultiple S b r → s ≡ r → IsAlong S F p M e s
      direction_both r l d = first_with (spanned_along (line_at p e).0 (line_at p e).1 a b both.0 both.1 t.first t.second first_left s r k l d)

      pub direction_free : (r : List ℕ) → IsMonicMultiple S b r → s ≢ r → IsFree sp line M e
      direction_free r l d = missed_apart (line_at p e).0 (line_at p e).1 a b both.0 both.1 t.first t.second first_left s r k l d

  -- the vector of a direction is one of the line
  outer_vector : (e : ℕ) (s : List ℕ) → IsVector S p.dimension (line_at p e).0 × IsVector S p.dimension (line_at p e).1 →
      (d : IsAlong S F p M e s) → IsVector S p.dimension d.outer
  outer_vector e s pair d = elim d.of_line [
    | inl q ↦ subst (IsVector S p.dimension) (sym q) pair.0
    | inr q ↦ subst (IsVector S p.dimension) (sym q) pair.1
  ]

  outer_in : (e : ℕ) (s : List ℕ) (d : IsAlong S F p M e s) (L : List ℕ) → In e L → In (as_tuple d.outer) (vectors line L)
  outer_in e s d L j = vector_of_line line L e (as_tuple d.outer) j
      (elim d.of_line [ inl q ↦ inl (ap as_tuple q) | inr q ↦ inr (inl (ap as_tuple q)) ])

  -- a line with a direction is not free
  pub not_free : {X : Type 0} (e : ℕ) (x : Direction X) → IsVector S p.dimension (line_at p e).0 × IsVector S p.dimension (line_at p e).1 →
      IsDirection S F p M e x → ¬ (IsFree sp line M e)
  not_free e Inside pair a h = wide_not_narrow sp line M (vectors line (e ∷ [])) ((line e).0, (line e).1, inl refl, inr (inl refl), h) (inl a)
  not_free e (Along s) pair a h = wide_not_narrow sp line M (vectors line (e ∷ [])) ((line e).0, (line e).1, inl refl, inr (inl refl), h) (inr (
    as_tuple a.outer,
    outer_in e s a (e ∷ []) (inl refl),
    missed_alone S F p P M i a.outer a.residue (outer_vector e s pair a) a.is_residue a.not_zero,
    a.spans,
  ))

  module _ (e g : ℕ) (pair : IsVector S p.dimension (line_at p e).0 × IsVector S p.dimension (line_at p e).1)
      (other : IsVector S p.dimension (line_at p g).0 × IsVector S p.dimension (line_at p g).1) where
    both_within : (vs : List (Tuple (Element S) p.dimension)) → Within sp (vectors line (e ∷ [])) vs → Within sp (vectors line (g ∷ [])) vs →
        Within sp (vectors line (e ∷ g ∷ [])) vs
    both_within vs a b = within_append sp (vectors line (e ∷ [])) (vectors line (g ∷ [])) vs a b

    -- lines are separated exactly where both have directions, which differ
    pub wide_of_apart : {X : Type 0} (x y : Direction X) → IsDirection S F p M e x → IsDirection S F p M g y → AreApart x y →
        IsWide sp line M (vectors line (e ∷ g ∷ []))
    wide_of_apart Inside y a b d = absurd d
    wide_of_apart (Along s) Inside a b d = absurd d
    wide_of_apart (Along s) (Along t) a b d = (
      as_tuple a.outer,
      as_tuple b.outer,
      outer_in e s a (e ∷ g ∷ []) (inl refl),
      outer_in g t b (e ∷ g ∷ []) (inr (inl refl)),
      missed_apart a.outer b.outer a.residue b.residue (outer_vector e s pair a) (outer_vector g t other b) a.is_residue b.is_residue a.not_zero
          s t a.monic b.monic d,
    )

    narrow_along : (s : List ℕ) (l : ℕ) (d : IsAlong S F p M l s) → In l (e ∷ g ∷ []) → IsVector S p.dimension d.outer →
        Within sp (vectors line (e ∷ g ∷ [])) (vectors line M ++ as_tuple d.outer ∷ []) → IsNarrow sp line M (vectors line (e ∷ g ∷ []))
    narrow_along s l d j h w = inr (
      as_tuple d.outer,
      outer_in l s d (e ∷ g ∷ []) j,
      missed_alone S F p P M i d.outer d.residue h d.is_residue d.not_zero,
      w,
    )

    -- the second line is spanned with the first, where the directions agree
    along_with : (s t : List ℕ) (a : IsAlong S F p M e s) (b : IsAlong S F p M g t) → s ≡ t →
        Within sp (vectors line (g ∷ [])) (vectors line M ++ as_tuple a.outer ∷ [])
    along_with s t a b d = within_trans sp (vectors line (g ∷ [])) (vectors line M ++ as_tuple b.outer ∷ []) (vectors line M ++ as_tuple a.outer ∷ [])
        b.spans (within_append sp (vectors line M) (as_tuple b.outer ∷ []) (vectors line M ++ as_tuple a.outer ∷ [])
        (within_left sp (vectors line M) (vectors line M) (as_tuple a.outer ∷ []) (within_self sp (vectors line M)))
        (within_cons sp (as_tuple b.outer) [] (vectors line M ++ as_tuple a.outer ∷ [])
        (spanned_along a.outer b.outer a.residue b.residue (outer_vector e s pair a) (outer_vector g t other b) a.is_residue b.is_residue a.not_zero
        s t a.monic b.monic d) (within_nil sp (vectors line M ++ as_tuple a.outer ∷ []))))

    pub not_wide : {X : Type 0} (x y : Direction X) → IsDirection S F p M e x → IsDirection S F p M g y → ¬ (AreApart x y) →
        ¬ (IsWide sp line M (vectors line (e ∷ g ∷ [])))
    not_wide Inside Inside a b d w = wide_not_narrow sp line M (vectors line (e ∷ g ∷ [])) w (inl (both_within (vectors line M) a b))
    not_wide Inside (Along t) a b d w = wide_not_narrow sp line M (vectors line (e ∷ g ∷ [])) w
        (narrow_along t g b (inr (inl refl)) (outer_vector g t other b) (both_within (vectors line M ++ as_tuple b.outer ∷ [])
        (within_left sp (vectors line (e ∷ [])) (vectors line M) (as_tuple b.outer ∷ []) a) b.spans))
    not_wide (Along s) Inside a b d w = wide_not_narrow sp line M (vectors line (e ∷ g ∷ [])) w
        (narrow_along s e a (inl refl) (outer_vector e s pair a) (both_within (vectors line M ++ as_tuple a.outer ∷ []) a.spans
        (within_left sp (vectors line (g ∷ [])) (vectors line M) (as_tuple a.outer ∷ []) b)))
    not_wide (Along s) (Along t) a b d w = d (λ z. wide_not_narrow sp line M (vectors line (e ∷ g ∷ [])) w
        (narrow_along s e a (inl refl) (outer_vector e s pair a)
        (both_within (vectors line M ++ as_tuple a.outer ∷ []) a.spans (along_with s t a b z))))

-- the directions of the first lines, with one more
module _ {X : Type 0} (S : Scalars) (F : IsField S) (p : ParityProblem) (M : List ℕ) where
  pub no_directions : (ds : List (Direction X)) → ds ≡ [] → AreDirections S F p M 0 ds
  no_directions ds e = record { long = ap length e; each = λ l d h. absurd (omega arith) }

  pub one_direction_more : (n : ℕ) (ds after : List (Direction X)) (x : Direction X) → AreDirections S F p M n ds → IsDirection S F p M n x →
      after ≡ ds ++ x ∷ [] → AreDirections S F p M (n + 1) after
  one_direction_more n ds after x h t e = subst (AreDirections S F p M (n + 1)) (sym e) (record {
    long = let k = length_push ds x in let l = h.long in omega arith;
    each = λ l d k. go l d k (dec_lt l n);
  })
    where
      go : (l : ℕ) (d : Direction X) → l < n + 1 → Dec (l < n) → IsDirection S F p M l (get_or (ds ++ x ∷ []) l d)
      go l d k (yes b) = let q = h.long in
          subst (IsDirection S F p M l) (sym (get_or_append_left ds (x ∷ []) d l (omega arith))) (h.each l d b)
      go l d k (no b) =
          let q = h.long in
          let last : n ≡ l = omega arith in
          subst (IsDirection S F p M l) (sym (get_or_push ds x d l (omega arith))) (subst (λ m. IsDirection S F p M m x) last t)
