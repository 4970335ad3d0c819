-- Exposed lines overlap where their supports have a common line and their residues are no multiples of each other.
use Rattle.std.proofs.Common.{◌≡◌, ℕ, ◌+◌, ◌<◌, inl, List, [], ◌∷◌, ◌++◌, Vec, Global, All, length, refl, sym, ap, ◌∙◌, subst, arith, below_more}
use Rattle.std.specs.List.{Contains}
use Rattle.std.proofs.lemmas.List.Elements.{All-nil, All-cons, All-head, All-push}
use Rattle.vector_spaces.proofs.Members.{In-all, all-In, contains-In, In-contains, In-append_left, In-append_right}
use Rattle.linear_algebra.specs.Scalars.{Scalars, IsScalar, IsField}
use Rattle.linear_algebra.specs.Spans.{InSpan, combination}
use Rattle.linear_algebra.specs.Vectors.{IsVector, AreVectors, multiple}
use Rattle.linear_algebra.proofs.VectorLaws.{multiple-vector, vector_sum-zero}
use Rattle.matching_state.specs.Overlaps.{IsOverlap}
use Rattle.matching_state.specs.LinePlaces.{IsExposed}
use Rattle.matching_state.proofs.Residues.{inside_of_zero, missed_together, not_missed_together}
use Rattle.matching_state.proofs.Ties.{in_line_vector, misses_to, misses_from}
use Rattle.matching_state.proofs.Tips.{overlap_tells, overlap_told}
use Rattle.overlap.specs.Candidates.{IsCandidate, AreCandidates, DoOverlap, HaveOverlap}
use Rattle.overlap.specs.declared.candidates.Candidate.{Candidate}
use Rattle.parity_lines.specs.LineSets.{IsIndependentSet}
use Rattle.parity_lines.specs.Problems.{ParityProblem, IsProblem}

-- the span of one vector has its multiples
module _ (S : Scalars) (F : IsField S) (d : ℕ) (a : List ℕ) (v : IsVector S d a) where
  pub multiple_in_span : (c : ℕ) → IsScalar S c → InSpan S d (a ∷ []) (multiple S c a)
  unfolding combination
  multiple_in_span c h = record {
    coefficients = c ∷ [];
    combine = record {
      one_each = record { length_is = refl; entries = All-cons (IsScalar S) c [] h (All-nil (IsScalar S)) };
      gives = vector_sum-zero S F d (multiple S c a) (multiple-vector S F d c a h v);
    };
  }

  pub multiple_of_span : (b : List ℕ) → InSpan S d (a ∷ []) b → (c : ℕ) × IsScalar S c × (b ≡ multiple S c a)
  unfolding combination
  multiple_of_span b s = go s.coefficients s.combine.one_each s.combine.gives
    where
      go : (cs : List ℕ) → IsVector S 1 cs → combination S d cs (a ∷ []) ≡ b → (c : ℕ) × IsScalar S c × (b ≡ multiple S c a)
      go [] w e = absurd (let l = w.length_is in omega arith)
      go (c ∷ c' ∷ cs) w e = absurd (let l = w.length_is in omega arith)
      go (c ∷ []) w e =
          let h : IsScalar S c = All-head (IsScalar S) c [] w.entries in
          (c, h, sym e ∙ vector_sum-zero S F d (multiple S c a) (multiple-vector S F d c a h v))

module _ {X : Type 0} (S : Scalars) (p : ParityProblem) (M : List ℕ) where
  -- the exposed lines below n + 1, one after the other
  line_passed : (n : ℕ) (xs : List (Candidate X)) → AreCandidates S p M n xs → ¬ (IsExposed S p M n) → AreCandidates S p M (n + 1) xs
  line_passed n xs a o = record { candidates = a.candidates; all = below_more _ n a.all (λ x. absurd (o x)) }

  line_kept : (n : ℕ) (xs ys : List (Candidate X)) (x : Candidate X) → ys ≡ xs ++ x ∷ [] → AreCandidates S p M n xs → x.line ≡ n →
      IsCandidate S p M x → AreCandidates S p M (n + 1) ys
  line_kept n xs ys x e a l h = subst (AreCandidates S p M (n + 1)) (sym e) (record {
    candidates = All-push (IsCandidate S p M) xs x a.candidates h;
    all = below_more _ n
        (λ k m z. let r = a.all k m z in (r.0, contains-In (xs ++ x ∷ []) r.0 (In-append_left r.0 xs (x ∷ []) (In-contains xs r.0 r.1)), r.2))
        (λ z. (x, contains-In (xs ++ x ∷ []) x (In-append_right x xs (x ∷ []) (inl refl)), l));
  })

  -- as a vector that a call wrote
  pub line_written : (n : ℕ) (xs : List (Candidate X)) (pushed after : Vec (Candidate X) Global) (x : Candidate X) → after ≡ pushed →
      pushed.items ≡ xs ++ x ∷ [] → AreCandidates S p M n xs → x.line ≡ n →
      IsCandidate S p M x → AreCandidates S p M (n + 1) after.items
  line_written n xs pushed after x e e' a l h = line_kept n xs after.items x (ap (λ (v : Vec (Candidate X) Global). v.items) e ∙ e') a l h

  pub line_left : (n : ℕ) (before after : Vec (Candidate X) Global) → after ≡ before → AreCandidates S p M n before.items →
      ¬ (IsExposed S p M n) → AreCandidates S p M (n + 1) after.items
  line_left n before after e a o =
      subst (λ (v : Vec (Candidate X) Global). AreCandidates S p M (n + 1) v.items) (sym e) (line_passed n before.items a o)

module _ (S : Scalars) (F : IsField S) (p : ParityProblem) (P : IsProblem S p) (M : List ℕ) (i : IsIndependentSet S p M) {X : Type 0} where
  module _ (x y : Candidate X) (a : IsCandidate S p M x) (b : IsCandidate S p M y) where
    first_outer : IsVector S p.dimension a.outer
    first_outer = in_line_vector S F p P x.line a.outer a.within a.is_outer.in_line

    second_outer : IsVector S p.dimension b.outer
    second_outer = in_line_vector S F p P y.line b.outer b.within b.is_outer.in_line

    outers : AreVectors S p.dimension (a.outer ∷ b.outer ∷ [])
    outers = All-cons (IsVector S p.dimension) a.outer (b.outer ∷ []) first_outer
        (All-cons (IsVector S p.dimension) b.outer [] second_outer (All-nil (IsVector S p.dimension)))

    -- told by their supports and residues
    pub overlap_of_candidates : DoOverlap S p.dimension x y → IsOverlap S p M x.line y.line
    overlap_of_candidates o = overlap_told S F p P M i x.line y.line a.within b.within a.tip a.coordinates a.outer b.tip b.coordinates b.outer
        a.is_tip a.is_outer b.is_tip b.is_outer (
          misses_from S F p P M (a.outer ∷ b.outer ∷ []) i.line_set.within outers
              (missed_together S F p P M i a.outer b.outer x.residue y.residue first_outer second_outer a.is_residue b.is_residue
              (λ z. a.is_outer.outside (inside_of_zero S F p P M i a.outer x.residue first_outer a.is_residue z))
              (λ c h q. o.apart (subst (InSpan S p.dimension (x.residue ∷ [])) (sym q)
              (multiple_in_span S F p.dimension x.residue a.is_residue.vector c h)))),
          (o.common.0, (a.is_support.lines o.common.0).0 o.common.1, (b.is_support.lines o.common.0).0 o.common.2),
        )

    pub candidates_of_overlap : IsOverlap S p M x.line y.line → DoOverlap S p.dimension x y
    candidates_of_overlap v =
        let r = overlap_tells S F p P M i x.line y.line a.within b.within a.tip a.coordinates a.outer b.tip b.coordinates b.outer
        a.is_tip a.is_outer b.is_tip b.is_outer v in
        record {
          common = (r.1.0, (a.is_support.lines r.1.0).1 r.1.1, (b.is_support.lines r.1.0).1 r.1.2);
          apart = λ s.
              let m = multiple_of_span S F p.dimension x.residue a.is_residue.vector y.residue s in
              not_missed_together S F p P M i a.outer b.outer x.residue y.residue m.0 first_outer second_outer m.1 a.is_residue b.is_residue m.2
              (misses_to S F p P M (a.outer ∷ b.outer ∷ []) i.line_set.within outers r.0);
        }

  module _ (xs : List (Candidate X)) (k : AreCandidates S p M (length p.lines) xs) where
    of_list : (x : Candidate X) → Contains xs x → IsCandidate S p M x
    of_list x c = In-all (IsCandidate S p M) xs k.candidates x (In-contains xs x c)

    -- their residues have one length
    pub residues_alike : All (λ x. All (λ y. length y.residue ≡ length x.residue) xs) xs
    residues_alike = all-In (λ x. All (λ y. length y.residue ≡ length x.residue) xs) xs
        (λ x j. all-In (λ y. length y.residue ≡ length x.residue) xs (λ y l.
        let a = In-all (IsCandidate S p M) xs k.candidates x j in
        let b = In-all (IsCandidate S p M) xs k.candidates y l in
        b.is_residue.vector.length_is ∙ sym a.is_residue.vector.length_is))

    residue_long : (x : Candidate X) → Contains xs x → length x.residue ≡ p.dimension
    residue_long x c = (of_list x c).is_residue.vector.length_is

    -- two that overlap are an overlap
    pub pair_is_overlap : (e h : ℕ) → HaveOverlap S xs e h → (e < length p.lines) × (h < length p.lines) × IsOverlap S p M e h
    pair_is_overlap e h w =
        let y = w.second in
        let a = of_list w.first w.first_in in
        let b = of_list y.partner y.partner_in in
        let o = subst (λ d. DoOverlap S d w.first y.partner) (residue_long w.first w.first_in) y.overlap in (
          subst (λ l. l < length p.lines) w.line a.within,
          subst (λ l. l < length p.lines) y.line b.within,
          subst (λ l. IsOverlap S p M l h) w.line
              (subst (λ l. IsOverlap S p M w.first.line l) y.line (overlap_of_candidates w.first y.partner a b o)),
        )

    -- and where no two do, there is none
    pub no_pair_no_overlap : All (λ x. All (λ y. ¬ (DoOverlap S (length x.residue) x y)) xs) xs → (e h : ℕ) → e < length p.lines →
        h < length p.lines → ¬ (IsOverlap S p M e h)
    no_pair_no_overlap n e h in_e in_h v =
        let x = k.all e in_e v.first in
        let y = k.all h in_h v.second in
        let w = subst (λ l. IsOverlap S p M x.0.line l) (sym y.2) (subst (λ l. IsOverlap S p M l h) (sym x.2) v) in
        In-all (λ y. ¬ (DoOverlap S (length x.0.residue) x.0 y)) xs
        (In-all (λ x. All (λ y. ¬ (DoOverlap S (length x.residue) x y)) xs) xs n x.0 (In-contains xs x.0 x.1)) y.0 (In-contains xs y.0 y.1)
        (subst (λ d. DoOverlap S d x.0 y.0) (sym (residue_long x.0 x.1))
        (candidates_of_overlap x.0 y.0 (of_list x.0 x.1) (of_list y.0 y.1) w))
