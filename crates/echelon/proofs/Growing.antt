-- Bases that grow by one vector after the other.
use Rattle.std.proofs.Common.{◌≡◌, inl, take_all, ℕ, ◌+◌, ◌-◌, ◌<◌, ◌≤◌, get_or, List, [], ◌∷◌, ◌++◌, length, take, refl, sym, ap, ap₂, ◌∙◌, subst, append-nil, append_assoc, All}
use Rattle.std.proofs.lemmas.List.Elements.{All-nil, All-append, All-push, All-take, All-get_or}
use Rattle.std.proofs.lemmas.List.{take_more}
use Rattle.vector_spaces.proofs.Members.{In, In-all, all-In, In-append_left, In-append_right}
use Rattle.field_core.specs.Matrix.{Matrix}
use Rattle.linear_algebra.specs.Scalars.{Scalars, IsField}
use Rattle.linear_algebra.specs.Vectors.{IsVector, AreVectors}
use Rattle.linear_algebra.specs.Spans.{InSpan, IsIndependent}
use Rattle.linear_algebra.specs.Ranks.{rank_over}
use Rattle.linear_algebra.proofs.Combinations.{spanned_vectors}
use Rattle.linear_algebra.proofs.IndependenceLaws.{independent_push}
use Rattle.linear_algebra.proofs.SpanLaws.{span_member, span_append_left}
use Rattle.linear_algebra.proofs.RankLaws.{rank_same, rank_of_independent, rank_over_same}
use Rattle.echelon.specs.Inserted.{Inserts}
use Rattle.echelon.specs.declared.basis.Inserted.{Inserted}
use Rattle.echelon.specs.declared.basis.Inserted.TheVariants.{New, Old}
use Rattle.echelon.specs.Grown.{IsBasisOf, Grows, SpansMore}

pub grows-none : (m : Matrix) → Grows m m
grows-none m = record { width = refl; added = []; rows = sym (append-nil m.rows) }

module _ (S : Scalars) {X : Type 0} where
  pub grows_more : (before now after : Matrix) (v : List ℕ) (found : Inserted X) → Grows before now → Inserts S now v after found → Grows before after
  grows_more before now after v New g i = record {
    width = ap (λ (m : Matrix). m.width) i.1 ∙ g.width;
    added = g.added ++ v ∷ [];
    rows = ap (λ (m : Matrix). m.rows) i.1 ∙ ap (λ rows. rows ++ v ∷ []) g.rows ∙ append_assoc before.rows g.added (v ∷ []);
  }
  grows_more before now after v (Old cs) g i = subst (Grows before) (sym i.1) g

module _ (S : Scalars) (F : IsField S) (d : ℕ) where
  all_left : (us vs ws : List (List ℕ)) → AreVectors S d (vs ++ ws) → AreVectors S d us → All (InSpan S d vs) us → All (InSpan S d (vs ++ ws)) us
  all_left us vs ws h k a = all-In (InSpan S d (vs ++ ws)) us (λ x i. span_append_left S F d vs ws x h (In-all (IsVector S d) us k x i) (In-all (InSpan S d vs) us a x i))

  last_in : (vs : List (List ℕ)) (v : List ℕ) → AreVectors S d vs → IsVector S d v → InSpan S d (vs ++ v ∷ []) v
  last_in vs v h k = span_member S F d (vs ++ v ∷ []) v (All-push (IsVector S d) vs v h k) (In-append_right v vs (v ∷ []) (inl refl))

module _ (S : Scalars) (F : IsField S) {X : Type 0} (before now after : Matrix) where
  -- an insertion keeps the basis independent
  pub independent_more : (v : List ℕ) (found : Inserted X) → AreVectors S now.width now.rows → IsVector S now.width v → IsIndependent S now.width now.rows → Inserts S now v after found → IsIndependent S after.width after.rows
  independent_more v New h k i n = subst (λ (m : Matrix). IsIndependent S m.width m.rows) (sym n.1) (independent_push S F now.width now.rows v h k i n.0)
  independent_more v (Old cs) h k i n = subst (λ (m : Matrix). IsIndependent S m.width m.rows) (sym n.1) i

  -- and it spans one vector more
  pub spans_more : (vs : List (List ℕ)) (v : List ℕ) (found : Inserted X) → AreVectors S now.width (before.rows ++ vs) → AreVectors S now.width vs → IsVector S now.width v → SpansMore S vs before now → Inserts S now v after found →
      SpansMore S (vs ++ v ∷ []) before after
  spans_more vs v New h k l m n =
      let d = now.width in
      let now_in = spanned_vectors S F d (before.rows ++ vs) now.rows h m.within in
      let more : AreVectors S d (now.rows ++ v ∷ []) = All-push (IsVector S d) now.rows v now_in l in
      let all : AreVectors S d ((before.rows ++ vs) ++ v ∷ []) = All-push (IsVector S d) (before.rows ++ vs) v h l in
      subst (SpansMore S (vs ++ v ∷ []) before) (sym n.1) (record {
        spans = All-push (InSpan S d (now.rows ++ v ∷ [])) vs v (all_left S F d vs now.rows (v ∷ []) more k m.spans) (last_in S F d now.rows v now_in l);
        within = subst (λ (us : List (List ℕ)). All (InSpan S d us) (now.rows ++ v ∷ [])) (append_assoc before.rows vs (v ∷ []))
            (All-push (InSpan S d ((before.rows ++ vs) ++ v ∷ [])) now.rows v (all_left S F d now.rows (before.rows ++ vs) (v ∷ []) all now_in m.within) (last_in S F d (before.rows ++ vs) v h l));
      })
  spans_more vs v (Old cs) h k l m n =
      let d = now.width in
      let now_in = spanned_vectors S F d (before.rows ++ vs) now.rows h m.within in
      let all : AreVectors S d ((before.rows ++ vs) ++ v ∷ []) = All-push (IsVector S d) (before.rows ++ vs) v h l in
      subst (SpansMore S (vs ++ v ∷ []) before) (sym n.1) (record {
        spans = All-push (InSpan S d now.rows) vs v m.spans (record { coefficients = cs; combine = n.0 });
        within = subst (λ (us : List (List ℕ)). All (InSpan S d us) now.rows) (append_assoc before.rows vs (v ∷ [])) (all_left S F d now.rows (before.rows ++ vs) (v ∷ []) all now_in m.within);
      })

module _ (S : Scalars) (F : IsField S) where
  pub spans-none : (m : Matrix) → AreVectors S m.width m.rows → SpansMore S [] m m
  spans-none m h = record {
    spans = All-nil (InSpan S m.width m.rows);
    within = subst (λ (us : List (List ℕ)). All (InSpan S m.width us) m.rows) (sym (append-nil m.rows)) (all-In (InSpan S m.width m.rows) m.rows (λ x i. span_member S F m.width m.rows x h i));
  }

  -- what grew from nothing is a basis
  pub grown_basis : (vectors before after : Matrix) → before.rows ≡ [] → after.width ≡ vectors.width → IsIndependent S after.width after.rows → AreVectors S after.width after.rows → SpansMore S vectors.rows before after → IsBasisOf S vectors after
  grown_basis vectors before after e w i h m = record {
    width = w;
    independent = subst (λ d. IsIndependent S d after.rows) w i;
    vectors_in = subst (λ d. AreVectors S d after.rows) w h;
    spans = subst (λ d. All (InSpan S d after.rows) vectors.rows) w m.spans;
    within = subst (λ (us : List (List ℕ)). All (InSpan S vectors.width us) after.rows) (ap (λ rows. rows ++ vectors.rows) e) (subst (λ d. All (InSpan S d (before.rows ++ vectors.rows)) after.rows) w m.within);
  }

  -- how many vectors a basis grows by is the rank that is added
  pub added_is_rank : (vs : List (List ℕ)) (before after : Matrix) → AreVectors S before.width before.rows → IsIndependent S before.width before.rows → AreVectors S after.width after.rows → IsIndependent S after.width after.rows →
      Grows before after → SpansMore S vs before after → length after.rows - length before.rows ≡ rank_over S before.width before.rows vs
  added_is_rank vs before after h i k j g m =
      let d = before.width in
      let k' = subst (λ n. AreVectors S n after.rows) g.width k in
      let j' = subst (λ n. IsIndependent S n after.rows) g.width j in
      let spans = subst (λ n. All (InSpan S n after.rows) vs) g.width m.spans in
      let within = subst (λ n. All (InSpan S n (before.rows ++ vs)) after.rows) g.width m.within in
      let vs_in = spanned_vectors S F d after.rows vs k' spans in
      let kept : All (InSpan S d after.rows) before.rows = all-In (InSpan S d after.rows) before.rows (λ x l. span_member S F d after.rows x k' (subst (In x) (sym g.rows) (In-append_left x before.rows g.added l))) in
      ap₂ (λ a b. a - b)
      (sym (rank_of_independent S F d after.rows k' j') ∙ rank_same S F d after.rows (before.rows ++ vs) k' (All-append (IsVector S d) before.rows vs h vs_in) within (All-append (InSpan S d after.rows) before.rows vs kept spans))
      (sym (rank_of_independent S F d before.rows h i))

  -- and a basis of the kernel stands for the kernel
  pub over_basis : (kernel basis : Matrix) (vs : List (List ℕ)) → IsBasisOf S kernel basis → AreVectors S kernel.width vs → rank_over S kernel.width basis.rows vs ≡ rank_over S kernel.width kernel.rows vs
  over_basis kernel basis vs b h = rank_over_same S F kernel.width basis.rows kernel.rows vs b.vectors_in (spanned_vectors S F kernel.width basis.rows kernel.rows b.vectors_in b.spans) h b.within b.spans

  pub inserted_width : {X : Type 0} (now after : Matrix) (v : List ℕ) (found : Inserted X) → Inserts S now v after found → after.width ≡ now.width
  inserted_width now after v New i = ap (λ (m : Matrix). m.width) i.1
  inserted_width now after v (Old cs) i = ap (λ (m : Matrix). m.width) i.1

  -- what the loop over the vectors keeps
  abbrev pub IsBasisSoFar : Matrix → ℕ → Matrix → Type 0
  IsBasisSoFar vectors i now = record {
    width : now.width ≡ vectors.width;
    independent : IsIndependent S now.width now.rows;
    more : SpansMore S (take i vectors.rows) (record { width = vectors.width; rows = [] }) now;
  }

  pub basis_so_far : {X : Type 0} (vectors : Matrix) (i : ℕ) (v : List ℕ) (now after : Matrix) (found : Inserted X) → AreVectors S vectors.width vectors.rows → i < length vectors.rows → v ≡ get_or vectors.rows i [] → IsBasisSoFar vectors i now → Inserts S now v after found → IsBasisSoFar vectors (i + 1) after
  basis_so_far vectors i v now after found h l e b n =
      let all : AreVectors S now.width vectors.rows = subst (λ d. AreVectors S d vectors.rows) (sym b.width) h in
      let front : AreVectors S now.width (take i vectors.rows) = All-take (IsVector S now.width) i vectors.rows all in
      let v_in : IsVector S now.width v = subst (IsVector S now.width) (sym e) (All-get_or (IsVector S now.width) vectors.rows i [] l all) in
      let empty : Matrix = record { width = vectors.width; rows = [] } in
      record {
        width = inserted_width now after v found n ∙ b.width;
        independent = independent_more S F empty now after v found (spanned_vectors S F now.width (take i vectors.rows) now.rows front b.more.within) v_in b.independent n;
        more = subst (λ (us : List (List ℕ)). SpansMore S us empty after) (sym (take_more vectors.rows i [] l ∙ ap (λ u. take i vectors.rows ++ u ∷ []) (sym e)))
            (spans_more S F empty now after (take i vectors.rows) v found front front v_in b.more n);
      }

  pub whole_basis : (vectors : Matrix) (i : ℕ) (basis : Matrix) → AreVectors S vectors.width vectors.rows → length vectors.rows ≤ i → IsBasisSoFar vectors i basis → IsBasisOf S vectors basis
  whole_basis vectors i basis h l b =
      let all : AreVectors S basis.width vectors.rows = subst (λ d. AreVectors S d vectors.rows) (sym b.width) h in
      let more = subst (λ (us : List (List ℕ)). SpansMore S us (record { width = vectors.width; rows = [] }) basis) (take_all i vectors.rows l) b.more in
      grown_basis vectors (record { width = vectors.width; rows = [] }) basis refl b.width b.independent (spanned_vectors S F basis.width vectors.rows basis.rows all more.within) more
