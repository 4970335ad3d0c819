-- Bases that grow by given vectors, one after the other, and the span that they come to have.
use Rattle.std.proofs.Common.{◌≡◌, ℕ, ◌+◌, ◌<◌, List, [], ◌∷◌, ◌++◌, length, get_or, take, sym, ap, ◌∙◌, subst, All}
use Rattle.std.proofs.lemmas.List.{take_more}
use Rattle.std.proofs.lemmas.List.Elements.{All-append, All-take, All-get_or}
use Rattle.vector_spaces.proofs.Members.{In, all-In, In-append_left}
use Rattle.field_core.specs.Matrix.{Matrix}
use Rattle.linear_algebra.specs.Scalars.{Scalars, IsField}
use Rattle.linear_algebra.specs.Spans.{InSpan}
use Rattle.linear_algebra.specs.Vectors.{IsVector, AreVectors}
use Rattle.linear_algebra.proofs.Combinations.{span_vector, spanned_vectors}
use Rattle.linear_algebra.proofs.SpanLaws.{span_member, span_through}
use Rattle.echelon.specs.Grown.{Grows, SpansMore}
use Rattle.echelon.specs.Inserted.{Inserts}
use Rattle.echelon.specs.declared.basis.Inserted.{Inserted}
use Rattle.echelon.proofs.Growing.{grows-none, grows_more, spans-none, spans_more}
use Rattle.exchanges.specs.Spans.{HasSpan}

module _ (S : Scalars) (F : IsField S) where
  -- what the loop over the vectors keeps
  abbrev pub HasGrownBy : List (List ℕ) → Matrix → Matrix → Type 0
  HasGrownBy vs before now = record { grows : Grows before now; more : SpansMore S vs before now }

  pub grown_by_none : (m : Matrix) → AreVectors S m.width m.rows → HasGrownBy [] m m
  grown_by_none m h = record { grows = grows-none m; more = spans-none S F m h }

  pub grown_by_row : {X : Type 0} (vectors : Matrix) (i : ℕ) (v : List ℕ) (before now after : Matrix) (found : Inserted X) →
      before.width ≡ vectors.width → AreVectors S before.width before.rows → AreVectors S vectors.width vectors.rows →
      i < length vectors.rows → v ≡ get_or vectors.rows i [] → HasGrownBy (take i vectors.rows) before now → Inserts S now v after found →
      HasGrownBy (take (i + 1) vectors.rows) before after
  grown_by_row vectors i v before now after found w h k l e b n =
      let d : ℕ = now.width in
      let wide : d ≡ before.width = b.grows.width in
      let all : AreVectors S d vectors.rows = subst (λ t. AreVectors S t vectors.rows) (sym (wide ∙ w)) k in
      let front : AreVectors S d (take i vectors.rows) = All-take (IsVector S d) i vectors.rows all in
      let v_in : IsVector S d v = subst (IsVector S d) (sym e) (All-get_or (IsVector S d) vectors.rows i [] l all) in
      record {
        grows = grows_more S before now after v found b.grows n;
        more = subst (λ (us : List (List ℕ)). SpansMore S us before after)
            (sym (take_more vectors.rows i [] l ∙ ap (λ u. take i vectors.rows ++ u ∷ []) (sym e)))
            (spans_more S F before now after (take i vectors.rows) v found
            (All-append (IsVector S d) before.rows (take i vectors.rows) (subst (λ t. AreVectors S t before.rows) (sym wide) h) front)
            front v_in b.more n);
      }

  -- a basis that took us, and then grew by vs
  pub grown_span : (d : ℕ) (us vs : List (List ℕ)) (after : Matrix) → AreVectors S d us → AreVectors S d vs →
      Grows (record { width = d; rows = us }) after → SpansMore S vs (record { width = d; rows = us }) after → HasSpan S d (us ++ vs) after
  grown_span d us vs after h k g m =
      let all : AreVectors S d (us ++ vs) = All-append (IsVector S d) us vs h k in
      let within : All (InSpan S d (us ++ vs)) after.rows = subst (λ t. All (InSpan S t (us ++ vs)) after.rows) g.width m.within in
      let rows_in : AreVectors S d after.rows = spanned_vectors S F d (us ++ vs) after.rows all within in
      let first : All (InSpan S d after.rows) us = all-In (InSpan S d after.rows) us
      (λ u i. span_member S F d after.rows u rows_in (subst (λ ws. In u ws) (sym g.rows) (In-append_left u us g.added i))) in
      let spans : All (InSpan S d after.rows) (us ++ vs) = All-append (InSpan S d after.rows) us vs first
      (subst (λ t. All (InSpan S t after.rows) vs) g.width m.spans) in
      record {
        width = g.width;
        span = λ x. (
          λ c. span_through S F d after.rows (us ++ vs) x rows_in all (span_vector S F d after.rows x rows_in c) within c,
          λ c. span_through S F d (us ++ vs) after.rows x all rows_in (span_vector S F d (us ++ vs) x all c) spans c,
        );
      }
