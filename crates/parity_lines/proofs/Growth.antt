-- Bases that grow by the vectors of one line after the other.
use Rattle.std.proofs.Common.{◌≡◌, ℕ, ◌+◌, ◌<◌, get_or, List, [], ◌∷◌, ◌++◌, length, take, refl, sym, ap, ap₂, ◌∙◌, subst}
use Rattle.std.proofs.lemmas.List.Elements.{All-nil, All-append, All-push}
use Rattle.std.proofs.lemmas.List.{take_more}
use Rattle.field_core.specs.Matrix.{Matrix}
use Rattle.linear_algebra.specs.Scalars.{Scalars, IsField}
use Rattle.linear_algebra.specs.Vectors.{IsVector, AreVectors}
use Rattle.echelon.specs.Inserted.{Inserts}
use Rattle.echelon.specs.declared.basis.Inserted.{Inserted}
use Rattle.parity_lines.specs.Problems.{ParityProblem, line_at, vectors_at}
use Rattle.echelon.specs.Grown.{Grows, SpansMore}
use Rattle.echelon.proofs.Growing.{grows-none, grows_more, inserted_width, spans_more, spans-none}

pub vectors_at-push : (p : ParityProblem) (M : List ℕ) (m : ℕ) → vectors_at p (M ++ m ∷ []) ≡ (vectors_at p M ++ (line_at p m).0 ∷ []) ++ (line_at p m).1 ∷ []
unfolding vectors_at
vectors_at-push p [] m = refl
vectors_at-push p (l ∷ M) m = ap (λ vs. (line_at p l).0 ∷ (line_at p l).1 ∷ vs) (vectors_at-push p M m)

module _ (S : Scalars) (F : IsField S) (p : ParityProblem) where
  -- what the loop over the lines of a part keeps
  abbrev pub HasGrownBy : List ℕ → Matrix → Matrix → Type 0
  HasGrownBy lines before now = record {
    grows : Grows before now;
    vectors : AreVectors S p.dimension (vectors_at p lines);
    more : SpansMore S (vectors_at p lines) before now;
  }

  pub grown_by_none : (m : Matrix) → AreVectors S m.width m.rows → HasGrownBy [] m m
  unfolding vectors_at
  grown_by_none m h = record { grows = grows-none m; vectors = All-nil (IsVector S p.dimension); more = spans-none S F m h }

  pub grown_by_line : {X : Type 0} (part : List ℕ) (i m : ℕ) (u v : List ℕ) (before now mid after : Matrix) (found last : Inserted X) → before.width ≡ p.dimension → AreVectors S before.width before.rows → i < length part → m ≡ get_or part i 0 → u ≡ (line_at p m).0 → v ≡ (line_at p m).1 → IsVector S p.dimension u → IsVector S p.dimension v →
      HasGrownBy (take i part) before now → Inserts S now u mid found → Inserts S mid v after last → HasGrownBy (take (i + 1) part) before after
  grown_by_line part i m u v before now mid after found last w h l e is_u is_v u_in v_in b n o =
      let vs : List (List ℕ) = vectors_at p (take i part) in
      let lines : vectors_at p (take (i + 1) part) ≡ (vs ++ u ∷ []) ++ v ∷ [] =
      ap (vectors_at p) (take_more part i 0 l ∙ ap (λ k. take i part ++ k ∷ []) (sym e)) ∙ vectors_at-push p (take i part) m ∙ ap₂ (λ x y. (vs ++ x ∷ []) ++ y ∷ []) (sym is_u) (sym is_v) in
      let wide : now.width ≡ p.dimension = b.grows.width ∙ w in
      let mid_wide : mid.width ≡ p.dimension = inserted_width S F now mid u found n ∙ wide in
      let with_u : AreVectors S p.dimension (vs ++ u ∷ []) = All-push (IsVector S p.dimension) vs u b.vectors u_in in
      let kept : AreVectors S p.dimension before.rows = subst (λ d. AreVectors S d before.rows) w h in
      let first = spans_more S F before now mid vs u found (at now.width (before.rows ++ vs) wide (All-append (IsVector S p.dimension) before.rows vs kept b.vectors)) (at now.width vs wide b.vectors) (subst (λ d. IsVector S d u) (sym wide) u_in) b.more n in
      let second = spans_more S F before mid after (vs ++ u ∷ []) v last (at mid.width (before.rows ++ (vs ++ u ∷ [])) mid_wide (All-append (IsVector S p.dimension) before.rows (vs ++ u ∷ []) kept with_u)) (at mid.width (vs ++ u ∷ []) mid_wide with_u) (subst (λ d. IsVector S d v) (sym mid_wide) v_in) first o in
      record {
        grows = grows_more S before mid after v last (grows_more S before now mid u found b.grows n) o;
        vectors = subst (AreVectors S p.dimension) (sym lines) (All-push (IsVector S p.dimension) (vs ++ u ∷ []) v with_u v_in);
        more = subst (λ (us : List (List ℕ)). SpansMore S us before after) (sym lines) second;
      }
    where
      at : (d : ℕ) (us : List (List ℕ)) → d ≡ p.dimension → AreVectors S p.dimension us → AreVectors S d us
      at d us q k = subst (λ n. AreVectors S n us) (sym q) k
