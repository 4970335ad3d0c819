-- What is seen of the lines, line after line.
use Rattle.std.proofs.Common.{◌≡◌, ◌≢◌, ◌<◌, ◌+◌, ℕ, List, [], ◌∷◌, ◌++◌, arith, sym, subst, below_more, inl, refl}
use Rattle.std.proofs.lemmas.List.Elements.{All-nil, All-push, All-get_or, All-weaker}
use Rattle.std.proofs.lemmas.List.Quantifiers.{all_pairs_push}
use Rattle.vector_spaces.proofs.Members.{contains-In, In-contains, In-append_left, In-append_right}
use Rattle.linear_algebra.specs.Scalars.{Scalars}
use Rattle.matching_state.specs.LinePlaces.{IsExposed, rank_beside}
use Rattle.matching_state.specs.Sights.{IsSeen}
use Rattle.matching_state.specs.Surveys.{AreExposed}
use Rattle.matching_state.specs.declared.step.Entry.{Entry}
use Rattle.parity_lines.specs.Problems.{ParityProblem}

module _ {X : Type 0} (S : Scalars) (number : X → ℕ) (p : ParityProblem) (M : List ℕ) where
  pub none_seen : (xs : List (Entry X)) → xs ≡ [] → AreExposed S number p M 0 xs
  none_seen xs e = subst (AreExposed S number p M 0) (sym e) (record {
    seen = All-nil (λ x. IsSeen S number p M x.exposed);
    below = All-nil (λ x. x.exposed.line < 0);
    increasing = λ i j d h k. absurd (omega arith);
    not_free = λ l h. absurd (omega arith);
    all = λ l h. absurd (omega arith);
  })

  -- the line n is neither free nor exposed
  pub line_passed : (n : ℕ) (xs ys : List (Entry X)) → ys ≡ xs → AreExposed S number p M n xs → rank_beside S p M n ≢ 2 → ¬ (IsExposed S p M n) → AreExposed S number p M (n + 1) ys
  line_passed n xs ys e a f o = subst (AreExposed S number p M (n + 1)) (sym e) (record {
    seen = a.seen;
    below = All-weaker (λ x. x.exposed.line < n) (λ x. x.exposed.line < n + 1) (λ x h. omega arith) xs a.below;
    increasing = a.increasing;
    not_free = below_more _ n a.not_free f;
    all = below_more _ n a.all (λ x. absurd (o x));
  })

  -- the line n is exposed
  pub line_kept : (n : ℕ) (xs ys : List (Entry X)) (x : Entry X) → ys ≡ xs ++ x ∷ [] → AreExposed S number p M n xs → x.exposed.line ≡ n → IsSeen S number p M x.exposed → AreExposed S number p M (n + 1) ys
  line_kept n xs ys x e a l h = subst (AreExposed S number p M (n + 1)) (sym e) (record {
    seen = All-push (λ x. IsSeen S number p M x.exposed) xs x a.seen h;
    below = All-push (λ y. y.exposed.line < n + 1) xs x (All-weaker (λ y. y.exposed.line < n) (λ y. y.exposed.line < n + 1) (λ y k. omega arith) xs a.below) (omega arith);
    increasing = all_pairs_push (λ y z. y.exposed.line < z.exposed.line) xs x a.increasing (λ k d m. let b = All-get_or (λ y. y.exposed.line < n) xs k d m a.below in omega arith);
    not_free = below_more _ n a.not_free (λ f. let k : rank_beside S p M n ≡ 1 = subst (λ e. rank_beside S p M e ≡ 1) l h.exposed.beside in omega arith);
    all = below_more _ n (λ k m z. let r = a.all k m z in (r.0, contains-In (xs ++ x ∷ []) r.0 (In-append_left r.0 xs (x ∷ []) (In-contains xs r.0 r.1)), r.2)) (λ z. (x, contains-In (xs ++ x ∷ []) x (In-append_right x xs (x ∷ []) (inl refl)), l));
  })
