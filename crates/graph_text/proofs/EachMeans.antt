-- What all that is left says, where each item by itself says one thing more.
use Rattle.std.proofs.Common.{◌≡◌, ℕ, ◌↔◌, ◌<◌, List, [], ◌∷◌, ◌++◌, length, Result, Ok, Err, refl, sym, ap, ◌∙◌, subst, ap₂, append_assoc, arith}
use Rattle.std.specs.Prelude.{◌≢◌}
use Rattle.std.proofs.lemmas.List.{append-nil}
use Rattle.line_lexer.specs.declared.refusal.TextRefusal.{TextRefusal}
use Rattle.text_forms.specs.Reading.{Reads}
use Rattle.text_forms.proofs.Taking.{bind_ok, same_given}
use Rattle.graph_text.specs.Texts.{value_then, each, some}

pub of_both : {A B : Type 0} (P : A → B → Type 0) (a a' : A) (b b' : B) → a ≡ a' → b ≡ b' → P a b → P a' b'
of_both P a a' b b' e f h = subst (P a') f (subst (λ x. P x b) e h)

-- items that say these things, in order
abbrev pub SayAll : {S T : Type 0} → (S → T → Type 0) → List S → List T → Type 0
SayAll Says [] [] = Unit {0}
SayAll Says (s ∷ ss) (t ∷ ts) = Says s t × SayAll Says ss ts
SayAll Says [] (t ∷ ts) = ⊥
SayAll Says (s ∷ ss) [] = ⊥

-- The reader of one thing more. What was read is told by a list of things said; it is fine only where each front of it is.
pub record ReadsOne {S T A : Type 0} (next : A → Reads T A) (Says : S → T → Type 0) (state : List S → A) (Fine : List S → Type 0) : Type 0 where
  pub front : (said more : List S) → Fine (said ++ more) → Fine said
  pub one : (said : List S) (at : ℕ) (t : T) (left rest : List T) (x : A) → Fine said
      → (next (state said) at (t ∷ left) ≡ Ok (x, rest))
      ↔ ((s : S) × (rest ≡ left) × Says s t × Fine (said ++ s ∷ []) × (x ≡ state (said ++ s ∷ [])))

-- all that is left says these things more
abbrev pub SaysMore : {S T A : Type 0} → (S → T → Type 0) → (List S → A) → (List S → Type 0) → List S → List T → A → List T → Type 0
SaysMore {S} Says state Fine said ts x rest = (more : List S) × (rest ≡ []) × SayAll Says more ts × Fine (said ++ more) × (x ≡ state (said ++ more))

-- one thing, and then the others
says_one : {S T A : Type 0} (Says : S → T → Type 0) (state : List S → A) (Fine : List S → Type 0) (said : List S) (s : S) (t : T) (ts rest : List T) (x : A)
    → Says s t → SaysMore Says state Fine (said ++ s ∷ []) ts x rest → SaysMore Says state Fine said (t ∷ ts) x rest
says_one Says state Fine said s t ts rest x says others =
    let all = append_assoc said (s ∷ []) others.0 in
    (s ∷ others.0, others.1, (says, others.2), subst Fine all others.3, others.4 ∙ ap state all)

value_ok : {T A B : Type 0} (next : A → Result B TextRefusal) (read : Result (A × List T) TextRefusal) (y : B) → value_then next read ≡ Ok y
    → (x : A × List T) × (read ≡ Ok x) × (next x.0 ≡ Ok y)
value_ok next (Ok x) y e = (x, refl, e)
value_ok next (Err d) y e = absurd (cc (e))

pub each-means : {S T A : Type 0} (next : A → Reads T A) (Says : S → T → Type 0) (state : List S → A) (Fine : List S → Type 0)
    → ReadsOne next Says state Fine
    → (said : List S) (at : ℕ) (ts rest : List T) (x : A) → Fine said → (each next (state said) at ts ≡ Ok (x, rest))
    ↔ SaysMore Says state Fine said ts x rest
unfolding each
each-means {S} {T} {A} next Says state Fine reads said at [] rest x fine = (
  λ e. let same = same_given (state said, []) (x, rest) e in
      ([], sym same.1, tt, subst Fine (sym (append-nil said)) fine, sym same.0 ∙ ap state (sym (append-nil said))),
  λ h. none h.0 h.1 h.2 h.4,
)
  where
    none : (more : List S) → rest ≡ [] → SayAll {T = T} Says more [] → x ≡ state (said ++ more) → each next (state said) at [] ≡ Ok (x, rest)
    none [] e says is = ap₂ (λ (y : A) (r : List T). Ok (y, r)) (sym (is ∙ ap state (append-nil said))) (sym e)
    none (s ∷ more) e says is = absurd says
each-means {S} {T} {A} next Says state Fine reads said at (t ∷ ts) rest x fine = (
  λ e.
      let parts = value_ok (λ y. each next y at ts) (next (state said) at (t ∷ [])) (x, rest) e in
      let first = (reads.one said at t [] parts.0.1 parts.0.0 fine).0 parts.1 in
      let others = (each-means next Says state Fine reads (said ++ first.0 ∷ []) at ts rest x first.3).0 (ap (λ y. each next y at ts) (sym first.4) ∙ parts.2) in
      says_one Says state Fine said first.0 t ts rest x first.2 others,
  λ h. some_more h.0 (λ said fine. (each-means next Says state Fine reads said at ts rest x fine).1) h.1 h.2 h.3 h.4,
)
  where
    some_more : (more : List S)
        → ((said : List S) → Fine said → SaysMore Says state Fine said ts x rest → each next (state said) at ts ≡ Ok (x, rest)) → rest ≡ []
        → SayAll Says more (t ∷ ts) → Fine (said ++ more) → x ≡ state (said ++ more) → each next (state said) at (t ∷ ts) ≡ Ok (x, rest)
    some_more [] others e says fit is = absurd says
    some_more (s ∷ more) others e says fit is =
        let longer = said ++ s ∷ [] in
        let all = append_assoc said (s ∷ []) more in
        let fit' = subst Fine (sym all) fit in
        let so_far = reads.front longer more fit' in
        let first : next (state said) at (t ∷ []) ≡ Ok (state longer, []) = (reads.one said at t [] [] (state longer) fine).1 (s, refl, says.0, so_far, refl) in
        rw first (others longer so_far (more, e, says.1, fit', is ∙ ap state (sym all)))

-- one or more
pub some-means : {S T A : Type 0} (next : A → Reads T A) (Says : S → T → Type 0) (state : List S → A) (Fine : List S → Type 0)
    → ReadsOne next Says state Fine
    → ((x y : A) (at : ℕ) (rest : List T) → next x at [] ≢ Ok (y, rest))
    → (said : List S) (at : ℕ) (ts rest : List T) (x : A) → Fine said → (some next (state said) at ts ≡ Ok (x, rest))
    ↔ ((0 < length ts) × SaysMore Says state Fine said ts x rest)
unfolding each
some-means next Says state Fine reads due said at [] rest x fine = (
  λ e. let parts = bind_ok (each next) at (next (state said) at []) (x, rest) e in absurd (due (state said) parts.0.0 at parts.0.1 parts.1),
  λ h. let l = h.0 in absurd (omega (arith, l)),
)
some-means {S} {T} {A} next Says state Fine reads due said at (t ∷ ts) rest x fine =
    let all = each-means next Says state Fine reads said at (t ∷ ts) rest x fine in (
      λ e.
          let parts = bind_ok (each next) at (next (state said) at (t ∷ ts)) (x, rest) e in
          let first = (reads.one said at t ts parts.0.1 parts.0.0 fine).0 parts.1 in
          let alone : next (state said) at (t ∷ []) ≡ Ok (parts.0.0, []) = (reads.one said at t [] [] parts.0.0 fine).1 (first.0, refl, first.2, first.3, first.4) in
          (omega arith, all.0 (rw alone (subst (λ (left : List T). each next parts.0.0 at left ≡ Ok (x, rest)) first.1 parts.2))),
      λ h.
          let parts = value_ok (λ y. each next y at ts) (next (state said) at (t ∷ [])) (x, rest) (all.1 h.1) in
          let first = (reads.one said at t [] parts.0.1 parts.0.0 fine).0 parts.1 in
          let before : next (state said) at (t ∷ ts) ≡ Ok (parts.0.0, ts) = (reads.one said at t ts ts parts.0.0 fine).1 (first.0, refl, first.2, first.3, first.4) in
          rw before parts.2,
    )

-- ---- where each item says itself

itself : {T : Type 0} (more ts : List T) → SayAll (λ s t. s ≡ t) more ts → more ≡ ts
itself [] [] h = refl
itself {T} (s ∷ more) (t ∷ ts) h = ap₂ (λ (x : T) (xs : List T). x ∷ xs) h.0 (itself more ts h.1)
itself [] (t ∷ ts) h = absurd h
itself (s ∷ more) [] h = absurd h

says_itself : {T : Type 0} (ts : List T) → SayAll (λ s t. s ≡ t) ts ts
says_itself [] = tt
says_itself (t ∷ ts) = (refl, says_itself ts)

-- the reader of one item more
pub record TakesOne {T A : Type 0} (next : A → Reads T A) (state : List T → A) (Fine : List T → Type 0) : Type 0 where
  pub front : (said more : List T) → Fine (said ++ more) → Fine said
  pub one : (said : List T) (at : ℕ) (t : T) (left rest : List T) (x : A) → Fine said
      → (next (state said) at (t ∷ left) ≡ Ok (x, rest)) ↔ ((rest ≡ left) × Fine (said ++ t ∷ []) × (x ≡ state (said ++ t ∷ [])))
  pub due : (x y : A) (at : ℕ) (rest : List T) → next x at [] ≢ Ok (y, rest)

-- one or more items
pub some-items : {T A : Type 0} (next : A → Reads T A) (state : List T → A) (Fine : List T → Type 0) → TakesOne next state Fine
    → (at : ℕ) (ts rest : List T) (x : A) → Fine [] → (some next (state []) at ts ≡ Ok (x, rest))
    ↔ ((0 < length ts) × (rest ≡ []) × Fine ts × (x ≡ state ts))
some-items {T} {A} next state Fine takes at ts rest x fine =
    let reads : ReadsOne next (λ (s t : T). s ≡ t) state Fine = record {
      front = takes.front;
      one = λ said at t left rest x fine. (
        λ e. let h = (takes.one said at t left rest x fine).0 e in (t, h.0, refl, h.1, h.2),
        λ h. (takes.one said at t left rest x fine).1 (h.1, subst (λ s. Fine (said ++ s ∷ [])) h.2 h.3, h.4 ∙ ap (λ s. state (said ++ s ∷ [])) h.2),
      );
    } in
    let all = some-means next (λ (s t : T). s ≡ t) state Fine reads takes.due [] at ts rest x fine in (
      λ e. let h = (all.0 e).1 in let same = itself h.0 ts h.2 in ((all.0 e).0, h.1, subst Fine same h.3, h.4 ∙ ap state same),
      λ h. all.1 (h.0, (ts, h.1, says_itself ts, h.2, h.3)),
    )
