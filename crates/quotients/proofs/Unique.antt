-- A subspace has one reduced basis alone.
use Rattle.std.proofs.Common.{◌≡◌, ℕ, ◌<◌, ◌⊎◌, inl, inr, List, [], length, get_or, sym, ap, ◌∙◌, subst, arith}
use Rattle.std.specs.Prelude.{◌↔◌}
use Rattle.std.proofs.lemmas.Grind.{same_number_lists}
use Rattle.std.proofs.lemmas.List.{ext_get_or, get_or_default}
use Rattle.std.proofs.lemmas.List.Elements.{All-get_or}
use Rattle.std.proofs.Math.Decide.{ℕ_discrete, dec_lt}
use Rattle.vector_spaces.proofs.Members.{In, In-get_or, contains-In, decide_in}
use Rattle.linear_algebra.specs.Scalars.{Scalars, IsField}
use Rattle.linear_algebra.specs.Spans.{combination, InSpan}
use Rattle.linear_algebra.specs.Vectors.{IsVector}
use Rattle.linear_algebra.proofs.SpanLaws.{span_member}
use Rattle.echelon.specs.Residues.{IsLeading}
use Rattle.echelon.proofs.Entries.{zero_entry}
use Rattle.quotients.specs.ReducedBases.{IsReducedBasis}
use Rattle.quotients.proofs.Increasing.{same_increasing}
use Rattle.quotients.proofs.ReducedBases.{coefficient_is_entry}

module _ (S : Scalars) (F : IsField S) (d : ℕ) (rows : List (List ℕ)) (r : IsReducedBasis S d rows) where
  -- vectors of the span with the same entries at the pivots are equal
  same_at_pivots : (x y : List ℕ) → InSpan S d rows x → InSpan S d rows y → ((j : ℕ) → j < length rows → get_or x (get_or r.pivots j 0) 0 ≡ get_or y (get_or r.pivots j 0) 0) → x ≡ y
  same_at_pivots x y h k e =
      let cs = h.coefficients in
      let ds = k.coefficients in
      let same : cs ≡ ds = same_number_lists cs ds (h.combine.one_each.length_is ∙ sym k.combine.one_each.length_is)
      (λ j l. let m : j < length rows = (let n = h.combine.one_each.length_is in omega arith) in
      sym (coefficient_is_entry S F d rows r cs x j h.combine m) ∙ e j m ∙ coefficient_is_entry S F d rows r ds y j k.combine m) in
      sym h.combine.gives ∙ ap (λ es. combination S d es rows) same ∙ k.combine.gives

  -- each pivot is a position where the span leads
  row_in_span : (i : ℕ) → i < length rows → InSpan S d rows (get_or rows i [])
  row_in_span i l = span_member S F d rows (get_or rows i []) r.vectors (In-get_or rows i [] l)

  pivot_leading : (q : ℕ) → In q r.pivots → IsLeading S d rows q
  pivot_leading q i =
      let c = contains-In r.pivots q i in
      let l : c.0 < length rows = (let e = r.reduced.one_each in let k = c.1 in omega arith) in
      subst (IsLeading S d rows) (get_or_default r.pivots c.0 0 q c.1 ∙ c.2) (record {
        leader = get_or rows c.0 [];
        vector = All-get_or (IsVector S d) rows c.0 [] l r.vectors;
        in_span = row_in_span c.0 l;
        leads = r.reduced.leads c.0 l;
      })

  -- and there is no other
  leading_pivot : (q : ℕ) → IsLeading S d rows q → In q r.pivots
  leading_pivot q k = elim (decide_in q r.pivots) [ yes i ↦ i | no n ↦ absurd (k.leads.not_zero (sym_gives n)) ]
    where
      cs : List ℕ
      cs = k.in_span.coefficients

      q_in : q < d
      q_in = subst (λ n. q < n) k.vector.length_is k.leads.within

      term : ¬ (In q r.pivots) → (j : ℕ) → j < length rows → (get_or cs j 0 ≡ S.zero) ⊎ (get_or (get_or rows j []) q 0 ≡ S.zero)
      term n j l = go (dec_lt p q) (ℕ_discrete p q)
        where
          p : ℕ
          p = get_or r.pivots j 0

          go : Dec (p < q) → Dec (p ≡ q) → (get_or cs j 0 ≡ S.zero) ⊎ (get_or (get_or rows j []) q 0 ≡ S.zero)
          go (yes m) e = inl (sym (coefficient_is_entry S F d rows r cs k.leader j k.in_span.combine l) ∙ k.leads.zero_before p m)
          go (no m) (yes e) = absurd (n (subst (λ t. In t r.pivots) e (In-get_or r.pivots j 0 (let w = r.reduced.one_each in omega arith))))
          go (no m) (no e) = inr ((r.reduced.leads j l).zero_before q (omega arith))

      sym_gives : ¬ (In q r.pivots) → get_or k.leader q 0 ≡ S.zero
      sym_gives n = ap (λ v. get_or v q 0) (sym k.in_span.combine.gives) ∙ zero_entry S F d q q_in cs rows k.in_span.combine.one_each.entries r.vectors k.in_span.combine.one_each.length_is (term n)

module _ (S : Scalars) (F : IsField S) (d : ℕ) where
  leading_in : (vs ws : List (List ℕ)) → ((x : List ℕ) → InSpan S d vs x → InSpan S d ws x) → (q : ℕ) → IsLeading S d vs q → IsLeading S d ws q
  leading_in vs ws h q k = record { leader = k.leader; vector = k.vector; in_span = h k.leader k.in_span; leads = k.leads }

  pub reduced_unique : (us vs : List (List ℕ)) → IsReducedBasis S d us → IsReducedBasis S d vs → ((x : List ℕ) → InSpan S d us x ↔ InSpan S d vs x) → us ≡ vs
  reduced_unique us vs r s e = ext_get_or [] us vs long each
    where
      pivots : r.pivots ≡ s.pivots
      pivots = same_increasing r.pivots s.pivots r.reduced.increasing s.reduced.increasing
          (λ q i. leading_pivot S F d vs s q (leading_in us vs (λ x. (e x).0) q (pivot_leading S F d us r q i)))
          (λ q i. leading_pivot S F d us r q (leading_in vs us (λ x. (e x).1) q (pivot_leading S F d vs s q i)))

      long : length us ≡ length vs
      long = sym r.reduced.one_each ∙ ap length pivots ∙ s.reduced.one_each

      each : (i : ℕ) → i < length us → get_or us i [] ≡ get_or vs i []
      each i l = same_at_pivots S F d us r (get_or us i []) (get_or vs i []) (row_in_span S F d us r i l) ((e (get_or vs i [])).1 (row_in_span S F d vs s i (subst (λ n. i < n) long l)))
          (λ j m. go j m (ℕ_discrete j i) ∙ ap (λ p. get_or (get_or vs i []) p 0) (ap (λ ps. get_or ps j 0) (sym pivots)))
        where
          l' : i < length vs
          l' = subst (λ n. i < n) long l

          go : (j : ℕ) → j < length us → Dec (j ≡ i) → get_or (get_or us i []) (get_or r.pivots j 0) 0 ≡ get_or (get_or vs i []) (get_or s.pivots j 0) 0
          go j m (yes n) = ap (λ k. get_or (get_or us i []) (get_or r.pivots k 0) 0) n ∙ r.reduced.one i l ∙ sym (s.reduced.one i l') ∙ ap (λ k. get_or (get_or vs i []) (get_or s.pivots k 0) 0) (sym n)
          go j m (no n) = r.reduced.alone j i m l n ∙ sym (s.reduced.alone j i (subst (λ n. j < n) long m) l' n)
