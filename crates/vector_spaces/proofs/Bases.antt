-- Bases of a list over an independent one, and the rank that they give it.
use Rattle.std.proofs.Common.{◌≡◌, ℕ, ◌≤◌, List, ◌++◌, length, sym, arith, [], subst, append-nil, ◌∷◌, refl}
use Rattle.std.proofs.lemmas.List.{length-append}
use Rattle.vector_spaces.proofs.Independence.{IsIndependent, independent_append, counting_bound, same_length_independent}
use Rattle.vector_spaces.proofs.Members.{In}
use Rattle.vector_spaces.proofs.Ranks.{rank, rank-length_basis, basis, basis_independent, basis_inside, basis_spans}
use Rattle.vector_spaces.proofs.Space.{Field, Space}
use Rattle.vector_spaces.proofs.Span.{InSpan, span_closure, span_member}
use Rattle.vector_spaces.proofs.Within.{Within, placing, within_append, within_members, within_trans, within_right, through, left_in, within_left}

-- some n of A are independent over us, and span A over us: A has rank n over us
pub record HasRankOver {K V : Type 0} {f : Field K} (s : Space f V) (us A : List V) (n : ℕ) : Type 0 where
  pub chosen : List V
  pub chosen_in : (v : V) → In v chosen → In v A
  pub independent : IsIndependent s (us ++ chosen)
  pub spans : Within s A (us ++ chosen)
  pub length_chosen : length chosen ≡ n

module _ {K V : Type 0} {f : Field K} (s : Space f V) where
  -- the greedy choice is a basis of A over an independent list, so that A has its rank over that list
  pub has_rank_over : (us A : List V) → IsIndependent s us → HasRankOver s us A (rank V (InSpan s) (span_closure f s) us A)
  has_rank_over us A i = record {
    chosen = basis V (InSpan s) (span_closure f s) us A;
    chosen_in = λ v j. basis_inside V (InSpan s) (span_closure f s) us A v j;
    independent = independent_append s us (basis V (InSpan s) (span_closure f s) us A) i (basis_independent V (InSpan s) (span_closure f s) us A);
    spans = record { each = λ v j. through s (basis V (InSpan s) (span_closure f s) us A ++ us) (us ++ basis V (InSpan s) (span_closure f s) us A) v (search placing) (basis_spans V (InSpan s) (span_closure f s) us A v (left_in s A us v (span_member f s A v j))) };
    length_chosen = sym (rank-length_basis V (InSpan s) (span_closure f s) us A);
  }

  pub rank_over_bounds : (us A C : List V) (n : ℕ) → HasRankOver s us A n → IsIndependent s (us ++ C) → Within s C (us ++ A) → length C ≤ n
  rank_over_bounds us A C n r i h =
      let inside : Within s (us ++ A) (us ++ r.chosen) = within_append s us A (us ++ r.chosen) (search placing) r.spans in
      let k : length (us ++ C) ≤ length (us ++ r.chosen) = counting_bound s (us ++ C) (us ++ r.chosen) i (within_append s us C (us ++ r.chosen) (search placing) (within_trans s C (us ++ A) (us ++ r.chosen) h inside)) in
      let a = length-append us C in
      let b = length-append us r.chosen in
      let e = r.length_chosen in
      omega arith

  pub rank_over_unique : (us A : List V) (m n : ℕ) → HasRankOver s us A m → HasRankOver s us A n → m ≡ n
  rank_over_unique us A m n p q =
      let k = rank_over_bounds us A p.chosen n q p.independent (within_right s p.chosen us A (within_members s p.chosen A p.chosen_in)) in
      let l = rank_over_bounds us A q.chosen m p q.independent (within_right s q.chosen us A (within_members s q.chosen A q.chosen_in)) in
      let a = p.length_chosen in
      let b = q.length_chosen in
      omega arith

  -- the least rank, and the greatest
  pub has_rank_zero : (us A : List V) → IsIndependent s us → Within s A us → HasRankOver s us A 0
  has_rank_zero us A i h = record { chosen = []; chosen_in = λ v j. absurd j; independent = rw (append-nil us) i; spans = within_left s A us [] h; length_chosen = refl }

  pub within_of_rank_zero : (us A : List V) → HasRankOver s us A 0 → Within s A us
  within_of_rank_zero us A r = go r.chosen r.spans r.length_chosen
    where
      go : (C : List V) → Within s A (us ++ C) → length C ≡ 0 → Within s A us
      go [] h e = subst (λ vs. Within s A vs) (append-nil us) h
      go (v ∷ C) h e = absurd (omega arith)

  pub has_full_rank : (us A : List V) → IsIndependent s (us ++ A) → HasRankOver s us A (length A)
  has_full_rank us A i = record { chosen = A; chosen_in = λ v j. j; independent = i; spans = search placing; length_chosen = refl }

  pub independent_of_full_rank : (us A : List V) → HasRankOver s us A (length A) → IsIndependent s (us ++ A)
  independent_of_full_rank us A r =
      let h : Within s r.chosen A = within_members s r.chosen A r.chosen_in in
      let e = r.length_chosen in
      same_length_independent s (us ++ r.chosen) (us ++ A) r.independent (search placing) (omega (arith, length-append {A = V}))
