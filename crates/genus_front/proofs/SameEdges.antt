-- Lists with the same positions have pairs with the same edges, in any order.
use Rattle.std.proofs.Common.{◌≡◌, ℕ, ◌≤◌, List, [], ◌∷◌, ◌++◌, length, map, refl, ap, arith}
use Rattle.std.specs.List.Sorted.{IsStrictlyIncreasing}
use Rattle.std.proofs.Math.Decide.{ℕ_discrete}
use Rattle.vector_spaces.proofs.Distinct.{IsDistinct, distinct_same_length, increasing_distinct}
use Rattle.vector_spaces.proofs.Members.{In}
use Rattle.edge_lists.specs.EdgePairs.{flat}
use Rattle.edge_lists.specs.Occurrences.{count}
use Rattle.edge_lists.proofs.EdgePairs.{count-flat}
use Rattle.edge_lists.proofs.ListSplits.{Split, split_at}
use Rattle.edge_lists.proofs.Occurrences.{count-append, count-head, count-nil, count-one, count-other, count_of_distinct, count_of_in, distinct_of_count, in_of_count}

module _ (pair : ℕ → ℕ × ℕ) where
  abbrev edges : List ℕ → List ℕ
  edges M = flat (map pair M)

  -- the edges of the pair i, and those of others
  count-between : (e i : ℕ) (u v : List ℕ) → count e (edges (u ++ i ∷ v)) ≡ count e (edges (i ∷ u ++ v))
  count-between e i [] v = refl
  count-between e i (k ∷ u) v = omega (
    arith,
    count-between e i u v,
    count-flat e (pair k) (map pair (u ++ i ∷ v)),
    count-flat e (pair i) (map pair (k ∷ u ++ v)),
    count-flat e (pair k) (map pair (u ++ v)),
    count-flat e (pair i) (map pair (u ++ v)),
  )

  pub same_edges : (M L : List ℕ) → ((c : ℕ) → count c M ≡ count c L) → (e : ℕ) → count e (edges M) ≡ count e (edges L)
  same_edges [] [] h e = refl
  same_edges [] (i ∷ L) h e = absurd (omega (arith, h i, count-nil i, count-head i L))
  same_edges (i ∷ M) L h e = go (split_at i L (omega (arith, h i, count-head i M))) (λ N k. same_edges M N k e)
    where
      go : Split i L → ((N : List ℕ) → ((c : ℕ) → count c M ≡ count c N) → count e (edges M) ≡ count e (edges N))
          → count e (edges (i ∷ M)) ≡ count e (edges L)
      go s ih = omega (
        arith,
        count-flat e (pair i) (map pair M),
        count-flat e (pair i) (map pair (s.u ++ s.v)),
        ih (s.u ++ s.v) rest,
        count-between e i s.u s.v,
        ap (λ t. count e (edges t)) s.is,
      )
        where
          rest : (c : ℕ) → count c M ≡ count c (s.u ++ s.v)
          rest c = omega (
            arith,
            h c,
            ap (count c) s.is,
            count-append c (i ∷ []) M,
            count-append c s.u (i ∷ s.v),
            count-append c (i ∷ []) s.v,
            count-append c s.u s.v,
          )

  -- pairs without a common edge are different
  count-position : (M : List ℕ) (i : ℕ) → count i M ≤ count (pair i).0 (edges M)
  count-position [] i = omega (arith, count-nil i)
  count-position (k ∷ M) i = go (ℕ_discrete k i) (count-position M i)
    where
      go : Dec (k ≡ i) → count i M ≤ count (pair i).0 (edges M) → count i (k ∷ M) ≤ count (pair i).0 (edges (k ∷ M))
      go (yes q) ih = omega (
        arith,
        ih,
        count-append i (k ∷ []) M,
        ap (λ t. count i (t ∷ [])) q,
        count-one i,
        count-flat (pair i).0 (pair k) (map pair M),
        ap (λ t. count (pair i).0 ((pair t).0 ∷ [])) q,
        count-one (pair i).0,
      )
      go (no n) ih = omega (arith, ih, count-other i k M n, count-flat (pair i).0 (pair k) (map pair M))

  pub positions_distinct : (M : List ℕ) → IsDistinct (edges M) → IsDistinct M
  positions_distinct M d = distinct_of_count M (λ i. omega (arith, count-position M i, count_of_distinct (edges M) d (pair i).0))

-- different numbers, in increasing order
pub record Arranged (M L : List ℕ) : Type 0 where
  pub long : length L ≡ length M
  pub same : (c : ℕ) → count c L ≡ count c M

pub arranged_same : (M L : List ℕ) → IsDistinct M → IsStrictlyIncreasing L → ((x : ℕ) → In x M → In x L) → ((x : ℕ) → In x L → In x M)
    → Arranged M L
arranged_same M L d inc a b = record {
  long = distinct_same_length L M dl d b a;
  same = λ c. both c (ℕ_discrete (count c M) 0) (ℕ_discrete (count c L) 0);
}
  where
    dl : IsDistinct L
    dl = increasing_distinct L inc

    both : (c : ℕ) → Dec (count c M ≡ 0) → Dec (count c L ≡ 0) → count c L ≡ count c M
    both c (yes q) (yes r) = omega arith
    both c (yes q) (no n) = absurd (omega (arith, q, count_of_in c M (b c (in_of_count c L (omega arith)))))
    both c (no n) (yes r) = absurd (omega (arith, r, count_of_in c L (a c (in_of_count c M (omega arith)))))
    both c (no n) (no m) = omega (arith, count_of_distinct M d c, count_of_distinct L dl c)
