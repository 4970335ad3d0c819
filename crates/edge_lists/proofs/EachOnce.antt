-- A list with the same members, each once.
use Rattle.std.proofs.Common.{◌≡◌, ◌≢◌, ℕ, ◌≤◌, List, [], ◌∷◌, length, subst, arith}
use Rattle.std.proofs.Math.Decide.{ℕ_discrete}
use Rattle.edge_lists.specs.Occurrences.{count}
use Rattle.edge_lists.proofs.Occurrences.{count-head, count-here, count-nil, count-other, count-there}

pub record EachOnce (X : List ℕ) : Type 0 where
  pub Y : List ℕ
  pub once : (c : ℕ) → count c Y ≤ 1
  pub within : (c : ℕ) → 1 ≤ count c Y → 1 ≤ count c X
  pub all : (c : ℕ) → 1 ≤ count c X → 1 ≤ count c Y
  pub long : length Y ≤ length X

pub each_once : (X : List ℕ) → EachOnce X
each_once [] = record {
  Y = [];
  once = λ c. omega (arith, count-nil c);
  within = λ c i. i;
  all = λ c i. i;
  long = omega arith;
}
each_once (x ∷ X) = go (each_once X)
  where
    go : EachOnce X → EachOnce (x ∷ X)
    go r = pick (ℕ_discrete (count x r.Y) 0)
      where
        in_X : (c : ℕ) → 1 ≤ count c (x ∷ X) → x ≢ c → 1 ≤ count c X
        in_X c i n = omega (arith, i, count-other c x X n)

        pick : Dec (count x r.Y ≡ 0) → EachOnce (x ∷ X)
        pick (no k) = record {
          Y = r.Y;
          once = r.once;
          within = λ c i. count-there c x X (r.within c i);
          all = λ c i. at c i (ℕ_discrete x c);
          long = (let l = r.long in omega arith);
        }
          where
            at : (c : ℕ) → 1 ≤ count c (x ∷ X) → Dec (x ≡ c) → 1 ≤ count c r.Y
            at c i (yes q) = subst (λ t. 1 ≤ count t r.Y) q (omega (arith, k))
            at c i (no n) = r.all c (in_X c i n)
        pick (yes z) = record {
          Y = x ∷ r.Y;
          once = λ c. one c (ℕ_discrete x c);
          within = λ c i. back c i (ℕ_discrete x c);
          all = λ c i. at c i (ℕ_discrete x c);
          long = (let l = r.long in omega arith);
        }
          where
            one : (c : ℕ) → Dec (x ≡ c) → count c (x ∷ r.Y) ≤ 1
            one c (yes q) = subst (λ t. count t (x ∷ r.Y) ≤ 1) q (omega (arith, count-head x r.Y, z))
            one c (no n) = omega (arith, count-other c x r.Y n, r.once c)

            back : (c : ℕ) → 1 ≤ count c (x ∷ r.Y) → Dec (x ≡ c) → 1 ≤ count c (x ∷ X)
            back c i (yes q) = subst (λ t. 1 ≤ count t (x ∷ X)) q (count-here x X)
            back c i (no n) = count-there c x X (r.within c (omega (arith, i, count-other c x r.Y n)))

            at : (c : ℕ) → 1 ≤ count c (x ∷ X) → Dec (x ≡ c) → 1 ≤ count c (x ∷ r.Y)
            at c i (yes q) = subst (λ t. 1 ≤ count t (x ∷ r.Y)) q (count-here x r.Y)
            at c i (no n) = count-there c x r.Y (r.all c (in_X c i n))
