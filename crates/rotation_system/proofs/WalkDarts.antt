-- The darts of a walk do not depend on how the walks are listed.
use Rattle.std.proofs.Common.{◌≡◌, ℕ, ◌≤◌, List, [], ◌∷◌, ◌++◌, Bool, IsTrue, ap, subst, ◌∙◌, arith}
use Rattle.std.specs.Prelude.{◌↔◌}
use Rattle.std.proofs.Math.Decide.{ℕ_discrete}
use Rattle.edge_lists.specs.Occurrences.{count}
use Rattle.edge_lists.proofs.ListSplits.{Split, split_at}
use Rattle.edge_lists.proofs.Occurrences.{AllDistinct, count-append, count-nil, count-other, count_all-cons}
use Rattle.rotation_theory.specs.CyclicLists.{arc, arcs, head_or, row_arcs}
use Rattle.rotation_theory.specs.Darts.{rev}
use Rattle.rotation_theory.proofs.Arcs.{arc-row, arc-target, arc-turn, arcs-cons, arcs-source, one_at-is}
use Rattle.rotation_theory.proofs.FaceWalks.{FaceWalks, walks_distinct}
use Rattle.rotation_system.specs.Traces.{AreOnOneFace}

-- what holds of the first of a row, and of what follows where it holds, holds of all
row_all : (P : ℕ → Type 0) (a : ℕ) (t : List ℕ) (z : ℕ) → P a → ((p q : ℕ) → 1 ≤ row_arcs p q (a ∷ t) z → P p → P q)
    → (c : ℕ) → 1 ≤ count c t → P c
unfolding row_arcs head_or
row_all P a [] z h f c i = absurd (omega (arith, i, count-nil c))
row_all P a (b ∷ t) z h f c i = go (ℕ_discrete b c)
    (λ j. row_all P b t z here (λ p q k. f p q (omega (arith, k))) c j)
  where
    here : P b
    here = f a b (omega (arith, one_at-is a b)) h

    go : Dec (b ≡ c) → (1 ≤ count c t → P c) → P c
    go (yes q) ih = subst P q here
    go (no n) ih = ih (omega (arith, i, count-other c b t n))

module _ (L : List (List ℕ)) (D : AllDistinct L) where
  -- what follows a dart of a walk is on it
  follows_on : (w : List ℕ) (S : List (List ℕ)) → FaceWalks rev L (w ∷ S) → (p q : ℕ) → 1 ≤ count p w → 1 ≤ arcs p q (w ∷ S)
      → 1 ≤ count q w
  follows_on w S k p q i a = go (ℕ_discrete (count q w) 0)
    where
      go : Dec (count q w ≡ 0) → 1 ≤ count q w
      go (no n) = omega arith
      go (yes z) = absurd (omega (
        arith,
        a,
        arcs-cons p q w S,
        arc-target p q w z,
        arcs-source p q S (omega (arith, i, walks_distinct rev L (w ∷ S) k D p, count_all-cons p w S)),
      ))

  -- two walks with a dart in common
  pub same_walk : (w w' : List ℕ) (S S' : List (List ℕ)) → FaceWalks rev L (w ∷ S) → FaceWalks rev L (w' ∷ S') → (d c : ℕ)
      → 1 ≤ count d w → 1 ≤ count d w' → 1 ≤ count c w → 1 ≤ count c w'
  same_walk w w' S S' k k' d c i j m = go (ℕ_discrete d c)
    where
      s : Split d w
      s = split_at d w i

      turned : (p q : ℕ) → arc p q w ≡ arc p q (d ∷ s.v ++ s.u)
      turned p q = ap (arc p q) s.is ∙ arc-turn p q s.u (d ∷ s.v)

      onward : (p q : ℕ) → 1 ≤ row_arcs p q (d ∷ s.v ++ s.u) d → 1 ≤ count p w' → 1 ≤ count q w'
      onward p q a h = follows_on w' S' k' p q h (omega (
        arith,
        a,
        arc-row p q d (s.v ++ s.u),
        turned p q,
        arcs-cons p q w S,
        k.next p q,
        k'.next p q,
      ))

      go : Dec (d ≡ c) → 1 ≤ count c w'
      go (yes q) = subst (λ x. 1 ≤ count x w') q j
      go (no n) = row_all (λ x. 1 ≤ count x w') d (s.v ++ s.u) d j onward c (omega (
        arith,
        m,
        ap (count c) s.is,
        count-append c s.u (d ∷ s.v),
        count-other c d s.v n,
        count-append c s.v s.u,
      ))

  -- the answer of a trace, on any list of the walks
  pub answer_on : (d c : ℕ) (b : Bool) → AreOnOneFace L d c b → (w : List ℕ) (S : List (List ℕ)) → FaceWalks rev L (w ∷ S) → 1 ≤ count d w
      → IsTrue b ↔ (1 ≤ count c w)
  answer_on d c b A w S k i = (
    λ h. same_walk A.walk w A.others S A.walks k d c A.first i (A.second.0 h),
    λ m. A.second.1 (same_walk w A.walk S A.others k A.walks d c i A.first m),
  )
