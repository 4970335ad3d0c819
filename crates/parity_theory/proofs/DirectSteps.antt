-- The two-line step, said of the members of the sets: where M without m and with e and h is independent.
use Rattle.std.proofs.Common.{◌≡◌, ◌≢◌, ℕ, suc, inl, inr, List, [], ◌∷◌, ◌++◌, length, refl, sym, subst, arith}
use Rattle.std.proofs.Math.Decide.{ℕ_discrete}
use Rattle.parity_theory.proofs.Entries.{aligned, At}
use Rattle.parity_theory.proofs.Exposure.{Exposed, IsExposed, exposed_base}
use Rattle.parity_theory.proofs.LineSets.{regroup_lines, independent_distinct}
use Rattle.parity_theory.proofs.Lines.{vectors, Misses, IsFree}
use Rattle.parity_theory.proofs.Places.{HasPlace, exposed, exposed_of_tip}
use Rattle.parity_theory.proofs.Steps.{two_line_step, two_line_step-outers, two_line_step-determinant, two_line_step-exposed}
use Rattle.vector_spaces.proofs.Determinants.{determinant}
use Rattle.vector_spaces.proofs.Distinct.{IsDistinct, distinct_middle}
use Rattle.vector_spaces.proofs.Independence.{IsIndependent}
use Rattle.vector_spaces.proofs.Members.{In}
use Rattle.vector_spaces.proofs.Middles.{length-middle, in_split, middle_in, in_others}
use Rattle.vector_spaces.proofs.Space.{Field, Space}

-- N is M without m and with e and h
pub record IsStep (M : List ℕ) (m e h : ℕ) (N : List ℕ) : Type 0 where
  pub first_new : In e N
  pub second_new : In h N
  pub kept : (l : ℕ) → In l M → l ≢ m → In l N
  pub only : (l : ℕ) → In l N → l ≢ e → l ≢ h → In l M × (l ≢ m)
  pub longer : length N ≡ suc (length M)

-- where M is split at m
pub step_into : (P : List ℕ) (m : ℕ) (Q : List ℕ) (e h : ℕ) (N : List ℕ) → IsDistinct (P ++ m ∷ Q) → IsStep (P ++ m ∷ Q) m e h N → (l : ℕ) →
    In l (e ∷ h ∷ P ++ Q) → In l N
step_into P m Q e h N d w l (inl q) = subst (λ t. In t N) (sym q) w.first_new
step_into P m Q e h N d w l (inr (inl q)) = subst (λ t. In t N) (sym q) w.second_new
step_into P m Q e h N d w l (inr (inr i)) = w.kept l (middle_in P m Q l (inr i)) (λ q. distinct_middle P m Q d (subst (λ t. In t (P ++ Q)) q i))

pub step_from : (P : List ℕ) (m : ℕ) (Q : List ℕ) (e h : ℕ) (N : List ℕ) → IsStep (P ++ m ∷ Q) m e h N → (l : ℕ) → In l N → In l (e ∷ h ∷ P ++ Q)
step_from P m Q e h N w l i = go (ℕ_discrete l e) (ℕ_discrete l h)
  where
    go : Dec (l ≡ e) → Dec (l ≡ h) → In l (e ∷ h ∷ P ++ Q)
    go (yes a) b = inl a
    go (no a) (yes b) = inr (inl b)
    go (no a) (no b) = let r = w.only l i a b in inr (inr (in_others P m Q l r.0 r.1))

-- M without m, with e and h in front
step_in_front : (P : List ℕ) (m : ℕ) (Q : List ℕ) (e h : ℕ) → IsDistinct (P ++ m ∷ Q) → IsStep (P ++ m ∷ Q) m e h (e ∷ h ∷ P ++ Q)
step_in_front P m Q e h d = record {
  first_new = inl refl;
  second_new = inr (inl refl);
  kept = λ l i n. inr (inr (in_others P m Q l i n));
  only = λ l i n k. elim i [
    | inl q ↦ absurd (n q)
    | inr j ↦ elim j [
      | inl q ↦ absurd
          (k q)
      | inr i ↦ (middle_in P m Q l (inr i), λ q. distinct_middle P m Q d (subst (λ t. In t (P ++ Q)) q i))
    ]
  ];
  longer = (let c = length-middle P m Q in omega arith);
}

-- so some list is
pub some_step : (M : List ℕ) (m e h : ℕ) → IsDistinct M → In m M → (N : List ℕ) × IsStep M m e h N
some_step M m e h d i = let r = in_split m M i in (
  e ∷ h ∷ r.0 ++ r.1,
  subst (λ t. IsStep t m e h (e ∷ h ∷ r.0 ++ r.1)) (sym r.2)
      (step_in_front r.0 m r.1 e h (subst (λ t. IsDistinct t) r.2 d)),
)

module _ {K V : Type 0} {f : Field K} (s : Space f V) (line : ℕ → V × V) (M N : List ℕ) (m e h : ℕ) (w : IsStep M m e h N) where
  open f use {zero as o}

  -- e and h are exposed, their outers missed together, and the determinant of their tips' components at m is not zero: N is independent
  pub direct_step : (tip outer : V) (cs : List (K × K)) (p : K × K) (tip' outer' : V) (cs' : List (K × K)) (p' : K × K) →
      Exposed s line M e tip outer cs → Exposed s line M h tip' outer' cs' → At m p M cs → At m p' M cs' →
      Misses s line M (outer ∷ outer' ∷ []) → determinant f p p' ≢ o → IsIndependent s (vectors line N)
  direct_step tip outer cs p tip' outer' cs' p' x y a b i n =
      let d : IsDistinct M = independent_distinct s line M (exposed_base s line M e tip outer cs x) in
      let r = aligned M m p p' cs cs' d a b y.length_cs in
      go r.0 r.1 r.2 r.3 r.4 r.5 (subst (λ t. IsDistinct t) r.6 d) (subst (λ t. IsStep t m e h N) r.6 w)
      (subst (λ c. Exposed s line (r.0 ++ m ∷ r.1) e tip outer c) r.7 (subst (λ t. Exposed s line t e tip outer cs) r.6 x)) r.8
      (subst (λ c. Exposed s line (r.0 ++ m ∷ r.1) h tip' outer' c) r.9 (subst (λ t. Exposed s line t h tip' outer' cs') r.6 y)) r.10
      (subst (λ t. Misses s line t (outer ∷ outer' ∷ [])) r.6 i)
    where
      go : (P Q : List ℕ) (c d c' d' : List (K × K)) → IsDistinct (P ++ m ∷ Q) → IsStep (P ++ m ∷ Q) m e h N →
          Exposed s line (P ++ m ∷ Q) e tip outer (c ++ p ∷ d) → length c ≡ length P →
          Exposed s line (P ++ m ∷ Q) h tip' outer' (c' ++ p' ∷ d') → length c' ≡ length P →
          Misses s line (P ++ m ∷ Q) (outer ∷ outer' ∷ []) → IsIndependent s (vectors line N)
      go P Q c d c' d' nd w x lc y lc' i = two_line_step s line P m Q N e h tip outer c p d tip' outer' c' p' d' x lc y lc' i n
          (step_into P m Q e h N nd w) (let k = w.longer in omega arith)

  -- the other way round, for any tips and outers
  pub direct_step_only : (tip outer : V) (cs : List (K × K)) (p : K × K) (tip' outer' : V) (cs' : List (K × K)) (p' : K × K) →
      Exposed s line M e tip outer cs → Exposed s line M h tip' outer' cs' → At m p M cs → At m p' M cs' →
      IsIndependent s (vectors line N) → Misses s line M (outer ∷ outer' ∷ []) × (determinant f p p' ≢ o)
  direct_step_only tip outer cs p tip' outer' cs' p' x y a b j =
      let d : IsDistinct M = independent_distinct s line M (exposed_base s line M e tip outer cs x) in
      let r = aligned M m p p' cs cs' d a b y.length_cs in
      let u = go r.0 r.1 r.2 r.3 r.4 r.5 (subst (λ t. IsStep t m e h N) r.6 w)
      (subst (λ c. Exposed s line (r.0 ++ m ∷ r.1) e tip outer c) r.7 (subst (λ t. Exposed s line t e tip outer cs) r.6 x)) r.8
      (subst (λ c. Exposed s line (r.0 ++ m ∷ r.1) h tip' outer' c) r.9 (subst (λ t. Exposed s line t h tip' outer' cs') r.6 y)) r.10 in
      (subst (λ t. Misses s line t (outer ∷ outer' ∷ [])) (sym r.6) u.0, u.1)
    where
      go : (P Q : List ℕ) (c d c' d' : List (K × K)) → IsStep (P ++ m ∷ Q) m e h N → Exposed s line (P ++ m ∷ Q) e tip outer (c ++ p ∷ d) →
          length c ≡ length P → Exposed s line (P ++ m ∷ Q) h tip' outer' (c' ++ p' ∷ d') → length c' ≡ length P →
          Misses s line (P ++ m ∷ Q) (outer ∷ outer' ∷ []) × (determinant f p p' ≢ o)
      go P Q c d c' d' w x lc y lc' =
          let k : IsIndependent s (vectors line (e ∷ h ∷ P ++ Q)) = regroup_lines s line N (e ∷ h ∷ P ++ Q) j (step_from P m Q e h N w)
          (let k = w.longer in let l = length-middle P m Q in omega arith) in (
            two_line_step-outers s line P m Q e h tip outer (c ++ p ∷ d) tip' outer' (c' ++ p' ∷ d') x y k,
            two_line_step-determinant s line P m Q e h tip outer c p d tip' outer' c' p' d' x lc y lc' k,
          )

  -- if neither line is free, then N is independent only where both are exposed
  pub direct_step_exposed : In m M → IsIndependent s (vectors line M) → ¬ (IsFree s line M e) → ¬ (IsFree s line M h) →
      IsIndependent s (vectors line N) → IsExposed s line M e × IsExposed s line M h
  direct_step_exposed q i ne nh j = let r = in_split m M q in
      subst (λ t. IsExposed s line t e × IsExposed s line t h) (sym r.2)
      (go r.0 r.1 (subst (λ t. IsStep t m e h N) r.2 w) (subst (λ t. IsIndependent s (vectors line t)) r.2 i)
      (subst (λ t. ¬ (IsFree s line t e)) r.2 ne) (subst (λ t. ¬ (IsFree s line t h)) r.2 nh))
    where
      go : (P Q : List ℕ) → IsStep (P ++ m ∷ Q) m e h N → IsIndependent s (vectors line (P ++ m ∷ Q)) → ¬ (IsFree s line (P ++ m ∷ Q) e) →
          ¬ (IsFree s line (P ++ m ∷ Q) h) → IsExposed s line (P ++ m ∷ Q) e × IsExposed s line (P ++ m ∷ Q) h
      go P Q w i ne nh = two_line_step-exposed s line P m Q e h i ne nh (regroup_lines s line N (e ∷ h ∷ P ++ Q) j (step_from P m Q e h N w)
          (let k = w.longer in let l = length-middle P m Q in omega arith))

  -- so no other place will do
  pub direct_step_places : In m M → IsIndependent s (vectors line M) → ¬ (IsFree s line M e) → ¬ (IsFree s line M h) →
      IsIndependent s (vectors line N) → HasPlace s line M e exposed × HasPlace s line M h exposed
  direct_step_places q i ne nh j = let r = direct_step_exposed q i ne nh j in
      (exposed_of_tip s line M e r.0.0 r.0.1 r.0.2 r.0.3, exposed_of_tip s line M h r.1.0 r.1.1 r.1.2 r.1.3)
