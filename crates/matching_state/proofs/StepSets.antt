-- Sets that are one step from another: by members, and how long they are.
use Rattle.std.proofs.Common.{◌≡◌, ◌≢◌, ◌≤◌, ◌+◌, ◌⊎◌, inl, inr, ℕ, suc, List, [], ◌∷◌, ◌++◌, length, get_or, arith, refl, sym, subst, ◌∙◌, ap}
use Rattle.std.specs.Prelude.{◌↔◌}
use Rattle.std.specs.List.{Contains}
use Rattle.std.specs.List.Sorted.{IsStrictlyIncreasing}
use Rattle.std.proofs.lemmas.List.Kept.{AllPairs-from_increasing}
use Rattle.std.proofs.Math.Decide.{ℕ_discrete}
use Rattle.vector_spaces.proofs.Distinct.{IsDistinct}
use Rattle.vector_spaces.proofs.Members.{In, contains-In, In-contains}
use Rattle.vector_spaces.proofs.Middles.{in_split, in_others, length-middle}
use Rattle.matching_state.specs.DirectSteps.{IsAddition, IsSwap, IsTwoLineStep}
use Rattle.parity_theory.proofs.Exchanges.{IsSwap as IsSwap_of}
use Rattle.parity_theory.proofs.DirectSteps.{IsStep}

-- all members of ms are members of ns
abbrev pub Among : List ℕ → List ℕ → Type 0
Among ms ns = (l : ℕ) → In l ms → In l ns

-- a list without repetition is not longer than one that has its members
pub no_longer : (ms ns : List ℕ) → IsDistinct ms → Among ms ns → length ms ≤ length ns
no_longer [] ns d h = omega arith
no_longer (m ∷ ms) ns d h =
    let r = in_split m ns (h m (inl refl)) in
    let rest : Among ms (r.0 ++ r.1) = λ l i. in_others r.0 m r.1 l (subst (λ t. In l t) r.2 (h l (inr i))) (λ e. d.0 (subst (λ t. In t ms) e i)) in
    let k = no_longer ms (r.0 ++ r.1) d.1 rest in
    let e : length ns ≡ suc (length (r.0 ++ r.1)) = ap length r.2 ∙ length-middle r.0 m r.1 in
    omega arith

pub same_length : (ms ns : List ℕ) → IsDistinct ms → IsDistinct ns → Among ms ns → Among ns ms → length ms ≡ length ns
same_length ms ns d e h k = let a = no_longer ms ns d h in let b = no_longer ns ms e k in omega arith

-- an increasing list has no repetition
pub increasing_distinct : (ms : List ℕ) → IsStrictlyIncreasing ms → IsDistinct ms
increasing_distinct [] h = tt
increasing_distinct (m ∷ ms) h =
    let pairs = AllPairs-from_increasing (m ∷ ms) h in (
      λ i. let c = contains-In ms m i in let k = pairs 0 (suc c.0) m (omega arith) (let l = c.1 in omega arith) in let e = c.2 in omega arith,
      increasing_distinct ms (λ k l. pairs (suc k) (suc (k + 1)) 0 (omega arith) (omega arith)),
    )

-- N is M with e
pub addition_of : (M N : List ℕ) (e : ℕ) → IsStrictlyIncreasing M → IsStrictlyIncreasing N → IsAddition M e N → Among (e ∷ M) N × Among N (e ∷ M) × (length N ≡ suc (length M))
addition_of M N e h k a = (into, from, sym (same_length (e ∷ M) N (new, increasing_distinct M h) (increasing_distinct N k) into from))
  where
    new : ¬ (In e M)
    new i = a.new (contains-In M e i)

    into : Among (e ∷ M) N
    into l (inl q) = In-contains N l ((a.lines l).1 (inr q))
    into l (inr i) = In-contains N l ((a.lines l).1 (inl (contains-In M l i)))

    from : Among N (e ∷ M)
    from l i = elim ((a.lines l).0 (contains-In N l i)) [ inl c ↦ inr (In-contains M l c) | inr q ↦ inl q ]

-- N is M without m and with e
pub swap_of : (M N : List ℕ) (m e : ℕ) → IsStrictlyIncreasing M → IsStrictlyIncreasing N → IsSwap M m e N → IsSwap_of M m e N
swap_of M N m e h k a = record {
  gone = gone;
  new = into e (inr refl);
  kept = λ l i n. into l (inl (i, n));
  only = λ l i n. elim (from l i) [ inl c ↦ c | inr q ↦ absurd (n q) ];
  same_length = let s : suc (length M) ≡ suc (length N) = same_length (e ∷ M) (m ∷ N) (new, increasing_distinct M h) (left, increasing_distinct N k) there back in omega arith;
}
  where
    gone : In m M
    gone = In-contains M m a.gone

    new : ¬ (In e M)
    new i = a.new (contains-In M e i)

    into : (l : ℕ) → (In l M × (l ≢ m)) ⊎ (l ≡ e) → In l N
    into l (inl c) = In-contains N l ((a.lines l).1 (inl (contains-In M l c.0, c.1)))
    into l (inr q) = In-contains N l ((a.lines l).1 (inr q))

    from : (l : ℕ) → In l N → (In l M × (l ≢ m)) ⊎ (l ≡ e)
    from l i = elim ((a.lines l).0 (contains-In N l i)) [ inl c ↦ inl (In-contains M l c.0, c.1) | inr q ↦ inr q ]

    left : ¬ (In m N)
    left i = elim (from m i) [ inl c ↦ c.1 refl | inr q ↦ new (subst (λ t. In t M) q gone) ]

    there : Among (e ∷ M) (m ∷ N)
    there l (inl q) = inr (into l (inr q))
    there l (inr i) = elim (ℕ_discrete l m) [ yes q ↦ inl q | no n ↦ inr (into l (inl (i, n))) ]

    back : Among (m ∷ N) (e ∷ M)
    back l (inl q) = inr (subst (λ t. In t M) (sym q) gone)
    back l (inr i) = elim (from l i) [ inl c ↦ inr c.0 | inr q ↦ inl q ]

-- N is M without m and with e and h
pub step_of : (M N : List ℕ) (m e h : ℕ) → IsStrictlyIncreasing M → IsStrictlyIncreasing N → IsTwoLineStep M m e h N → IsStep M m e h N
step_of M N m e h j k a = record {
  first_new = into e (inr (inl refl));
  second_new = into h (inr (inr refl));
  kept = λ l i n. into l (inl (i, n));
  only = λ l i n o. elim (from l i) as (λ _. In l M × (l ≢ m)) [ inl c ↦ c | inr q ↦ elim q [ inl r ↦ absurd (n r) | inr r ↦ absurd (o r) ] ];
  longer = let s : suc (suc (length M)) ≡ suc (length N) = same_length (e ∷ h ∷ M) (m ∷ N) (first, (second, increasing_distinct M j)) (left, increasing_distinct N k) there back in omega arith;
}
  where
    gone : In m M
    gone = In-contains M m a.gone

    second : ¬ (In h M)
    second i = a.second_new (contains-In M h i)

    first : ¬ (In e (h ∷ M))
    first (inl q) = a.different q
    first (inr i) = a.first_new (contains-In M e i)

    into : (l : ℕ) → (In l M × (l ≢ m)) ⊎ ((l ≡ e) ⊎ (l ≡ h)) → In l N
    into l (inl c) = In-contains N l ((a.lines l).1 (inl (contains-In M l c.0, c.1)))
    into l (inr q) = In-contains N l ((a.lines l).1 (inr q))

    from : (l : ℕ) → In l N → (In l M × (l ≢ m)) ⊎ ((l ≡ e) ⊎ (l ≡ h))
    from l i = elim ((a.lines l).0 (contains-In N l i)) [ inl c ↦ inl (In-contains M l c.0, c.1) | inr q ↦ inr q ]

    left : ¬ (In m N)
    left i = elim (from m i) as (λ _. ⊥) [ inl c ↦ c.1 refl | inr q ↦ elim q [ inl r ↦ first (inr (subst (λ t. In t M) r gone)) | inr r ↦ second (subst (λ t. In t M) r gone) ] ]

    there : Among (e ∷ h ∷ M) (m ∷ N)
    there l (inl q) = inr (into l (inr (inl q)))
    there l (inr (inl q)) = inr (into l (inr (inr q)))
    there l (inr (inr i)) = elim (ℕ_discrete l m) [ yes q ↦ inl q | no n ↦ inr (into l (inl (i, n))) ]

    back : Among (m ∷ N) (e ∷ h ∷ M)
    back l (inl q) = inr (inr (subst (λ t. In t M) (sym q) gone))
    back l (inr i) = elim (from l i) as (λ _. In l (e ∷ h ∷ M)) [ inl c ↦ inr (inr c.0) | inr q ↦ elim q [ inl r ↦ inl r | inr r ↦ inr (inl r) ] ]

-- L is M, and n what it has at i
pub taken_away : (K L M : List ℕ) (n i : ℕ) → L ≡ M → n ≡ get_or L i 0 → ((l : ℕ) → Contains K l ↔ (Contains L l × (l ≢ n))) → (l : ℕ) →
    Contains K l ↔ (Contains M l × (l ≢ get_or M i 0))
taken_away K L M n i e is t =
    subst (λ N. (l : ℕ) → Contains K l ↔ (Contains N l × (l ≢ get_or N i 0))) e
    (subst (λ m. (l : ℕ) → Contains K l ↔ (Contains L l × (l ≢ m))) is t)

-- the set without m, then with e, then with h
pub two_line_step : (M K H N : List ℕ) (m e h : ℕ) → Contains M m → ¬ (Contains M e) → ¬ (Contains M h) → e ≢ h → ((l : ℕ) → Contains K l ↔ (Contains M l × (l ≢ m))) → ((l : ℕ) → Contains H l ↔ (Contains K l ⊎ (l ≡ e))) →
    ((l : ℕ) → Contains N l ↔ (Contains H l ⊎ (l ≡ h))) → IsTwoLineStep M m e h N
two_line_step M K H N m e h g n o d a b c = record {
  gone = g;
  first_new = n;
  second_new = o;
  different = d;
  lines = λ l. (
    λ i. elim ((c l).0 i) as (λ _. (Contains M l × (l ≢ m)) ⊎ ((l ≡ e) ⊎ (l ≡ h))) [
      | inl j ↦ elim ((b l).0 j) [ inl k ↦ inl ((a l).0 k) | inr q ↦ inr (inl q) ]
      | inr q ↦ inr (inr q)
    ],
    λ i. elim i as (λ _. Contains N l) [
      | inl k ↦ (c l).1 (inl ((b l).1 (inl ((a l).1 k))))
      | inr q ↦ elim q [ inl r ↦ (c l).1 (inl ((b l).1 (inr r))) | inr r ↦ (c l).1 (inr r) ]
    ],
  );
}

-- the two lines in the other order
pub other_order : (M N : List ℕ) (m e h : ℕ) → IsTwoLineStep M m e h N → IsTwoLineStep M m h e N
other_order M N m e h w = record {
  gone = w.gone;
  first_new = w.second_new;
  second_new = w.first_new;
  different = λ q. w.different (sym q);
  lines = λ l. (
    λ c. elim ((w.lines l).0 c) as (λ _. (Contains M l × (l ≢ m)) ⊎ ((l ≡ h) ⊎ (l ≡ e))) [ inl k ↦ inl k | inr q ↦ elim q [ inl r ↦ inr (inr r) | inr r ↦ inr (inl r) ] ],
    λ t. (w.lines l).1 (elim t as (λ _. (Contains M l × (l ≢ m)) ⊎ ((l ≡ e) ⊎ (l ≡ h))) [ inl k ↦ inl k | inr q ↦ elim q [ inl r ↦ inr (inr r) | inr r ↦ inr (inl r) ] ]),
  );
}
