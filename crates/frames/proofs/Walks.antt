-- Lists that are changed one after the other.
use Rattle.std.proofs.Common.{◌≡◌, ℕ, zero, suc, ◌+◌, ◌<◌, ◌≤◌, List, [], ◌∷◌, ◌++◌, length, map, get_or, set, sym, ap, ◌∙◌, subst, arith, All}
use Rattle.std.proofs.Math.Decide.{ℕ_discrete}
use Rattle.std.proofs.lemmas.List.{same_lists, length-map, get_or-map, get_or_default, length-set, get_or-set_same, get_or-set_other}
use Rattle.std.proofs.lemmas.List.Elements.{All-get_or}

-- the first k of the lists have changed as R says, and the others stand as they were
pub record AreChanged (R : List ℕ → List ℕ → Type 0) (before now : List (List ℕ)) (k : ℕ) : Type 0 where
  pub many : length now ≡ length before
  pub done : (t : ℕ) → t < k → R (get_or before t []) (get_or now t [])
  pub others : (t : ℕ) → k ≤ t → get_or now t [] ≡ get_or before t []

module _ (R : List ℕ → List ℕ → Type 0) (before now : List (List ℕ)) where
  pub changed_none : now ≡ before → AreChanged R before now 0
  changed_none e = record { many = ap length e; done = λ t l. absurd (omega arith); others = λ t l. ap (λ xs. get_or xs t []) e }

  module _ (k : ℕ) (so_far : AreChanged R before now k) where
    pub next_stands : get_or now k [] ≡ get_or before k []
    next_stands = so_far.others k (omega arith)

    -- what holds of all the lists holds of the next one
    pub next_keeps : (P : List ℕ → Type 0) (x : List ℕ) → All P before → k < length now → P (get_or now k x)
    next_keeps P x h l = subst P (sym (get_or_default now k x [] l ∙ next_stands)) (All-get_or P before k [] (let e = so_far.many in omega arith) h)

    pub changed_more : (x changed : List ℕ) → k < length now → R (get_or now k x) changed → AreChanged R before (set now k changed) (k + 1)
    changed_more x changed l r = record {
      many = length-set now k changed ∙ so_far.many;
      done = λ t h. go t h (ℕ_discrete t k);
      others = λ t h. get_or-set_other now k t changed [] (omega arith) ∙ so_far.others t (omega arith);
    }
      where
        go : (t : ℕ) → t < k + 1 → Dec (t ≡ k) → R (get_or before t []) (get_or (set now k changed) t [])
        go t h (yes e) = subst (λ m. R (get_or before m []) (get_or (set now k changed) m [])) (sym e)
            (subst (R (get_or before k [])) (sym (get_or-set_same now k changed [] l)) (subst (λ xs. R xs changed) (get_or_default now k x [] l ∙ next_stands) r))
        go t h (no n) = subst (R (get_or before t [])) (sym (get_or-set_other now k t changed [] n)) (so_far.done t (omega arith))

-- all of them are changed by a function
pub changed_by : (f : List ℕ → List ℕ) (before now : List (List ℕ)) (k : ℕ) → length before ≤ k → AreChanged (λ list changed. changed ≡ f list) before now k → now ≡ map f before
changed_by f before now k l h = same_lists now (map f before) (h.many ∙ sym (length-map before f)) (λ t d m.
    let in_before : t < length before = subst (λ n. t < n) h.many m in
    get_or_default now t d [] m ∙ h.done t (omega arith) ∙ sym (get_or-map f before t [] d in_before))

-- the lists in front of one, that one, and those behind have each changed as R says
pub changed_around : (R : List ℕ → List ℕ → Type 0) (front front_now rest rest_now : List (List ℕ)) (x y : List ℕ) → length front_now ≡ length front →
    ((t : ℕ) → t < length front → R (get_or front t []) (get_or front_now t [])) → R x y →
    ((t : ℕ) → t < length rest → R (get_or rest t []) (get_or rest_now t [])) →
    (t : ℕ) → t < length (front ++ x ∷ rest) → R (get_or (front ++ x ∷ rest) t []) (get_or (front_now ++ y ∷ rest_now) t [])
changed_around R [] [] rest rest_now x y e f r g zero l = r
changed_around R [] [] rest rest_now x y e f r g (suc t) l = g t (omega arith)
changed_around R [] (b ∷ bs) rest rest_now x y e f r g t l = absurd (omega arith)
changed_around R (a ∷ fs) [] rest rest_now x y e f r g t l = absurd (omega arith)
changed_around R (a ∷ fs) (b ∷ bs) rest rest_now x y e f r g zero l = f 0 (omega arith)
changed_around R (a ∷ fs) (b ∷ bs) rest rest_now x y e f r g (suc t) l =
    changed_around R fs bs rest rest_now x y (omega arith) (λ s k. f (suc s) (omega arith)) r g t (omega arith)
