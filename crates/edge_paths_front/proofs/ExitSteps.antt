-- The last exits along a list of darts, and a list of darts from its end.
use Rattle.std.proofs.Common.{◌≡◌, ℕ, ◌+◌, ◌-◌, ◌≤◌, ◌<◌, List, [], ◌∷◌, ◌++◌, length, get_or, drop, refl, sym, ap, ap₂, ◌∙◌, arith, true, false, cond}
use Rattle.std.specs.Prelude.{nat_lt, reverse}
use Rattle.std.proofs.lemmas.Bool.{le-ltb, lt-ltb}
use Rattle.std.proofs.lemmas.List.{append-nil, append_assoc, drop_more, reverse-append}
use Rattle.std.proofs.Math.ListN.{drop_of_length-le}
use Rattle.graph_theory.specs.Paths.{last_of}
use Rattle.path_theory.specs.Families.{path_vertices}
use Rattle.edge_path_theory.specs.Darts.{tail}
use Rattle.edge_path_theory.specs.Exits.{exits, leaves, path_of_list, reversed_onto}
use Rattle.edge_path_theory.proofs.LastExits.{exits_skip, exits_take}
use Rattle.edge_paths_front.specs.Replies.{darts_along, exits_along}

reversed_list : (x : ℕ) (vs acc : List ℕ) → path_vertices (reversed_onto x vs acc) ≡ reverse vs ++ x ∷ acc
reversed_list x [] acc = refl
reversed_list x (v ∷ vs) acc = reversed_list v vs (x ∷ acc) ∙ sym (append_assoc (reverse vs) (v ∷ []) (x ∷ acc))
    ∙ sym (ap (λ z. z ++ x ∷ acc) (reverse-append (v ∷ []) vs))

reversed_path : (vs : List ℕ) → 0 < length vs → path_of_list (reverse vs) ≡ reversed_onto (path_of_list vs).0 (path_of_list vs).1 []
reversed_path [] l = absurd (omega arith)
reversed_path (v ∷ vs) l = ap path_of_list (reverse-append (v ∷ []) vs ∙ sym (reversed_list v vs []))

last_at : (x : ℕ) (vs : List ℕ) → get_or (x ∷ vs) (length vs) 0 ≡ last_of x vs
last_at x [] = refl
last_at x (v ∷ vs) = last_at v vs

-- the first and the last member
first_is : (vs : List ℕ) → 0 < length vs → (path_of_list vs).0 ≡ get_or vs 0 0
first_is [] l = absurd (omega arith)
first_is (v ∷ vs) l = refl

last_is : (vs : List ℕ) (k : ℕ) → k + 1 ≡ length vs → last_of (path_of_list vs).0 (path_of_list vs).1 ≡ get_or vs k 0
last_is [] k e = absurd (omega arith)
last_is (v ∷ vs) k e = sym (last_at v vs) ∙ ap (λ z. get_or (v ∷ vs) z 0) same
  where
    same : length vs ≡ k
    same = omega arith

module _ (ends : ℕ → ℕ × ℕ) where
  -- a list of darts, whose first dart leaves a and whose last dart leaves b
  module _ (vs : List ℕ) (some : 0 < length vs) (a b : ℕ) (first : a ≡ tail ends (get_or vs 0 0))
      (last : b ≡ tail ends (get_or vs (length vs - 1) 0)) where
    ends_are : nat_lt (tail ends (last_of (path_of_list vs).0 (path_of_list vs).1)) (tail ends (path_of_list vs).0) ≡ nat_lt b a
    ends_are = ap₂ nat_lt (ap (tail ends) (last_is vs (length vs - 1) (omega arith)) ∙ sym last)
        (ap (tail ends) (first_is vs some) ∙ sym first)

    pub along_turned : b < a → exits_along ends (path_of_list (reverse vs)) ≡ darts_along ends vs
    along_turned l = ap (exits_along ends) (reversed_path vs some
        ∙ sym (ap (λ t. cond t (reversed_onto (path_of_list vs).0 (path_of_list vs).1 []) (path_of_list vs)) (ends_are ∙ lt-ltb b a l)))

    pub along_straight : a ≤ b → exits_along ends (path_of_list vs) ≡ darts_along ends vs
    along_straight l = ap (exits_along ends)
        (sym (ap (λ t. cond t (reversed_onto (path_of_list vs).0 (path_of_list vs).1 []) (path_of_list vs)) (ends_are ∙ le-ltb b a l)))

  -- out, and the exits from v on of the darts from place i - 1 on, are all exits of vs
  abbrev pub IsWay : List ℕ → List ℕ → ℕ → ℕ → ℕ → Type 0
  IsWay vs out v d i = out ++ exits ends v d (drop i vs) ≡ exits_along ends (path_of_list vs)

  pub way_begins : (vs : List ℕ) (v : ℕ) → 0 < length vs → v ≡ tail ends (get_or vs 0 0) → IsWay vs [] v (get_or vs 0 0) 1
  way_begins [] v l e = absurd (omega arith)
  way_begins (d ∷ vs) v l e = ap (λ z. exits ends z d vs) e

  pub way_skips : (vs out : List ℕ) (v d x i : ℕ) → i < length vs → x ≡ get_or vs i 0 → leaves ends v (drop i vs) ≡ true →
      IsWay vs out v d i → IsWay vs out v x (i + 1)
  way_skips vs out v d x i l e b w = sym (ap (λ z. out ++ z) (ap (exits ends v d) more
      ∙ exits_skip ends v d x (drop (i + 1) vs) (sym (ap (leaves ends v) more) ∙ b))) ∙ w
    where
      more : drop i vs ≡ x ∷ drop (i + 1) vs
      more = drop_more vs i 0 l ∙ ap (λ z. z ∷ drop (i + 1) vs) (sym e)

  pub way_takes : (vs out : List ℕ) (v d x i : ℕ) → i < length vs → x ≡ get_or vs i 0 → leaves ends v (drop i vs) ≡ false →
      IsWay vs out v d i → IsWay vs (out ++ d ∷ []) (tail ends x) x (i + 1)
  way_takes vs out v d x i l e b w = append_assoc out (d ∷ []) (exits ends (tail ends x) x (drop (i + 1) vs))
      ∙ sym (ap (λ z. out ++ z) (ap (exits ends v d) more
      ∙ exits_take ends v d x (drop (i + 1) vs) (sym (ap (leaves ends v) more) ∙ b))) ∙ w
    where
      more : drop i vs ≡ x ∷ drop (i + 1) vs
      more = drop_more vs i 0 l ∙ ap (λ z. z ∷ drop (i + 1) vs) (sym e)

  pub way_ends : (vs out : List ℕ) (v d i : ℕ) → length vs ≤ i → IsWay vs out v d i → out ≡ exits_along ends (path_of_list vs)
  way_ends vs out v d i l w = sym (append-nil out) ∙ sym (ap (λ z. out ++ exits ends v d z) (drop_of_length-le vs l)) ∙ w
