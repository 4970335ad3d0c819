-- Lists of edges, member by member.
use Rattle.std.proofs.Common.{◌≡◌, ℕ, ◌+◌, ◌<◌, ◌≤◌, List, [], ◌∷◌, ◌++◌, length, take, drop, get_or, map, sym, ap, ◌∙◌, subst, arith}
use Rattle.std.proofs.lemmas.List.{append_assoc, map-append, take-append-drop, take_more}
use Rattle.std.specs.Prelude.{slice_index_or}
use Rattle.vector_spaces.proofs.Members.{In-get_or}
use Rattle.edge_lists.specs.EdgePairs.{flat}
use Rattle.edge_lists.specs.Occurrences.{count, without}
use Rattle.edge_lists.proofs.EdgePairs.{flat-cons, flat-nil}
use Rattle.edge_lists.proofs.Occurrences.{count-append, count-nil, count-one, count-other, count_of_in, without-append}
use Rattle.genus_front.specs.GenusProblems.{edges_of}

pub counted_at : (e i : ℕ) (K : List ℕ) → i < length K → get_or K i 0 ≡ e → 1 ≤ count e K
counted_at e i K l q = subst (λ t. 1 ≤ count t K) q (count_of_in (get_or K i 0) K (In-get_or K i 0 l))

-- a member more
pub count-take : (e i : ℕ) (K : List ℕ) → i < length K → count e (take (i + 1) K) ≡ count e (take i K) + count e (get_or K i 0 ∷ [])
count-take e i K l = ap (count e) (take_more K i 0 l) ∙ count-append e (take i K) (get_or K i 0 ∷ [])

pub none_more : (e i : ℕ) (K : List ℕ) → i < length K → ¬ (get_or K i 0 ≡ e) → count e (take i K) ≡ 0 → count e (take (i + 1) K) ≡ 0
none_more e i K l n z = omega (arith, z, count-take e i K l, count-other e (get_or K i 0) [] n, count-nil e)

pub without-take : (S K : List ℕ) (i : ℕ) → i < length K
    → without S (take (i + 1) K) ≡ without S (take i K) ++ without S (get_or K i 0 ∷ [])
without-take S K i l = ap (without S) (take_more K i 0 l) ∙ without-append S (take i K) (get_or K i 0 ∷ [])

flat-append : (P Q : List (ℕ × ℕ)) → flat (P ++ Q) ≡ flat P ++ flat Q
flat-append [] Q = sym (ap (λ t. t ++ flat Q) flat-nil)
flat-append (p ∷ P) Q = flat-cons p (P ++ Q) ∙ ap (λ t. p.0 ∷ p.1 ∷ t) (flat-append P Q) ∙ sym (ap (λ t. t ++ flat Q) (flat-cons p P))

-- the edges of a pair more
pub edges-take : (P : List (ℕ × ℕ)) (M : List ℕ) (i : ℕ) → i < length M
    → edges_of P (take (i + 1) M) ≡ edges_of P (take i M) ++ ((get_or P (get_or M i 0) (0, 0)).0 ∷ (get_or P (get_or M i 0) (0, 0)).1 ∷ [])
edges-take P M i l =
    let p : ℕ × ℕ = get_or P (get_or M i 0) (0, 0) in
    ap (λ t. edges_of P t) (take_more M i 0 l)
    ∙ ap flat (map-append (λ k. slice_index_or P k (0, 0)) (take i M) (get_or M i 0 ∷ []))
    ∙ flat-append (map (λ k. slice_index_or P k (0, 0)) (take i M)) (p ∷ [])
    ∙ ap (λ t. edges_of P (take i M) ++ t) (flat-cons p [] ∙ ap (λ t. p.0 ∷ p.1 ∷ t) flat-nil)

pub pushed_twice : (old one two K : List ℕ) (a b : ℕ) → old ≡ K → one ≡ old ++ a ∷ [] → two ≡ one ++ b ∷ [] → two ≡ K ++ (a ∷ b ∷ [])
pushed_twice old one two K a b p q r = r ∙ ap (λ t. t ++ b ∷ []) (q ∙ ap (λ t. t ++ a ∷ []) p) ∙ append_assoc K (a ∷ []) (b ∷ [])

-- ---- what isn't held yet

count_front : (e i : ℕ) (K : List ℕ) → count e (take i K) ≤ count e K
count_front e i K = omega (arith, ap (count e) (take-append-drop i K), count-append e (take i K) (drop i K))

-- the member at i stands nowhere before, where each stands once
pub fresh : (e i n : ℕ) (K : List ℕ) → i < length K → e ≡ get_or K i 0 → count e K + n ≤ 1 → count e (take i K) + n ≡ 0
fresh e i n K l q h = omega (arith, h, count_front e (i + 1) K, count-take e i K l, ap (λ t. count e (t ∷ [])) (sym q), count-one e)

edges_front : (e i : ℕ) (P : List (ℕ × ℕ)) (M : List ℕ) → count e (edges_of P (take i M)) ≤ count e (edges_of P M)
edges_front e i P M = omega (
  arith,
  ap (λ t. count e (edges_of P t)) (take-append-drop i M),
  ap (λ t. count e (flat t)) (map-append (λ k. slice_index_or P k (0, 0)) (take i M) (drop i M)),
  ap (count e) (flat-append (map (λ k. slice_index_or P k (0, 0)) (take i M)) (map (λ k. slice_index_or P k (0, 0)) (drop i M))),
  count-append e (edges_of P (take i M)) (edges_of P (drop i M)),
)

-- the edges of a pair more, each counted
pub count-edges_take : (e i : ℕ) (P : List (ℕ × ℕ)) (M : List ℕ) (p : ℕ × ℕ) → i < length M → p ≡ get_or P (get_or M i 0) (0, 0)
    → count e (edges_of P (take (i + 1) M)) ≡ count e (edges_of P (take i M)) + count e (p.0 ∷ p.1 ∷ [])
count-edges_take e i P M p l q = ap (count e) (edges-take P M i l)
    ∙ count-append e (edges_of P (take i M)) ((get_or P (get_or M i 0) (0, 0)).0 ∷ (get_or P (get_or M i 0) (0, 0)).1 ∷ [])
    ∙ ap (λ (t : ℕ × ℕ). count e (edges_of P (take i M)) + count e (t.0 ∷ t.1 ∷ [])) (sym q)

-- and so the edges of the pair at i
pub fresh_pair : (e i n : ℕ) (P : List (ℕ × ℕ)) (M : List ℕ) (p : ℕ × ℕ) → i < length M → p ≡ get_or P (get_or M i 0) (0, 0)
    → 1 ≤ count e (p.0 ∷ p.1 ∷ []) → count e (edges_of P M) + n ≤ 1 → count e (edges_of P (take i M)) + n ≡ 0
fresh_pair e i n P M p l q k h = omega (arith, k, h, edges_front e (i + 1) P M, count-edges_take e i P M p l q)

pub first_counted : (a b : ℕ) → 1 ≤ count a (a ∷ b ∷ [])
first_counted a b = omega (arith, count-append a (a ∷ []) (b ∷ []), count-one a)

pub second_counted : (a b : ℕ) → 1 ≤ count b (a ∷ b ∷ [])
second_counted a b = omega (arith, count-append b (a ∷ []) (b ∷ []), count-one b)
