-- The lists of labels, edge by edge.
use Rattle.std.proofs.Common.{◌≡◌, ℕ, ◌+◌, ◌<◌, ◌≤◌, List, [], ◌∷◌, ◌++◌, Bool, true, false, cond, eqb, max, min, map, length, get_or, take, refl, sym, ap, ap₂, subst, ◌∙◌, arith}
use Rattle.std.specs.List.{range_with_len}
use Rattle.std.proofs.lemmas.Bool.{eqb-true}
use Rattle.std.proofs.lemmas.List.{take_more, take_all, map-id}
use Rattle.std.proofs.lemmas.List.FromFn.{get_or-map-range_with_len, length-map-range_with_len, map-range_with_len_more}
use Rattle.std.proofs.lemmas.Simd.{map-map}
use Rattle.graph_theory.specs.Labels.{merged, label}
use Rattle.graph_theory.proofs.Labels.{label-nil, label-cons}
use Rattle.graph_theory.specs.Walks.{IsLeastConnected}
use Rattle.graph_theory.proofs.Walks.{label_is_least}
use Rattle.graph_theory.proofs.Shuffles.{label-snoc}
use Rattle.graph_core.specs.LabelLists.{labels}

map_by : {X Y : Type 0} (f g : X → Y) → ((x : X) → f x ≡ g x) → (xs : List X) → map f xs ≡ map g xs
map_by f g h xs = λ i. map (λ x. h x i) xs

pub own-more : (n : ℕ) → labels [] n ++ n ∷ [] ≡ labels [] (n + 1)
own-more n = ap (λ x. labels [] n ++ x ∷ []) (sym (label-nil n)) ∙ sym (map-range_with_len_more (label []) 0 n n (omega arith))

pub labels-at : (E : List (ℕ × ℕ)) (n v : ℕ) → v < n → get_or (labels E n) v 0 ≡ label E v
labels-at E n v l = get_or-map-range_with_len (label E) 0 n v v 0 l (omega arith)

-- with one more edge the labels of its ends are joined
labels-more : (E : List (ℕ × ℕ)) (n i : ℕ) → i < length E → (get_or E i (0, 0)).0 < n → (get_or E i (0, 0)).1 < n →
    map (merged (get_or (labels (take i E) n) (get_or E i (0, 0)).0 0) (get_or (labels (take i E) n) (get_or E i (0, 0)).1 0))
    (labels (take i E) n) ≡ labels (take (i + 1) E) n
labels-more E n i l a b =
    ap₂ (λ x y. map (merged x y) (labels L n)) (labels-at L n e.0 a) (labels-at L n e.1 b)
    ∙ map-map (merged (label L e.0) (label L e.1)) (label L) (range_with_len 0 n)
    ∙ map_by (λ w. merged (label L e.0) (label L e.1) (label L w)) (label (L ++ e ∷ []))
    (λ w. sym (label-cons e L w) ∙ sym (label-snoc L e w)) (range_with_len 0 n)
    ∙ ap (λ K. labels K n) (sym (take_more E i (0, 0) l))
  where
    e : ℕ × ℕ
    e = get_or E i (0, 0)

    L : List (ℕ × ℕ)
    L = take i E

pub labels-step : (E : List (ℕ × ℕ)) (n i : ℕ) (ls ls' : List ℕ) (e : ℕ × ℕ) → i < length E → e ≡ get_or E i (0, 0) → e.0 < n → e.1 < n →
    ls ≡ labels (take i E) n →
    ls' ≡ map (merged (get_or ls e.0 0) (get_or ls e.1 0)) ls → ls' ≡ labels (take (i + 1) E) n
labels-step E n i ls ls' e l q a b h k =
    k ∙ ap (λ xs. map (merged (get_or xs e.0 0) (get_or xs e.1 0)) xs) h
    ∙ ap (λ (d : ℕ × ℕ). map (merged (get_or (labels (take i E) n) d.0 0) (get_or (labels (take i E) n) d.1 0)) (labels (take i E) n)) q
    ∙ labels-more E n i l (subst (λ (d : ℕ × ℕ). d.0 < n) q a) (subst (λ (d : ℕ × ℕ). d.1 < n) q b)

-- one label joined with itself leaves all as they are
merged-same : (a b : ℕ) → a ≡ b → (x : ℕ) → merged a b x ≡ x
unfolding merged
merged-same a b same x = go (eqb x (max a b)) refl
  where
    go : (v : Bool) → eqb x (max a b) ≡ v → cond v (min a b) x ≡ x
    go true e = let at = eqb-true x (max a b) e in omega (arith, same, at)
    go false e = refl

pub joined-same : (ls : List ℕ) (a b : ℕ) → a ≡ b → map (merged a b) ls ≡ ls
joined-same ls a b same = map_by (merged a b) (λ x. x) (merged-same a b same) ls ∙ map-id ls

pub labels-length : (E : List (ℕ × ℕ)) (n : ℕ) (ls : List ℕ) → ls ≡ labels E n → length ls ≡ n
labels-length E n ls h = ap length h ∙ length-map-range_with_len (label E) 0 n

-- the labels by all edges are the least connected vertices
pub labels-least : (E : List (ℕ × ℕ)) (n : ℕ) (ls : List ℕ) → ls ≡ labels E n → (v : ℕ) → v < n → IsLeastConnected E v (get_or ls v 0)
labels-least E n ls h v l = subst (IsLeastConnected E v) (sym (ap (λ xs. get_or xs v 0) h ∙ labels-at E n v l)) (label_is_least E v)

pub labels-whole : (E : List (ℕ × ℕ)) (n i : ℕ) (ls : List ℕ) → length E ≤ i → ls ≡ labels (take i E) n → ls ≡ labels E n
labels-whole E n i ls l h = h ∙ ap (λ K. labels K n) (take_all i E l)
