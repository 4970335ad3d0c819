-- Marks at the members of a list, at cycles, and the entries that they make.
use Rattle.std.proofs.Common.{◌≡◌, ℕ, zero, suc, ◌+◌, ◌<◌, ◌⊎◌, inl, inr, List, [], ◌∷◌, ◌++◌, All, Bool, true, false, IsTrue, length, length-append, map, get_or, take, replicate, refl, sym, ap, ap₂, subst, ◌∙◌, arith}
use Rattle.std.specs.Prelude.{slice_set, ◌↔◌, if◌then◌else◌}
use Rattle.std.specs.List.{range_with_len}
use Rattle.std.proofs.lemmas.Bool.{true≢false}
use Rattle.std.proofs.lemmas.List.Elements.{All-cons, All-nil}
use Rattle.std.proofs.lemmas.List.{get_or_append_left, length-set, map-append, take_more}
use Rattle.std.proofs.Math.Decide.{ℕ_discrete}
use Rattle.std.proofs.Math.Seq.{get_or-append_seam}
use Rattle.vector_spaces.proofs.Members.{In, In-append, In-append_left, In-append_right, all-In}
use Rattle.linear_algebra.specs.Scalars.{Scalars}
use Rattle.field_core.specs.Matrix.{Matrix}
use Rattle.graph_theory.specs.Greedy.{IsGreedyForest}
use Rattle.graph_theory.specs.Walks.{IsForest, Walk, edge_at}
use Rattle.edge_lists.specs.Occurrences.{without}
use Rattle.edge_lists.proofs.Occurrences.{count-not_in, count_of_in, without-append, without-one_in, without-one_out, without_passes}
use Rattle.edge_lists.proofs.EdgeNumbers.{numbers_below, range-more}
use Rattle.edge_lists.specs.EdgeNumbers.{edge_numbers}
use Rattle.graph_core.specs.OnlyPaths.{IsOnlyPath}
use Rattle.cographic.specs.CographicRows.{AreCographicRows, AreEntries, InCycle, IsEntry}
use Rattle.cographic.specs.Cycles.{AreCycles, AreRowsBy, MarkCycle, MarkMembers, entry_by, is_marked, where_unmarked}

abbrev IsMarked : List Bool → ℕ → Type 0
IsMarked xs b = IsTrue (get_or xs b false)

pub none_marked : (n x : ℕ) → ¬ (IsMarked (replicate n false) x)
none_marked zero x h = true≢false (sym h)
none_marked (suc n) zero h = true≢false (sym h)
none_marked (suc n) (suc x) h = none_marked n x h

set_marked : (xs : List Bool) (j b : ℕ) → IsMarked (slice_set xs j true) b → IsMarked xs b ⊎ (b ≡ j)
set_marked [] j b h = inl h
set_marked (x ∷ xs) zero zero h = inr refl
set_marked (x ∷ xs) zero (suc b) h = inl h
set_marked (x ∷ xs) (suc j) zero h = inl h
set_marked (x ∷ xs) (suc j) (suc b) h = elim (set_marked xs j b h) [ inl k ↦ inl k | inr e ↦ inr (ap suc e) ]

marked_set : (xs : List Bool) (j b : ℕ) → IsMarked xs b → IsMarked (slice_set xs j true) b
marked_set [] j b h = h
marked_set (x ∷ xs) zero zero h = refl
marked_set (x ∷ xs) zero (suc b) h = h
marked_set (x ∷ xs) (suc j) zero h = h
marked_set (x ∷ xs) (suc j) (suc b) h = marked_set xs j b h

marked_here : (xs : List Bool) (j : ℕ) → j < length xs → IsMarked (slice_set xs j true) j
marked_here [] j l = absurd (omega arith)
marked_here (x ∷ xs) zero l = refl
marked_here (x ∷ xs) (suc j) l = marked_here xs j (omega arith)

-- one more member is marked
pub mark_more : (L : List ℕ) (i e x : ℕ) (marks new : List Bool) → i < length L → e ≡ get_or L i 0 → new ≡ slice_set marks e true
    → x < length marks → IsMarked marks x ↔ In x (take i L) → IsMarked new x ↔ In x (take (i + 1) L)
mark_more L i e x marks new l q r m h = subst (λ t. IsMarked t x ↔ In x (take (i + 1) L)) (sym r)
    (subst (λ K. IsMarked (slice_set marks e true) x ↔ In x K) (sym (take_more L i 0 l ∙ ap (λ t. take i L ++ t ∷ []) (sym q))) (
      λ k. elim (set_marked marks e x k) [
        | inl o ↦ In-append_left x (take i L) (e ∷ []) (h.0 o)
        | inr p ↦ In-append_right x (take i L) (e ∷ []) (inl p)
      ],
      λ j. elim (In-append x (take i L) (e ∷ []) j) [ inl o ↦ marked_set marks e x (h.1 o) | inr o ↦ here o ],
    ))
  where
    here : In x (e ∷ []) → IsMarked (slice_set marks e true) x
    here (inl p) = subst (λ z. IsMarked (slice_set marks z true) x) p (marked_here marks x m)
    here (inr o) = absurd o

-- the marks of the path, and of the edge itself
pub mark_cycle : (ends : ℕ → ℕ × ℕ) (T : List ℕ) (g m : ℕ) (es : List ℕ) (marks new : List Bool) → g < m
    → IsOnlyPath ends T (ends g).0 (ends g).1 es → length marks ≡ m → MarkMembers es marks → new ≡ slice_set marks g true
    → MarkCycle ends m T g new
mark_cycle ends T g m es marks new l p long h q = subst (MarkCycle ends m T g) (sym q) (record {
  long = length-set marks g true ∙ long;
  members = λ x k. (to x (omega (arith, long)), from x (omega (arith, long)));
})
  where
    to : (x : ℕ) → x < length marks → IsMarked (slice_set marks g true) x → InCycle ends T g x
    to x k a = elim (set_marked marks g x a) [ inl o ↦ inr (es, p.path, (h x k).0 o) | inr q ↦ inl q ]

    from : (x : ℕ) → x < length marks → InCycle ends T g x → IsMarked (slice_set marks g true) x
    from x k (inl q) = subst (λ z. IsMarked (slice_set marks z true) x) q (marked_here marks x k)
    from x k (inr (fs, q, i)) = marked_set marks g x ((h x k).1 (subst (In x) (p.only fs q) i))

-- the edges without marks, one edge more
pub without_more : (T : List ℕ) (n : ℕ) → without T (range_with_len 0 (n + 1)) ≡ without T (range_with_len 0 n) ++ without T (n ∷ [])
without_more T n = ap (without T) (range-more n) ∙ without-append T (range_with_len 0 n) (n ∷ [])

pub where_unmarked-is : (T : List ℕ) (marks : List Bool) (e : ℕ) → MarkMembers T marks → e < length marks
    → where_unmarked marks e ≡ without T (e ∷ [])
where_unmarked-is T marks e h l = go (is_marked marks e) refl
  where
    go : (b : Bool) → is_marked marks e ≡ b → (if b then [] else e ∷ []) ≡ without T (e ∷ [])
    go true k = sym (without-one_in T e (λ z. let c = count_of_in e T ((h e l).0 k) in omega arith))
    go false k = sym (without-one_out T e (count-not_in e T (λ i. true≢false (sym ((h e l).1 i) ∙ k))))

-- the edges outside the tree are edges of the graph
pub others_below : (E : List (ℕ × ℕ)) (T : List ℕ) → All (λ e. e < length E) (without T (edge_numbers E))
others_below E T = all-In (λ e. e < length E) (without T (edge_numbers E))
    (λ e i. numbers_below E e (without_passes e T (edge_numbers E) (count_of_in e (without T (edge_numbers E)) i)).1)

module _ (ends : ℕ → ℕ × ℕ) (m : ℕ) (T : List ℕ) where
  cycles_push : (gs : List ℕ) (cs : List (List Bool)) (g : ℕ) (c : List Bool) → AreCycles ends m T gs cs → MarkCycle ends m T g c
      → AreCycles ends m T (gs ++ g ∷ []) (cs ++ c ∷ [])
  cycles_push [] [] g c h k = (k, tt)
  cycles_push [] (d ∷ cs) g c h k = absurd h
  cycles_push (e ∷ gs) [] g c h k = absurd h
  cycles_push (e ∷ gs) (d ∷ cs) g c h k = (h.0, cycles_push gs cs g c h.1 k)

  -- one cycle more
  pub cycles_more : (gs : List ℕ) (i g : ℕ) (cs new : List (List Bool)) (c : List Bool) → i < length gs → g ≡ get_or gs i 0
      → new ≡ cs ++ c ∷ [] → AreCycles ends m T (take i gs) cs → MarkCycle ends m T g c → AreCycles ends m T (take (i + 1) gs) new
  cycles_more gs i g cs new c l q r h k = subst (λ K. AreCycles ends m T K new) (sym (take_more gs i 0 l ∙ ap (λ t. take i gs ++ t ∷ []) (sym q)))
      (subst (AreCycles ends m T (take i gs ++ g ∷ [])) (sym r) (cycles_push (take i gs) cs g c h k))

  pub cycles_long : (gs : List ℕ) (cs : List (List Bool)) → AreCycles ends m T gs cs → length cs ≡ length gs
  cycles_long [] [] h = refl
  cycles_long [] (d ∷ cs) h = absurd h
  cycles_long (e ∷ gs) [] h = absurd h
  cycles_long (e ∷ gs) (d ∷ cs) h = ap suc (cycles_long gs cs h.1)

  -- each cycle has a mark for each edge
  pub cycles_wide : (gs : List ℕ) (cs : List (List Bool)) → AreCycles ends m T gs cs → All (λ c. length c ≡ m) cs
  cycles_wide [] [] h = All-nil (λ c. length c ≡ m)
  cycles_wide [] (d ∷ cs) h = absurd h
  cycles_wide (e ∷ gs) [] h = absurd h
  cycles_wide (e ∷ gs) (d ∷ cs) h = All-cons (λ c. length c ≡ m) d cs h.0.long (cycles_wide gs cs h.1)

  -- the entries by marks are those of the edge
  pub entries_of_cycles : (S : Scalars) (x : ℕ) → x < m → (gs : List ℕ) (cs : List (List Bool)) → AreCycles ends m T gs cs
      → AreEntries S ends T x gs (map (entry_by S x) cs)
  entries_of_cycles S x l [] [] h = tt
  entries_of_cycles S x l [] (d ∷ cs) h = absurd h
  entries_of_cycles S x l (e ∷ gs) [] h = absurd h
  entries_of_cycles S x l (e ∷ gs) (d ∷ cs) h = (one (is_marked d x) refl, entries_of_cycles S x l gs cs h.1)
    where
      one : (b : Bool) → is_marked d x ≡ b → IsEntry S ends T e x (if b then S.one else S.zero)
      one true q = record { inside = λ c. refl; outside = λ n. absurd (n ((h.0.members x l).0 q)) }
      one false q = record { inside = λ c. absurd (true≢false (sym ((h.0.members x l).1 c) ∙ q)); outside = λ n. refl }

-- one entry more
pub entries_more : (f : List Bool → ℕ) (cs : List (List Bool)) (i : ℕ) (v new : List ℕ) (a : ℕ) → i < length cs → a ≡ f (get_or cs i [])
    → new ≡ v ++ a ∷ [] → v ≡ map f (take i cs) → new ≡ map f (take (i + 1) cs)
entries_more f cs i v new a l q r h = r ∙ ap₂ (λ s t. s ++ t ∷ []) h q
    ∙ sym (ap (map f) (take_more cs i [] l) ∙ map-append f (take i cs) (get_or cs i [] ∷ []))

-- one row more
pub rows_more : (S : Scalars) (cs : List (List Bool)) (k : ℕ) (m new : Matrix) (row : List ℕ) → AreRowsBy S cs k m
    → new ≡ record m { rows = m.rows ++ row ∷ [] } → row ≡ map (entry_by S k) cs → AreRowsBy S cs (k + 1) new
rows_more S cs k m new row h q r = subst (AreRowsBy S cs (k + 1)) (sym q) (record {
  width = h.width;
  count = length-append m.rows (row ∷ []) ∙ ap (λ n. n + 1) h.count;
  each = λ x l. go x l (ℕ_discrete x k);
})
  where
    go : (x : ℕ) → x < k + 1 → Dec (x ≡ k) → get_or (m.rows ++ row ∷ []) x [] ≡ map (entry_by S x) cs
    go x l (yes e) = ap (λ t. get_or (m.rows ++ row ∷ []) t []) (e ∙ sym h.count) ∙ get_or-append_seam m.rows row [] [] ∙ r
        ∙ ap (λ t. map (entry_by S t) cs) (sym e)
    go x l (no n) = get_or_append_left m.rows (row ∷ []) [] x (omega (arith, h.count)) ∙ h.each x (omega arith)

pub rows_are : (S : Scalars) (E : List (ℕ × ℕ)) (T : List ℕ) (cs : List (List Bool)) (n : ℕ) (m : Matrix) → IsGreedyForest E T
    → IsForest (map (edge_at E) T) → ((p q : ℕ) → Walk E p q → Walk (map (edge_at E) T) p q)
    → AreCycles (edge_at E) (length E) T (without T (edge_numbers E)) cs → n ≡ length E → AreRowsBy S cs n m → AreCographicRows S E m
rows_are S E T cs n m g f s h q r = record {
  tree = T;
  greedy = g;
  forest = f;
  spanning = s;
  width = r.width ∙ cycles_long (edge_at E) (length E) T (without T (edge_numbers E)) cs h;
  count = r.count ∙ q;
  rows = λ x l. subst (AreEntries S (edge_at E) T x (without T (edge_numbers E))) (sym (r.each x (omega (arith, l, q))))
      (entries_of_cycles (edge_at E) (length E) T S x l (without T (edge_numbers E)) cs h);
}
