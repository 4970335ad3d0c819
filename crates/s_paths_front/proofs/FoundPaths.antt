-- The paths of a forest with few terminals from each terminal to a greater one, as a search by the first vertex finds them.
use Rattle.std.proofs.Common.{◌≡◌, ℕ, ◌+◌, ◌<◌, ◌≤◌, inl, inr, List, [], ◌∷◌, ◌++◌, length, map, refl, sym, ap, ap₂, ◌∙◌, subst, arith, Bool, true}
use Rattle.std.specs.Prelude.{◌&&◌, slice_index}
use Rattle.std.specs.List.{flat_map}
use Rattle.std.specs.List.Sorted.{IsStrictlyIncreasing}
use Rattle.std.proofs.Math.Decide.{ℕ_discrete}
use Rattle.std.proofs.lemmas.Bool.{and_parts}
use Rattle.std.proofs.lemmas.Grind.{flat_map-append}
use Rattle.std.proofs.lemmas.List.{append-nil, length-map, map-append}
use Rattle.vector_spaces.proofs.Members.{In, In-append, In-append_left, In-append_right, In_map-from}
use Rattle.vector_spaces.proofs.Distinct.{IsDistinct, distinct_append}
use Rattle.graph_theory.specs.Labels.{Connected}
use Rattle.graph_theory.specs.Paths.{last_of}
use Rattle.graph_theory.proofs.CountLists.{count_at_most_list}
use Rattle.graph_theory.proofs.GreedyWalks.{increasing_push}
use Rattle.graph_theory.proofs.Paths.{last_in, linked_connected}
use Rattle.path_theory.specs.Families.{path_vertices, IsTerminalPath, IsPathFamily, AreOrdered}
use Rattle.path_theory.specs.Terminals.{GrownTerminalForest, some_below, is_terminal_with, second_terminals}
use Rattle.path_theory.proofs.Families.{family_as_lists}
use Rattle.path_theory.proofs.Searches.{some_below_from, terminal_with_from}
use Rattle.s_paths_front.specs.PathsUp.{IsPathUp}

abbrev last : ℕ × List ℕ → ℕ
last p = last_of p.0 p.1

-- the paths from the terminals below k to greater ones, by increasing first vertex
pub record ArePathsFrom (n : ℕ) (terminal : ℕ → Bool) (class : ℕ → ℕ) (L : List (ℕ × ℕ)) (k : ℕ) (lists : List (List ℕ)) : Type 0 where
  pub paths : List (ℕ × List ℕ)
  pub lists_of : lists ≡ map path_vertices paths
  pub each : (p : ℕ × List ℕ) → In p paths → IsTerminalPath L terminal class p × (p.0 < last p) × (p.0 < k)
  pub distinct : IsDistinct (flat_map path_vertices paths)
  pub near : (v : ℕ) → In v (flat_map path_vertices paths) → (s : ℕ) × (s < k) × (terminal s ≡ true) × Connected L s v
  pub ordered : IsStrictlyIncreasing (map (λ (p : ℕ × List ℕ). p.0) paths)
  pub all : (s t : ℕ) → s < k → s < t → t < n → terminal s ≡ true → terminal t ≡ true → Connected L s t → In t (map last paths)

module _ (n : ℕ) (terminal : ℕ → Bool) (class : ℕ → ℕ) (L : List (ℕ × ℕ)) where
  pub found_start : ArePathsFrom n terminal class L 0 []
  found_start = record {
    paths = [];
    lists_of = refl;
    each = λ p i. absurd i;
    distinct = tt;
    near = λ v i. absurd i;
    ordered = λ i l. absurd (omega arith);
    all = λ s t l. absurd (omega arith);
  }

  -- k is no terminal, or has no greater terminal in its tree
  pub found_skip : (k : ℕ) (lists : List (List ℕ)) → ArePathsFrom n terminal class L k lists
      → (terminal k ≡ true → (t : ℕ) → k < t → t < n → terminal t ≡ true → ¬ (Connected L k t)) → ArePathsFrom n terminal class L
      (k + 1) lists
  found_skip k lists f h = record {
    paths = f.paths;
    lists_of = f.lists_of;
    each = λ p i. let e = f.each p i in (e.0, e.1, (let l = e.2 in omega arith));
    distinct = f.distinct;
    near = λ v i. let e = f.near v i in (e.0, (let l = e.1 in omega arith), e.2, e.3);
    ordered = f.ordered;
    all = λ s t l m b p q c. elim (ℕ_discrete s k) [
      | yes e ↦ absurd (h (subst (λ z. terminal z ≡ true) e p) t (omega arith) b q (subst (λ z. Connected L z t) e c))
      | no d ↦ f.all s t (omega arith) m b p q c
    ];
  }

  module _ (g : GrownTerminalForest terminal class L) (k : ℕ) (lists : List (List ℕ)) (f : ArePathsFrom n terminal class L k lists)
      (p : terminal k ≡ true) (vs : List ℕ) (u : IsPathUp terminal L k vs) where
    abbrev path : ℕ × List ℕ
    path = (k, u.others)

    along : (v : ℕ) → In v (k ∷ u.others) → Connected L k v
    along v i = linked_connected L k u.others u.linked v i

    to_last : Connected L k (last path)
    to_last = along (last path) (last_in k u.others)

    apart : (v : ℕ) → In v (flat_map path_vertices f.paths) → ¬ (In v (k ∷ u.others))
    apart v i j = let s = f.near v i in let c : Connected L s.0 k = s.3 ∙ sym (along v j) in let l = s.1 in let m = u.greater in
        elim (g.two s.0 k (last path) s.2 p u.ends c to_last) [
          | inl e ↦ absurd (omega arith)
          | inr r ↦ elim r [ inl e ↦ absurd (omega arith) | inr e ↦ absurd (omega arith) ]
        ]

    flat : flat_map path_vertices (f.paths ++ path ∷ []) ≡ flat_map path_vertices f.paths ++ k ∷ u.others
    flat = flat_map-append path_vertices f.paths (path ∷ []) ∙ ap (λ z. flat_map path_vertices f.paths ++ z) (append-nil (k ∷ u.others))

    is_path : IsTerminalPath L terminal class path
    is_path = record {
      linked = u.linked;
      starts = p;
      ends = u.ends;
      differ = g.apart k (last path) p u.ends (let m = u.greater in omega arith) to_last;
    }

    -- a terminal in the tree of k is the last vertex
    only : (t : ℕ) → k < t → terminal t ≡ true → Connected L k t → t ≡ last path
    only t l q c = let m = u.greater in elim (g.two k t (last path) p q u.ends c (sym c ∙ to_last)) [
      | inl e ↦ absurd (omega arith)
      | inr r ↦ elim r [ inl e ↦ e | inr e ↦ absurd (omega arith) ]
    ]

    pub found_push : ArePathsFrom n terminal class L (k + 1) (lists ++ vs ∷ [])
    found_push = record {
      paths = f.paths ++ path ∷ [];
      lists_of = ap₂ (λ xs x. xs ++ x ∷ []) f.lists_of u.vertices ∙ sym (map-append path_vertices f.paths (path ∷ []));
      each = λ q i. elim (In-append q f.paths (path ∷ []) i) [
        | inl j ↦ (let e = f.each q j in (e.0, e.1, (let l = e.2 in omega arith)))
        | inr j ↦ elim j [
          | inl e ↦ subst (λ z. IsTerminalPath L terminal class z × (z.0 < last z) × (z.0 < k + 1)) (sym e)
              (is_path, u.greater, omega arith)
          | inr m ↦ absurd m
        ]
      ];
      distinct = subst IsDistinct (sym flat) (distinct_append (flat_map path_vertices f.paths) (k ∷ u.others) f.distinct u.distinct apart);
      near = λ v i. elim (In-append v (flat_map path_vertices f.paths) (k ∷ u.others) (subst (In v) flat i)) [
        | inl j ↦ (let e = f.near v j in (e.0, (let l = e.1 in omega arith), e.2, e.3))
        | inr j ↦ (k, omega arith, p, along v j)
      ];
      ordered = subst IsStrictlyIncreasing (sym (map-append (λ (q : ℕ × List ℕ). q.0) f.paths (path ∷ [])))
          (increasing_push (map (λ (q : ℕ × List ℕ). q.0) f.paths) k f.ordered (λ x i. let r = In_map-from
          (λ (q : ℕ × List ℕ). q.0) x f.paths i in
          subst (λ z. z < k) (sym r.2) (f.each r.0 r.1).2));
      all = λ s t l m b a q c. subst (In t) (sym (map-append last f.paths (path ∷ []))) (elim (ℕ_discrete s k) [
        | yes e ↦ In-append_right t (map last f.paths) (last path ∷ [])
            (inl (only t (omega arith) q (subst (λ z. Connected L z t) e c)))
        | no d ↦ In-append_left t (map last f.paths) (last path ∷ []) (f.all s t (omega arith) m b a q c)
      ]);
    }

  pub found_family : (k : ℕ) (lists : List (List ℕ)) → ArePathsFrom n terminal class L k lists → IsPathFamily L terminal class lists
  found_family k lists f = subst (IsPathFamily L terminal class) (sym f.lists_of)
      (family_as_lists L terminal class f.paths (record { paths = λ p i. (f.each p i).0; distinct = f.distinct }))

  firsts : (Ps : List (ℕ × List ℕ)) → map (λ vs. slice_index vs 0) (map path_vertices Ps) ≡ map (λ (p : ℕ × List ℕ). p.0) Ps
  firsts [] = refl
  firsts (p ∷ Ps) = ap (λ z. p.0 ∷ z) (firsts Ps)

  pub found_ordered : (k : ℕ) (lists : List (List ℕ)) → ArePathsFrom n terminal class L k lists → AreOrdered lists
  found_ordered k lists f = record {
    upward = λ vs i. let r = In_map-from path_vertices vs f.paths (subst (In vs) f.lists_of i) in (r.0, r.2, (f.each r.0 r.1).1);
    ordered = subst IsStrictlyIncreasing (sym (ap (map (λ vs. slice_index vs 0)) f.lists_of ∙ firsts f.paths)) f.ordered;
  }

  -- there is one for each second terminal
  pub found_each : (lists : List (List ℕ)) → ArePathsFrom n terminal class L n lists → second_terminals n terminal L ≤ length lists
  unfolding second_terminals
  found_each lists f =
      let m = count_at_most_list n (λ t. terminal t && some_below t (is_terminal_with terminal L t)) (map last f.paths) (λ t l e.
      let a = and_parts (terminal t) (some_below t (is_terminal_with terminal L t)) e in
      let s = some_below_from t (is_terminal_with terminal L t) a.1 in let c = terminal_with_from terminal L t s.0 s.2 in
      f.all s.0 t (let b = s.1 in omega arith) s.1 l c.0 a.0 c.1) in
      let b = length-map f.paths last in let d = ap length f.lists_of in let e = length-map f.paths path_vertices in omega arith
