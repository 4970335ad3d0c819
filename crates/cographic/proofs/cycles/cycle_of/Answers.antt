use Rattle.std.proofs.Common.{◌≡◌, ◌<◌, All, ℕ, List, None, Option, Some, inl, is_some, length, map, refl, true, sym, subst, ◌∙◌, arith}
use Rattle.std.specs.Prelude.{IfSome}
use Rattle.vector_spaces.proofs.Members.{In-all, In-get_or, all-In}
use Rattle.graph_theory.specs.Walks.{Walk, edge_at, onward, stay}
use Rattle.graph_core.specs.OnlyPaths.{IsOnlyPath}
use Rattle.cographic.proofs.MarkLists.{mark_cycle}
use Rattle.cographic.proofs.cycles.cycle_of.Goals as goal

some : {X : Type 0} (o : Option X) → ¬ (o ≡ None) → is_some o ≡ true
some None n = absurd (n refl)
some (Some x) n = refl

joined : (E : List (ℕ × ℕ)) (T : List ℕ) (e : ℕ) (d : ℕ × ℕ) → e < length E → d ≡ edge_at E e
    → ((p q : ℕ) → Walk E p q → Walk (map (edge_at E) T) p q) → Walk (map (edge_at E) T) d.0 d.1
joined E T e d l q s = subst (λ d. Walk (map (edge_at E) T) d.0 d.1) (sym q)
    (s (edge_at E e).0 (edge_at E e).1 (onward (edge_at E e).0 (edge_at E e).1 stay (inl (In-get_or E e (0, 0) l))))

only : (ends : ℕ → ℕ × ℕ) (T : List ℕ) (d e : ℕ × ℕ) (found : Option (List ℕ)) (path : List ℕ) → d ≡ e → found ≡ Some path
    → IfSome found (IsOnlyPath ends T d.0 d.1) → IsOnlyPath ends T e.0 e.1 path
only ends T d e found path q r h = subst (λ p. IsOnlyPath ends T p.0 p.1 path) q (subst (λ o. IfSome o (IsOnlyPath ends T d.0 d.1)) r h)

path_below : (ends : ℕ → ℕ × ℕ) (T : List ℕ) (s t m n : ℕ) (path : List ℕ) → IsOnlyPath ends T s t path → All (λ e. e < m) T → n ≡ m
    → All (λ e. e < n) path
path_below ends T s t m n path p h q = all-In (λ e. e < n) path (λ e i. let l = In-all (λ e. e < m) T h e (p.path.inside e i) in omega arith)

pub unwrap-path-requires : goal.unwrap-path-requires
unwrap-path-requires c = some c.in_ok-found.found (λ q. c.in_ok-found.ensures.none.0 q (joined c.args.graph.now.ends c.args.tree.now c.args.edge
    c.ends-first.result c.requires.edge c.ends-first.ensures.value c.requires.spanning))

pub of-requires : goal.of-requires
of-requires c =
    let E = c.args.graph.now.ends in
    path_below (edge_at E) c.args.tree.now (edge_at E c.args.edge).0 (edge_at E c.args.edge).1 (length E) c.edges.result c.unwrap-path.result
    (only (edge_at E) c.args.tree.now c.ends-first.result (edge_at E c.args.edge) c.in_ok-found.found c.unwrap-path.result
    c.ends-first.ensures.value c.unwrap-path.ensures c.in_ok-found.ensures.path)
    c.requires.edges c.edges.ensures.value

pub returns : goal.returns
returns c =
    let E = c.args.graph.now.ends in
    mark_cycle (edge_at E) c.args.tree.now c.args.edge (length E) c.unwrap-path.result c.in_ok-marks.marks c.mark.new.self c.requires.edge
    (only (edge_at E) c.args.tree.now c.ends-first.result (edge_at E c.args.edge) c.in_ok-found.found c.unwrap-path.result
    c.ends-first.ensures.value c.unwrap-path.ensures c.in_ok-found.ensures.path)
    (c.in_ok-marks.ensures.count ∙ c.edges.ensures.value) c.in_ok-marks.ensures.members c.mark.ensures
