use Rattle.std.proofs.Common.{◌≡◌, ℕ, ◌<◌, ◌+◌, ◌-◌, List, [], ◌∷◌, ◌++◌, get_or, length, refl, sym, ap, subst, ◌∙◌, arith}
use Rattle.graph_theory.specs.Walks.{edge_at}
use Rattle.edge_path_theory.specs.Darts.{tail}
use Rattle.edge_paths_front.proofs.ExitSteps.{IsWay, way_begins, way_skips, way_takes, way_ends}
use Rattle.edge_paths_front.proofs.exits.exits_along.Goals as goal
use Rattle.edge_paths_front.proofs.exits.exits_along.Goals.{then-not-leaves+in_ok-push, else-not-leaves}

pub loop-i-init : goal.loop-i-init
loop-i-init c = let ends = edge_at c.args.graph.now.ends in let vs = c.args.path.now in (
  omega arith,
  subst (λ z. IsWay ends vs z c.tail-vertex.result (get_or vs 0 0) 1) (sym c.new-darts.ensures.items)
      (way_begins ends vs c.tail-vertex.result c.requires.some (c.tail-vertex.ensures.value ∙ ap (tail ends) c.at.ensures)),
)

pub loop-i-preserved : goal.loop-i-preserved
loop-i-preserved c = (
  omega arith,
  subst (λ d. IsWay ends vs out v d (i + 1)) here (elim c.if-not-leaves.branch [
    | then-not-leaves+in_ok-push w ↦ subst (λ z. IsWay ends vs out z x (i + 1))
        (sym (w.vertex-is ∙ w.tail-vertex-then-not-leaves.ensures.value ∙ ap (tail ends) w.at-then-not-leaves-2.ensures))
        (subst (λ z. IsWay ends vs z (tail ends x) x (i + 1)) (sym (ap (λ z. z.items) w.darts-is ∙ w.in_ok-push.ensures.items
        ∙ ap (λ d. c.loop-i.darts.items ++ d ∷ []) w.at-then-not-leaves.ensures))
        (way_takes ends vs c.loop-i.darts.items c.loop-i.vertex (get_or vs (i - 1) 0) x i within refl
        (sym c.leaves.ensures ∙ w.if-not-leaves.true) c.loop-i.invariant.1))
    | else-not-leaves w ↦ subst (λ z. IsWay ends vs out z x (i + 1)) (sym w.vertex-is)
        (subst (λ z. IsWay ends vs z c.loop-i.vertex x (i + 1)) (sym (ap (λ z. z.items) w.darts-is))
        (way_skips ends vs c.loop-i.darts.items c.loop-i.vertex (get_or vs (i - 1) 0) x i within refl
        (sym c.leaves.ensures ∙ w.if-not-leaves.false) c.loop-i.invariant.1))
  ]),
)
  where
    ends : ℕ → ℕ × ℕ
    ends = edge_at c.args.graph.now.ends

    vs : List ℕ
    vs = c.args.path.now

    -- the place, its dart, and what stands behind the step
    i : ℕ
    i = c.loop-i.i

    x : ℕ
    x = get_or vs i 0

    out : List ℕ
    out = c.if-not-leaves.darts.items

    v : ℕ
    v = c.if-not-leaves.vertex

    within : i < length vs
    within = omega arith

    same : i ≡ i + 1 - 1
    same = omega arith

    here : x ≡ get_or vs (i + 1 - 1) 0
    here = ap (λ z. get_or vs z 0) same

pub returns : goal.returns
returns c = way_ends (edge_at c.args.graph.now.ends) c.args.path.now c.loop-i.darts.items c.loop-i.vertex
    (get_or c.args.path.now (c.loop-i.i - 1) 0) c.loop-i.i (omega arith) c.loop-i.invariant.1
