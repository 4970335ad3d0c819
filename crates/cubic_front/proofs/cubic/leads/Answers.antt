use Rattle.std.proofs.Common.{◌≡◌, ◌<◌, length, take, refl, ap, ◌∙◌, sym, arith}
use Rattle.std.proofs.lemmas.Bool.{true≢false}
use Rattle.edge_lists.specs.Occurrences.{count}
use Rattle.edge_lists.proofs.Occurrences.{count-nil}
use Rattle.graph_theory.specs.Walks.{edge_at}
use Rattle.cubic_front.specs.CubicGraphs.{way_from, ways_from}
use Rattle.cubic_front.proofs.CubicGraphs.{counted_more, counted_front, ways-nil}
use Rattle.cubic_front.proofs.FoundWays.{leads_elsewhere, leads_there}
use Rattle.cubic_front.proofs.cubic.leads.Goals as goal

pub loop-edge-init : goal.loop-edge-init
loop-edge-init c = ap (count c.args.other) (ways-nil c.args.vertex) ∙ count-nil c.args.other

pub loop-edge-preserved : goal.loop-edge-preserved
loop-edge-preserved c =
    let E = c.args.graph.now.ends in
    let k : c.loop-edge.edge < length E = omega arith in
    omega (
      arith,
      c.loop-edge.invariant,
      counted_more c.args.other c.args.vertex c.loop-edge.edge E k,
      leads_elsewhere c.way.result c.args.other (way_from c.args.vertex (edge_at E c.loop-edge.edge)) c.way.ensures.some c.way.ensures.none
          (sym c.eq.ensures ∙ c.if-eq.false),
    )

pub returns-then-eq : goal.returns-then-eq
returns-then-eq c =
    let E = c.args.graph.now.ends in
    let k : c.loop-edge.edge < length E = omega arith in (
      λ h. omega (
        arith,
        c.loop-edge-test.true,
        counted_front c.args.other c.args.vertex c.loop-edge.edge c.args.edges E k c.loop-edge-test.true,
        leads_there c.way.result c.args.other (way_from c.args.vertex (edge_at E c.loop-edge.edge)) c.way.ensures.some
            (sym c.eq.ensures ∙ c.if-eq.true),
      ),
      λ i. refl,
    )

pub returns : goal.returns
returns c = (
  λ h. absurd (true≢false (sym h)),
  λ i. absurd (omega (
    arith,
    i,
    c.loop-edge.invariant,
    ap (λ k. count c.args.other (ways_from c.args.vertex (take k c.args.graph.now.ends))) (let q : c.loop-edge.edge ≡ c.args.edges = omega arith in q),
  )),
)
