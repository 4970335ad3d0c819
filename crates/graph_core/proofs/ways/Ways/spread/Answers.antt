use Rattle.std.proofs.Common.{◌≡◌, ℕ, ap₂, ◌<◌, ◌+◌, ◌||◌, length, get_or, ap, sym, subst, ◌∙◌, arith}
use Rattle.std.proofs.lemmas.List.{get_or_default}
use Rattle.vector_spaces.proofs.Members.{In-get_or}
use Rattle.graph_theory.specs.Walks.{edge_at}
use Rattle.graph_core.specs.Ways.{AreWays, extended, is_reached, differ}
use Rattle.graph_core.proofs.Searches.{IsSpread, spread_more, extended_ways, length-extended}
use Rattle.graph_core.proofs.ways.Ways.spread.Goals as goal

pub loop-i-preserved : goal.loop-i-preserved
loop-i-preserved c =
    let ends = edge_at c.args.graph.now.ends in
    let F = c.args.forest.now in
    let i = c.loop-i.i in
    let T = c.loop-i.self.table.items in
    let within : i < length F = omega arith in
    let at : c.ends.result ≡ ends (get_or F i 0) = c.ends.ensures.value ∙ ap ends c.at-edge.ensures in
    let first : (ends (get_or F i 0)).0 < length T = subst (λ (e : ℕ × ℕ). e.0 < length T) at
    (omega (arith, c.ends.ensures.first_vertex)) in
    let second : (ends (get_or F i 0)).1 < length T = subst (λ (e : ℕ × ℕ). e.1 < length T) at
    (omega (arith, c.ends.ensures.second_vertex)) in
    let new : c.extend-more.new.self.table.items ≡ extended T (ends (get_or F i 0)) (get_or F i 0) = c.extend-more.ensures.extended
    ∙ ap₂ (λ e k. extended T e k) at c.at-edge.ensures in
    let more = c.extend-more.ensures.changed ∙ ap (λ (e : ℕ × ℕ). differ (is_reached T e.0) (is_reached T e.1)) at in record {
      vertex = c.extend-more.ensures.vertex ∙ c.loop-i.invariant.vertex;
      count = ap length new ∙ length-extended T (ends (get_or F i 0)) (get_or F i 0) ∙ c.loop-i.invariant.count;
      ways = subst (λ t. AreWays ends F t c.extend-more.new.self.table.items) (sym c.extend-more.ensures.vertex)
          (subst (AreWays ends F c.loop-i.self.to) (sym new)
          (extended_ways ends F c.loop-i.self.to T c.loop-i.invariant.ways (get_or F i 0) (In-get_or F i 0 within) first second));
      spread = subst (λ S. IsSpread ends F c.args.self.now.table.items S (c.loop-i.changed || c.extend-more.result) (i + 1)) (sym new)
          (spread_more ends F c.loop-i.self.to c.args.self.now.table.items T c.loop-i.changed c.extend-more.result i
          c.loop-i.invariant.ways within first second more c.loop-i.invariant.spread);
    }

pub returns-clause-closed : goal.returns-clause-closed
returns-clause-closed c q k d l =
    let T = c.loop-i.self.table.items in
    let closed = c.loop-i.invariant.spread.closed q in
    let ends = edge_at c.args.graph.now.ends in
    let F = c.args.forest.now in
    subst (λ e. is_reached T (ends e).0 ≡ is_reached T (ends e).1) (get_or_default F k 0 d l)
    (subst (λ S. is_reached S (ends (get_or F k 0)).0 ≡ is_reached S (ends (get_or F k 0)).1) (sym closed.0) (closed.1 k (omega arith)))
