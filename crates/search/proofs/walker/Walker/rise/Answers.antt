use Rattle.std.proofs.Common.{◌≡◌, ◌<◌, ◌∙◌, ℕ, List, length, All, ap, subst, sym}
use Rattle.parity_lines.specs.Problems.{ParityProblem}
use Rattle.search.specs.Repeats.{AreFirsts}
use Rattle.search.proofs.walker.Walker.rise.Goals as goal

pub join_exposed-requires-clause-lines : goal.join_exposed-requires-clause-lines
join_exposed-requires-clause-lines g c =
    let s = c.settle.new.state in
    let same : s.problem ≡ c.args.self.now.state.problem = c.settle.ensures ∙ c.go_to.ensures.problem in
    subst (λ (xs : List ℕ). All (λ m. m < length s.problem.lines) xs) (sym c.as_slice.ensures.value)
    (subst (λ (q : ParityProblem). All (λ m. m < length q.lines) c.args.self.now.order.items) (sym same) c.requires.ready.order)

pub join_exposed-requires-clause-labels : goal.join_exposed-requires-clause-labels
join_exposed-requires-clause-labels g c =
    let s = c.settle.new.state in
    let e : length s.problem.lines ≡ c.len.result =
    ap (λ (q : ParityProblem). length q.lines) (sym c.problem.ensures) ∙ sym c.len.ensures.value in
    (c.in_ok-self.ensures g.F.Field.scalars s.problem s.set e).labels

pub returns-clause-ready : goal.returns-clause-ready
returns-clause-ready g c =
    let s = c.settle.new.state in
    let same : s.problem ≡ c.args.self.now.state.problem = c.settle.ensures ∙ c.go_to.ensures.problem in
    let e : length s.problem.lines ≡ c.len.result =
    ap (λ (q : ParityProblem). length q.lines) (sym c.problem.ensures) ∙ sym c.len.ensures.value in
    record {
      notes = record {
        labels = c.join_exposed.ensures;
        sets = (c.in_ok-self.ensures g.F.Field.scalars s.problem s.set e).sets;
      };
      firsts = subst (λ (q : ParityProblem). AreFirsts (length q.lines) c.args.self.now.firsts.items) (sym same) c.requires.ready.firsts;
      order = subst (λ (q : ParityProblem). All (λ m. m < length q.lines) c.args.self.now.order.items) (sym same) c.requires.ready.order;
    }
