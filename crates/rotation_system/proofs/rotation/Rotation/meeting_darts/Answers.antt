use Rattle.std.proofs.Common.{ap, sym, ◌∙◌}
use Rattle.graph_theory.specs.Walks.{edge_at}
use Rattle.rotation_system.proofs.DartSteps.{first_edge, first_leaves, second_edge, second_leaves}
use Rattle.rotation_system.proofs.PairsPut.{last_meet}
use Rattle.rotation_system.proofs.rotation.Rotation.meeting_darts.Goals as goal

pub returns-then-a-b-clause-first : goal.returns-then-a-b-clause-first
returns-then-a-b-clause-first c = first_edge c.first_dart-p.result c.args.first c.first_dart-p.ensures.value

pub returns-then-a-b-clause-second : goal.returns-then-a-b-clause-second
returns-then-a-b-clause-second c = first_edge c.first_dart-q.result c.args.second c.first_dart-q.ensures.value

pub returns-then-a-b-clause-meet : goal.returns-then-a-b-clause-meet
returns-then-a-b-clause-meet c = first_leaves (edge_at c.args.self.now.ends) c.first_dart-p.result c.args.first
    c.first_dart-p.ensures.value
    ∙ (sym (ap (λ x. x.0) c.ends-a.ensures.value) ∙ c.if-a-b.true ∙ ap (λ x. x.0) c.ends-b.ensures.value)
    ∙ sym (first_leaves (edge_at c.args.self.now.ends) c.first_dart-q.result c.args.second c.first_dart-q.ensures.value)

pub returns-then-a-b-2-clause-first : goal.returns-then-a-b-2-clause-first
returns-then-a-b-2-clause-first c = first_edge c.first_dart-p.result c.args.first c.first_dart-p.ensures.value

pub returns-then-a-b-2-clause-second : goal.returns-then-a-b-2-clause-second
returns-then-a-b-2-clause-second c = second_edge c.first_dart-q.result c.args.second c.first_dart-q.ensures.value

pub returns-then-a-b-2-clause-meet : goal.returns-then-a-b-2-clause-meet
returns-then-a-b-2-clause-meet c = first_leaves (edge_at c.args.self.now.ends) c.first_dart-p.result c.args.first
    c.first_dart-p.ensures.value
    ∙ (sym (ap (λ x. x.0) c.ends-a.ensures.value) ∙ c.if-a-b-2.true ∙ ap (λ x. x.1) c.ends-b.ensures.value)
    ∙ sym (second_leaves (edge_at c.args.self.now.ends) c.first_dart-q.result c.args.second c.first_dart-q.ensures.value)

pub returns-then-a-b-3-clause-first : goal.returns-then-a-b-3-clause-first
returns-then-a-b-3-clause-first c = second_edge c.first_dart-p.result c.args.first c.first_dart-p.ensures.value

pub returns-then-a-b-3-clause-second : goal.returns-then-a-b-3-clause-second
returns-then-a-b-3-clause-second c = first_edge c.first_dart-q.result c.args.second c.first_dart-q.ensures.value

pub returns-then-a-b-3-clause-meet : goal.returns-then-a-b-3-clause-meet
returns-then-a-b-3-clause-meet c = second_leaves (edge_at c.args.self.now.ends) c.first_dart-p.result c.args.first
    c.first_dart-p.ensures.value
    ∙ (sym (ap (λ x. x.1) c.ends-a.ensures.value) ∙ c.if-a-b-3.true ∙ ap (λ x. x.0) c.ends-b.ensures.value)
    ∙ sym (first_leaves (edge_at c.args.self.now.ends) c.first_dart-q.result c.args.second c.first_dart-q.ensures.value)

pub returns-else-a-b-3-clause-first : goal.returns-else-a-b-3-clause-first
returns-else-a-b-3-clause-first c = second_edge c.first_dart-p.result c.args.first c.first_dart-p.ensures.value

pub returns-else-a-b-3-clause-second : goal.returns-else-a-b-3-clause-second
returns-else-a-b-3-clause-second c = second_edge c.first_dart-q.result c.args.second c.first_dart-q.ensures.value

pub returns-else-a-b-3-clause-meet : goal.returns-else-a-b-3-clause-meet
returns-else-a-b-3-clause-meet c = second_leaves (edge_at c.args.self.now.ends) c.first_dart-p.result c.args.first
    c.first_dart-p.ensures.value
    ∙ last_meet (edge_at c.args.self.now.ends) c.args.first c.args.second c.ends-a.result c.ends-b.result c.ends-a.ensures.value
    c.ends-b.ensures.value c.requires.meet c.if-a-b.false c.if-a-b-2.false c.if-a-b-3.false
    ∙ sym (second_leaves (edge_at c.args.self.now.ends) c.first_dart-q.result c.args.second c.first_dart-q.ensures.value)
