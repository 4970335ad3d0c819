use Rattle.std.proofs.Common.{◌≡◌, false, sym, ◌∙◌, subst, arith, length}
use Rattle.std.proofs.Math.Decide.{dec_lt}
use Rattle.parity_program.specs.Connectedness.{is_apart}
use Rattle.parity_program.proofs.FirstApart.{apart_of, first_is, first_none, not_apart_of}
use Rattle.parity_program.proofs.connection.apart_from_first.Goals as goal

pub loop-vertex-init : goal.loop-vertex-init
loop-vertex-init c u l = absurd (omega (arith, l))

pub returns-then-at-clause-value : goal.returns-then-at-clause-value
returns-then-at-clause-value c =
    let E = c.args.graph.now.ends in
    let v = c.loop-vertex.vertex in
    let own = c.at.ensures ∙ c.requires.labels v (omega arith) in
    let first = c.at-in-loop-vertex.ensures ∙ c.requires.labels 0 (omega arith) in
    sym (first_is (length c.args.graph.now.names) E v (omega arith) c.loop-vertex.invariant
    (apart_of E v (λ e. c.if-at.true (own ∙ e ∙ sym first))))

pub loop-vertex-preserved : goal.loop-vertex-preserved
loop-vertex-preserved c u l =
    let E = c.args.graph.now.ends in
    let v = c.loop-vertex.vertex in
    let own = c.at.ensures ∙ c.requires.labels v (omega arith) in
    let first = c.at-in-loop-vertex.ensures ∙ c.requires.labels 0 (omega arith) in
    elim (dec_lt u v) [
      | yes m ↦ c.loop-vertex.invariant u m
      | no m ↦
          let same : v ≡ u = omega (arith, l, m) in
          subst (λ w. is_apart E w ≡ false) same (not_apart_of E v (sym own ∙ c.if-at.false ∙ first))
    ]

pub returns-clause-value : goal.returns-clause-value
returns-clause-value c =
    sym (first_none (length c.args.graph.now.names) c.args.graph.now.ends
    (λ u l. c.loop-vertex.invariant u (omega (arith, l))))
