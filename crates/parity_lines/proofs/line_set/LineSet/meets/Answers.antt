use Rattle.std.proofs.Common.{below_more, arith, subst, sym, ◌∙◌}
use Rattle.std.specs.List.{Contains}
use Rattle.std.proofs.lemmas.Bool.{false≢true}
use Rattle.parity_lines.proofs.LinesPassed.{each_line}
use Rattle.parity_lines.proofs.line_set.LineSet.meets.Goals as goal

pub loop-i-preserved : goal.loop-i-preserved
loop-i-preserved c = below_more _ _ c.loop-i.invariant
    (λ k. false≢true (sym c.if-holds.false ∙ c.holds.ensures.1 (subst (λ m. Contains c.args.other.now m) (sym c.at.ensures) k)))

pub returns : goal.returns
returns c = (
  λ never. absurd (false≢true never),
  λ r. absurd (each_line (λ m. ¬ (Contains c.args.other.now m)) c.args.self.now c.loop-i.i (omega arith) c.loop-i.invariant r.0 r.1 r.2),
)
