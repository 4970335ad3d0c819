use Rattle.std.proofs.Common.{◌≡◌, refl, sym, ap, ◌∙◌, arith, length}
use Rattle.std.proofs.lemmas.Bool.{true≢false}
use Rattle.path_theory.specs.Classes.{is_terminal}
use Rattle.path_theory.specs.Terminals.{is_terminal_with, some_below}
use Rattle.path_theory.proofs.Searches.{some_below_of, terminal_with_of}
use Rattle.s_paths_front.proofs.Counting.{none_more}
use Rattle.s_paths_front.proofs.counts.has_terminal.Goals as goal

pub loop-vertex-init : goal.loop-vertex-init
unfolding some_below
loop-vertex-init c = refl

pub returns-then-is_terminal_with : goal.returns-then-is_terminal_with
returns-then-is_terminal_with c = sym (some_below_of (length c.args.graph.now.names)
    (is_terminal_with (is_terminal c.args.graph.now.classes) c.args.graph.now.ends c.args.root) c.loop-vertex.vertex (omega arith)
    (sym c.is_terminal_with.ensures ∙ c.if-is_terminal_with.true))

pub loop-vertex-preserved : goal.loop-vertex-preserved
loop-vertex-preserved c = none_more
    (is_terminal c.args.graph.now.classes) c.args.graph.now.ends c.args.root c.loop-vertex.vertex c.loop-vertex.invariant
    (λ t e. true≢false (sym (terminal_with_of
    (is_terminal c.args.graph.now.classes) c.args.graph.now.ends c.args.root c.loop-vertex.vertex t e)
    ∙ sym c.is_terminal_with.ensures ∙ c.if-is_terminal_with.false))

pub returns : goal.returns
returns c = let end : c.loop-vertex.vertex ≡ length c.args.graph.now.names = omega arith in
    sym (ap (λ n. some_below n (is_terminal_with (is_terminal c.args.graph.now.classes) c.args.graph.now.ends c.args.root)) (sym end)
    ∙ c.loop-vertex.invariant)
