use Rattle.search.specs.Found.{KeepsSize}
use Rattle.search.proofs.restarting.wander.Given as goal

abbrev pub invariant-loop-try : goal.invariant-loop-try
invariant-loop-try g l = KeepsSize l.initial.state l.state
