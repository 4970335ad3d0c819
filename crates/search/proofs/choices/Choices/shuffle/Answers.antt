use Rattle.std.proofs.Common.{◌<◌}
use Rattle.std.proofs.lemmas.List.Sorted.{All-permutation}
use Rattle.search.proofs.choices.Choices.shuffle.Goals as goal

pub loop-i-preserved : goal.loop-i-preserved
loop-i-preserved c = λ n h. All-permutation (λ m. m < n) _ _ c.swap.ensures.permutation (c.loop-i.invariant n h)
