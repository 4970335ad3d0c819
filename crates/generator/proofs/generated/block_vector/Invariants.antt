use Rattle.std.proofs.Common.{◌≡◌, length, map}
use Rattle.generator.proofs.Coordinates.{HasEntries}
use Rattle.generator.proofs.generated.block_vector.Given as goal
use Rattle.generator.specs.Coordinates.{coordinate}

abbrev pub invariant-loop-place : goal.invariant-loop-place
invariant-loop-place g l = record {
  count : length l.vector.items ≡ l.place;
  entries : HasEntries (coordinate l.block l.number) (map g.F.Field.number l.vector.items);
}
