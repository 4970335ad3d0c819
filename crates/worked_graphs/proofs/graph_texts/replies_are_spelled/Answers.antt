use Rattle.std.proofs.Common.{rules, [], ◌∷◌}
use Rattle.worked_graphs.proofs.graph_texts.replies_are_spelled.Goals as goal

pub write_cactus-requires-clause-triples : goal.write_cactus-requires-clause-triples
write_cactus-requires-clause-triples g c = record {
  triples = (0, 2, 3) ∷ [];
  corners_of = search rules;
  rise = search rules;
  ordered = ((λ u i. absurd i), tt);
}
