use Rattle.std.proofs.Common.{length, ap, sym, ◌∙◌, subst, ◌≤◌}
use Rattle.std.proofs.lemmas.List.{length-map}
use Rattle.graph_theory.specs.Cacti.{corners}
use Rattle.parity_program.proofs.CountedTriangles.{counted, few}
use Rattle.parity_program.proofs.graph_reader.triangles_of.Goals as goal
use Rattle.vector_spaces.proofs.Members.{In-all}

pub returns-clause-value : goal.returns-clause-value
returns-clause-value c =
    let all = c.in_ok-triangles.ensures in
    let g = c.args.graph.now in
    c.len.ensures ∙ ap length all.corners_of ∙ length-map all.triples corners
    ∙ counted (length g.names) g.ends (In-all _ g.ends c.edges-edges.ensures.graph.within) all.triples all.triangles

pub returns-clause-small : goal.returns-clause-small
returns-clause-small c =
    let g = c.args.graph.now in
    subst (λ k. k ≤ 2097152) (sym (returns-clause-value c)) (few (length g.names) g.ends c.requires)
