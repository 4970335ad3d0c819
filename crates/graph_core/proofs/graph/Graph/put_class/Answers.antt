use Rattle.std.proofs.Common.{Some, ap, ap₂, ◌∙◌}
use Rattle.std.specs.Prelude.{slice_set}
use Rattle.graph_core.specs.NamedGraphs.{NamedGraph}
use Rattle.graph_core.proofs.Entries.{names-set, classes-set, classed_more}
use Rattle.graph_core.proofs.graph.Graph.put_class.Goals as goal

pub invariant_of-self : goal.invariant_of-self
invariant_of-self c =
    let es = c.self.inside.vertices.entries in
    classed_more c.self.inside.ends.items c.args.vertex (Some c.args.class)
    (names-set (λ k. k.items) es c.args.vertex (Some c.args.class))
    (classes-set (λ k. k.items) es c.args.vertex (Some c.args.class)) c.self.invariant

pub returns : goal.returns
returns c =
    let es = c.self.inside.vertices.entries in
    let E = c.self.inside.ends.items in
    ap₂ (λ n k. record { names = n; ends = E; classes = k }) (names-set (λ k. k.items) es c.args.vertex (Some c.args.class))
    (classes-set (λ k. k.items) es c.args.vertex (Some c.args.class))
    ∙ ap (λ (g : NamedGraph). record {
      names = g.names;
      ends = g.ends;
      classes = slice_set g.classes c.args.vertex
          (Some c.args.class);
    }) c.self.view_is
