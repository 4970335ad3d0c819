use Rattle.std.proofs.Common.{◌≡◌, ℕ, Option, None, Some, is_some, refl, ap, subst, ◌∙◌, sym, slice_get}
use Rattle.std.specs.Prelude.{IfSome, IfNone}
use Rattle.std.specs.List.{Contains}
use Rattle.vector_spaces.proofs.Members.{In-contains}
use Rattle.graph_core.specs.NamedGraphs.{NamedGraph}
use Rattle.graph_core.proofs.Entries.{name_found, name_missed}
use Rattle.graph_core.proofs.graph.Graph.find.Goals as goal

pub returns-clause-named : goal.returns-clause-named
returns-clause-named c = go c.get_index_of.result refl
  where
    go : (r : Option ℕ) → c.get_index_of.result ≡ r → IfSome r (λ v. slice_get c.args.self.now.names v ≡ Some c.args.name.now)
    go None e = tt
    go (Some v) e = subst (λ (g : NamedGraph). slice_get g.names v ≡ Some c.args.name.now) c.self.view_is
        (name_found (λ k. k.items) c.args.name.now c.self.inside.vertices.entries v (sym c.get_index_of.ensures.index ∙ e))

pub returns-clause-missing : goal.returns-clause-missing
returns-clause-missing c = go c.get_index_of.result refl
  where
    go : (r : Option ℕ) → c.get_index_of.result ≡ r → IfNone r (¬ (Contains c.args.self.now.names c.args.name.now))
    go None e = λ there. name_missed (λ k. k.items) c.args.name.now c.self.inside.vertices.entries
        (sym c.get_index_of.ensures.found ∙ ap is_some e)
        (In-contains _ c.args.name.now (subst (λ (g : NamedGraph). Contains g.names c.args.name.now) (sym c.self.view_is) there))
    go (Some v) e = tt
