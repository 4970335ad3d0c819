use Rattle.std.proofs.Common.{◌≡◌, ◌++◌, ◌∷◌, [], None, map, ap, ap₂, subst, ◌∙◌, sym}
use Rattle.std.specs.Prelude.{nat_eq}
use Rattle.std.specs.List.{Contains}
use Rattle.std.specs.Map.{lookup}
use Rattle.std.specs.Cmp.Lexicographic.{pointwise}
use Rattle.indexmap.proofs.CallerLemmas.{insert_entry-new}
use Rattle.vector_spaces.proofs.Members.{In, contains-In}
use Rattle.graph_core.specs.NamedGraphs.{NamedGraph, IsNamedGraph}
use Rattle.graph_core.proofs.Entries.{lookup_none, names-more, classes-more, named_more}
use Rattle.graph_core.proofs.graph.Graph.add.Goals as goal

absent : (c : goal.In_ok-insert) → ¬ (In c.args.name.now (map (λ v. v.0.items) c.self.inside.vertices.entries))
absent c i = c.requires (subst (λ (g : NamedGraph). Contains g.names c.args.name.now) c.self.view_is (contains-In _ c.args.name.now i))

more : (c : goal.In_ok-insert) → c.insert.new.self.entries ≡ c.self.inside.vertices.entries ++ (c.in_ok-name.name, None) ∷ []
more c = c.in_ok-insert.ensures.entries ∙ insert_entry-new
    (λ x y. pointwise nat_eq x.items y.items) c.self.inside.vertices c.in_ok-name.name None
    (subst (λ xs. lookup (λ k. pointwise nat_eq xs k.items) c.self.inside.vertices.entries ≡ None) (sym c.in_ok-name.ensures.items)
    (lookup_none (λ k. k.items) c.args.name.now c.self.inside.vertices.entries (absent c)))

names : (c : goal.In_ok-insert) → map (λ v. v.0.items) c.insert.new.self.entries ≡ map
    (λ v. v.0.items) c.self.inside.vertices.entries ++ c.args.name.now ∷ []
names c = ap (map (λ v. v.0.items)) (more c) ∙ names-more (λ k. k.items) c.self.inside.vertices.entries c.in_ok-name.name None
    ∙ ap (λ x. map (λ v. v.0.items) c.self.inside.vertices.entries ++ x ∷ []) c.in_ok-name.ensures.items

classes : (c : goal.In_ok-insert) → map (λ v. v.1) c.insert.new.self.entries ≡ map (λ v. v.1) c.self.inside.vertices.entries ++ None ∷ []
classes c = ap (map (λ v. v.1)) (more c) ∙ classes-more (λ k. k.items) c.self.inside.vertices.entries c.in_ok-name.name None

pub invariant_of-self-2 : goal.invariant_of-self-2
invariant_of-self-2 c =
    subst (λ n. IsNamedGraph (record { names = n; ends = c.self.inside.ends.items; classes = map (λ v. v.1) c.insert.new.self.entries }))
    (sym (names c))
    (subst (λ k. IsNamedGraph (record {
      names = map
          (λ v. v.0.items) c.self.inside.vertices.entries ++ c.args.name.now ∷ [];
      ends = c.self.inside.ends.items;
      classes = k;
    }))
    (sym (classes c))
    (named_more _ c.self.inside.ends.items _ c.args.name.now c.self.invariant (absent c)))

pub returns-clause-added : goal.returns-clause-added
returns-clause-added c =
    ap₂ (λ n k. record { names = n; ends = c.self.inside.ends.items; classes = k }) (names c) (classes c)
    ∙ ap (λ (g : NamedGraph). record { names = g.names ++ c.args.name.now ∷ []; ends = g.ends; classes = g.classes ++ None ∷ [] }) c.self.view_is
