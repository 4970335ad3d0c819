-- The terminals of a graph are vertices, and classes below 251 are scalars.
use Rattle.std.proofs.Common.{◌≡◌, ℕ, zero, suc, ◌<◌, List, [], ◌∷◌, length, refl, sym, subst, arith, lit<, true}
use Rattle.std.specs.Prelude.{Option, None, Some, is_some, slice_index_or}
use Rattle.std.proofs.lemmas.Bool.{true≢false}
use Rattle.vector_spaces.proofs.Members.{In-all}
use Rattle.graph_core.specs.NamedGraphs.{NamedGraph, IsNamedGraph}
use Rattle.graph_theory.proofs.Shuffles.{in_range}
use Rattle.graph_problems.specs.PathLines.{IsPathsSetting}
use Rattle.path_theory.specs.Classes.{class_of, is_terminal, number_of}
use Rattle.small_fields.specs.ScalarsOf.{scalars_of}

terminal_below : (classes : List (Option ℕ)) (t : ℕ) → is_terminal classes t ≡ true → t < length classes
terminal_below [] zero e = absurd (true≢false (sym e))
terminal_below [] (suc t) e = absurd (true≢false (sym e))
terminal_below (c ∷ cs) zero e = omega arith
terminal_below (c ∷ cs) (suc t) e = let l = terminal_below cs t e in omega arith

some_of : (o : Option ℕ) → is_some o ≡ true → o ≡ Some (number_of o)
some_of None e = absurd (true≢false (sym e))
some_of (Some c) e = refl

pub paths_setting : (g : NamedGraph) → IsNamedGraph g → ((v c : ℕ) → slice_index_or g.classes v None ≡ Some c → c < 251)
    → IsPathsSetting (scalars_of 251) 250 (length g.names) (is_terminal g.classes) (class_of g.classes) g.ends
paths_setting g named small = record {
  scalar = lit< tt;
  opposite = refl;
  range = in_range (length g.names) g.ends (In-all _ g.ends named.within);
  below = λ t e. subst (λ z. t < z) named.classed (terminal_below g.classes t e);
  slopes = λ t e. small t (class_of g.classes t) (some_of (slice_index_or g.classes t None) e);
}
