-- What a reader of one line leaves.
use Rattle.std.specs.Prelude.{◌≡◌, ℕ, List, [], ◌∷◌, Option, None, Some, Result, Ok, Err}
use Rattle.graph_core.specs.NamedGraphs.{NamedGraph}
use Rattle.graph_text.specs.Texts.{Begun, statement}
use Rattle.line_lexer.specs.Lines.{Line}
use Rattle.line_lexer.specs.declared.refusal.TextRefusal.{TextRefusal}
use Rattle.text_forms.specs.Forms.{line}
use Rattle.text_forms.specs.Gives.{Fails}

-- Of the lines ahead, from one place to the next: none is left, or the first gives the graph and so many classes, or it is refused.
abbrev pub TakesLine : ℕ → ℕ → List Line → List Line → Begun → NamedGraph → Result (Option ℕ) TextRefusal → Type 0
TakesLine most last old new s g (Ok None) = (old ≡ []) × (new ≡ []) × (g ≡ s.graph)
TakesLine most last old new s g (Ok (Some classes)) = (l : Line) × (old ≡ l ∷ new) × (line (statement most s) last (l ∷ []) ≡ Ok (record { graph = g; classes = classes }, []))
TakesLine most last old new s g (Err e) = (l : Line) × (more : List Line) × (old ≡ l ∷ more) × Fails e (line (statement most s) last (l ∷ []))
