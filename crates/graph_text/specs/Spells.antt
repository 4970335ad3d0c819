-- Which lines spell a graph.
use Rattle.std.specs.Prelude.{◌≡◌, ℕ, List, ◌++◌, map, Some, codes}
use Rattle.graph_core.specs.NamedGraphs.{NamedGraph}
use Rattle.graph_text.specs.Statements.{Statement, statement_words, graph_of, AreWithin}
use Rattle.line_lexer.specs.Lines.{Line}
use Rattle.text_forms.specs.Spelling.{IsOneLine, IsNameAndNumeral}

-- `graph 1`, and then a line for each statement
pub record SpellsGraph (most : ℕ) (g : NamedGraph) (text : List Line) : Type 0 where
  pub version : List Line
  pub lines : List Line
  pub statements : List Statement
  pub text_is : text ≡ version ++ lines
  pub spells_version : IsOneLine (λ n words. IsNameAndNumeral (codes "graph") n words) 1 version
  pub spells_lines : map (λ line. line.words) lines ≡ map (λ statement. Some (statement_words statement)) statements
  pub within : AreWithin most statements
  pub graph_is : g ≡ graph_of statements
