-- The problem of a conversion is within the limits of a problem's text, and its text is accepted by `solve`.
use Rattle.std.proofs.Common.{◌≡◌, ℕ, ◌≤◌, List, ◌++◌, length, Bool, false, Ok}
use Rattle.std.proofs.Common.{inl, inr, refl, sym, ap, ◌∙◌, subst, arith}
use Rattle.std.specs.Prelude.{nat_lt}
use Rattle.std.proofs.lemmas.Bool.{le-ltb}
use Rattle.std.proofs.lemmas.List.{length-append, length-map}
use Rattle.graph_core.specs.NamedGraphs.{NamedGraph, IsNamedGraph}
use Rattle.graph_problems.proofs.ListedLines.{listed_problem}
use Rattle.graph_problems.proofs.PairVectors.{line-vectors}
use Rattle.graph_problems.proofs.UnitVectors.{unit-vector}
use Rattle.graph_problems.specs.GraphLines.{matching_line, matching_problem, triangle_line, triangle_problem, unit_vector}
use Rattle.graph_problems.specs.PathLines.{path_line, paths_problem, IsPathsSetting}
use Rattle.graph_text.specs.Texts.{graph}
use Rattle.line_lexer.specs.Lines.{Line, lines, lines_from}
use Rattle.line_lexer.specs.Seen.{most_bytes}
use Rattle.line_lexer.specs.Words.{spelled}
use Rattle.linear_algebra.proofs.VectorLaws.{vector_sum-vector}
use Rattle.linear_algebra.specs.Scalars.{Scalars, IsField}
use Rattle.linear_algebra.specs.Vectors.{IsVector, vector_sum}
use Rattle.parity_lines.specs.Problems.{ParityProblem}
use Rattle.parity_program.proofs.CountedTriangles.{counted}
use Rattle.parity_program.proofs.GraphsFor.{ClassLimits, Limits, few_classes, few_cycles, few_triangles, graph_behind, graph_read, no_more_than}
use Rattle.parity_program.proofs.OffsetLine.{offset_length, offset_passed}
use Rattle.parity_program.proofs.PairProblems.{pairs_within}
use Rattle.parity_program.specs.Inputs.{accepted, graph_for, most_vertices, reading}
use Rattle.parity_program.specs.Inputs.Input.{of_graph, posed}
use Rattle.parity_program.specs.Replies.{IsConversion, IsOffsetOf, conversion_reply, offset_line, order_for}
use Rattle.parity_program.specs.Shown.{HasFewClasses}
use Rattle.parity_program.specs.declared.command.Command.TheVariants.{OfText}
use Rattle.parity_program.specs.declared.command.Convertible.{Convertible}
use Rattle.parity_program.specs.declared.command.Convertible.TheVariants.{Matching, Cactus, PathFamily, Rotation}
use Rattle.parity_program.specs.declared.command.GraphCommand.TheVariants.{Convert}
use Rattle.parity_program.specs.declared.command.GraphObject.TheVariants.{Converted}
use Rattle.parity_program.specs.declared.command.ProblemCommand.TheVariants.{Solve}
use Rattle.parity_program.specs.declared.command.TextCommand.TheVariants.{OverGraph, OverProblem}
use Rattle.parity_text.proofs.ReadAgain.{read_at}
use Rattle.parity_text.proofs.WrittenLengths.{problem_length}
use Rattle.parity_text.specs.Files.{problem_with}
use Rattle.parity_text.specs.Spelled.{problem_lines}
use Rattle.parity_text.specs.Values.{IsWithinLimits}
use Rattle.path_theory.specs.Classes.{class_of, is_terminal}
use Rattle.path_theory.specs.Coordinates.{dimension}
use Rattle.s_paths_front.proofs.Setting.{paths_setting}
use Rattle.s_paths_front.proofs.Sizes.{coordinates}
use Rattle.small_fields.specs.FieldName.{field_orders}
use Rattle.small_fields.specs.Laws.ModularField.{modular_field}
use Rattle.small_fields.specs.Laws.Primes.{prime_2, prime_251}
use Rattle.small_fields.specs.ScalarsOf.{scalars_of}
use Rattle.text_forms.specs.Reading.{give}
use Rattle.vector_spaces.proofs.Members.{In-all, contains-In}

-- ---- the limits of a problem's text

abbrev two : Scalars
two = scalars_of 2

field : IsField two
field = modular_field 2 prime_2

edge_sum : (n u v : ℕ) → IsVector two n (vector_sum two (unit_vector two n u) (unit_vector two n v))
edge_sum n u v =
    vector_sum-vector two field n (unit_vector two n u) (unit_vector two n v) (unit-vector two field n u) (unit-vector two field n v)

matching_within : (g : NamedGraph) → length g.names ≤ 128 → length g.ends ≤ 512
    → IsWithinLimits two (matching_problem two (length g.names) g.ends)
matching_within g few few_edges =
    let n : ℕ = length g.names in
    let many = length-map g.ends (matching_line two n) in
    record {
      order = contains-In field_orders 2 (inl refl);
      dimension = few;
      lines = omega (arith, many, few_edges);
      vectors = listed_problem two n (matching_line two n) g.ends (λ e i. (unit-vector two field n e.0, unit-vector two field n e.1));
    }

cactus_within : (g : NamedGraph) (Ts : List (ℕ × ℕ × ℕ)) → length g.names ≤ 128 → length Ts ≤ 2048
    → IsWithinLimits two (triangle_problem two (length g.names) Ts)
cactus_within g Ts few few_triples =
    let n : ℕ = length g.names in
    let many = length-map Ts (triangle_line two n) in
    record {
      order = contains-In field_orders 2 (inl refl);
      dimension = few;
      lines = omega (arith, many, few_triples);
      vectors = listed_problem two n (triangle_line two n) Ts (λ t i. (edge_sum n t.0 t.1, edge_sum n t.1 t.2));
    }

module _ (g : NamedGraph) (named : IsNamedGraph g) (slopes : HasFewClasses g) (few : length g.names ≤ 64) (few_edges : length g.ends ≤ 512) where
  abbrev S : Scalars
  S = scalars_of 251

  abbrev n : ℕ
  n = length g.names

  abbrev terminal : ℕ → Bool
  terminal = is_terminal g.classes

  abbrev class : ℕ → ℕ
  class = class_of g.classes

  given : IsPathsSetting S 250 n terminal class g.ends
  given = paths_setting g named slopes

  paths_within : IsWithinLimits S (paths_problem S 250 n terminal class g.ends)
  paths_within =
      let line : ℕ × ℕ → List ℕ × List ℕ = path_line S 250 n terminal class in
      record {
        order = contains-In field_orders 251 (inr (inr (inr (inl refl))));
        dimension = omega (arith, few, coordinates n terminal);
        lines = omega (arith, few_edges, length-map g.ends line);
        vectors = listed_problem S (dimension n terminal) line g.ends (λ e i.
            line-vectors S (modular_field 251 prime_251) 250 given.scalar given.opposite n terminal class given.slopes e);
      }

-- of the object in a graph that is read
conversion_within : Limits → ClassLimits → (object : Convertible) (g : NamedGraph) (p : ParityProblem) (last : ℕ) (text rest : List Line)
    → graph_for (Converted object) last text ≡ Ok (g, rest) → IsConversion object g p → IsWithinLimits (scalars_of (order_for object)) p
conversion_within limits classes Matching g p last text rest e is =
    let l = limits 128 last text rest g e in
    subst (IsWithinLimits two) (sym is) (matching_within g l.1 l.2)
conversion_within limits classes Cactus g p last text rest e is =
    let f = few_triangles g last rest (graph 128 last text) e in
    let l = limits 128 last text f.0.0 g f.0.1 in
    let many = counted (length g.names) g.ends (In-all _ g.ends l.0.within) is.triples is.triangles in
    let few = f.1 in
    subst (IsWithinLimits two) (sym is.problem) (cactus_within g is.triples l.1 (omega (arith, many, few)))
conversion_within limits classes PathFamily g p last text rest e is =
    let l = limits 64 last text rest g e in
    let slopes = few_classes limits classes (Converted PathFamily) last text rest g e in
    subst (IsWithinLimits (scalars_of 251)) (sym is) (paths_within g l.0 slopes l.1 l.2)
conversion_within limits classes Rotation g p last text rest e is =
    let f = few_cycles g last rest (graph 128 last text) e in
    let l = limits 128 last text f.0.0 g f.0.1 in
    pairs_within (length g.names) g.ends p (In-all _ g.ends l.0.within) is f.1.0 f.1.1

-- the offset has few digits
few_offset : (object : Convertible) (g : NamedGraph) (offset : ℕ) → length g.names ≤ 128 → IsOffsetOf object g offset → offset ≤ 128
few_offset Matching g offset few is = omega (arith, is)
few_offset Cactus g offset few is = omega (arith, is)
few_offset Rotation g offset few is = omega (arith, is)
few_offset PathFamily g offset few is = omega (arith, few, is)

-- ---- the text

module _ (q offset : ℕ) (p : ParityProblem) (within : IsWithinLimits (scalars_of q) p) (few : offset ≤ 128) where
  read_text : reading (OfText (OverProblem Solve)) (conversion_reply q offset p).text ≡ Ok (posed q p)
  unfolding reading
  read_text =
      let body : List ℕ = spelled (problem_lines q p) in
      let text : List ℕ = offset_line offset ++ body in
      let both = length-append (offset_line offset) body in
      let short = problem_length (scalars_of q) p within in
      let front = offset_length offset (omega (arith, few)) in
      let fits : nat_lt most_bytes (length text) ≡ false = le-ltb most_bytes (length text) (omega (arith, both, short, front)) in
      let last : ℕ = length (lines text) in
      let read = ap (problem_with (λ q r. give (posed q r)) last) (offset_passed offset (omega (arith, few)) 1 body)
      ∙ read_at (scalars_of q) p within posed last 2 in
      rw fits (ap accepted read)

pub solvable : Limits → ClassLimits → (object : Convertible) (bytes : List ℕ) (g : NamedGraph) (p : ParityProblem) (offset : ℕ)
    → reading (OfText (OverGraph (Convert object))) bytes ≡ Ok (of_graph (Convert object) g)
    → IsConversion object g p → IsOffsetOf object g offset
    → reading (OfText (OverProblem Solve)) (conversion_reply (order_for object) offset p).text ≡ Ok (posed (order_for object) p)
solvable limits classes object bytes g p offset e is offset_is =
    let r = graph_read object bytes g e in
    let last : ℕ = length (lines bytes) in
    let text : List Line = lines_from 1 bytes in
    let behind = graph_behind (Converted object) last text r.0 g r.1 in
    let few = (limits (most_vertices (Converted object)) last text behind.0 g behind.1).1 in
    read_text (order_for object) offset p (conversion_within limits classes object g p last text r.0 r.1 is)
    (few_offset object g offset (omega (arith, few, no_more_than (Converted object))) offset_is)
