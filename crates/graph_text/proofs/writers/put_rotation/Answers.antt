use Rattle.std.proofs.Common.{◌++◌, ◌<◌, ◌≤◌, [], map, ap, ◌∙◌, length, arith}
use Rattle.std.specs.List.{zip}
use Rattle.line_lexer.specs.Words.{line_text}
use Rattle.graph_text.specs.Spelled.{at_words}
use Rattle.graph_text.proofs.Pieces.{at_lines, vertex_piece}
use Rattle.text_forms.proofs.Pieces.{each_goes_on, each_is_done, each_stops, refused, spelled_is}
use Rattle.graph_text.proofs.writers.put_rotation.Goals as goal

pub returns-in_err-put_darts_at : goal.returns-in_err-put_darts_at
returns-in_err-put_darts_at c =
    let names = c.args.graph.now.names in
    let lists = c.args.rotation.now.lists in
    let ls = map at_words (zip names lists) in
    let within : c.loop-vertex.vertex < length names = omega (arith, c.loop-vertex-test.true, c.vertices-vertex-end.ensures.value) in
    let lt : c.loop-vertex.vertex < length ls = omega (arith, within, at_lines names lists c.requires) in
    let at = vertex_piece names lists c.loop-vertex.vertex c.name.result.now c.darts.result.now within c.requires c.name.ensures
    c.darts.ensures.value in
    refused c.from_residual.result c.args.out.now.items _ _ _ (spelled_is ls) c.from_residual.ensures.0
    (each_stops line_text ls c.loop-vertex.vertex [] _ _ _ _ lt at c.loop-vertex.invariant c.in_err-put_darts_at.ensures)

pub loop-vertex-preserved : goal.loop-vertex-preserved
loop-vertex-preserved c =
    let names = c.args.graph.now.names in
    let lists = c.args.rotation.now.lists in
    let ls = map at_words (zip names lists) in
    let within : c.loop-vertex.vertex < length names = omega (arith, c.loop-vertex-test.true, c.vertices-vertex-end.ensures.value) in
    let lt : c.loop-vertex.vertex < length ls = omega (arith, within, at_lines names lists c.requires) in
    let at = vertex_piece names lists c.loop-vertex.vertex c.name.result.now c.darts.result.now within c.requires c.name.ensures
    c.darts.ensures.value in
    each_goes_on line_text ls c.loop-vertex.vertex [] _ _ _ _ lt at c.loop-vertex.invariant c.in_ok-put_darts_at.ensures

pub returns : goal.returns
returns c =
    let names = c.args.graph.now.names in
    let lists = c.args.rotation.now.lists in
    let ls = map at_words (zip names lists) in
    let all : length names ≤ c.loop-vertex.vertex = omega (arith, c.loop-vertex-test.false, c.vertices-vertex-end.ensures.value) in
    let done : length ls ≤ c.loop-vertex.vertex = omega (arith, all, at_lines names lists c.requires) in
    each_is_done line_text ls c.loop-vertex.vertex _ _ done c.loop-vertex.invariant ∙ ap (λ t. c.args.out.now.items ++ t) (spelled_is ls)
