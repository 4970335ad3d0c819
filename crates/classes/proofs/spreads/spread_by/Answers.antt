use Rattle.std.proofs.Common.{◌≡◌, ◌-◌, [], ◌∷◌, ◌++◌, List, ℕ, length, map, take, ◌*◌}
use Rattle.field_core.proofs.Values.{vector_of_values}
use Rattle.linear_algebra.specs.Spans.{Combines}
use Rattle.classes.proofs.SpreadTies.{all_but_last, close_by, coordinates_long, last_is, long_but_last, stray_by, wide_by}
use Rattle.parity_lines.specs.Problems.{vectors_at}
use Rattle.classes.proofs.spreads.spread_by.Given.{Over}
use Rattle.classes.proofs.spreads.spread_by.Goals as goal
use Rattle.classes.proofs.spreads.spread_by.Goals.{After-as_slice-entries}

-- the coefficients combine the set's vectors and o to v
told : (g : Over) (c : After-as_slice-entries g) → Combines g.F.Field.scalars c.args.state.now.problem.dimension
    (vectors_at c.args.state.now.problem c.args.state.now.set ++ map g.F.Field.number c.args.o.now ∷ []) c.in-Some.coefficients
    (map g.F.Field.number c.args.v.now)
told g c = rw (c.requires.basis, c.in-Some.is) at c.in_ok-coefficients.ensures

long : (g : Over) (c : After-as_slice-entries g) →
    length (take (length c.as_slice-entries.result.now - 1) c.as_slice-entries.result.now) ≡ 2 * length c.set-set.result.now
long g c =
    let p = c.args.state.now.problem in
    let M = c.args.state.now.set in
    let f = g.F.Field.number in
    rw c.set-set.ensures.value (long_but_last f c.as_slice-entries.result.now M c.in-Some.coefficients
    (coordinates_long g.F.Field.scalars p M (map f c.args.o.now) (map f c.args.v.now) c.in-Some.coefficients
    (told g c)) c.as_slice-entries.ensures.value)

pub first_stray-requires-clause-long : goal.first_stray-requires-clause-long
first_stray-requires-clause-long g c = long g (goal.at.first_stray-requires-clause-long g c).After-as_slice-entries

pub part_of-requires-clause-long : goal.part_of-requires-clause-long
part_of-requires-clause-long g c = long g (goal.at.part_of-requires-clause-long g c).After-as_slice-entries

-- outside the span it shows that the set is wide
pub returns-in_default : goal.returns-in_default
returns-in_default g c L =
    let S = g.F.Field.scalars in
    let f = g.F.Field.number in
    let p = c.args.state.now.problem in
    let M = c.args.state.now.set in
    let o : List ℕ = map f c.args.o.now in
    let v : List ℕ = map f c.args.v.now in
    let P = rw c.problem-problem.ensures at c.len-lines.ensures.problem in
    wide_by S L p P M c.set-set.ensures.independent c.args.labels.now c.args.label o
    (vector_of_values S f g.met.F.Field.is_scalar c.args.o.now p.dimension c.requires.o_long) c.requires.missed v
    (vector_of_values S f g.met.F.Field.is_scalar c.args.v.now p.dimension c.requires.v_long)
    (rw (c.requires.basis, c.in_default.is) at c.in_ok-coefficients.ensures)

-- with no component at a line of another label it is close
pub returns-in_default-first_stray : goal.returns-in_default-first_stray
returns-in_default-first_stray g c L =
    let S = g.F.Field.scalars in
    let f = g.F.Field.number in
    let p = c.args.state.now.problem in
    let M = c.args.state.now.set in
    let o : List ℕ = map f c.args.o.now in
    let v : List ℕ = map f c.args.v.now in
    let cs = c.in-Some.coefficients in
    let t = told g (goal.at.returns-in_default-first_stray g c).After-as_slice-entries in
    let P = rw c.problem-problem.ensures at c.len-lines.ensures.problem in
    let q = all_but_last f c.as_slice-entries.result.now M cs (coordinates_long S p M o v cs t) c.as_slice-entries.ensures.value in
    close_by S L p P M c.set-set.ensures.independent c.args.labels.now c.args.label o
    (vector_of_values S f g.met.F.Field.is_scalar c.args.o.now p.dimension c.requires.o_long) c.requires.missed v
    (vector_of_values S f g.met.F.Field.is_scalar c.args.v.now p.dimension c.requires.v_long) cs t
    c.set-set.result.now _ c.set-set.ensures.value q c.in_default-first_stray.ensures

-- with one there is a vector that strays
pub returns : goal.returns
returns g c L H co cv =
    let S = g.F.Field.scalars in
    let f = g.F.Field.number in
    let p = c.args.state.now.problem in
    let M = c.args.state.now.set in
    let labels = c.args.labels.now in
    let o : List ℕ = map f c.args.o.now in
    let v : List ℕ = map f c.args.v.now in
    let cs = c.in-Some.coefficients in
    let xs = c.as_slice-entries.result.now in
    let n = f c.neg.result in
    let t = told g (goal.at.returns g c).After-as_slice-entries in
    let P = rw c.problem-problem.ensures at c.len-lines.ensures.problem in
    let long = coordinates_long S p M o v cs t in
    stray_by S L p P M c.set-set.ensures.independent labels c.args.label o
    (vector_of_values S f g.met.F.Field.is_scalar c.args.o.now p.dimension c.requires.o_long) c.requires.missed v
    (vector_of_values S f g.met.F.Field.is_scalar c.args.v.now p.dimension c.requires.v_long) cs t c.problem-problem.result.now c.set-set.result.now
    (map f (take (length xs - 1) xs)) c.problem-problem.ensures c.set-set.ensures.value
    (all_but_last f xs M cs long c.as_slice-entries.ensures.value)
    c.in-Some-first_stray.line c.in-Some-first_stray.ensures.0 c.in-Some-first_stray.ensures.1 (f c.index-entries-last.result) n
    (last_is f xs M cs long c.as_slice-entries.ensures.value c.index-entries-last.result c.index-entries-last.is)
    (g.met.F.Field.is_scalar c.neg.result)
    c.neg.ensures c.in_ok-part.part c.add_multiple.new.self (c.in_ok-part.ensures L)
    (rw c.in_ok-vector.ensures at c.add_multiple.ensures) H co cv
