use Rattle.std.proofs.Common.{refl, sym, ap, ◌∙◌, subst}
use Rattle.echelon.specs.Residues.{IsResidue}
use Rattle.field_core.specs.Matrix.{Matrix}
use Rattle.matching_state.specs.LinePlaces.{IsPlace}
use Rattle.matching_state.proofs.Ties.{in_line_vector}
use Rattle.parity_lines.specs.Problems.{IsProblem, vectors_at}
use Rattle.overlap.proofs.candidates.candidate_at.Goals as goal

pub residue-requires : goal.residue-requires
residue-requires g c =
    let S = g.F.Field.scalars in
    let p = c.args.state.now.problem in
    let P = subst (IsProblem S) c.problem.ensures c.len-lines.ensures.problem in
    let place = subst (IsPlace S p c.args.state.now.set c.args.line) c.in-Exposed.is c.in_ok-position.ensures in
    c.as_slice.ensures.len ∙ (in_line_vector S g.met.F.Field.lawful p P c.args.line c.in-Exposed.outer c.requires.line place.1.in_line).length_is
    ∙ sym (ap (λ (m : Matrix). m.width) c.requires.basis)

pub returns : goal.returns
returns g c =
    let S = g.F.Field.scalars in
    let p = c.args.state.now.problem in
    let M = c.args.state.now.set in
    let place = subst (IsPlace S p M c.args.line) c.in-Exposed.is c.in_ok-position.ensures in
    let tip = place.2 in (
      refl,
      record {
        within = c.requires.line;
        exposed = place.0;
        tip = c.in-Exposed.tip;
        coordinates = tip.0;
        is_tip = tip.1;
        is_support = tip.2;
        outer = c.in-Exposed.outer;
        is_outer = place.1;
        is_residue = subst (λ v. IsResidue S p.dimension (vectors_at p M) v c.in_ok-residue-in-Exposed.field-0) c.as_slice.ensures.value
            (rw c.requires.basis at c.in_ok-residue-in-Exposed.ensures);
      },
    )
