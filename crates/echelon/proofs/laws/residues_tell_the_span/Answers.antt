use Rattle.std.proofs.Common.{sym, subst}
use Rattle.echelon.specs.Residues.{IsResidue}
use Rattle.echelon.proofs.Cosets.{same_residue, congruent_residues, spanned_residue}
use Rattle.echelon.proofs.laws.residues_tell_the_span.Goals as goal

pub returns : goal.returns
returns c = record {
  same = λ S d vs v w a b F V h k r q. (
    (λ e. same_residue S F d vs V v w a h k r (subst (IsResidue S d vs w) (sym e) q)),
    (λ g. congruent_residues S F d vs V v w a b h k g r q),
  );
  spanned = λ S d vs v a F V. spanned_residue S F d vs V v a;
}
