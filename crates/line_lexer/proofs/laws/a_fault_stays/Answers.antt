use Rattle.std.proofs.Common.{◌∙◌}
use Rattle.line_lexer.proofs.FaultStays.{same_fault}
use Rattle.line_lexer.proofs.laws.a_fault_stays.Goals as goal

pub returns : goal.returns
returns c first second third fourth fault answer h between again =
    same_fault third fourth fault h.0 answer (between.ahead ∙ h.3.ahead ∙ h.1) h.2 again
