-- How an answer of the code is seen.
use Rattle.parity_lines.specs.declared.answer.Answer.{Answer}
use Rattle.parity_text.specs.Values.{AnswerValue}

-- the set, and the certificate's kernel and parts
abbrev pub answer_value : {X : Type 0} → Answer X → AnswerValue
answer_value answer = record { set = answer.set; kernel = answer.certificate.kernel; parts = answer.certificate.parts }
