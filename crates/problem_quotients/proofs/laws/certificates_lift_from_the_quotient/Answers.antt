use Rattle.problem_quotients.proofs.CertificatesModulo.{bound-above, certificate_above, good_answer_above}
use Rattle.problem_quotients.proofs.laws.certificates_lift_from_the_quotient.Goals as goal

pub returns-clause-certificate : goal.returns-clause-certificate
returns-clause-certificate c = λ S point i p q kernel parts F P g a. certificate_above S F point i p q P g kernel parts a

pub returns-clause-bound : goal.returns-clause-bound
returns-clause-bound c = λ S point i p q kernel parts F P g a. bound-above S F point i p q P g kernel parts a

pub returns-clause-good_answer : goal.returns-clause-good_answer
returns-clause-good_answer c = λ S point i p q N M kernel parts F P g a j e. good_answer_above S F point i p q P g N M kernel parts a j e
