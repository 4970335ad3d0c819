use Rattle.classes.proofs.FittingSets.{classes_or_on, fits_or_on}
use Rattle.classes.proofs.laws.akin_lines_form_classes.Goals as goal

pub returns-clause-classes : goal.returns-clause-classes
returns-clause-classes c = λ S F f t P k h. classes_or_on S F f t (record { problem = P; family = k; turn = h })

pub returns-clause-fits : goal.returns-clause-fits
returns-clause-fits c = λ S F f t M P k h exact q. fits_or_on S F f t (record { problem = P; family = k; turn = h }) exact M q
