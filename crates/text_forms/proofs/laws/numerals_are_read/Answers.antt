use Rattle.text_forms.proofs.Numerals.{number_of-numeral, decimal-numeral, zeros-numeral, numeral-word}
use Rattle.text_forms.proofs.laws.numerals_are_read.Goals as goal

pub returns-clause-read : goal.returns-clause-read
returns-clause-read c = number_of-numeral

pub returns-clause-decimal : goal.returns-clause-decimal
returns-clause-decimal c = decimal-numeral

pub returns-clause-zeros : goal.returns-clause-zeros
returns-clause-zeros c = zeros-numeral

pub returns-clause-word : goal.returns-clause-word
returns-clause-word c = numeral-word
