use Rattle.exh_text.specs.TextLemmas.{number_again, number_alone, number_word}
use Rattle.exh_text.proofs.laws.numbers_are_decimal.Goals as goal

pub returns-clause-printed : goal.returns-clause-printed
returns-clause-printed c = number_again

pub returns-clause-alone : goal.returns-clause-alone
returns-clause-alone c = number_alone

pub returns-clause-word : goal.returns-clause-word
returns-clause-word c = number_word
