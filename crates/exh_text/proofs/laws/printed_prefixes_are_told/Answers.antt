use Rattle.exh_text.specs.TextLemmas.{prefix_told, prefix_word}
use Rattle.exh_text.proofs.laws.printed_prefixes_are_told.Goals as goal

pub returns-clause-word : goal.returns-clause-word
returns-clause-word c = prefix_word

pub returns-clause-told : goal.returns-clause-told
returns-clause-told c = prefix_told
