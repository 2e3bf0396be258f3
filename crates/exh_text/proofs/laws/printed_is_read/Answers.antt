use Rattle.std.proofs.lemmas.List.Elements.{recursion_from_All}
use Rattle.exh_text.specs.TextLemmas.{printed_again, printed_word}
use Rattle.exh_text.proofs.laws.printed_is_read.Goals as goal

pub returns-clause-bytes : goal.returns-clause-bytes
returns-clause-bytes c bytes all = printed_again bytes (recursion_from_All _ bytes all)

pub returns-clause-word : goal.returns-clause-word
returns-clause-word c bytes all = printed_word bytes (recursion_from_All _ bytes all)
