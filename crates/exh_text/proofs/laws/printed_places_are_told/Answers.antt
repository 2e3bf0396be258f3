use Rattle.exh_text.specs.TextLemmas.{place_told, place_word}
use Rattle.exh_text.proofs.laws.printed_places_are_told.Goals as goal

pub returns-clause-word : goal.returns-clause-word
returns-clause-word c = place_word

pub returns-clause-told : goal.returns-clause-told
returns-clause-told c = place_told
