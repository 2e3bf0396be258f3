use Rattle.std.proofs.Common.{◌∙◌, ◌++◌, ap, sym}
use Rattle.std.specs.Option.{option_copied}
use Rattle.exh_text.specs.Texts.{place_text}
use Rattle.exh_text.proofs.PartLemmas.{three_parts}
use Rattle.exh_text.proofs.texts.put_place.Goals as goal

pub returns-in-None : goal.returns-in-None
returns-in-None c = c.put-in-None.ensures ∙ ap (λ word. c.args.note.now.items ++ place_text (option_copied word)) (sym c.in-None.is)

pub returns-in-Some : goal.returns-in-Some
returns-in-Some c =
    three_parts c.args.note.now.items _ _ _ _ _ _ c.put.ensures c.put_word.ensures.text c.put-in-Some.ensures
    ∙ ap (λ word. c.args.note.now.items ++ place_text (option_copied word)) (sym c.in-Some.is)
