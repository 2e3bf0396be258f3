use Rattle.std.proofs.Common.{[], ◌∷◌, ◌++◌, codes, decimal, ap, ◌∙◌}
use Rattle.exh_keyer.specs.Pseudokey.{keyer_word}
use Rattle.exh_report.proofs.Behind.{settings_line}
use Rattle.exh_report.proofs.file_lines.push_first.Goals as goal

pub returns : goal.returns
returns c =
    let settings = c.args.settings.now in
    settings_line c.push_text-5.result c.args.out.now.items c.push_text.new.out.items c.push_number.new.out.items c.push_text-2.new.out.items c.push_number-2.new.out.items c.push_text-3.new.out.items c.push_text-4.new.out.items c.push_text-5.new.out.items
    (codes "file cap=") (decimal settings.cap) (codes " wards=") (decimal settings.ward_bits) (codes " copies=1 keyer=") (keyer_word settings.keyer) (10 ∷ [])
    c.in_ok-push_text.ensures.ok (c.in_ok-push_number.ensures.ok ∙ ap (λ n. c.push_text.new.out.items ++ decimal n) c.from.ensures) c.in_ok-push_text-2.ensures.ok
    (c.in_ok-push_number-2.ensures.ok ∙ ap (λ n. c.push_text-2.new.out.items ++ decimal n) c.from-2.ensures) c.in_ok-push_text-3.ensures.ok
    (c.in_ok-push_text-4.ensures.ok ∙ ap (λ word. c.push_text-3.new.out.items ++ word) c.word.ensures) c.push_text-5.ensures.ok
