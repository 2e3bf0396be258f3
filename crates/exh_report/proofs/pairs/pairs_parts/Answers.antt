use Rattle.std.proofs.Common.{◌∷◌, [], List, Vec, Global, Err, map, flat_map, subst, refl}
use Rattle.exh_stream.specs.Output.{Takes}
use Rattle.exh_stream.specs.OutputLemmas.{Takes-none}
use Rattle.exh_page.specs.declared.page.Page.{Page}
use Rattle.exh_format.specs.FileParts.{file_of}
use Rattle.exh_report.specs.ReportLines.{TakesLines, lines_text}
use Rattle.exh_report.specs.PairsText.{first_words, pairs_lines, records_lines, settings_over}
use Rattle.exh_report.proofs.Told.{stops_told, then_told}
use Rattle.exh_report.proofs.pairs.pairs_parts.Goals as goal

pub returns-in_err-tell_first-clause-told : goal.returns-in_err-tell_first-clause-told
returns-in_err-tell_first-clause-told g c =
    let parts = c.args.parts.now in
    let first = first_words (settings_over c.args.other.now parts.header.settings) ∷ [] in
    let told = subst (λ settings. TakesLines g.W.Write.contents c.args.output.now c.tell_first.new.output (first_words settings ∷ []) {T = Unit {0}} (Err c.in_err-tell_first.field-0.0)) c.over.ensures c.in_err-tell_first.ensures.told in
    stops_told g.W.Write.contents (Unit {0}) c.args.output.now c.args.output.now c.tell_first.new.output (pairs_lines c.args.other.now (file_of parts)) [] first (flat_map (flat_map records_lines) (file_of parts).wards)
    c.in_err-tell_first.field-0.0 c.from_residual.result refl (Takes-none g.W.Write.contents c.args.output.now) c.from_residual.ensures told

pub returns-clause-told : goal.returns-clause-told
returns-clause-told g c =
    let parts = c.args.parts.now in
    let first = first_words (settings_over c.args.other.now parts.header.settings) ∷ [] in
    let begun = subst (λ settings. Takes g.W.Write.contents c.args.output.now c.tell_first.new.output (lines_text (first_words settings ∷ []))) c.over.ensures c.in_ok-tell_first.ensures.told in
    let told = subst (λ (wards : List (Vec Page Global)). TakesLines g.W.Write.contents c.tell_first.new.output c.tell_wards.new.output (flat_map (flat_map records_lines) (map (λ ward. ward.items) wards)) c.tell_wards.result)
    c.deref.ensures.value c.tell_wards.ensures.told in
    then_told g.W.Write.contents c.args.output.now c.tell_first.new.output c.tell_wards.new.output first (flat_map (flat_map records_lines) (file_of parts).wards) c.tell_wards.result begun told
