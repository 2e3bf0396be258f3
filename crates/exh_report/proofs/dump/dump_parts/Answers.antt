use Rattle.std.proofs.Common.{◌∷◌, ◌++◌, ◌<◌, ◌≤◌, ◌^◌, [], List, Vec, Global, All, Err, length, map, flat_map, subst, sym, refl}
use Rattle.exh_page.specs.declared.page.Page.{Page}
use Rattle.std.specs.List.{enumerate_from}
use Rattle.exh_stream.specs.Output.{Takes}
use Rattle.exh_stream.specs.OutputLemmas.{Takes-none}
use Rattle.exh_format.specs.FileParts.{file_of}
use Rattle.exh_report.specs.Dump.{dump_lines, file_words, item_words, ward_lines}
use Rattle.exh_report.specs.ReportLines.{TakesLines, lines_text}
use Rattle.exh_report.proofs.Sizes.{few_wards, small_wards}
use Rattle.exh_report.proofs.Told.{stops_told, takes_both, then_told}
use Rattle.exh_report.proofs.dump.dump_parts.Goals as goal

pub dump_wards-requires-clause-pages : goal.dump_wards-requires-clause-pages
dump_wards-requires-clause-pages g c = subst (λ (wards : List (Vec Page Global)). All (λ ward. length ward.items < 2 ^ 32) wards) (sym c.deref.ensures.value) (small_wards c.args.parts.now c.requires.file)

pub dump_wards-requires-clause-wards : goal.dump_wards-requires-clause-wards
dump_wards-requires-clause-wards g c = subst (λ (wards : List (Vec Page Global)). length wards ≤ 16) (sym c.deref.ensures.value) (few_wards c.args.parts.now c.requires.file)

pub returns-in_err-dump_settings-clause-told : goal.returns-in_err-dump_settings-clause-told
returns-in_err-dump_settings-clause-told g c =
    let parts = c.args.parts.now in
    stops_told g.W.Write.contents (Unit {0}) c.args.output.now c.args.output.now c.dump_settings.new.output (dump_lines (file_of parts)) []
    (file_words parts.header ∷ []) (flat_map ward_lines (enumerate_from 0 (file_of parts).wards) ++ map item_words parts.entries.items) c.in_err-dump_settings.field-0.0 c.from_residual.result
    refl (Takes-none g.W.Write.contents c.args.output.now) c.from_residual.ensures c.in_err-dump_settings.ensures.told

pub returns-in_err-dump_wards-clause-told : goal.returns-in_err-dump_wards-clause-told
returns-in_err-dump_wards-clause-told g c =
    let parts = c.args.parts.now in
    let wards = flat_map ward_lines (enumerate_from 0 (file_of parts).wards) in
    let told = subst (λ wards. TakesLines g.W.Write.contents c.dump_settings.new.output c.dump_wards.new.output (flat_map ward_lines (enumerate_from 0 (map (λ ward. ward.items) wards))) {T = Unit {0}} (Err c.in_err-dump_wards.field-0.0))
    c.deref.ensures.value c.in_err-dump_wards.ensures.told in
    stops_told g.W.Write.contents (Unit {0}) c.args.output.now c.dump_settings.new.output c.dump_wards.new.output (dump_lines (file_of parts)) (file_words parts.header ∷ []) wards (map item_words parts.entries.items)
    c.in_err-dump_wards.field-0.0 c.from_residual-in_err-dump_wards.result refl c.in_ok-dump_settings.ensures.told c.from_residual-in_err-dump_wards.ensures told

pub returns-clause-told : goal.returns-clause-told
returns-clause-told g c =
    let parts = c.args.parts.now in
    let wards = flat_map ward_lines (enumerate_from 0 (file_of parts).wards) in
    let settings = file_words parts.header ∷ [] in
    let wards_told = subst (λ wards. Takes g.W.Write.contents c.dump_settings.new.output c.dump_wards.new.output (lines_text (flat_map ward_lines (enumerate_from 0 (map (λ ward. ward.items) wards)))))
    c.deref.ensures.value c.in_ok-dump_wards.ensures.told in
    let entries_told = subst (λ entries. TakesLines g.W.Write.contents c.dump_wards.new.output c.dump_entries.new.output (map item_words entries) c.dump_entries.result) c.deref-2.ensures.value c.dump_entries.ensures.told in
    let both = takes_both g.W.Write.contents c.args.output.now c.dump_settings.new.output c.dump_wards.new.output settings wards c.in_ok-dump_settings.ensures.told wards_told in
    then_told g.W.Write.contents c.args.output.now c.dump_wards.new.output c.dump_entries.new.output (settings ++ wards) (map item_words parts.entries.items) c.dump_entries.result both entries_told
