use Rattle.std.proofs.Common.{ℕ, List, sym, subst}
use Rattle.std.specs.List.{AllByRecursion, flat_map}
use Rattle.exh_prefix.specs.Version.{Fits}
use Rattle.exh_prefix.specs.Layout.{written_version}
use Rattle.exh_prefix.specs.LayoutLemmas.{layout_fits}
use Rattle.exh_prefix.specs.declared.version.TheConstants.{WRITTEN}
use Rattle.exh_keyer.specs.declared.any_keyer.AnyKeyer.{AnyKeyer}
use Rattle.exh_stream.specs.Output.{Takes, TakesBeginning}
use Rattle.exh_stream.specs.OutputLemmas.{OnErr-from, Takes-then, TakesBeginning-of_more, TakesBeginning-then}
use Rattle.exh_format.specs.FileVersion.{written_format}
use Rattle.exh_format.specs.TableImage.{IsFileEntry}
use Rattle.exh_format.specs.PageFile.{header_block, page_block, pages_of}
use Rattle.exh_format.specs.Writing.{TakesEntries, TakesEntriesBeginning, on_its_way}
use Rattle.exh_format.specs.WritingLemmas.{cut_at_end, cut_in_blocks, cut_in_table, whole_file}
use Rattle.exh_ward.specs.WardState.{WardState}
use Rattle.exh_file.specs.Saved.{AreInOrder, entries_of_all, file_with, pages_of_all}
use Rattle.exh_file.proofs.saving.write_parts.Goals as goal

fits : Fits 4 written_version
fits = layout_fits WRITTEN

pub returns-in_err-push-clause-err : goal.returns-in_err-push-clause-err
unfolding header_block
returns-in_err-push-clause-err g c =
    let begun : TakesBeginning g.W.Write.contents c.args.output.now c.push.new.self (header_block written_format c.args.header.now) = subst (TakesBeginning g.W.Write.contents c.args.output.now c.push.new.self) c.to_block.ensures.whole c.in_err-push.ensures.err in
    OnErr-from c.from_residual.result (cut_in_blocks g.W.Write.contents written_format fits (file_with c.args.header.now c.args.wards.now) c.args.output.now c.requires.bare c.push.new.self
    (TakesBeginning-of_more (flat_map page_block (pages_of (pages_of_all c.args.wards.now))) begun))

pub returns-in_err-write_pages-clause-err : goal.returns-in_err-write_pages-clause-err
unfolding header_block
returns-in_err-write_pages-clause-err g c =
    let taken : Takes g.W.Write.contents c.args.output.now c.push.new.self (header_block written_format c.args.header.now) = subst (Takes g.W.Write.contents c.args.output.now c.push.new.self) c.to_block.ensures.whole c.in_ok-push.ensures.ok in
    OnErr-from c.from_residual-in_err-write_pages.result (cut_in_blocks g.W.Write.contents written_format fits (file_with c.args.header.now c.args.wards.now) c.args.output.now c.requires.bare c.write_pages.new.output
    (TakesBeginning-then taken c.in_err-write_pages.ensures.err))

pub write_pages-requires : goal.write_pages-requires
write_pages-requires g c = c.requires.caps

pub returns-clause-entries : goal.returns-clause-entries
returns-clause-entries g c =
    subst (λ (ws : List (WardState AnyKeyer)). AllByRecursion (IsFileEntry written_version) (entries_of_all ws)) c.in_ok-write_pages.ensures.same c.in_ok-write_table.ensures.entries

pub write_table-requires-clause-numbers : goal.write_table-requires-clause-numbers
write_table-requires-clause-numbers g c = subst AreInOrder (sym c.in_ok-write_pages.ensures.same) c.requires.numbers

pub returns-in_err-write_table-clause-err : goal.returns-in_err-write_table-clause-err
unfolding header_block
returns-in_err-write_table-clause-err g c =
    let contents = g.W.Write.contents in
    let taken : Takes contents c.args.output.now c.push.new.self (header_block written_format c.args.header.now) = subst (Takes contents c.args.output.now c.push.new.self) c.to_block.ensures.whole c.in_ok-push.ensures.ok in
    let left = on_its_way c.write_table.new.output c.write_table.new.waiting in
    let begun = subst (λ (ws : List (WardState AnyKeyer)). TakesEntriesBeginning contents written_version (on_its_way c.write_pages.new.output c.new-waiting.result) left (entries_of_all ws)) c.in_ok-write_pages.ensures.same c.in_err-write_table.ensures.err in
    let bare = subst (λ (images : List ℕ). TakesEntriesBeginning contents written_version (record { output = c.write_pages.new.output; images = images }) left (entries_of_all c.args.wards.now)) c.new-waiting.ensures begun in
    OnErr-from c.from_residual-in_err-write_table.result (cut_in_table contents written_format fits (file_with c.args.header.now c.args.wards.now) c.args.output.now c.requires.bare c.write_pages.new.output
    (Takes-then taken c.in_ok-write_pages.ensures.ok) left bare)

pub returns-in_err-finish-clause-err : goal.returns-in_err-finish-clause-err
unfolding header_block
returns-in_err-finish-clause-err g c =
    let contents = g.W.Write.contents in
    let taken : Takes contents c.args.output.now c.push.new.self (header_block written_format c.args.header.now) = subst (Takes contents c.args.output.now c.push.new.self) c.to_block.ensures.whole c.in_ok-push.ensures.ok in
    let last = on_its_way c.write_table.new.output c.write_table.new.waiting in
    let table = subst (λ (ws : List (WardState AnyKeyer)). TakesEntries contents written_version (on_its_way c.write_pages.new.output c.new-waiting.result) last (entries_of_all ws)) c.in_ok-write_pages.ensures.same c.in_ok-write_table.ensures.ok in
    let bare = subst (λ (images : List ℕ). TakesEntries contents written_version (record { output = c.write_pages.new.output; images = images }) last (entries_of_all c.args.wards.now)) c.new-waiting.ensures table in
    OnErr-from c.from_residual-in_err-finish.result (cut_at_end contents written_format fits (file_with c.args.header.now c.args.wards.now) c.args.output.now c.requires.bare c.write_pages.new.output
    (Takes-then taken c.in_ok-write_pages.ensures.ok) last bare c.in_err-finish.ensures.few c.finish.new.output c.in_err-finish.ensures.err)

pub returns-clause-ok : goal.returns-clause-ok
unfolding header_block
returns-clause-ok g c =
    let contents = g.W.Write.contents in
    let taken : Takes contents c.args.output.now c.push.new.self (header_block written_format c.args.header.now) = subst (Takes contents c.args.output.now c.push.new.self) c.to_block.ensures.whole c.in_ok-push.ensures.ok in
    let last = on_its_way c.write_table.new.output c.write_table.new.waiting in
    let table = subst (λ (ws : List (WardState AnyKeyer)). TakesEntries contents written_version (on_its_way c.write_pages.new.output c.new-waiting.result) last (entries_of_all ws)) c.in_ok-write_pages.ensures.same c.in_ok-write_table.ensures.ok in
    let bare = subst (λ (images : List ℕ). TakesEntries contents written_version (record { output = c.write_pages.new.output; images = images }) last (entries_of_all c.args.wards.now)) c.new-waiting.ensures table in
    whole_file contents written_format fits (file_with c.args.header.now c.args.wards.now) c.args.output.now c.requires.bare c.write_pages.new.output
    (Takes-then taken c.in_ok-write_pages.ensures.ok) last bare c.in_ok-finish.ensures.few c.finish.new.output c.in_ok-finish.ensures.ok
