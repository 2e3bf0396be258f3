use Rattle.std.proofs.Common.{◌≡◌, ℕ, ◌^◌, ◌≤◌, OnOk, OnErr, sym, subst, arith}
use Rattle.std.proofs.Math.Nat.{pow-le-pow_right}
use Rattle.std.specs.Io.KnownBytes.{Appends}
use Rattle.exh_prefix.specs.declared.prefix.TheConstants.{WARD_BITS_LIMIT}
use Rattle.exh_page.specs.declared.page.TheConstants.{CAP_LIMIT}
use Rattle.exh_format.specs.declared.header.TheConstants.{COUNTS_LEN}
use Rattle.exh_stream.specs.Output.{AppendsBeginning, held}
use Rattle.exh_format.specs.FileVersion.{written_format}
use Rattle.exh_format.specs.HeaderImage.{IsHeader}
use Rattle.exh_format.specs.declared.header.Header.{Header}
use Rattle.exh_format.specs.PageFile.{file_bytes}
use Rattle.exh_file.specs.Opened.{in_file}
use Rattle.exh_file.specs.Saved.{file_with}
use Rattle.exh_file.proofs.Again.{is_again}
use Rattle.exh_file.proofs.Legal.{are_short, is_header}
use Rattle.exh_file.proofs.Reopened.{both_ok, is_kept}
use Rattle.exh_file.proofs.saving.write_wards.Goals as goal

pub write_parts-requires-clause-header : goal.write_parts-requires-clause-header
write_parts-requires-clause-header g c =
    subst (IsHeader written_format) (sym c.header_of-header.ensures.header)
    (is_header (in_file c.args.settings c.args.wards.now) c.requires.wards c.header_of-header.ensures.sound c.fitting_tables_begin_wards.ensures c.pages_are_few.ensures c.legal_tables_have_room.ensures)

few_wards : {count bits : ℕ} → count ≡ 2 ^ bits → bits ≤ WARD_BITS_LIMIT → count ≤ COUNTS_LEN
few_wards is few = omega (arith, is, pow-le-pow_right {n = 2} (omega arith) few)

pub write_parts-requires-clause-few : goal.write_parts-requires-clause-few
write_parts-requires-clause-few g c = few_wards c.requires.wards.count c.requires.wards.bits

pub write_parts-requires-clause-numbers : goal.write_parts-requires-clause-numbers
write_parts-requires-clause-numbers g c number ward there = (c.requires.wards.each number ward there).number_is

pub write_parts-requires-clause-caps : goal.write_parts-requires-clause-caps
write_parts-requires-clause-caps g c number ward there = subst (λ (cap : ℕ). cap ≤ CAP_LIMIT) (sym (c.requires.wards.each number ward there).cap) c.requires.wards.most

pub write_parts-requires-clause-short : goal.write_parts-requires-clause-short
write_parts-requires-clause-short g c =
    are_short (in_file c.args.settings c.args.wards.now) c.requires.wards c.header_of-header.ensures.sound c.fitting_tables_begin_wards.ensures

pub returns-clause-ok : goal.returns-clause-ok
returns-clause-ok g c =
    subst (λ (header : Header). OnOk c.write_parts.result (Appends (held g.W.Write.contents c.args.output.now) (held g.W.Write.contents c.write_parts.new.output) (file_bytes written_format (file_with header c.args.wards.now))))
    c.header_of-header.ensures.header c.write_parts.ensures.ok

pub returns-clause-err : goal.returns-clause-err
returns-clause-err g c =
    subst (λ (header : Header). OnErr c.write_parts.result (AppendsBeginning (held g.W.Write.contents c.args.output.now) (held g.W.Write.contents c.write_parts.new.output) (file_bytes written_format (file_with header c.args.wards.now))))
    c.header_of-header.ensures.header c.write_parts.ensures.err

pub returns-clause-opens : goal.returns-clause-opens
returns-clause-opens g c =
    let opened = in_file c.args.settings c.args.wards.now in
    both_ok
    (λ ranges valid. is_kept opened c.requires.wards c.header_of-header.ensures.sound c.fitting_tables_begin_wards.ensures c.legal_files_pass.ensures c.pages_are_few.ensures c.legal_tables_have_room.ensures ranges valid c.one_legal_file.ensures)
    c.write_parts.result c.write_parts.ensures.pages c.write_parts.ensures.entries

pub returns-clause-again : goal.returns-clause-again
returns-clause-again g c = is_again (in_file c.args.settings c.args.wards.now) c.requires.wards c.header_of-header.ensures.sound c.fitting_tables_begin_wards.ensures c.placed_files_say_files.ensures c.images_are_blocks.ensures.headers c.same_blocks.ensures
