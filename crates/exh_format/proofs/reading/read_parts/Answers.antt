use Rattle.std.proofs.Common.{◌≡◌, ◌+◌, ◌^◌, ◌<◌, ◌≤◌, ℕ, ◌*◌, Fits, w64, length, take, sym, ap, ◌∙◌, subst, arith}
use Rattle.std.specs.List.{sum}
use Rattle.exh_keyer.specs.Pseudokey.{any_pseudokey}
use Rattle.exh_prefix.specs.declared.prefix.TheConstants.{LIMIT}
use Rattle.exh_prefix.specs.Layout.{layout}
use Rattle.exh_format.specs.declared.file_fault.FileFault.TheVariants.{Trailing}
use Rattle.exh_format.specs.FileVersionLemmas.{known_file_fits}
use Rattle.exh_format.specs.FileVersion.{file_version, format_of}
use Rattle.exh_format.specs.FileParts.{pages_read}
use Rattle.exh_format.specs.FileTests.{HeaderFails, IsFault, NextFails}
use Rattle.exh_format.specs.Reading.{FailsInPages, FailsInTable, IsOf}
use Rattle.exh_format.specs.HeaderLemmas.{all_counted}
use Rattle.exh_format.proofs.Files.{Headed, all_pages, fault_of_end, fault_of_header, fault_of_pages, fault_of_table, fault_as_said, few_entries, few_pages, file_as_said, file_from}
use Rattle.exh_format.proofs.Pages.{err_is, failed_so, not_failed, of_later}
use Rattle.exh_format.proofs.reading.read_parts.Goals as goal

pub returns-in_err-version-clause-fault : goal.returns-in_err-version-clause-fault
returns-in_err-version-clause-fault g c =
    let known = g.R.Read.remaining c.args.blocks.now.source.reader.now in
    let fault = c.in_err-version.field-0.0 in
    err_is c.from_residual.result fault (IsOf IsFault known) c.from_residual.ensures.1
    (of_later (NextFails (λ block. HeaderFails (format_of block) block)) IsFault known known fault (λ fault. fault_of_header known fault) c.in_err-version.ensures.err)

pub read_wards-requires-clause-place : goal.read_wards-requires-clause-place
read_wards-requires-clause-place g c =
    let header = c.in_ok-version.header in
    let image = c.in_ok-version.ensures.ok.2 in
    let few : sum (take c.wards_of.result header.page_counts) ≤ 16 * 2 ^ LIMIT = subst (λ (n : ℕ). sum (take n header.page_counts) ≤ 16 * 2 ^ LIMIT) (sym c.wards_of.ensures.power) (few_pages c.in_ok-version.version header image.valid) in
    omega (arith, few, c.in_ok-version.ensures.place, c.requires.place)

pub returns-in_err-wards-clause-failed : goal.returns-in_err-wards-clause-failed
returns-in_err-wards-clause-failed g c = failed_so c.from_residual-in_err-wards.result c.in_err-wards.field-0.0 _ c.from_residual-in_err-wards.ensures.1 c.in_err-wards.ensures.failed

pub returns-in_err-wards-clause-fault : goal.returns-in_err-wards-clause-fault
returns-in_err-wards-clause-fault g c =
    let known = g.R.Read.remaining c.args.blocks.now.source.reader.now in
    let later = g.R.Read.remaining c.read_header.new.self.source.reader.now in
    let fault = c.in_err-wards.field-0.0 in
    let header = c.in_ok-version.header in
    let read = c.in_ok-version.ensures.ok in
    let pseudo = any_pseudokey header.settings.keyer in
    let headed : Headed (file_version c.in_ok-version.version) known later header read.0 = record { given = read.1; image = read.2; is = read.3 } in
    let count = sum (take c.wards_of.result header.page_counts) in
    let all : count ≡ sum header.page_counts = ap (λ (n : ℕ). sum (take n header.page_counts)) c.wards_of.ensures.power ∙ all_counted (file_version c.in_ok-version.version) header read.2.valid in
    let place : c.read_header.new.self.place ≡ 1 = omega (arith, c.in_ok-version.ensures.place, c.requires.place) in
    err_is c.from_residual-in_err-wards.result fault (IsOf IsFault known) c.from_residual-in_err-wards.ensures.1
    (of_later (FailsInPages (layout c.in_ok-version.version) pseudo 1 count) IsFault known later fault
    (λ fault fails. fault_as_said c.in_ok-version.version known later header read.0 fault headed (fault_of_pages (file_version c.in_ok-version.version) (known_file_fits c.in_ok-version.version) c.images_pass.ensures c.images_are_blocks.ensures c.images_pass-2.ensures.tables c.images_are_blocks-2.ensures.tables known later header read.0 count fault headed all fails))
    (subst (λ (place : ℕ). IsOf (FailsInPages (layout c.in_ok-version.version) pseudo place count) later fault) place c.in_err-wards.ensures.err))

few_as_word : {count : ℕ} → count < 2 ^ LIMIT → count < 2 ^ 32
few_as_word few = omega (arith, few)

fits_word : {count : ℕ} → count < 2 ^ LIMIT → Fits w64 count
fits_word few = omega (arith, few)

pub read_table-requires-clause-few : goal.read_table-requires-clause-few
read_table-requires-clause-few g c = few_as_word (few_entries c.in_ok-version.version c.in_ok-version.header c.in_ok-version.ensures.ok.2.valid)

pub overflow_cast-header : goal.overflow_cast-header
overflow_cast-header g c = fits_word (few_entries c.in_ok-version.version c.in_ok-version.header c.in_ok-version.ensures.ok.2.valid)

pub returns-clause-failed : goal.returns-clause-failed
returns-clause-failed g c = not_failed c.in_ok-read_end.field-0 _ _ c.in_ok-read_end.ensures.failed.1

pub read_table-requires-clause-place : goal.read_table-requires-clause-place
read_table-requires-clause-place g c =
    let header = c.in_ok-version.header in
    let image = c.in_ok-version.ensures.ok.2 in
    let few : sum (take c.wards_of.result header.page_counts) ≤ 16 * 2 ^ LIMIT = subst (λ (n : ℕ). sum (take n header.page_counts) ≤ 16 * 2 ^ LIMIT) (sym c.wards_of.ensures.power) (few_pages c.in_ok-version.version header image.valid) in
    omega (arith, few, few_entries c.in_ok-version.version header image.valid, c.in_ok-wards.ensures.place, c.in_ok-version.ensures.place, c.requires.place)

pub returns-in_err-entries-clause-failed : goal.returns-in_err-entries-clause-failed
returns-in_err-entries-clause-failed g c = failed_so c.from_residual-in_err-entries.result c.in_err-entries.field-0.0 _ c.from_residual-in_err-entries.ensures.1 c.in_err-entries.ensures.failed

pub returns-in_err-entries-clause-fault : goal.returns-in_err-entries-clause-fault
returns-in_err-entries-clause-fault g c =
    let known = g.R.Read.remaining c.args.blocks.now.source.reader.now in
    let mid = g.R.Read.remaining c.read_header.new.self.source.reader.now in
    let later = g.R.Read.remaining c.read_wards.new.blocks.source.reader.now in
    let fault = c.in_err-entries.field-0.0 in
    let header = c.in_ok-version.header in
    let read = c.in_ok-version.ensures.ok in
    let headed : Headed (file_version c.in_ok-version.version) known mid header read.0 = record { given = read.1; image = read.2; is = read.3 } in
    let wards = c.in_ok-wards.wards.items in
    let all : sum (take c.wards_of.result header.page_counts) ≡ sum header.page_counts = ap (λ (n : ℕ). sum (take n header.page_counts)) c.wards_of.ensures.power ∙ all_counted (file_version c.in_ok-version.version) header read.2.valid in
    let pages : length (pages_read g.W.PageList.pages wards) ≡ sum header.page_counts = all_pages g.W.PageList.pages wards ∙ ap sum c.in_ok-wards.ensures.counts ∙ all in
    let place : c.read_wards.new.blocks.place ≡ 1 + sum header.page_counts = omega (arith, c.in_ok-wards.ensures.place, c.in_ok-version.ensures.place, c.requires.place, all) in
    err_is c.from_residual-in_err-entries.result fault (IsOf IsFault known) c.from_residual-in_err-entries.ensures.1
    (of_later (FailsInTable (layout c.in_ok-version.version) c.read_wards.new.blocks.place header.entry_count) IsFault known later fault
    (λ fault fails. fault_as_said c.in_ok-version.version known mid header read.0 fault headed (fault_of_table (file_version c.in_ok-version.version) (known_file_fits c.in_ok-version.version) c.images_pass.ensures c.images_are_blocks.ensures c.images_pass-2.ensures.tables c.images_are_blocks-2.ensures.tables known mid later header read.0 (pages_read g.W.PageList.pages wards) c.read_wards.new.blocks.place header.entry_count fault headed c.in_ok-wards.ensures.given pages place (λ i. header.entry_count) fails))
    c.in_err-entries.ensures.err)

pub returns-in_err-read_end-clause-failed : goal.returns-in_err-read_end-clause-failed
returns-in_err-read_end-clause-failed g c = failed_so c.from_residual-in_err-read_end.result c.in_err-read_end.field-0.0 _ c.from_residual-in_err-read_end.ensures.1 c.in_err-read_end.ensures.failed

pub returns-in_err-read_end-clause-fault : goal.returns-in_err-read_end-clause-fault
returns-in_err-read_end-clause-fault g c =
    let known = g.R.Read.remaining c.args.blocks.now.source.reader.now in
    let mid = g.R.Read.remaining c.read_header.new.self.source.reader.now in
    let late = g.R.Read.remaining c.read_wards.new.blocks.source.reader.now in
    let last = g.R.Read.remaining c.read_table.new.blocks.source.reader.now in
    let fault = c.in_err-read_end.field-0.0 in
    let header = c.in_ok-version.header in
    let read = c.in_ok-version.ensures.ok in
    let headed : Headed (file_version c.in_ok-version.version) known mid header read.0 = record { given = read.1; image = read.2; is = read.3 } in
    let wards = c.in_ok-wards.wards.items in
    let all : sum (take c.wards_of.result header.page_counts) ≡ sum header.page_counts = ap (λ (n : ℕ). sum (take n header.page_counts)) c.wards_of.ensures.power ∙ all_counted (file_version c.in_ok-version.version) header read.2.valid in
    let pages : length (pages_read g.W.PageList.pages wards) ≡ sum header.page_counts = all_pages g.W.PageList.pages wards ∙ ap sum c.in_ok-wards.ensures.counts ∙ all in
    err_is c.from_residual-in_err-read_end.result fault (IsOf IsFault known) c.from_residual-in_err-read_end.ensures.1
    (of_later (λ bytes fault. (0 < length bytes) × (fault ≡ Trailing)) IsFault known last fault
    (λ fault fails. fault_as_said c.in_ok-version.version known mid header read.0 fault headed (fault_of_end (file_version c.in_ok-version.version) (known_file_fits c.in_ok-version.version) c.images_pass.ensures c.images_are_blocks.ensures c.images_pass-2.ensures.tables c.images_are_blocks-2.ensures.tables known mid late last header read.0 (pages_read g.W.PageList.pages wards) c.in_ok-entries.entries.items fault headed c.in_ok-wards.ensures.given c.in_ok-entries.ensures.given pages c.in_ok-entries.ensures.count fails))
    c.in_err-read_end.ensures.err)

pub returns-clause-parts : goal.returns-clause-parts
returns-clause-parts g c =
    let known = g.R.Read.remaining c.args.blocks.now.source.reader.now in
    let mid = g.R.Read.remaining c.read_header.new.self.source.reader.now in
    let late = g.R.Read.remaining c.read_wards.new.blocks.source.reader.now in
    let last = g.R.Read.remaining c.read_table.new.blocks.source.reader.now in
    let header = c.in_ok-version.header in
    let read = c.in_ok-version.ensures.ok in
    let headed : Headed (file_version c.in_ok-version.version) known mid header read.0 = record { given = read.1; image = read.2; is = read.3 } in
    let wards = c.in_ok-wards.wards.items in
    let counts = c.in_ok-wards.ensures.counts ∙ ap (λ (n : ℕ). take n header.page_counts) c.wards_of.ensures.power in
    file_as_said c.in_ok-version.version known _ (file_from g.W.PageList.pages (file_version c.in_ok-version.version) known mid late last header read.0 wards c.in_ok-entries.entries.items headed c.in_ok-wards.ensures.given c.in_ok-entries.ensures.given counts c.in_ok-entries.ensures.count c.in_ok-read_end.ensures.ok)
