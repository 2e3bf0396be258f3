use Rattle.std.proofs.Common.{◌≡◌, ◌<◌, length, refl, arith}
use Rattle.exh_keyer.specs.Pseudokey.{any_pseudokey}
use Rattle.exh_format.specs.declared.file_fault.FileFault.TheVariants.{Trailing}
use Rattle.exh_format.specs.FileParts.{TakesFormed}
use Rattle.exh_format.specs.FileTests.{NextFails}
use Rattle.exh_format.specs.Reading.{IsOf}
use Rattle.exh_versions.specs.PlacedTests.{IsPlacedFault, StampedFails}
use Rattle.exh_versions.specs.Reading.{FailsInGroups}
use Rattle.exh_versions.proofs.Files.{Headed, all_there, fault_of_end, fault_of_groups, fault_of_header, file_from}
use Rattle.exh_versions.proofs.Headers.{few_bits}
use Rattle.exh_versions.proofs.Pages.{err_is, of_later}
use Rattle.exh_versions.proofs.placed_reading.read_parts.Goals as goal

pub empty-requires : goal.empty-requires
empty-requires g c = few_bits c.in_ok-header.header c.in_ok-header.ensures.ok.2.valid

pub read_groups-requires-clause-bits : goal.read_groups-requires-clause-bits
read_groups-requires-clause-bits g c = few_bits c.in_ok-header.header c.in_ok-header.ensures.ok.2.valid

pub returns-in_err-header-clause-fault : goal.returns-in_err-header-clause-fault
returns-in_err-header-clause-fault g c =
    let known = g.R.Read.remaining c.args.blocks.now.source.reader.now in
    let fault = c.in_err-header.field-0.0 in
    err_is c.from_residual.result fault (IsOf IsPlacedFault known) c.from_residual.ensures.1 (of_later (NextFails StampedFails) IsPlacedFault known known fault (λ fault. fault_of_header known fault) c.in_err-header.ensures.err)

pub returns-in_err-cells-clause-fault : goal.returns-in_err-cells-clause-fault
returns-in_err-cells-clause-fault g c =
    let known = g.R.Read.remaining c.args.blocks.now.source.reader.now in
    let later = g.R.Read.remaining c.read_header.new.self.source.reader.now in
    let fault = c.in_err-cells.field-0.0 in
    let header = c.in_ok-header.header in
    let read = c.in_ok-header.ensures.ok in
    let headed : Headed known later header read.0 = record { given = read.1; image = read.2; is = read.3 } in
    let place = c.read_header.new.self.place in
    let count = c.page_count-count.result in
    err_is c.from_residual-in_err-cells.result fault (IsOf IsPlacedFault known) c.from_residual-in_err-cells.ensures.1
    (of_later (FailsInGroups (any_pseudokey header.settings.keyer) place count) IsPlacedFault known later fault
    (λ fault. fault_of_groups c.images_pass.ensures c.images_are_blocks.ensures c.walk_blocks_pass.ensures.pass c.walk_blocks_pass.ensures.blocks known later header read.0 place count fault headed
    (omega (arith, c.in_ok-header.ensures.place, c.requires.place)) c.page_count-count.ensures.count)
    c.in_err-cells.ensures.err)

pub returns-in_err-read_end-clause-fault : goal.returns-in_err-read_end-clause-fault
returns-in_err-read_end-clause-fault g c =
    let known = g.R.Read.remaining c.args.blocks.now.source.reader.now in
    let mid = g.R.Read.remaining c.read_header.new.self.source.reader.now in
    let last = g.R.Read.remaining c.read_groups.new.blocks.source.reader.now in
    let fault = c.in_err-read_end.field-0.0 in
    let header = c.in_ok-header.header in
    let read = c.in_ok-header.ensures.ok in
    let headed : Headed known mid header read.0 = record { given = read.1; image = read.2; is = read.3 } in
    let groups = c.in_ok-cells.ensures.ok in
    err_is c.from_residual-in_err-read_end.result fault (IsOf IsPlacedFault known) c.from_residual-in_err-read_end.ensures.1
    (of_later (λ bytes fault. (0 < length bytes) × (fault ≡ Trailing)) IsPlacedFault known last fault
    (λ fault. fault_of_end c.images_pass.ensures c.images_are_blocks.ensures c.walk_blocks_pass.ensures.pass c.walk_blocks_pass.ensures.blocks known mid last header read.0 c.page_count-count.result groups.pages c.in_ok-cells.cells.items fault headed
    groups.given groups.all groups.count_is c.page_count-count.ensures.count)
    c.in_err-read_end.ensures.err)

pub returns-clause-takes : goal.returns-clause-takes
returns-clause-takes g c = all_there (TakesFormed g.W.ReadPages.takes (any_pseudokey c.in_ok-header.header.settings.keyer)) c.read_groups.new.pages.wards.items c.in_ok-cells.ensures.ok.placed.taking

pub returns-clause-parts : goal.returns-clause-parts
returns-clause-parts g c =
    let known = g.R.Read.remaining c.args.blocks.now.source.reader.now in
    let mid = g.R.Read.remaining c.read_header.new.self.source.reader.now in
    let last = g.R.Read.remaining c.read_groups.new.blocks.source.reader.now in
    let header = c.in_ok-header.header in
    let read = c.in_ok-header.ensures.ok in
    let headed : Headed known mid header read.0 = record { given = read.1; image = read.2; is = read.3 } in
    let groups = c.in_ok-cells.ensures.ok in
    let pages = c.read_groups.new.pages in
    file_from g.W.PageList.pages g.W.ReadPages.takes header.settings known mid last header read.0 c.page_count-count.result groups.pages c.in_ok-cells.cells.items pages
    (record { header = header; wards = pages.wards; lows = pages.lows; cells = c.in_ok-cells.cells }) refl headed groups.given groups.all groups.count_is c.page_count-count.ensures.count groups.placed c.in_ok-read_end.ensures.ok refl refl refl refl
