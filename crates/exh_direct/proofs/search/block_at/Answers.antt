use Rattle.std.proofs.Common.{◌≡◌, ℕ, ◌+◌, [], ◌∷◌, List, None, false, nat_eq, length, slice_get, refl, ap, ◌∙◌, subst, arith}
use Rattle.std.specs.Io.KnownBytes.{Appends}
use Rattle.std.specs.List.{list_any}
use Rattle.exh_prefix.specs.Layout.{layout}
use Rattle.exh_format.specs.FileTests.{TableFails}
use Rattle.exh_format.specs.FileVersion.{file_version}
use Rattle.exh_direct.specs.declared.direct_fault.DirectFault.TheVariants.{Memory}
use Rattle.exh_direct.specs.declared.table_block.TableBlock.{TableBlock}
use Rattle.exh_direct.specs.KnownBlocks.{BlockFails, IsTableBlock, MayRead}
use Rattle.exh_direct.specs.TableSearch.{FailsNext, HasNumber, IsBlockOf, numbers_of, table_place}
use Rattle.exh_direct.proofs.Searches.{next_fails, next_read, slice_last}
use Rattle.exh_direct.proofs.Ways.{err_is}
use Rattle.exh_direct.proofs.search.block_at.Goals as goal

pub returns-in-Some-clause-there : goal.returns-in-Some-clause-there
returns-in-Some-clause-there g c = subst (λ (blocks : List TableBlock). HasNumber blocks c.args.number c.in-Some.index) c.deref.ensures.value c.in-Some.ensures.some

pub returns-in_err-entries-clause-err : goal.returns-in_err-entries-clause-err
returns-in_err-entries-clause-err g c =
    let header = c.args.header.now in
    let number = c.args.number in
    let known = g.B.Blocks.known c.args.blocks.now in
    let version = file_version c.args.version in
    let fault = c.in_err-entries.field-0.0 in
    let place : c.table_place.result + number ≡ table_place header + number = ap (λ (place : ℕ). place + number) c.table_place.ensures.place in
    let other = subst (λ (blocks : List TableBlock). list_any (nat_eq number) (numbers_of blocks) ≡ false) c.deref.ensures.value c.in_default.ensures.none in
    let at_place = subst (λ (place : ℕ). BlockFails (TableFails (layout c.args.version) place c.min.result None) known place fault) place c.in_err-entries.ensures.err in
    let fails = subst (λ (count : ℕ). BlockFails (TableFails (layout c.args.version) (table_place header + number) count None) known (table_place header + number) fault) c.min.ensures at_place in
    err_is c.from_residual.result fault (FailsNext version known header _ _ c.args.read.now.items 1) c.from_residual.ensures.1
    (next_fails version known header _ _ c.args.read.now.items number fault c.requires.read c.requires.within other fails (subst (MayRead _ _) place c.in_err-entries.ensures.may_read))

pub returns-in_err-push_item-clause-err : goal.returns-in_err-push_item-clause-err
returns-in_err-push_item-clause-err g c =
    let header = c.args.header.now in
    let number = c.args.number in
    let known = g.B.Blocks.known c.args.blocks.now in
    let version = file_version c.args.version in
    let place : c.table_place.result + number ≡ table_place header + number = ap (λ (place : ℕ). place + number) c.table_place.ensures.place in
    let other = subst (λ (blocks : List TableBlock). list_any (nat_eq number) (numbers_of blocks) ≡ false) c.deref.ensures.value c.in_default.ensures.none in
    err_is c.from_residual-in_err-push_item.result Memory (FailsNext version known header _ _ c.args.read.now.items 1) c.from_residual-in_err-push_item.ensures.1
    (next_fails version known header _ _ c.args.read.now.items number Memory c.requires.read c.requires.within other tt (subst (MayRead _ _) place c.in_ok-entries.ensures.may_read))

pub returns-clause-reads : goal.returns-clause-reads
returns-clause-reads g c =
    let header = c.args.header.now in
    let number = c.args.number in
    let known = g.B.Blocks.known c.args.blocks.now in
    let version = file_version c.args.version in
    let place : c.table_place.result + number ≡ table_place header + number = ap (λ (place : ℕ). place + number) c.table_place.ensures.place in
    let other = subst (λ (blocks : List TableBlock). list_any (nat_eq number) (numbers_of blocks) ≡ false) c.deref.ensures.value c.in_default.ensures.none in
    let block : TableBlock = record { number = number; entries = c.in_ok-entries.entries } in
    let is : IsBlockOf version known header block = record {
      within = c.requires.within;
      count = omega (arith, c.in_ok-entries.ensures.count, c.min.ensures, c.in_ok-entries.entries.ok.0);
      rising = c.in_ok-entries.ensures.rising;
      is = subst (λ (place : ℕ). IsTableBlock (layout c.args.version) known place c.in_ok-entries.entries.items) place c.in_ok-entries.ensures.ok;
    } in
    next_read version known header _ _ c.args.read.now.items _ block c.requires.read is other c.in_ok-push_item.ensures.ok
    (subst (λ (place : ℕ). Appends (g.B.Blocks.reads c.args.blocks.now) (g.B.Blocks.reads c.read_entries.new.blocks) (place ∷ [])) place c.in_ok-entries.ensures.one_read)

pub returns-clause-there : goal.returns-clause-there
returns-clause-there g c =
    let read = c.args.read.now.items in
    let block : TableBlock = record { number = c.args.number; entries = c.in_ok-entries.entries } in
    let last : c.len-index.result ≡ length read = omega (arith, c.len-index.ensures, c.args.read.now.ok.0) in
    (block, (λ i. slice_get (c.in_ok-push_item.ensures.ok i) (last i)) ∙ slice_last read block, refl)
