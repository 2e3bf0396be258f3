use Rattle.std.proofs.Common.{◌≡◌, suc, arith}
use Rattle.exh_prefix.specs.Version.{second_version}
use Rattle.exh_keyer.specs.Pseudokey.{any_pseudokey}
use Rattle.exh_format.specs.Reading.{FailsInPages, IsOf}
use Rattle.exh_versions.specs.Reading.{FailsInGroup}
use Rattle.exh_versions.proofs.Groups.{fails_in_group, group_given}
use Rattle.exh_versions.proofs.Pages.{err_is, of_later}
use Rattle.exh_versions.proofs.read_groups.read_group.Goals as goal

pub returns-clause-ok : goal.returns-clause-ok
returns-clause-ok g c =
    let pseudo = any_pseudokey c.args.settings.keyer in
    let read = c.in_ok-cells.ensures.ok in
    let pages = c.in_ok-read_pages.ensures.ok in
    record {
      pages = pages.pages;
      all = pages.all;
      count_is = omega (arith, c.in_ok-cells.ensures.count);
      given = group_given pseudo _ _ _ pages.pages c.in_ok-cells.cells.items read.0 read.1 read.2 read.3 pages.given;
      adds = pages.adds;
    }

pub returns-in_err-read_pages-clause-err : goal.returns-in_err-read_pages-clause-err
returns-in_err-read_pages-clause-err g c =
    let pseudo = any_pseudokey c.args.settings.keyer in
    let known = g.R.Read.remaining c.args.blocks.now.source.reader.now in
    let later = g.R.Read.remaining c.read_cells.new.self.source.reader.now in
    let place = c.args.blocks.now.place in
    let next = c.read_cells.new.self.place in
    let count = c.args.count in
    let cells = c.in_ok-cells.cells.items in
    let read = c.in_ok-cells.ensures.ok in
    let there : next ≡ suc place = omega (arith, c.in_ok-cells.ensures.place) in
    err_is c.from_residual-in_err-read_pages.result c.in_err-read_pages.field-0.0 (IsOf (FailsInGroup pseudo place count) known) c.from_residual-in_err-read_pages.ensures.1
    (of_later (FailsInPages second_version pseudo next count) (FailsInGroup pseudo place count) known later c.in_err-read_pages.field-0.0
    (λ fault. fails_in_group pseudo known later place next count cells read.0 fault read.1 read.2 (omega (arith, c.in_ok-cells.ensures.count)) there)
    c.in_err-read_pages.ensures.err)
