use Rattle.std.proofs.Common.{◌≡◌, inr, refl, sym, ap, ◌∙◌, subst, arith}
use Rattle.exh_format.specs.LegalFile.{ward_tables}
use Rattle.exh_format.specs.Reading.{IsAll}
use Rattle.exh_cells.specs.declared.stamped_header.StampedHeader.{StampedHeader}
use Rattle.exh_versions.specs.AnyFile.{any_file_read}
use Rattle.exh_versions.specs.FileForm.{IsFormOf}
use Rattle.exh_versions.specs.LegalBytes.{IsLegalBytes, IsLegalPlacedOf}
use Rattle.exh_versions.specs.PlainFile.{plain_file}
use Rattle.exh_versions.proofs.Read.{parts_say}
use Rattle.exh_versions.proofs.reading.read_placed.Goals as goal

pub in_plain-requires-clause-few : goal.in_plain-requires-clause-few
in_plain-requires-clause-few g c =
    let read = c.in_ok-legal.ensures.legal in
    let few = (c.placed_files_say_files.ensures read.file c.in_ok-legal.legal.tables.items read.bytes read.is).valid.header.entries in
    omega (arith, few)

pub returns-clause-legal : goal.returns-clause-legal
returns-clause-legal g c =
    let read = c.in_ok-legal.ensures.legal in
    let tables = c.in_ok-legal.legal.tables.items in
    let found = c.in_ok-in_plain.field-0 in
    let own = g.W.PageList.pages in
    let said : any_file_read own found ≡ plain_file read.file tables = parts_say own read.file c.in_ok-legal.legal.parts found.file.parts tables read.parts_are c.in_ok-in_plain.ensures.header c.in_ok-in_plain.ensures.wards c.in_ok-in_plain.ensures.entries in
    let says : IsLegalPlacedOf (any_file_read own found) read.bytes = record { placed = read.file; tables = tables; legal = read.is; says = said } in
    record {
      bytes = read.bytes;
      all = read.all;
      are_bytes = read.are_bytes;
      legal = inr says;
      tables = ap (λ tables. tables.items) c.in_ok-in_plain.ensures.tables ∙ sym (ap ward_tables said ∙ (c.placed_files_say_files.ensures read.file tables read.bytes read.is).tables_are);
      form = subst (IsFormOf (any_file_read own found) read.bytes) (sym c.in_ok-in_plain.ensures.form)
          (record { own = says; lows = read.parts_are.lows; stamp = ap (λ (header : StampedHeader). header.stamp) read.parts_are.header });
    }

pub returns-clause-every : goal.returns-clause-every
returns-clause-every g c placed tables bytes knows small is =
    let read = c.in_ok-legal.ensures.legal in
    let own_tables = c.in_ok-legal.legal.tables.items in
    let found = c.in_ok-in_plain.field-0 in
    let own = g.W.PageList.pages in
    let said : any_file_read own found ≡ plain_file read.file own_tables = parts_say own read.file c.in_ok-legal.legal.parts found.file.parts own_tables read.parts_are c.in_ok-in_plain.ensures.header c.in_ok-in_plain.ensures.wards c.in_ok-in_plain.ensures.entries in
    let same : bytes ≡ read.bytes = subst (λ known. IsAll known read.bytes) knows read.all in
    let legal : IsLegalBytes (any_file_read own found) bytes = subst (IsLegalBytes (any_file_read own found)) (sym same) (inr (record { placed = read.file; tables = own_tables; legal = read.is; says = said })) in
    c.one_legal_file.ensures bytes (any_file_read own found) (plain_file placed tables) legal (inr (record { placed = placed; tables = tables; legal = is; says = refl }))
