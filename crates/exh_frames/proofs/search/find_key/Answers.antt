use Rattle.std.proofs.Common.{◌≡◌, ◌≢◌, ℕ, ◌+◌, ◌*◌, ◌-◌, ◌<◌, ◌≤◌, List, ◌++◌, length, take, drop, get_or, refl, sym, ap, ◌∙◌, subst, arith}
use Rattle.std.specs.List.{AllByRecursion, flat_map}
use Rattle.std.proofs.lemmas.Bool.Decides.{Decides-eqb}
use Rattle.std.proofs.lemmas.List.{take_all, take_more, length-take-le, get_or_default}
use Rattle.std.proofs.lemmas.Option.{slice_get_read}
use Rattle.std.proofs.lemmas.Slice.Eq.{slice_eq-Decides}
use Rattle.exh_prefix.specs.PrefixListLemmas.{AllByRecursion-append}
use Rattle.exh_page.specs.declared.record.Record.{Record}
use Rattle.exh_page.specs.KeyMap.{pair_of}
use Rattle.exh_page.specs.PackedRecords.{record_text}
use Rattle.exh_page.specs.Page.{records_of}
use Rattle.exh_frames.specs.InPlace.{bytes_of}
use Rattle.exh_frames.proofs.Cells.{at_index, next_index, nothing}
use Rattle.exh_frames.proofs.Contents.{has_records, sized_at}
use Rattle.exh_frames.proofs.Places.{length-bytes_of}
use Rattle.exh_frames.proofs.search.find_key.Goals as goal

pub cell_at-cell-requires : goal.cell_at-cell-requires
cell_at-cell-requires c =
    let page = c.requires.0 in
    let records = records_of page in
    let said = has_records c.args.block.now page c.requires.1 in
    let index = c.loop-index.index in
    let within : index < length records = omega (arith, c.loop-index-test.true, c.from-index-end.ensures, said.1.count) in (
      pair_of (get_or records index nothing),
      bytes_of (drop (index + 1) records) ++ said.0,
      at_index c.args.block.now records said.0 index c.loop-index.start nothing said.1.bytes within (c.loop-index.invariant page c.requires.1).0,
    )

-- the spot counts the bytes of keys and values alone
spot_start : (records : List Record) (index start : ℕ) → index ≤ length records → start ≡ 16 + length (bytes_of (take index records)) → start - 16 ≡ 2 * index + length (flat_map record_text (take index records))
spot_start records index start within is = omega (arith, is, length-bytes_of (take index records), length-take-le index records within)

pub overflow_sub-start-then-eq : goal.overflow_sub-start-then-eq
overflow_sub-start-then-eq c =
    let page = c.requires.0 in
    let records = records_of page in
    let said = has_records c.args.block.now page c.requires.1 in
    let within : c.loop-index.index ≤ length records = omega (arith, c.loop-index-test.true, c.from-index-end.ensures, said.1.count) in
    omega (arith, spot_start records c.loop-index.index c.loop-index.start within (c.loop-index.invariant page c.requires.1).0)

pub of-requires : goal.of-requires
of-requires c =
    let page = c.requires.0 in
    let records = records_of page in
    let said = has_records c.args.block.now page c.requires.1 in
    let index = c.loop-index.index in
    let within : index < length records = omega (arith, c.loop-index-test.true, c.from-index-end.ensures, said.1.count) in
    let is = at_index c.args.block.now records said.0 index c.loop-index.start nothing said.1.bytes within (c.loop-index.invariant page c.requires.1).0 in
    let cell = c.cell_at-cell.ensures (pair_of (get_or records index nothing)) (bytes_of (drop (index + 1) records) ++ said.0) is in
    omega (arith, ap length cell.value, (sized_at records c.loop-index.index nothing c.requires.1.sized within).value)

pub returns-then-eq : goal.returns-then-eq
returns-then-eq c page has =
    let records = records_of page in
    let said = has_records c.args.block.now page has in
    let index = c.loop-index.index in
    let within : index < length records = omega (arith, c.loop-index-test.true, c.from-index-end.ensures, said.1.count) in
    let one = get_or records index nothing in
    let is = at_index c.args.block.now records said.0 index c.loop-index.start nothing said.1.bytes within (c.loop-index.invariant page has).0 in
    let cell = c.cell_at-cell.ensures (pair_of one) (bytes_of (drop (index + 1) records) ++ said.0) is in
    let decides = slice_eq-Decides Decides-eqb c.cell_at-cell.result.key.now c.as_bytes-sought.result.now c.eq.result c.eq.ensures in
    record {
      spot_is = omega (arith, spot_start records index c.loop-index.start (omega (arith, within)) (c.loop-index.invariant page has).0);
      within = within;
      one = one;
      at = slice_get_read records (length records) index one refl within (get_or_default records index nothing one within);
      key_is = sym cell.key ∙ decides.0 c.if-eq.true ∙ c.as_bytes-sought.ensures.bytes;
      value_is = c.of.ensures ∙ cell.value;
    }

pub loop-index-preserved : goal.loop-index-preserved
loop-index-preserved c page has =
    let records = records_of page in
    let said = has_records c.args.block.now page has in
    let index = c.loop-index.index in
    let within : index < length records = omega (arith, c.loop-index-test.true, c.from-index-end.ensures, said.1.count) in
    let one = get_or records index nothing in
    let so_far = c.loop-index.invariant page has in
    let is = at_index c.args.block.now records said.0 index c.loop-index.start nothing said.1.bytes within so_far.0 in
    let cell = c.cell_at-cell.ensures (pair_of one) (bytes_of (drop (index + 1) records) ++ said.0) is in
    let decides = slice_eq-Decides Decides-eqb c.cell_at-cell.result.key.now c.as_bytes-sought.result.now c.eq.result c.eq.ensures in
    let other : one.key ≢ c.as_bytes-sought.result.now = λ same. let passes = decides.1 (cell.key ∙ same) in let fails = c.if-eq.false in absurd cc in (
      next_index records index c.loop-index.start c.cell_at-cell.result.end nothing within so_far.0 cell.end,
      subst (AllByRecursion (λ (r : Record). r.key ≢ c.as_bytes-sought.result.now)) (sym (take_more records index nothing within)) (AllByRecursion-append _ (take index records) _ so_far.1 (other, tt)),
    )

pub returns : goal.returns
returns c page has =
    let records = records_of page in
    let said = has_records c.args.block.now page has in
    let all : length records ≤ c.loop-index.index = omega (arith, c.loop-index-test.false, c.from-index-end.ensures, said.1.count) in
    subst (λ (key : List ℕ). AllByRecursion (λ (r : Record). r.key ≢ key) records) c.as_bytes-sought.ensures.bytes
    (subst (AllByRecursion (λ (r : Record). r.key ≢ c.as_bytes-sought.result.now)) (take_all c.loop-index.index records all) (c.loop-index.invariant page has).1)
