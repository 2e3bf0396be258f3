use Rattle.std.proofs.Common.{◌≡◌, ℕ, ◌+◌, ◌<◌, ◌≤◌, List, [], ◌∷◌, ◌++◌, length, take, drop, get_or, sym, ap, ◌∙◌, subst, arith}
use Rattle.std.proofs.lemmas.List.{take_all, take_more}
use Rattle.exh_page.specs.declared.record.Record.{Record}
use Rattle.exh_page.specs.KeyMap.{pair_of}
use Rattle.exh_page.specs.Page.{records_of}
use Rattle.exh_page.specs.Records.{IsRising}
use Rattle.exh_codec.specs.Cells.{IsSizedPair}
use Rattle.exh_frames.specs.InPlace.{bytes_of}
use Rattle.exh_frames.proofs.Cells.{at_index, next_index, nothing}
use Rattle.exh_frames.proofs.Contents.{has_records, sized_at}
use Rattle.exh_frames.proofs.Keyed.{keyed_at}
use Rattle.exh_frames.proofs.Places.{rising_take}
use Rattle.exh_frames.proofs.laid_records.records_in.Goals as goal

pub cell_at-cell-requires : goal.cell_at-cell-requires
cell_at-cell-requires c =
    let page = c.requires.0 in
    let records = records_of page in
    let said = has_records c.args.block.now page c.requires.1 in
    let index = c.loop-index.index in
    let within : index < length records = omega (arith, c.loop-index-test.true, c.from-index-end.ensures, said.1.count) in
    let so_far = c.loop-index.invariant page c.requires.1 c.requires.2 in
    let one = get_or records index nothing in
    let is = at_index c.args.block.now records said.0 index c.loop-index.start nothing said.1.bytes within so_far.0 in
    (pair_of one, bytes_of (drop (index + 1) records) ++ said.0, is)

pub bounds-pseudokeys-index : goal.bounds-pseudokeys-index
bounds-pseudokeys-index c =
    let said = has_records c.args.block.now c.requires.0 c.requires.1 in
    omega (arith, c.loop-index-test.true, c.from-index-end.ensures, said.1.count, c.requires.1.few)

pub to_record-requires : goal.to_record-requires
to_record-requires c =
    let page = c.requires.0 in
    let records = records_of page in
    let said = has_records c.args.block.now page c.requires.1 in
    let index = c.loop-index.index in
    let within : index < length records = omega (arith, c.loop-index-test.true, c.from-index-end.ensures, said.1.count) in
    let so_far = c.loop-index.invariant page c.requires.1 c.requires.2 in
    let one = get_or records index nothing in
    let is = at_index c.args.block.now records said.0 index c.loop-index.start nothing said.1.bytes within so_far.0 in
    let cell = c.cell_at-cell.ensures (pair_of one) (bytes_of (drop (index + 1) records) ++ said.0) is in
    let pair_is : (c.cell_at-cell.result.key.now, c.cell_at-cell.result.value.now) ≡ pair_of one = ap (λ (k : List ℕ). (k, c.cell_at-cell.result.value.now)) cell.key ∙ ap (λ (v : List ℕ). (one.key, v)) cell.value in
    subst IsSizedPair (sym pair_is) (sized_at records index nothing c.requires.1.sized within)

-- the record that is laid there
abbrev made : ℕ → List ℕ → List ℕ → Record
made word key value = record { pseudokey = word; key = key; value = value }

is_one : (one found : Record) (word : ℕ) (key value : List ℕ) → found ≡ record { pseudokey = word; key = key; value = value } → word ≡ one.pseudokey → key ≡ one.key → value ≡ one.value → found ≡ one
is_one one found word key value is word_is key_is value_is = is ∙ ap (λ (n : ℕ). made n key value) word_is ∙ ap (λ (k : List ℕ). made one.pseudokey k value) key_is ∙ ap (made one.pseudokey one.key) value_is

pub push-requires : goal.push-requires
push-requires c =
    let page = c.requires.0 in
    let records = records_of page in
    let said = has_records c.args.block.now page c.requires.1 in
    let index = c.loop-index.index in
    let within : index < length records = omega (arith, c.loop-index-test.true, c.from-index-end.ensures, said.1.count) in
    let so_far = c.loop-index.invariant page c.requires.1 c.requires.2 in
    let one = get_or records index nothing in
    let is = at_index c.args.block.now records said.0 index c.loop-index.start nothing said.1.bytes within so_far.0 in
    let cell = c.cell_at-cell.ensures (pair_of one) (bytes_of (drop (index + 1) records) ++ said.0) is in
    let found = is_one one c.to_record.result _ _ _ c.to_record.ensures (keyed_at records c.args.pseudokeys.now index nothing c.requires.2.keyed within) cell.key cell.value in
    subst IsRising (take_more records index nothing within ∙ ap (λ (l : List Record). l ++ one ∷ []) (sym so_far.1) ∙ ap (λ (r : Record). c.loop-index.records ++ r ∷ []) (sym found))
    (rising_take records (index + 1) c.requires.2.rising)

pub loop-index-preserved : goal.loop-index-preserved
loop-index-preserved c page has hashed =
    let records = records_of page in
    let said = has_records c.args.block.now page has in
    let index = c.loop-index.index in
    let within : index < length records = omega (arith, c.loop-index-test.true, c.from-index-end.ensures, said.1.count) in
    let so_far = c.loop-index.invariant page has hashed in
    let one = get_or records index nothing in
    let is = at_index c.args.block.now records said.0 index c.loop-index.start nothing said.1.bytes within so_far.0 in
    let cell = c.cell_at-cell.ensures (pair_of one) (bytes_of (drop (index + 1) records) ++ said.0) is in
    let found = is_one one c.to_record.result _ _ _ c.to_record.ensures (keyed_at records c.args.pseudokeys.now index nothing hashed.keyed within) cell.key cell.value in (
      next_index records index c.loop-index.start c.cell_at-cell.result.end nothing within so_far.0 cell.end,
      c.in_ok-push.ensures.ok ∙ ap (λ (l : List Record). l ++ c.to_record.result ∷ []) so_far.1 ∙ ap (λ (r : Record). take index records ++ r ∷ []) found ∙ sym (take_more records index nothing within),
    )

pub returns : goal.returns
returns c page has hashed =
    let records = records_of page in
    let said = has_records c.args.block.now page has in
    let all : length records ≤ c.loop-index.index = omega (arith, c.loop-index-test.false, c.from-index-end.ensures, said.1.count) in
    (c.loop-index.invariant page has hashed).1 ∙ take_all c.loop-index.index records all
