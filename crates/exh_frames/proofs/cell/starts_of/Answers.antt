use Rattle.std.proofs.Common.{◌≡◌, ℕ, ◌+◌, ◌<◌, ◌≤◌, List, ◌++◌, length, take, drop, set, get_or, get_or-set_other, get_or-set_same, inl, inr, sym, ap, ◌∙◌, arith}
use Rattle.std.proofs.lemmas.Bool.{cases_eq}
use Rattle.std.proofs.lemmas.List.{length-set}
use Rattle.exh_page.specs.declared.record.Record.{Record}
use Rattle.exh_page.specs.KeyMap.{pair_of}
use Rattle.exh_page.specs.Page.{records_of}
use Rattle.exh_frames.specs.InPlace.{bytes_of}
use Rattle.exh_frames.proofs.Cells.{at_index, next_index, nothing}
use Rattle.exh_frames.proofs.Contents.{has_records}
use Rattle.exh_frames.proofs.cell.starts_of.Goals as goal

pub bounds-starts-index : goal.bounds-starts-index
bounds-starts-index c =
    let said = has_records c.args.block.now c.requires.0 c.requires.1 in
    omega (arith, c.loop-index-test.true, c.from-index-end.ensures, said.1.count, c.requires.1.few)

pub bounds-starts-index-in-loop-index : goal.bounds-starts-index-in-loop-index
bounds-starts-index-in-loop-index c =
    let said = has_records c.args.block.now c.requires.0 c.requires.1 in
    omega (arith, c.loop-index-test.true, c.from-index-end.ensures, said.1.count, c.requires.1.few)

pub cell_at-requires : goal.cell_at-requires
cell_at-requires c =
    let page = c.requires.0 in
    let records = records_of page in
    let said = has_records c.args.block.now page c.requires.1 in
    let index = c.loop-index.index in
    let within : index < length records = omega (arith, c.loop-index-test.true, c.from-index-end.ensures, said.1.count) in (
      pair_of (get_or records index nothing),
      bytes_of (drop (index + 1) records) ++ said.0,
      at_index c.args.block.now records said.0 index _ nothing said.1.bytes within (c.loop-index.invariant.at page c.requires.1 index (omega arith)),
    )

-- one place more
more_at : (records : List Record) (starts : List ℕ) (index end : ℕ) → length starts ≡ 17 → index + 1 < 17 → ((i : ℕ) → i ≤ index → get_or starts i 0 ≡ 16 + length (bytes_of (take i records)))
    → end ≡ 16 + length (bytes_of (take (index + 1) records)) → (i : ℕ) → i ≤ index + 1 → get_or (set starts (index + 1) end) i 0 ≡ 16 + length (bytes_of (take i records))
more_at records starts index end len room at next i fits =
    elim (cases_eq i (index + 1)) [
      | inl last ↦
          let within : index + 1 < length starts = omega (arith, len, room) in
          ap (λ (n : ℕ). get_or (set starts (index + 1) end) n 0) last ∙ get_or-set_same starts (index + 1) end 0 within ∙ next ∙ ap (λ (n : ℕ). 16 + length (bytes_of (take n records))) (sym last)
      | inr earlier ↦ get_or-set_other starts (index + 1) i end 0 earlier ∙ at i (omega (arith, earlier, fits))
    ]

pub loop-index-preserved : goal.loop-index-preserved
loop-index-preserved c = record {
  len = omega (arith, length-set c.loop-index.starts (c.loop-index.index + 1) c.cell_at.result.end, c.loop-index.invariant.len);
  at = λ page has.
      let records = records_of page in
      let said = has_records c.args.block.now page has in
      let index = c.loop-index.index in
      let within : index < length records = omega (arith, c.loop-index-test.true, c.from-index-end.ensures, said.1.count) in
      let here = c.loop-index.invariant.at page has index (omega arith) in
      let cell = at_index c.args.block.now records said.0 index _ nothing said.1.bytes within here in
      let next = next_index records index _ c.cell_at.result.end nothing within here (c.cell_at.ensures (pair_of (get_or records index nothing)) (bytes_of (drop (index + 1) records) ++ said.0) cell).end in
      more_at records c.loop-index.starts index c.cell_at.result.end c.loop-index.invariant.len (bounds-starts-index-in-loop-index c) (c.loop-index.invariant.at page has) next;
}

pub returns : goal.returns
returns c page has i fits =
    let said = has_records c.args.block.now page has in
    c.loop-index.invariant.at page has i (omega (arith, fits, c.loop-index-test.false, c.from-index-end.ensures, said.1.count))
