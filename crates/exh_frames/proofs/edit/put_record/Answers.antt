use Rattle.std.proofs.Common.{◌≡◌, ℕ, ◌+◌, ◌-◌, List, [], ◌∷◌, ◌++◌, length, set, take, drop, replicate, slice_index, refl, sym, ap, ◌∙◌, append-nil, arith}
use Rattle.std.proofs.lemmas.List.{length-drop, length-take-le}
use Rattle.exh_page.specs.declared.record.Record.{Record}
use Rattle.exh_page.specs.KeyMap.{pair_of}
use Rattle.exh_page.specs.Page.{records_of}
use Rattle.exh_page.specs.Records.{with_record}
use Rattle.exh_codec.specs.Cells.{pair_image}
use Rattle.exh_frames.specs.InPlace.{bytes_of}
use Rattle.exh_frames.proofs.Contents.{edited_content, gap_in, has_records, put_tail, used_at}
use Rattle.exh_frames.proofs.edit.put_record.Goals as goal

pub bounds-starts-from : goal.bounds-starts-from
bounds-starts-from c = let said = has_records c.args.block.now c.requires.0 c.requires.1.content in omega (arith, c.from.ensures, said.1.count, c.requires.1.content.few)

pub overflow_sub-block : goal.overflow_sub-block
overflow_sub-block c =
    let page = c.requires.0 in
    let takes = c.requires.1 in
    let records = records_of page in
    let item : Record = record { pseudokey = c.args.pseudokey; key = c.args.key.now; value = c.args.value.now } in
    let block = c.args.block.now in
    let gap = c.open_gap-gap.result in
    let at = c.starts_of-starts.ensures page takes.content in
    let edit = c.open_gap-gap.ensures.edit page item at refl takes in
    let said = has_records block page takes.content in
    let used = used_at records c.starts_of-starts.result c.from.result at (c.from.ensures ∙ said.1.count) in
    let all : ℕ = slice_index c.starts_of-starts.result c.from.result in
    let in_gap = gap_in page (item ∷ []) (with_record item records) gap block all takes.content edit used in
    omega (arith, in_gap.stood)

pub overflow_add-block : goal.overflow_add-block
overflow_add-block c =
    let page = c.requires.0 in
    let takes = c.requires.1 in
    let records = records_of page in
    let item : Record = record { pseudokey = c.args.pseudokey; key = c.args.key.now; value = c.args.value.now } in
    let block = c.args.block.now in
    let gap = c.open_gap-gap.result in
    let at = c.starts_of-starts.ensures page takes.content in
    let edit = c.open_gap-gap.ensures.edit page item at refl takes in
    let said = has_records block page takes.content in
    let used = used_at records c.starts_of-starts.result c.from.result at (c.from.ensures ∙ said.1.count) in
    let all : ℕ = slice_index c.starts_of-starts.result c.from.result in
    let in_gap = gap_in page (item ∷ []) (with_record item records) gap block all takes.content edit used in
    omega (arith, in_gap.few)

pub resize-requires-clause-order : goal.resize-requires-clause-order
resize-requires-clause-order c =
    let page = c.requires.0 in
    let takes = c.requires.1 in
    let records = records_of page in
    let item : Record = record { pseudokey = c.args.pseudokey; key = c.args.key.now; value = c.args.value.now } in
    let block = c.args.block.now in
    let gap = c.open_gap-gap.result in
    let at = c.starts_of-starts.ensures page takes.content in
    let edit = c.open_gap-gap.ensures.edit page item at refl takes in
    let said = has_records block page takes.content in
    let used = used_at records c.starts_of-starts.result c.from.result at (c.from.ensures ∙ said.1.count) in
    let all : ℕ = slice_index c.starts_of-starts.result c.from.result in
    let in_gap = gap_in page (item ∷ []) (with_record item records) gap block all takes.content edit used in
    in_gap.order

pub resize-requires-clause-within : goal.resize-requires-clause-within
resize-requires-clause-within c =
    let page = c.requires.0 in
    let takes = c.requires.1 in
    let records = records_of page in
    let item : Record = record { pseudokey = c.args.pseudokey; key = c.args.key.now; value = c.args.value.now } in
    let block = c.args.block.now in
    let gap = c.open_gap-gap.result in
    let at = c.starts_of-starts.ensures page takes.content in
    let edit = c.open_gap-gap.ensures.edit page item at refl takes in
    let said = has_records block page takes.content in
    let used = used_at records c.starts_of-starts.result c.from.result at (c.from.ensures ∙ said.1.count) in
    let all : ℕ = slice_index c.starts_of-starts.result c.from.result in
    let in_gap = gap_in page (item ∷ []) (with_record item records) gap block all takes.content edit used in
    in_gap.within

pub resize-requires-clause-room : goal.resize-requires-clause-room
resize-requires-clause-room c =
    let page = c.requires.0 in
    let takes = c.requires.1 in
    let records = records_of page in
    let item : Record = record { pseudokey = c.args.pseudokey; key = c.args.key.now; value = c.args.value.now } in
    let block = c.args.block.now in
    let gap = c.open_gap-gap.result in
    let at = c.starts_of-starts.ensures page takes.content in
    let edit = c.open_gap-gap.ensures.edit page item at refl takes in
    let said = has_records block page takes.content in
    let used = used_at records c.starts_of-starts.result c.from.result at (c.from.ensures ∙ said.1.count) in
    let all : ℕ = slice_index c.starts_of-starts.result c.from.result in
    let in_gap = gap_in page (item ∷ []) (with_record item records) gap block all takes.content edit used in
    omega (arith, in_gap.short, c.cell_len.ensures.limit)

pub slice_bounds-write_cell-count : goal.slice_bounds-write_cell-count
slice_bounds-write_cell-count c =
    let page = c.requires.0 in
    let takes = c.requires.1 in
    let records = records_of page in
    let item : Record = record { pseudokey = c.args.pseudokey; key = c.args.key.now; value = c.args.value.now } in
    let block = c.args.block.now in
    let gap = c.open_gap-gap.result in
    let at = c.starts_of-starts.ensures page takes.content in
    let edit = c.open_gap-gap.ensures.edit page item at refl takes in
    let said = has_records block page takes.content in
    let used = used_at records c.starts_of-starts.result c.from.result at (c.from.ensures ∙ said.1.count) in
    let all : ℕ = slice_index c.starts_of-starts.result c.from.result in
    let in_gap = gap_in page (item ∷ []) (with_record item records) gap block all takes.content edit used in
    omega (arith, in_gap.order, in_gap.within, in_gap.short)

pub slice_bounds-write_cell-start : goal.slice_bounds-write_cell-start
slice_bounds-write_cell-start c =
    let page = c.requires.0 in
    let takes = c.requires.1 in
    let records = records_of page in
    let item : Record = record { pseudokey = c.args.pseudokey; key = c.args.key.now; value = c.args.value.now } in
    let block = c.args.block.now in
    let gap = c.open_gap-gap.result in
    let at = c.starts_of-starts.ensures page takes.content in
    let edit = c.open_gap-gap.ensures.edit page item at refl takes in
    let said = has_records block page takes.content in
    let used = used_at records c.starts_of-starts.result c.from.result at (c.from.ensures ∙ said.1.count) in
    let all : ℕ = slice_index c.starts_of-starts.result c.from.result in
    let in_gap = gap_in page (item ∷ []) (with_record item records) gap block all takes.content edit used in
    omega (arith, in_gap.order, in_gap.within, in_gap.short)

pub write_cell-requires : goal.write_cell-requires
write_cell-requires c =
    let page = c.requires.0 in
    let takes = c.requires.1 in
    let records = records_of page in
    let item : Record = record { pseudokey = c.args.pseudokey; key = c.args.key.now; value = c.args.value.now } in
    let block = c.args.block.now in
    let gap = c.open_gap-gap.result in
    let at = c.starts_of-starts.ensures page takes.content in
    let edit = c.open_gap-gap.ensures.edit page item at refl takes in
    let said = has_records block page takes.content in
    let used = used_at records c.starts_of-starts.result c.from.result at (c.from.ensures ∙ said.1.count) in
    let all : ℕ = slice_index c.starts_of-starts.result c.from.result in
    let in_gap = gap_in page (item ∷ []) (with_record item records) gap block all takes.content edit used in
    let long = length-drop gap.start c.resize.new.block in
    omega (arith, in_gap.order, in_gap.within, in_gap.short, c.resize.array_long, long, length-take-le (4096 - gap.start) (drop gap.start c.resize.new.block) (omega (arith, c.resize.array_long, long)))

pub returns-clause-content : goal.returns-clause-content
returns-clause-content c page takes =
    let records = records_of page in
    let item : Record = record { pseudokey = c.args.pseudokey; key = c.args.key.now; value = c.args.value.now } in
    let block = c.args.block.now in
    let gap = c.open_gap-gap.result in
    let at = c.starts_of-starts.ensures page takes.content in
    let edit = c.open_gap-gap.ensures.edit page item at refl takes in
    let said = has_records block page takes.content in
    let used = used_at records c.starts_of-starts.result c.from.result at (c.from.ensures ∙ said.1.count) in
    let all : ℕ = slice_index c.starts_of-starts.result c.from.result in
    let in_gap = gap_in page (item ∷ []) (with_record item records) gap block all takes.content edit used in
    let image = pair_image (pair_of item) in
    let count : slice_index block 2 - gap.count + 1 ≡ length (with_record item records) = omega (arith, in_gap.counted) in
    let counted : List ℕ = set block 2 (slice_index block 2 - gap.count + 1) in
    let after = c.resize.new.block in
    let len : c.cell_len.result ≡ length (bytes_of (item ∷ [])) = c.cell_len.ensures.len ∙ ap length (sym (append-nil image)) in
    let new_all : ℕ = gap.start + c.cell_len.result + (all - gap.end) in
    let rest : List ℕ = take (all - gap.end) (drop gap.end counted) ++ (replicate (all - new_all) 0 ++ drop (all + (new_all - all)) counted) in
    let tail : drop (gap.start + c.cell_len.result) after ≡ rest = c.resize.ensures.back in
    edited_content page (item ∷ []) (with_record item records) gap block counted _ all c.cell_len.result takes.content edit (c.write_cell.ensures.sized, tt) takes.room used len
    (ap (set block 2) count)
    (put_tail after image c.write_cell.new.out gap.start (4096 - gap.start) (omega (arith, in_gap.order, in_gap.within, in_gap.short, c.resize.array_long)) (omega (arith, c.resize.array_long)) c.write_cell.ensures.bytes
    ∙ ap (λ (l : List ℕ). l ++ (image ++ drop (gap.start + length image) after)) c.resize.ensures.front
    ∙ ap (λ (n : ℕ). take gap.start counted ++ (image ++ drop (gap.start + n) after)) (sym c.cell_len.ensures.len)
    ∙ ap (λ (l : List ℕ). take gap.start counted ++ (image ++ l)) tail
    ∙ ap (λ (l : List ℕ). take gap.start counted ++ (l ++ rest)) (sym (append-nil image)))

pub open_gap-gap-requires : goal.open_gap-gap-requires
open_gap-gap-requires c =
    let page = c.requires.0 in
    let takes = c.requires.1 in
    let item : Record = record { pseudokey = c.args.pseudokey; key = c.args.key.now; value = c.args.value.now } in
    (page, item, c.starts_of-starts.ensures page takes.content, refl, takes)

pub returns-clause-keyed : goal.returns-clause-keyed
returns-clause-keyed c page takes =
    let item : Record = record { pseudokey = c.args.pseudokey; key = c.args.key.now; value = c.args.value.now } in
    c.open_gap-gap.ensures.keyed page item (c.starts_of-starts.ensures page takes.content) refl takes
