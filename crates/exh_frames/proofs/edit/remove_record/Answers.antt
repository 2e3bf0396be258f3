use Rattle.std.proofs.Common.{◌≡◌, ℕ, ◌+◌, ◌-◌, ◌≤◌, List, [], ◌++◌, length, remove, set, take, drop, slice_index, refl, sym, ap, ◌∙◌, subst, arith}
use Rattle.std.proofs.lemmas.List.{length-append, take-append-drop}
use Rattle.exh_page.specs.Page.{records_of}
use Rattle.exh_frames.specs.InPlace.{IsEdit}
use Rattle.exh_frames.proofs.Cells.{nothing}
use Rattle.exh_frames.proofs.Contents.{edited_content, gap_in, has_records, used_at}
use Rattle.exh_frames.proofs.Places.{edit_out}
use Rattle.exh_frames.proofs.edit.remove_record.Goals as goal

pub bounds-starts-from : goal.bounds-starts-from
bounds-starts-from c = let said = has_records c.args.block.now c.requires.0 c.requires.1.content in omega (arith, c.from.ensures, said.1.count, c.requires.1.content.few)

pub overflow_sub-block : goal.overflow_sub-block
overflow_sub-block c =
    let page = c.requires.0 in
    let loses = c.requires.1 in
    let records = records_of page in
    let block = c.args.block.now in
    let gap = c.gap_over-gap.result in
    let at = c.starts_of-starts.ensures page loses.content in
    let left = remove records c.args.index in
    let edit = subst (IsEdit records [] left) (sym c.gap_over-gap.ensures) (edit_out records c.starts_of-starts.result at c.args.index nothing loses.within) in
    let said = has_records block page loses.content in
    let used = used_at records c.starts_of-starts.result c.from.result at (c.from.ensures ∙ said.1.count) in
    let all : ℕ = slice_index c.starts_of-starts.result c.from.result in
    let in_gap = gap_in page [] left gap block all loses.content edit used in
    omega (arith, in_gap.stood)

pub resize-requires-clause-order : goal.resize-requires-clause-order
resize-requires-clause-order c =
    let page = c.requires.0 in
    let loses = c.requires.1 in
    let records = records_of page in
    let block = c.args.block.now in
    let gap = c.gap_over-gap.result in
    let at = c.starts_of-starts.ensures page loses.content in
    let left = remove records c.args.index in
    let edit = subst (IsEdit records [] left) (sym c.gap_over-gap.ensures) (edit_out records c.starts_of-starts.result at c.args.index nothing loses.within) in
    let said = has_records block page loses.content in
    let used = used_at records c.starts_of-starts.result c.from.result at (c.from.ensures ∙ said.1.count) in
    let all : ℕ = slice_index c.starts_of-starts.result c.from.result in
    let in_gap = gap_in page [] left gap block all loses.content edit used in
    in_gap.order

pub resize-requires-clause-within : goal.resize-requires-clause-within
resize-requires-clause-within c =
    let page = c.requires.0 in
    let loses = c.requires.1 in
    let records = records_of page in
    let block = c.args.block.now in
    let gap = c.gap_over-gap.result in
    let at = c.starts_of-starts.ensures page loses.content in
    let left = remove records c.args.index in
    let edit = subst (IsEdit records [] left) (sym c.gap_over-gap.ensures) (edit_out records c.starts_of-starts.result at c.args.index nothing loses.within) in
    let said = has_records block page loses.content in
    let used = used_at records c.starts_of-starts.result c.from.result at (c.from.ensures ∙ said.1.count) in
    let all : ℕ = slice_index c.starts_of-starts.result c.from.result in
    let in_gap = gap_in page [] left gap block all loses.content edit used in
    in_gap.within

pub resize-requires-clause-room : goal.resize-requires-clause-room
resize-requires-clause-room c =
    let page = c.requires.0 in
    let loses = c.requires.1 in
    let records = records_of page in
    let block = c.args.block.now in
    let gap = c.gap_over-gap.result in
    let at = c.starts_of-starts.ensures page loses.content in
    let left = remove records c.args.index in
    let edit = subst (IsEdit records [] left) (sym c.gap_over-gap.ensures) (edit_out records c.starts_of-starts.result at c.args.index nothing loses.within) in
    let said = has_records block page loses.content in
    let used = used_at records c.starts_of-starts.result c.from.result at (c.from.ensures ∙ said.1.count) in
    let all : ℕ = slice_index c.starts_of-starts.result c.from.result in
    let in_gap = gap_in page [] left gap block all loses.content edit used in
    omega (arith, in_gap.short)

pub returns : goal.returns
returns c page loses =
    let records = records_of page in
    let block = c.args.block.now in
    let gap = c.gap_over-gap.result in
    let at = c.starts_of-starts.ensures page loses.content in
    let left = remove records c.args.index in
    let edit = subst (IsEdit records [] left) (sym c.gap_over-gap.ensures) (edit_out records c.starts_of-starts.result at c.args.index nothing loses.within) in
    let said = has_records block page loses.content in
    let used = used_at records c.starts_of-starts.result c.from.result at (c.from.ensures ∙ said.1.count) in
    let all : ℕ = slice_index c.starts_of-starts.result c.from.result in
    let in_gap = gap_in page [] left gap block all loses.content edit used in
    let after = c.resize.new.block in
    let count : slice_index block 2 - gap.count ≡ length left = omega (arith, in_gap.counted) in
    let counted : List ℕ = set block 2 (slice_index block 2 - gap.count) in
    let same : gap.start ≡ gap.start + 0 = omega arith in
    let few : length left ≤ 16 =
    omega (arith, loses.content.few, ap length edit.old_is, ap length edit.new_is, length-append edit.front (edit.middle ++ edit.back), length-append edit.middle edit.back, length-append edit.front edit.back) in
    edited_content page [] left gap block counted after all 0 loses.content edit tt few used refl
    (ap (set block 2) count)
    (sym (take-append-drop gap.start after)
    ∙ ap (λ (l : List ℕ). l ++ drop gap.start after) c.resize.ensures.front
    ∙ ap (λ (n : ℕ). take gap.start counted ++ drop n after) same
    ∙ ap (λ (l : List ℕ). take gap.start counted ++ l) c.resize.ensures.back)
