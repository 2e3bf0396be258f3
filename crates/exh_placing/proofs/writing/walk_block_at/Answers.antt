use Rattle.std.proofs.Common.{◌≡◌, ℕ, ◌+◌, ◌-◌, List, min, take, drop, length, sym, ap, ◌∙◌, inl, inr, arith}
use Rattle.std.specs.List.{flat_map}
use Rattle.std.proofs.lemmas.Bool.{cases_lt}
use Rattle.std.proofs.lemmas.List.{length-drop, take_all}
use Rattle.exh_codec.specs.Block.{sealed}
use Rattle.exh_codec.specs.PageImage.{padded}
use Rattle.exh_cells.specs.declared.cell.Cell.{Cell}
use Rattle.exh_cells.specs.PlacedFile.{walk_block}
use Rattle.exh_cells.specs.WalkImage.{cell_bytes}
use Rattle.exh_placing.proofs.writing.walk_block_at.Goals as goal

-- what there is of a group
group_left : (cells : List Cell) (count : ℕ) → count ≡ min (length cells) 24 → take count cells ≡ take 24 cells
group_left cells count is = elim (cases_lt 24 (length cells)) [
  | inl more ↦ let all : count ≡ 24 = omega (arith, is, more) in ap (λ (n : ℕ). take n cells) all
  | inr few ↦ take_all count cells (omega (arith, is, few)) ∙ sym (take_all 24 cells (omega (arith, few)))
]

pub returns : goal.returns
unfolding walk_block
returns c =
    let left = drop c.args.place c.args.cells.now in
    let count : c.args.place + c.min-count.result - c.args.place ≡ c.min-count.result = omega arith in
    let whole = ap (λ (n : ℕ). take n left) count ∙ group_left left c.min-count.result (omega (arith, c.min-count.ensures, length-drop c.args.place c.args.cells.now)) in
    c.encode_cells.ensures.bytes ∙ ap (λ (cells : List Cell). sealed (padded 4064 (flat_map cell_bytes cells))) whole
