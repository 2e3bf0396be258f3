use Rattle.std.proofs.Common.{true, false, max, ap, sym, ◌∙◌, arith}
use Rattle.exh_table.specs.Below.{splits_above, depth_below}
use Rattle.exh_table.specs.WalkLemmas.{goes_on}
use Rattle.exh_table.proofs.Children.{left_at, fewer, depth_below-split}
use Rattle.exh_table.proofs.table.Table.+depth_below.Goals as goal

pub depth_below-left-requires : goal.depth_below-left-requires
depth_below-left-requires t c =
    let goes = goes_on (splits_above c.args.self.now c.args.ward_bits) c.args.at.now.prefix c.in-Some.right (sym c.split_at.ensures ∙ c.in-Some.is) in
    (omega (arith, c.decreases, fewer c.args.at.now c.step.result false c.in-Some.right goes.0 c.step.ensures), tt)

pub depth_below-requires : goal.depth_below-requires
depth_below-requires t c =
    let goes = goes_on (splits_above c.args.self.now c.args.ward_bits) c.args.at.now.prefix c.in-Some.right (sym c.split_at.ensures ∙ c.in-Some.is) in
    (omega (arith, c.decreases, fewer c.args.at.now c.step-2.result true c.in-Some.right goes.0 c.step-2.ensures), tt)

pub returns : goal.returns
returns t c =
    let splits = splits_above c.args.self.now c.args.ward_bits in
    let goes = goes_on splits c.args.at.now.prefix c.in-Some.right (sym c.split_at.ensures ∙ c.in-Some.is) in
    c.max.ensures
    ∙ ap (λ depth. max depth c.depth_below.result) c.depth_below-left.ensures
    ∙ ap (λ depth. max (depth_below splits (left_at c.step.result) c.step.result) depth) c.depth_below.ensures
    ∙ sym (depth_below-split splits c.args.at.now c.step.result c.step-2.result c.in-Some.right goes.0 goes.1 c.step.ensures c.step-2.ensures)
