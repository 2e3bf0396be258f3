use Rattle.std.proofs.Common.{◌≡◌, List, ◌++◌, OnOk, Result, Ok, Err, true, false, sym, ap, ◌∙◌, append_assoc, arith}
use Rattle.exh_table.specs.declared.leaf.Leaf.{Leaf}
use Rattle.exh_table.specs.Below.{splits_above, leaves_below}
use Rattle.exh_table.specs.WalkLemmas.{goes_on}
use Rattle.exh_table.proofs.Children.{left_at, fewer, leaves_below-split}
use Rattle.exh_table.proofs.table.Table.+add_leaves.Goals as goal

pub add_leaves-requires : goal.add_leaves-requires
add_leaves-requires t c =
    let goes = goes_on (splits_above c.args.self.now c.args.ward_bits) c.args.at.now.prefix c.in-Some.right (sym c.split_at.ensures ∙ c.in-Some.is) in
    (omega (arith, c.decreases, fewer c.args.at.now c.step.result false c.in-Some.right goes.0 c.step.ensures), tt)

pub add_leaves-requires-2 : goal.add_leaves-requires-2
add_leaves-requires-2 t c =
    let goes = goes_on (splits_above c.args.self.now c.args.ward_bits) c.args.at.now.prefix c.in-Some.right (sym c.split_at.ensures ∙ c.in-Some.is) in
    (omega (arith, c.decreases, fewer c.args.at.now c.step-2.result true c.in-Some.right goes.0 c.step-2.ensures), tt)

-- what both calls appended
both : {A E : Type 0} (r : Result A E) (new old before first second all : List Leaf) → OnOk r (new ≡ old ++ second) → old ≡ before ++ first → all ≡ first ++ second → OnOk r (new ≡ before ++ all)
both (Ok x) new old before first second all last is whole =
    last ∙ ap (λ leaves. leaves ++ second) is ∙ append_assoc before first second ∙ ap (λ leaves. before ++ leaves) (sym whole)
both (Err e) new old before first second all last is whole = tt

pub returns : goal.returns
returns t c =
    let splits = splits_above c.args.self.now c.args.ward_bits in
    let goes = goes_on splits c.args.at.now.prefix c.in-Some.right (sym c.split_at.ensures ∙ c.in-Some.is) in
    both c.add_leaves-2.result _ _ _ (leaves_below splits (left_at c.step.result) c.step.result) (leaves_below splits (left_at c.step-2.result) c.step-2.result) _ c.add_leaves-2.ensures c.in_ok-add_leaves.ensures
    (leaves_below-split splits c.args.at.now c.step.result c.step-2.result c.in-Some.right goes.0 goes.1 c.step.ensures c.step-2.ensures)
