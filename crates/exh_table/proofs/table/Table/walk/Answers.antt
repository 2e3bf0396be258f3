use Rattle.std.proofs.Common.{◌≡◌, suc, ◌<◌, ◌-◌, [], length, take, sym, ap, ◌∙◌, subst, arith}
use Rattle.std.proofs.lemmas.List.{length_push}
use Rattle.exh_prefix.specs.Bits.{word_bits}
use Rattle.exh_prefix.specs.declared.prefix.TheConstants.{LIMIT}
use Rattle.exh_table.specs.declared.leaf.Leaf.{Leaf}
use Rattle.exh_table.specs.TableWalk.{step, walk_on}
use Rattle.exh_table.specs.Below.{splits_above}
use Rattle.exh_table.specs.WalkLemmas.{IsOnWalk, on_walk_start, on_walk_step, on_walk_end, goes_on, walk_from_root}
use Rattle.exh_table.proofs.table.Table.walk.Goals as goal

pub loop-right-init : goal.loop-right-init
loop-right-init c =
    let splits = splits_above c.args.self.now c.args.ward_bits in
    let P = λ (at : Leaf). IsOnWalk splits c.args.pseudokey (walk_on splits (take LIMIT (word_bits c.args.pseudokey)) (record { prefix = []; page = 0 })) at in
    subst P (sym c.root-at.ensures) (on_walk_start splits c.args.pseudokey)

pub next_bit-requires-clause-begins : goal.next_bit-requires-clause-begins
next_bit-requires-clause-begins c = c.loop-right.invariant.begins

pub loop-right-smaller : goal.loop-right-smaller
loop-right-smaller c =
    let splits = splits_above c.args.self.now c.args.ward_bits in
    let goes = goes_on splits c.loop-right.at.prefix c.in-Some.right (sym c.split_at.ensures ∙ c.in-Some.is) in
    let longer : length c.step-at.result.prefix ≡ suc (length c.loop-right.at.prefix) =
    ap (λ (at : Leaf). length at.prefix) c.step-at.ensures ∙ length_push c.loop-right.at.prefix c.next_bit.result ∙ omega arith in
    let less : LIMIT - length c.step-at.result.prefix < LIMIT - length c.loop-right.at.prefix = omega (arith, longer, goes.0) in
    less

pub loop-right-preserved : goal.loop-right-preserved
loop-right-preserved c =
    let splits = splits_above c.args.self.now c.args.ward_bits in
    let end = walk_on splits (take LIMIT (word_bits c.args.pseudokey)) (record { prefix = []; page = 0 }) in
    let goes = goes_on splits c.loop-right.at.prefix c.in-Some.right (sym c.split_at.ensures ∙ c.in-Some.is) in
    let P = λ (at : Leaf). IsOnWalk splits c.args.pseudokey end at in
    subst P (sym (c.step-at.ensures ∙ ap (λ bit. step c.loop-right.at bit c.in-Some.right) c.next_bit.ensures))
    (on_walk_step splits c.args.pseudokey end c.loop-right.at c.in-Some.right c.loop-right.invariant goes.0 goes.1)

pub returns : goal.returns
returns c =
    let splits = splits_above c.args.self.now c.args.ward_bits in
    let end = walk_on splits (take LIMIT (word_bits c.args.pseudokey)) (record { prefix = []; page = 0 }) in
    ap (λ (at : Leaf). at.page) (on_walk_end splits c.args.pseudokey end c.loop-right.at c.loop-right.invariant (sym c.split_at.ensures ∙ c.in_default.is)
    ∙ walk_from_root c.args.self.now c.args.ward_bits c.args.pseudokey c.requires)
