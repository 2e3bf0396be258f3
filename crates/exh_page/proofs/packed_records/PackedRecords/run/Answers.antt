use Rattle.std.proofs.Common.{rules, ◌-◌, ◌≤◌, length, take, drop, refl, ap, ◌∙◌, arith}
use Rattle.exh_page.specs.PackedRecords.{ArePacked}
use Rattle.exh_page.proofs.Begun.{packed_run, packed_same, starts_rise}
use Rattle.exh_page.proofs.Packed.{unpacked, repacked}
use Rattle.exh_page.proofs.PackedReads.{packed_as, start_inside}
use Rattle.exh_page.proofs.packed_records.PackedRecords.run.Goals as goal

pub slice_bounds-copied-count-2 : goal.slice_bounds-copied-count-2
slice_bounds-copied-count-2 c = omega (arith, c.requires.from, c.requires.to, starts_rise c.args.self.now c.args.from.index c.args.to.index c.requires.order)

pub slice_bounds-copied-start-2 : goal.slice_bounds-copied-start-2
slice_bounds-copied-start-2 c =
    let order : c.args.from.start ≤ c.args.to.start = slice_bounds-copied-count-2 c in
    let within : c.args.to.start ≤ length c.self.inside.texts.items = omega (arith, c.requires.to, start_inside (packed_as c.self.invariant c.self.view_is) c.args.to.index) in
    search rules

pub slice_bounds-copied-end-2 : goal.slice_bounds-copied-end-2
slice_bounds-copied-end-2 c =
    let within : c.args.to.start ≤ length c.self.inside.texts.items = omega (arith, c.requires.to, start_inside (packed_as c.self.invariant c.self.view_is) c.args.to.index) in
    search rules

-- what is copied of both lists holds the records between the spots
copied : (c : goal.In_ok-texts) → ArePacked (take (c.args.to.index - c.args.from.index) (drop c.args.from.index c.args.self.now)) c.in_ok-stored.stored.items c.in_ok-texts.texts.items
copied c =
    let i = c.args.from.index in
    let j = c.args.to.index in
    let start = c.args.from.start in
    let end = c.args.to.start in
    packed_same refl
    (c.in_ok-stored.ensures ∙ ap (λ list. take (j - i) (drop i list)) c.deref.ensures.value)
    (c.in_ok-texts.ensures ∙ ap (λ list. take (end - start) (drop start list)) c.deref-2.ensures.value)
    (packed_run (packed_as c.self.invariant c.self.view_is) i j start end c.requires.order c.requires.from c.requires.to)

pub invariant_of-result : goal.invariant_of-result
invariant_of-result c = repacked (copied c)

pub returns : goal.returns
returns c = unpacked (copied c)
