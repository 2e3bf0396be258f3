use Rattle.std.proofs.Common.{◌≡◌, ◌<◌, ◌≤◌, length, Some, get_or, sym, ap, ◌∙◌, subst, arith}
use Rattle.std.proofs.lemmas.Option.{slice_get-get_or}
use Rattle.exh_prefix.specs.Leading.{leading}
use Rattle.exh_array.specs.declared.pointer.Pointer.{Pointer}
use Rattle.exh_array.specs.Pointers.{PointerArray}
use Rattle.exh_array.specs.Pointers.{pointer_at}
use Rattle.exh_prefix.specs.LeadingLemmas.{leading-lt}
use Rattle.exh_array.proofs.pointers.Pointers.pointer.Goals as goal

-- the array is full: the leading bits are within it
pub index-requires : goal.index-requires
index-requires c = omega (arith, leading-lt c.self.inside.depth c.args.pseudokey (omega arith), c.self.invariant.full, c.leading.ensures)

here : (c : goal.After-result-1) → get_or c.self.inside.pointers.items (leading c.self.inside.depth c.args.pseudokey) c.index.result.now ≡ c.index.result.now
here c = ap (λ n. get_or c.self.inside.pointers.items n c.index.result.now) (sym c.leading.ensures) ∙ sym c.index.ensures

pub returns-clause-at : goal.returns-clause-at
returns-clause-at c =
    let pointers = c.self.inside.pointers.items in
    let place = leading c.self.inside.depth c.args.pseudokey in
    let within : place < length pointers = omega (arith, leading-lt c.self.inside.depth c.args.pseudokey (omega arith), c.self.invariant.full) in
    subst (λ (array : PointerArray). pointer_at array c.args.pseudokey ≡ Some c.index.result.now) c.self.view_is (slice_get-get_or pointers place c.index.result.now within ∙ ap Some (here c))

pub returns-clause-limit : goal.returns-clause-limit
returns-clause-limit c =
    let place = leading c.self.inside.depth c.args.pseudokey in
    let deep = c.self.invariant.within place c.index.result.now (omega (arith, leading-lt c.self.inside.depth c.args.pseudokey (omega arith), c.self.invariant.full)) in
    omega (arith, subst (λ (pointer : Pointer). pointer.local_depth ≤ c.self.inside.depth) (here c) deep, c.self.invariant.limit)
