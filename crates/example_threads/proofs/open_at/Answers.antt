use Rattle.std.proofs.Common.{ap}
use Rattle.exh_keyer.specs.declared.any_keyer.AnyKeyer.{AnyKeyer}
use Rattle.exh_ward.specs.WardState.{WardState}
use Rattle.example_threads.proofs.open_at.Goals as goal

-- the wards of an opened file have no history
pub returns : goal.returns
returns c number ward there =
    let file = c.in_ok-opened.ensures.opened.5 in
    ap (λ (ward : WardState AnyKeyer). ward.journal) (file.each number ward there).is
