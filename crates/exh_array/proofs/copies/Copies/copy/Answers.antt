use Rattle.std.proofs.Common.{◌≡◌, Some, slice_get, ap, subst}
use Rattle.exh_array.specs.Pointers.{HasArrayOf}
use Rattle.exh_array.specs.Copies.{CopiesState}
use Rattle.exh_array.specs.Sent.{unpacked}
use Rattle.exh_array.proofs.KeptCopies.{lent_there}
use Rattle.exh_array.proofs.copies.Copies.copy.Goals as goal

pub returns-clause-array : goal.returns-clause-array
returns-clause-array c =
    let items = c.self.inside.copies.items in
    let start = c.self.inside.start in
    let sent = unpacked start.table c.self.inside.sent in
    let old = c.index.result.now in
    let there : slice_get items c.args.at ≡ Some old = lent_there items c.args.self.now.copies c.args.at old (ap (λ (s : CopiesState). s.copies) c.self.view_is) c.requires c.index.ensures in
    subst (λ (s : CopiesState). HasArrayOf s.ward_bits old.directory) c.self.view_is (c.self.invariant.arrays c.args.at old there)
