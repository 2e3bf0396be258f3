use Rattle.std.proofs.Common.{◌≡◌, Some, sym, ap, ◌∙◌, subst}
use Rattle.exh_array.specs.Pointers.{HasArrayOf}
use Rattle.exh_world.specs.World.{WorldState, numbered}
use Rattle.exh_world.proofs.world.World.copy.Goals as goal

pub copy-requires : goal.copy-requires
copy-requires g c = (c.in-Some.ensures.some c.self.inside.copies.copies (sym c.count.ensures)).1

pub returns-clause-copy : goal.returns-clause-copy
returns-clause-copy g c =
    let placed = c.in-Some.ensures.some c.self.inside.copies.copies (sym c.count.ensures) in
    subst (λ (w : WorldState g.row.K.Denot). numbered w.copies c.args.number ≡ Some c.copy.result.now.table) c.self.view_is (placed.2 ∙ c.copy.ensures.copy)

pub returns-clause-array : goal.returns-clause-array
returns-clause-array g c = subst (λ n. HasArrayOf n c.copy.result.now) (c.self.invariant.1 ∙ ap (λ (w : WorldState g.row.K.Denot). w.ward_bits) c.self.view_is) c.copy.ensures.array
