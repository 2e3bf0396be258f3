use Rattle.std.proofs.Common.{subst, ap}
use Rattle.exh_prefix.specs.Prefix.{Begins}
use Rattle.exh_legal.specs.LegalLaws.{NamesHome}
use Rattle.exh_ward.specs.WardState.{WardState, own_prefix, IsSoundWard}
use Rattle.exh_ward.proofs.ward.Ward.table.Goals as goal

pub returns-clause-walks : goal.returns-clause-walks
returns-clause-walks g c pseudokey small covered =
    let P : WardState g.row.K.Denot → Type 0 = λ w. Begins (own_prefix w) pseudokey → NamesHome (own_prefix w) w.start w.notices w.table w.pages pseudokey in
    subst P c.self.view_is (λ covered. c.walks_name_homes.ensures _ _ _ _ _ _ _ pseudokey c.self.invariant.sound.legal small covered) covered

pub returns-clause-table : goal.returns-clause-table
returns-clause-table g c = ap (λ (w : WardState g.row.K.Denot). w.table) c.self.view_is

pub returns-clause-sound : goal.returns-clause-sound
returns-clause-sound g c =
    let P : WardState g.row.K.Denot → Type 0 = λ w. IsSoundWard g.K.Keyer.pseudokey_of w in
    subst P c.self.view_is c.self.invariant.sound
