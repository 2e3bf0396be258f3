use Rattle.std.proofs.Common.{ℕ, List, sym, subst}
use Rattle.exh_in_place.specs.Reopened.{OpensAs}
use Rattle.exh_map.proofs.copying.opened_of.Goals as goal

pub returns-in-Ok-clause-copy : goal.returns-in-Ok-clause-copy
returns-in-Ok-clause-copy c =
    let found = c.in-Ok.ensures.opened in
    let opens : OpensAs found.1 c.in-Ok.opened = record { file = found.0; legal = found.4; wards = found.5 } in
    subst (λ (bytes : List ℕ). OpensAs bytes c.in-Ok.opened) (sym found.2) opens
