use Rattle.std.proofs.Common.{OnErr, subst}
use Rattle.exh_in_place.specs.Opened.{OpenedState, in_file}
use Rattle.exh_map.specs.FileMap.{KeepsMap}
use Rattle.exh_map.proofs.file_map.FileMap.lows_grown.Goals as goal

pub returns-clause-err : goal.returns-clause-err
returns-clause-err g c =
    subst (λ (old : OpenedState). OnErr c.lows_grown.result (KeepsMap old (in_file c.self.inside.settings c.lows_grown.new.wards.items))) c.self.view_is c.lows_grown.ensures.err
