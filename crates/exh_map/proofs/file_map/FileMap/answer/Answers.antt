use Rattle.std.proofs.Common.{IfOk, OnErr, subst}
use Rattle.exh_in_place.specs.FileChange.{ChangesOneMap}
use Rattle.exh_in_place.specs.Opened.{OpenedState, in_file}
use Rattle.exh_map.specs.FileMap.{KeepsMap}
use Rattle.exh_map.proofs.file_map.FileMap.answer.Goals as goal

pub returns-clause-one : goal.returns-clause-one
returns-clause-one g c =
    subst (λ (old : OpenedState). IfOk c.answer_in.result (λ reply. ChangesOneMap old c.args.call.now reply (in_file c.self.inside.settings c.answer_in.new.wards.items))) c.self.view_is c.answer_in.ensures.one

pub returns-clause-err : goal.returns-clause-err
returns-clause-err g c =
    subst (λ (old : OpenedState). OnErr c.answer_in.result (KeepsMap old (in_file c.self.inside.settings c.answer_in.new.wards.items))) c.self.view_is c.answer_in.ensures.err
