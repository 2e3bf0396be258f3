use Rattle.exh_map.proofs.AnswerLemmas.{is_removed}
use Rattle.exh_map.proofs.file_map.FileMap.remove.Goals as goal

pub returns-in-Ok-clause-removed : goal.returns-in-Ok-clause-removed
returns-in-Ok-clause-removed g c = is_removed c.args.self.now c.answer.new.self c.args.key.now c.in-Ok.reply c.value_in.result c.in-Ok.ensures.one c.value_in.ensures
