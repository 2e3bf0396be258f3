use Rattle.exh_map.proofs.AnswerLemmas.{is_got}
use Rattle.exh_map.proofs.file_map.FileMap.get.Goals as goal

pub returns-in-Ok-clause-got : goal.returns-in-Ok-clause-got
returns-in-Ok-clause-got g c = is_got c.args.self.now c.answer.new.self c.args.key.now c.in-Ok.reply c.value_in.result c.in-Ok.ensures.one c.value_in.ensures
