use Rattle.exh_map.proofs.AnswerLemmas.{kept_behind, put_new_if}
use Rattle.exh_map.proofs.file_map.FileMap.put_new.Goals as goal

pub returns-in-Ok-None-clause-put : goal.returns-in-Ok-None-clause-put
returns-in-Ok-None-clause-put g c =
    let got = rw c.in-Ok-None.field-0-is at c.in-Ok-None.ensures.got in
    put_new_if c.args.self.now c.get.new.self c.put_absent.new.self c.args.key.now c.args.value.now c.put_absent.result got c.in-Ok-None.ensures.settings c.put_absent.ensures.put

pub returns-in-Ok-None-clause-err : goal.returns-in-Ok-None-clause-err
returns-in-Ok-None-clause-err g c = kept_behind c.args.self.now c.get.new.self c.put_absent.new.self c.args.key.now _ c.put_absent.result c.in-Ok-None.ensures.got c.put_absent.ensures.err
