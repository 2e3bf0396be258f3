use Rattle.exh_map.proofs.AnswerLemmas.{kept_behind, replaced_if}
use Rattle.exh_map.proofs.file_map.FileMap.replace.Goals as goal

pub returns-in-Ok-Some-clause-replaced : goal.returns-in-Ok-Some-clause-replaced
returns-in-Ok-Some-clause-replaced g c =
    let got = rw c.in-Ok-Some.field-0-is at c.in-Ok-Some.ensures.got in
    replaced_if c.args.self.now c.get.new.self c.put_over.new.self c.args.key.now c.args.value.now _ c.put_over.result got c.put_over.ensures.put

pub returns-in-Ok-Some-clause-err : goal.returns-in-Ok-Some-clause-err
returns-in-Ok-Some-clause-err g c = kept_behind c.args.self.now c.get.new.self c.put_over.new.self c.args.key.now _ c.put_over.result c.in-Ok-Some.ensures.got c.put_over.ensures.err
