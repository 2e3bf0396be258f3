use Rattle.std.proofs.Common.{ap, subst}
use Rattle.exh_stream.specs.Output.{writer_failed}
use Rattle.exh_transfer.specs.declared.Status.{Status}
use Rattle.exh_everyday.specs.Answers.{answer_line, pair_line}
use Rattle.std.specs.Prelude.{flat_map}
use Rattle.exh_transfer.specs.Ends.{Ends, Says}
use Rattle.exh_transfer.specs.SaidLemmas.{said}
use Rattle.exh_everyday.proofs.printing.tell_found.Goals as goal

pub returns-clause-ends : goal.returns-clause-ends
returns-clause-ends g c =
    subst (λ (status : Status). Ends (Says (flat_map (pair_line c.args.words.now c.args.run.now.form.is_hex) c.args.found.now.pairs) status) (g.W.Write.contents c.args.output.now.writer.now) (g.W.Write.contents c.tell_text.new.output.writer.now) (writer_failed c.tell_text.new.output) c.tell_text.result) c.status.ensures
    (said (λ text. text.items) _ _ _ c.lines-text.result _ _ _ c.lines-text.ensures c.tell_text.ensures.told)
