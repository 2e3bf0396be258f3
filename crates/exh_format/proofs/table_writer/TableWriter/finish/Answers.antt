use Rattle.std.proofs.Common.{◌≡◌, ◌<◌, [], length, sym, subst, rules}
use Rattle.exh_stream.specs.Output.{Takes}
use Rattle.exh_stream.specs.OutputLemmas.{Takes-none}
use Rattle.exh_format.specs.Writing.{last_block, on_its_way}
use Rattle.exh_format.specs.WritingLemmas.{last_block-some}
use Rattle.exh_format.proofs.Written.{some_out}
use Rattle.exh_format.proofs.table_writer.TableWriter.finish.Goals as goal
use Rattle.exh_format.proofs.table_writer.TableWriter.finish.Goals.{then-not-is_empty+in_ok-write_images, else-not-is_empty}

pub returns-clause-err : goal.returns-clause-err
returns-clause-err g c =
    let contents = g.W.Write.contents in
    let old = on_its_way c.args.output.now c.args.self.now in
    let mid = c.if-not-is_empty.output in
    let taken : Takes contents old.output mid (last_block old.images) =
    elim c.if-not-is_empty.branch [
      | then-not-is_empty+in_ok-write_images w ↦
          let some : 0 < length old.images = search rules in
          subst (λ mid. Takes contents old.output mid (last_block old.images)) (sym w.output-is) (subst (Takes contents old.output w.write_images.new.output) (sym (last_block-some old.images some)) w.in_ok-write_images.ensures.ok)
      | else-not-is_empty w ↦
          let none : old.images ≡ [] = search rules in
          subst (λ mid. Takes contents old.output mid (last_block old.images)) (sym w.output-is) (subst (λ images. Takes contents old.output old.output (last_block images)) (sym none) (Takes-none contents old.output))
    ] in
    some_out contents old mid c.finish.new.self c.finish.result taken c.finish.ensures.err
