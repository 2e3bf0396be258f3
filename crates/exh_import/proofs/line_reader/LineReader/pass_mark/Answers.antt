use Rattle.std.proofs.Common.{◌∙◌, ap}
use Rattle.exh_import.specs.LineReader.{mark_len}
use Rattle.exh_import.proofs.Marks.{passed}
use Rattle.exh_import.proofs.line_reader.LineReader.pass_mark.Goals as goal

pub returns-clause-text : goal.returns-clause-text
returns-clause-text g c =
    let read = c.refill.new.self in
    passed g.R.Read.remaining c.args.self.now read c.mark_len-self.result c.in_ok-refill.ensures.text c.in_ok-refill.ensures.ends c.in_ok-refill.ensures.start c.in_ok-refill.ensures.full (c.mark_len-self.ensures ∙ ap mark_len c.deref.ensures.value)
