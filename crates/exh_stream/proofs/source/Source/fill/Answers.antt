use Rattle.std.proofs.Common.{sym, subst, rules, ◌∙◌}
use Rattle.std.proofs.lemmas.Bool.{false≢true}
use Rattle.std.specs.Io.KnownBytes.{Consumes}
use Rattle.std.proofs.KnownBytes.{Consumes-trans}
use Rattle.exh_stream.specs.OutputLemmas.{stays_open}
use Rattle.exh_stream.proofs.Given.{filled_more}
use Rattle.exh_stream.proofs.source.Source.fill.Goals as goal

pub loop-filled-preserved : goal.loop-filled-preserved
loop-filled-preserved g c =
    let i = c.loop-filled.invariant in
    let filled = c.loop-filled.filled in
    let count = c.in_ok-count.count in
    record {
      same_reader = c.read.ensures.same_reader ∙ i.same_reader;
      open_still = stays_open _ (λ failed. false≢true (c.in_ok-count.ensures.failed.1 failed));
      len = search rules;
      within = search rules;
      given = subst (Consumes _ _) (sym (filled_more filled count c.loop-filled.block c.read.new.block _ i.within c.in_ok-count.ensures.bound.0)) (Consumes-trans _ _ _ _ _ i.given c.in_ok-count.ensures.bytes.0);
    }
