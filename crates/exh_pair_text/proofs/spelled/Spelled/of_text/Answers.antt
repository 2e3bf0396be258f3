use Rattle.std.proofs.Common.{length, sym, ap, ◌∙◌}
use Rattle.exh_pair_text.specs.declared.spelled.Spelled.TheVariants.{Few}
use Rattle.exh_pair_text.proofs.Cases.{above, spelled_few, spelled_many}
use Rattle.exh_pair_text.proofs.spelled.Spelled.of_text.Goals as goal

pub returns-in-Ok : goal.returns-in-Ok
returns-in-Ok c = sym (spelled_few c.args.text.now c.in-Ok.ensures.0 ∙ ap Few (sym c.in-Ok.ensures.1))

pub returns-in-Err : goal.returns-in-Err
returns-in-Err c = sym (spelled_many c.args.text.now (above (length c.args.text.now) c.in-Err.ensures))
