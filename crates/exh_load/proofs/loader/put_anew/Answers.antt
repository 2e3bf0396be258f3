use Rattle.std.proofs.Common.{sym, ap, ◌∙◌, subst}
use Rattle.exh_keyer.specs.declared.any_keyer.AnyKeyer.{AnyKeyer}
use Rattle.exh_keyer.specs.Pseudokey.{any_pseudokey}
use Rattle.exh_calls.specs.declared.call.Call.TheVariants.{Put}
use Rattle.exh_prefix.specs.Prefix.{Begins}
use Rattle.exh_stream.specs.OutputLemmas.{OnErr-from}
use Rattle.exh_ward.specs.WardFault.{CountsFailures}
use Rattle.exh_load.proofs.PutIn.{anew_err, anew_put, own_beside, refused_anew, same_beside, told_beside}
use Rattle.exh_load.proofs.loader.put_anew.Goals as goal

pub put_pair-requires-clause-hashed : goal.put_pair-requires-clause-hashed
put_pair-requires-clause-hashed g c =
    let beside = same_beside c.args.ward.now c.renew_history.new.ward c.in_ok-renew_history.ensures.begun in
    c.requires.hashed ∙ ap (λ (keyer : AnyKeyer). any_pseudokey keyer c.args.key) (sym beside.keyer)

pub put_pair-requires-clause-covered : goal.put_pair-requires-clause-covered
put_pair-requires-clause-covered g c =
    let beside = same_beside c.args.ward.now c.renew_history.new.ward c.in_ok-renew_history.ensures.begun in
    subst (λ own. Begins own c.args.pseudokey) (sym (own_beside c.args.ward.now c.renew_history.new.ward beside)) c.requires.covered

pub put_pair-requires-clause-told : goal.put_pair-requires-clause-told
put_pair-requires-clause-told g c =
    told_beside c.args.ward.now c.renew_history.new.ward c.args.directory.now (same_beside c.args.ward.now c.renew_history.new.ward c.in_ok-renew_history.ensures.begun) c.requires.told

pub returns-in_err-renew_history-clause-err : goal.returns-in_err-renew_history-clause-err
returns-in_err-renew_history-clause-err g c = OnErr-from c.from_residual.result (refused_anew c.args.ward.now c.renew_history.new.ward c.in_err-renew_history.ensures.err)

pub returns-clause-put : goal.returns-clause-put
returns-clause-put g c =
    anew_put c.args.ward.now c.renew_history.new.ward c.put_pair.new.ward c.in_ok-renew_history.ensures.begun (Put c.args.key c.args.value) c.put_pair.result c.put_pair.ensures.put

pub returns-clause-err : goal.returns-clause-err
returns-clause-err g c = anew_err c.args.ward.now c.renew_history.new.ward c.put_pair.new.ward c.in_ok-renew_history.ensures.begun c.put_pair.result c.put_pair.ensures.err

pub returns-clause-failures : goal.returns-clause-failures
returns-clause-failures g c = subst (λ n. CountsFailures c.put_pair.result n c.put_pair.new.ward.failures) c.in_ok-renew_history.ensures.failures c.put_pair.ensures.failures
