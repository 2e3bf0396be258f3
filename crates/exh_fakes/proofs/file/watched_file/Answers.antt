use Rattle.std.proofs.Common.{ap}
use Rattle.std.proofs.lemmas.Result.{IfOk-weaker}
use Rattle.exh_keyer.specs.declared.plain_keyer.PlainKeyer.{PlainKeyer}
use Rattle.exh_live.specs.LiveFile.{LiveState}
use Rattle.exh_live.specs.LiveWardLemmas.{answered_nothing}
use Rattle.exh_fakes.proofs.file.watched_file.Goals as goal

pub new-requires-clause-wards : goal.new-requires-clause-wards
new-requires-clause-wards g c = (_, answered_nothing _ _ c.in_ok-wards.ensures.wards, c.requires.hashed)

pub returns : goal.returns
returns g c = record {
  settings = IfOk-weaker c.new.result _ _ (λ file is.
      let made = is _ (answered_nothing _ _ c.in_ok-wards.ensures.wards) in
      (ap (λ (file : LiveState PlainKeyer). file.cap) made, ap (λ (file : LiveState PlainKeyer). file.ward_bits) made)) c.new.ensures;
}
