use Rattle.std.proofs.Common.{ap, rules}
use Rattle.std.proofs.lemmas.Result.{IfOk-weaker}
use Rattle.exh_keyer.specs.declared.plain_keyer.PlainKeyer.{PlainKeyer}
use Rattle.exh_live.specs.LiveFile.{LiveState}
use Rattle.exh_fakes.specs.declared.files.TheConstants.{CAP}
use Rattle.exh_fakes.proofs.OneNewWard.{one_new_ward}
use Rattle.exh_fakes.proofs.files.one_ward_file.Goals as goal

pub new-requires-clause-wards : goal.new-requires-clause-wards
new-requires-clause-wards g c = (_, one_new_ward CAP c.args.keyer c.args.ward c.requires.new _ (search rules), c.requires.hashed)

pub returns : goal.returns
returns g c = record {
  settings = IfOk-weaker c.new.result _ _ (λ file is.
      let made = is _ (one_new_ward CAP c.args.keyer c.args.ward c.requires.new _ (search rules)) in
      (ap (λ (file : LiveState PlainKeyer). file.cap) made, ap (λ (file : LiveState PlainKeyer). file.ward_bits) made)) c.new.ensures;
}
