use Rattle.std.proofs.Common.{ap, arith}
use Rattle.std.proofs.lemmas.Result.{IfOk-from_err, IfOk-weaker}
use Rattle.exh_keyer.specs.declared.sha_keyer.ShaKeyer.{ShaKeyer}
use Rattle.exh_live.specs.LiveFile.{LiveState}
use Rattle.exh_live.specs.LiveWardLemmas.{answered_nothing}
use Rattle.exh_live.proofs.file.new_file.Goals as goal

pub overflow_cast-settings : goal.overflow_cast-settings
overflow_cast-settings g c = omega (arith, c.requires.config.cap)

pub new_wards-requires-clause-some : goal.new_wards-requires-clause-some
new_wards-requires-clause-some g c = c.requires.config.some_record

pub new_wards-requires-clause-most : goal.new_wards-requires-clause-most
new_wards-requires-clause-most g c = c.requires.config.cap

pub new_wards-requires-clause-bits : goal.new_wards-requires-clause-bits
new_wards-requires-clause-bits g c = c.requires.config.ward_bits

pub new-requires-clause-wards : goal.new-requires-clause-wards
new-requires-clause-wards g c = (_, answered_nothing _ _ c.in_ok-wards.ensures.wards, c.requires.hashed)

pub new-requires-clause-answers : goal.new-requires-clause-answers
new-requires-clause-answers g c = c.requires.answers

pub new-requires-clause-entries : goal.new-requires-clause-entries
new-requires-clause-entries g c = c.requires.entries

pub returns-in_err-wards-clause-settings : goal.returns-in_err-wards-clause-settings
returns-in_err-wards-clause-settings g c = IfOk-from_err c.from_residual.result _ c.from_residual.ensures.0

pub returns-in_err-wards-clause-seats : goal.returns-in_err-wards-clause-seats
returns-in_err-wards-clause-seats g c = IfOk-from_err c.from_residual.result _ c.from_residual.ensures.0

pub returns-clause-settings : goal.returns-clause-settings
returns-clause-settings g c = IfOk-weaker c.new.result _ _ (λ file is.
    let made = is _ (answered_nothing _ _ c.in_ok-wards.ensures.wards) in
    (ap (λ (file : LiveState ShaKeyer). file.cap) made, ap (λ (file : LiveState ShaKeyer). file.ward_bits) made)) c.new.ensures

pub returns-clause-seats : goal.returns-clause-seats
returns-clause-seats g c = IfOk-weaker c.new.result _ _ (λ file is. ap (λ (file : LiveState ShaKeyer). file.seats) (is _ (answered_nothing _ _ c.in_ok-wards.ensures.wards))) c.new.ensures
