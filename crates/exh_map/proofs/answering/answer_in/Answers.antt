use Rattle.std.proofs.Common.{◌≡◌, ◌<◌, length, ap, ◌∙◌, arith}
use Rattle.exh_calls.specs.Call.{key_of}
use Rattle.exh_keyer.specs.Pseudokey.{any_pseudokey}
use Rattle.exh_in_place.specs.Opened.{in_file}
use Rattle.exh_prefix.specs.Leading.{ward_of}
use Rattle.exh_in_place.specs.InWardLemmas.{at_within, ward_covers, ward_hashed}
use Rattle.exh_map.proofs.CallLemmas.{kept_in, one_in, settings_of, ward_there}
use Rattle.exh_map.proofs.SetLemmas.{wards_set}
use Rattle.exh_map.proofs.answering.answer_in.Goals as goal

pub index_mut-ward-requires : goal.index_mut-ward-requires
index_mut-ward-requires g c =
    let old = in_file c.args.settings.now c.args.wards.now.items in
    let hashed : c.pseudo-pseudokey.result ≡ any_pseudokey old.keyer (key_of c.args.call.now) = c.pseudo-pseudokey.ensures ∙ ap (any_pseudokey old.keyer) (c.as_bytes.ensures.bytes ∙ c.key.ensures) in
    let at_is : c.from-at.result ≡ ward_of old.ward_bits c.pseudo-pseudokey.result = c.from-at.ensures ∙ c.ward_number.ensures in
    let within : c.from-at.result < length c.args.wards.now.items = at_within old c.requires c.args.call.now c.pseudo-pseudokey.result c.from-at.result hashed at_is in
    omega (arith, c.args.wards.now.ok.0, within)

pub answer_by-requires-clause-hashed : goal.answer_by-requires-clause-hashed
answer_by-requires-clause-hashed g c =
    let old = in_file c.args.settings.now c.args.wards.now.items in
    let hashed : c.pseudo-pseudokey.result ≡ any_pseudokey old.keyer (key_of c.args.call.now) = c.pseudo-pseudokey.ensures ∙ ap (any_pseudokey old.keyer) (c.as_bytes.ensures.bytes ∙ c.key.ensures) in
    let at_is : c.from-at.result ≡ ward_of old.ward_bits c.pseudo-pseudokey.result = c.from-at.ensures ∙ c.ward_number.ensures in
    ward_hashed old c.requires c.args.call.now c.pseudo-pseudokey.result c.from-at.result hashed at_is c.index_mut-ward.result.now c.index_mut-ward.ensures.value

pub answer_by-requires-clause-covered : goal.answer_by-requires-clause-covered
answer_by-requires-clause-covered g c =
    let old = in_file c.args.settings.now c.args.wards.now.items in
    let hashed : c.pseudo-pseudokey.result ≡ any_pseudokey old.keyer (key_of c.args.call.now) = c.pseudo-pseudokey.ensures ∙ ap (any_pseudokey old.keyer) (c.as_bytes.ensures.bytes ∙ c.key.ensures) in
    let at_is : c.from-at.result ≡ ward_of old.ward_bits c.pseudo-pseudokey.result = c.from-at.ensures ∙ c.ward_number.ensures in
    ward_covers old c.requires c.args.call.now c.pseudo-pseudokey.result c.from-at.result hashed at_is c.index_mut-ward.result.now c.index_mut-ward.ensures.value

pub returns-clause-one : goal.returns-clause-one
returns-clause-one g c =
    let old = in_file c.args.settings.now c.args.wards.now.items in
    let hashed : c.pseudo-pseudokey.result ≡ any_pseudokey old.keyer (key_of c.args.call.now) = c.pseudo-pseudokey.ensures ∙ ap (any_pseudokey old.keyer) (c.as_bytes.ensures.bytes ∙ c.key.ensures) in
    let at_is : c.from-at.result ≡ ward_of old.ward_bits c.pseudo-pseudokey.result = c.from-at.ensures ∙ c.ward_number.ensures in
    one_in old c.requires c.args.call.now c.pseudo-pseudokey.result c.from-at.result hashed at_is c.index_mut-ward.result.now c.index_mut-ward.ensures.value c.answer_by.new.ward c.answer_by.result c.answer_by.ensures.answered

pub returns-clause-err : goal.returns-clause-err
returns-clause-err g c =
    let old = in_file c.args.settings.now c.args.wards.now.items in
    let hashed : c.pseudo-pseudokey.result ≡ any_pseudokey old.keyer (key_of c.args.call.now) = c.pseudo-pseudokey.ensures ∙ ap (any_pseudokey old.keyer) (c.as_bytes.ensures.bytes ∙ c.key.ensures) in
    let at_is : c.from-at.result ≡ ward_of old.ward_bits c.pseudo-pseudokey.result = c.from-at.ensures ∙ c.ward_number.ensures in
    kept_in old c.requires c.args.call.now c.pseudo-pseudokey.result c.from-at.result hashed at_is c.index_mut-ward.result.now c.index_mut-ward.ensures.value c.answer_by.new.ward c.answer_by.result c.answer_by.ensures.err

pub returns-clause-wards : goal.returns-clause-wards
returns-clause-wards g c =
    let old = in_file c.args.settings.now c.args.wards.now.items in
    let hashed : c.pseudo-pseudokey.result ≡ any_pseudokey old.keyer (key_of c.args.call.now) = c.pseudo-pseudokey.ensures ∙ ap (any_pseudokey old.keyer) (c.as_bytes.ensures.bytes ∙ c.key.ensures) in
    let at_is : c.from-at.result ≡ ward_of old.ward_bits c.pseudo-pseudokey.result = c.from-at.ensures ∙ c.ward_number.ensures in
    let there = ward_there old c.requires c.args.call.now c.pseudo-pseudokey.result c.from-at.result hashed at_is c.index_mut-ward.result.now c.index_mut-ward.ensures.value c.answer_by.new.ward in
    wards_set old c.from-at.result c.index_mut-ward.result.now c.answer_by.new.ward there c.requires
    (settings_of c.index_mut-ward.result.now c.answer_by.new.ward c.args.call.now c.answer_by.result c.answer_by.ensures.answered c.answer_by.ensures.err)
