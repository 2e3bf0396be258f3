use Rattle.std.proofs.Common.{◌≡◌, ◌<◌, length, ap, ◌∙◌, arith}
use Rattle.exh_calls.specs.Call.{key_of}
use Rattle.exh_keyer.specs.Pseudokey.{any_pseudokey}
use Rattle.exh_file.specs.Opened.{in_file}
use Rattle.exh_prefix.specs.Leading.{ward_of}
use Rattle.exh_file.specs.InWardLemmas.{at_within, changed_in, one_in, settings_kept, ward_covers, ward_hashed, wards_left}
use Rattle.exh_file.proofs.file_change.change_in.Goals as goal

pub index_mut-ward-requires : goal.index_mut-ward-requires
index_mut-ward-requires g c =
    let old = in_file c.args.settings.now c.args.wards.now.items in
    let hashed : c.pseudo-pseudokey.result ≡ any_pseudokey old.keyer (key_of c.args.call.now) = c.pseudo-pseudokey.ensures ∙ ap (any_pseudokey old.keyer) (c.as_bytes.ensures.bytes ∙ c.key.ensures) in
    let at_is : c.from-at.result ≡ ward_of old.ward_bits c.pseudo-pseudokey.result = c.from-at.ensures ∙ c.ward_number.ensures in
    let within : c.from-at.result < length c.args.wards.now.items = at_within old c.requires c.args.call.now c.pseudo-pseudokey.result c.from-at.result hashed at_is in
    omega (arith, c.args.wards.now.ok.0, within)

pub change_ward-requires-clause-hashed : goal.change_ward-requires-clause-hashed
change_ward-requires-clause-hashed g c =
    let old = in_file c.args.settings.now c.args.wards.now.items in
    let hashed : c.pseudo-pseudokey.result ≡ any_pseudokey old.keyer (key_of c.args.call.now) = c.pseudo-pseudokey.ensures ∙ ap (any_pseudokey old.keyer) (c.as_bytes.ensures.bytes ∙ c.key.ensures) in
    let at_is : c.from-at.result ≡ ward_of old.ward_bits c.pseudo-pseudokey.result = c.from-at.ensures ∙ c.ward_number.ensures in
    ward_hashed old c.requires c.args.call.now c.pseudo-pseudokey.result c.from-at.result hashed at_is c.index_mut-ward.result.now c.index_mut-ward.ensures.value

pub change_ward-requires-clause-covered : goal.change_ward-requires-clause-covered
change_ward-requires-clause-covered g c =
    let old = in_file c.args.settings.now c.args.wards.now.items in
    let hashed : c.pseudo-pseudokey.result ≡ any_pseudokey old.keyer (key_of c.args.call.now) = c.pseudo-pseudokey.ensures ∙ ap (any_pseudokey old.keyer) (c.as_bytes.ensures.bytes ∙ c.key.ensures) in
    let at_is : c.from-at.result ≡ ward_of old.ward_bits c.pseudo-pseudokey.result = c.from-at.ensures ∙ c.ward_number.ensures in
    ward_covers old c.requires c.args.call.now c.pseudo-pseudokey.result c.from-at.result hashed at_is c.index_mut-ward.result.now c.index_mut-ward.ensures.value

pub returns-clause-changed : goal.returns-clause-changed
returns-clause-changed g c =
    let old = in_file c.args.settings.now c.args.wards.now.items in
    let hashed : c.pseudo-pseudokey.result ≡ any_pseudokey old.keyer (key_of c.args.call.now) = c.pseudo-pseudokey.ensures ∙ ap (any_pseudokey old.keyer) (c.as_bytes.ensures.bytes ∙ c.key.ensures) in
    let at_is : c.from-at.result ≡ ward_of old.ward_bits c.pseudo-pseudokey.result = c.from-at.ensures ∙ c.ward_number.ensures in
    changed_in old c.requires c.args.call.now c.pseudo-pseudokey.result c.from-at.result hashed at_is c.index_mut-ward.result.now c.index_mut-ward.ensures.value c.change_ward.new.ward c.change_ward.result c.change_ward.ensures.changed

pub returns-clause-one : goal.returns-clause-one
returns-clause-one g c =
    let old = in_file c.args.settings.now c.args.wards.now.items in
    let hashed : c.pseudo-pseudokey.result ≡ any_pseudokey old.keyer (key_of c.args.call.now) = c.pseudo-pseudokey.ensures ∙ ap (any_pseudokey old.keyer) (c.as_bytes.ensures.bytes ∙ c.key.ensures) in
    let at_is : c.from-at.result ≡ ward_of old.ward_bits c.pseudo-pseudokey.result = c.from-at.ensures ∙ c.ward_number.ensures in
    one_in old c.requires c.args.call.now c.pseudo-pseudokey.result c.from-at.result hashed at_is c.index_mut-ward.result.now c.index_mut-ward.ensures.value c.change_ward.new.ward c.change_ward.result c.change_ward.ensures.changed

pub returns-clause-wards : goal.returns-clause-wards
returns-clause-wards g c =
    let old = in_file c.args.settings.now c.args.wards.now.items in
    let hashed : c.pseudo-pseudokey.result ≡ any_pseudokey old.keyer (key_of c.args.call.now) = c.pseudo-pseudokey.ensures ∙ ap (any_pseudokey old.keyer) (c.as_bytes.ensures.bytes ∙ c.key.ensures) in
    let at_is : c.from-at.result ≡ ward_of old.ward_bits c.pseudo-pseudokey.result = c.from-at.ensures ∙ c.ward_number.ensures in
    wards_left old c.requires c.args.call.now c.pseudo-pseudokey.result c.from-at.result hashed at_is c.index_mut-ward.result.now c.index_mut-ward.ensures.value c.change_ward.new.ward
    (settings_kept c.index_mut-ward.result.now c.change_ward.new.ward c.args.call.now c.change_ward.result c.change_ward.ensures.changed c.change_ward.ensures.err)
