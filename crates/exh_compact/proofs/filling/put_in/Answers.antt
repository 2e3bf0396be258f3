use Rattle.std.proofs.Common.{◌≡◌, ◌<◌, length, ap, ◌∙◌, arith}
use Rattle.exh_calls.specs.declared.call.Call.TheVariants.{Put}
use Rattle.exh_keyer.specs.Pseudokey.{any_pseudokey}
use Rattle.exhash.specs.Opened.{in_file}
use Rattle.exh_prefix.specs.Leading.{ward_of}
use Rattle.exhash.specs.InWardLemmas.{at_within, one_in, ward_covers, ward_hashed}
use Rattle.exh_compact.proofs.FileLemmas.{needed_if, wards_if}
use Rattle.exh_compact.proofs.filling.put_in.Goals as goal

pub index_mut-ward-requires : goal.index_mut-ward-requires
index_mut-ward-requires g c =
    let old = in_file c.args.settings.now c.args.wards.now.items in
    let call = Put c.args.key.now c.args.value.now in
    let hashed : c.pseudo-pseudokey.result ≡ any_pseudokey old.keyer c.args.key.now = c.pseudo-pseudokey.ensures ∙ ap (any_pseudokey old.keyer) c.as_bytes.ensures.bytes in
    let at_is : c.from-at.result ≡ ward_of old.ward_bits c.pseudo-pseudokey.result = c.from-at.ensures ∙ c.ward_number.ensures in
    let within : c.from-at.result < length c.args.wards.now.items = at_within old c.requires call c.pseudo-pseudokey.result c.from-at.result hashed at_is in
    omega (arith, c.args.wards.now.ok.0, within)

pub put_pair-requires-clause-hashed : goal.put_pair-requires-clause-hashed
put_pair-requires-clause-hashed g c =
    let old = in_file c.args.settings.now c.args.wards.now.items in
    let call = Put c.args.key.now c.args.value.now in
    let hashed : c.pseudo-pseudokey.result ≡ any_pseudokey old.keyer c.args.key.now = c.pseudo-pseudokey.ensures ∙ ap (any_pseudokey old.keyer) c.as_bytes.ensures.bytes in
    let at_is : c.from-at.result ≡ ward_of old.ward_bits c.pseudo-pseudokey.result = c.from-at.ensures ∙ c.ward_number.ensures in
    ward_hashed old c.requires call c.pseudo-pseudokey.result c.from-at.result hashed at_is c.index_mut-ward.result.now c.index_mut-ward.ensures.value

pub put_pair-requires-clause-covered : goal.put_pair-requires-clause-covered
put_pair-requires-clause-covered g c =
    let old = in_file c.args.settings.now c.args.wards.now.items in
    let call = Put c.args.key.now c.args.value.now in
    let hashed : c.pseudo-pseudokey.result ≡ any_pseudokey old.keyer c.args.key.now = c.pseudo-pseudokey.ensures ∙ ap (any_pseudokey old.keyer) c.as_bytes.ensures.bytes in
    let at_is : c.from-at.result ≡ ward_of old.ward_bits c.pseudo-pseudokey.result = c.from-at.ensures ∙ c.ward_number.ensures in
    ward_covers old c.requires call c.pseudo-pseudokey.result c.from-at.result hashed at_is c.index_mut-ward.result.now c.index_mut-ward.ensures.value

pub returns-clause-one : goal.returns-clause-one
returns-clause-one g c =
    let old = in_file c.args.settings.now c.args.wards.now.items in
    let call = Put c.args.key.now c.args.value.now in
    let hashed : c.pseudo-pseudokey.result ≡ any_pseudokey old.keyer c.args.key.now = c.pseudo-pseudokey.ensures ∙ ap (any_pseudokey old.keyer) c.as_bytes.ensures.bytes in
    let at_is : c.from-at.result ≡ ward_of old.ward_bits c.pseudo-pseudokey.result = c.from-at.ensures ∙ c.ward_number.ensures in
    one_in old c.requires call c.pseudo-pseudokey.result c.from-at.result hashed at_is c.index_mut-ward.result.now c.index_mut-ward.ensures.value c.put_pair.new.ward c.put_pair.result c.put_pair.ensures.changed

pub returns-clause-wards : goal.returns-clause-wards
returns-clause-wards g c =
    let old = in_file c.args.settings.now c.args.wards.now.items in
    let call = Put c.args.key.now c.args.value.now in
    let hashed : c.pseudo-pseudokey.result ≡ any_pseudokey old.keyer c.args.key.now = c.pseudo-pseudokey.ensures ∙ ap (any_pseudokey old.keyer) c.as_bytes.ensures.bytes in
    let at_is : c.from-at.result ≡ ward_of old.ward_bits c.pseudo-pseudokey.result = c.from-at.ensures ∙ c.ward_number.ensures in
    wards_if old c.requires call c.pseudo-pseudokey.result c.from-at.result hashed at_is c.index_mut-ward.result.now c.index_mut-ward.ensures.value c.put_pair.new.ward c.put_pair.result c.put_pair.ensures.changed

pub returns-clause-needed : goal.returns-clause-needed
returns-clause-needed g c =
    let old = in_file c.args.settings.now c.args.wards.now.items in
    let call = Put c.args.key.now c.args.value.now in
    let hashed : c.pseudo-pseudokey.result ≡ any_pseudokey old.keyer c.args.key.now = c.pseudo-pseudokey.ensures ∙ ap (any_pseudokey old.keyer) c.as_bytes.ensures.bytes in
    let at_is : c.from-at.result ≡ ward_of old.ward_bits c.pseudo-pseudokey.result = c.from-at.ensures ∙ c.ward_number.ensures in
    needed_if old c.requires call c.pseudo-pseudokey.result c.from-at.result hashed at_is c.index_mut-ward.result.now c.index_mut-ward.ensures.value c.put_pair.new.ward c.put_pair.result c.put_pair.ensures.needed
