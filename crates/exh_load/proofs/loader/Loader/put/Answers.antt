use Rattle.std.proofs.Common.{◌≡◌, ◌<◌, length, ap, ◌∙◌, arith}
use Rattle.exh_keyer.specs.Pseudokey.{any_pseudokey}
use Rattle.exh_prefix.specs.Leading.{ward_of}
use Rattle.exh_calls.specs.declared.call.Call.TheVariants.{Put}
use Rattle.exh_file.specs.InWardLemmas.{at_within, ward_covers, ward_hashed, wards_left}
use Rattle.exh_stream.specs.OutputLemmas.{OnErr-from}
use Rattle.exh_load.specs.Loader.{LoaderState, file_in}
use Rattle.exh_load.proofs.Counted.{at_least, fault_as}
use Rattle.exh_load.proofs.PutIn.{are_splits_in, counts_in, directory_within, falls_in, loading_left, maps_in, one_put_in, put_in, records_left, reply_in, settings_anew, ward_told}
use Rattle.exh_load.proofs.loader.Loader.put.Goals as goal

pub index_mut-ward-requires : goal.index_mut-ward-requires
index_mut-ward-requires g c =
    let i = c.self.inside in
    let old : LoaderState = record { cap = i.settings.cap; ward_bits = i.settings.ward_bits; keyer = i.settings.keyer; wards = i.wards.items; directories = i.directories.items } in
    let hashed : c.pseudo-pseudokey.result ≡ any_pseudokey i.settings.keyer c.args.key = c.pseudo-pseudokey.ensures ∙ ap (any_pseudokey i.settings.keyer) c.as_bytes.ensures.bytes in
    let at_is : c.from-at.result ≡ ward_of i.settings.ward_bits c.pseudo-pseudokey.result = c.from-at.ensures ∙ c.ward_number.ensures in
    let within : c.from-at.result < length i.wards.items = at_within (file_in old) c.self.invariant (Put c.args.key c.args.value) c.pseudo-pseudokey.result c.from-at.result hashed at_is in
    omega (arith, i.wards.ok.0, within)

pub index_mut-directory-requires : goal.index_mut-directory-requires
index_mut-directory-requires g c =
    let i = c.self.inside in
    let old : LoaderState = record { cap = i.settings.cap; ward_bits = i.settings.ward_bits; keyer = i.settings.keyer; wards = i.wards.items; directories = i.directories.items } in
    let hashed : c.pseudo-pseudokey.result ≡ any_pseudokey i.settings.keyer c.args.key = c.pseudo-pseudokey.ensures ∙ ap (any_pseudokey i.settings.keyer) c.as_bytes.ensures.bytes in
    let at_is : c.from-at.result ≡ ward_of i.settings.ward_bits c.pseudo-pseudokey.result = c.from-at.ensures ∙ c.ward_number.ensures in
    let within : c.from-at.result < length i.directories.items = directory_within old c.args.self.now c.self.view_is c.self.invariant c.requires c.args.key c.args.value c.pseudo-pseudokey.result c.from-at.result hashed at_is in
    omega (arith, i.directories.ok.0, within)

pub put_counted-requires-clause-hashed : goal.put_counted-requires-clause-hashed
put_counted-requires-clause-hashed g c =
    let i = c.self.inside in
    let old : LoaderState = record { cap = i.settings.cap; ward_bits = i.settings.ward_bits; keyer = i.settings.keyer; wards = i.wards.items; directories = i.directories.items } in
    let hashed : c.pseudo-pseudokey.result ≡ any_pseudokey i.settings.keyer c.args.key = c.pseudo-pseudokey.ensures ∙ ap (any_pseudokey i.settings.keyer) c.as_bytes.ensures.bytes in
    let at_is : c.from-at.result ≡ ward_of i.settings.ward_bits c.pseudo-pseudokey.result = c.from-at.ensures ∙ c.ward_number.ensures in
    ward_hashed (file_in old) c.self.invariant (Put c.args.key c.args.value) c.pseudo-pseudokey.result c.from-at.result hashed at_is c.index_mut-ward.result.now c.index_mut-ward.ensures.value

pub put_counted-requires-clause-covered : goal.put_counted-requires-clause-covered
put_counted-requires-clause-covered g c =
    let i = c.self.inside in
    let old : LoaderState = record { cap = i.settings.cap; ward_bits = i.settings.ward_bits; keyer = i.settings.keyer; wards = i.wards.items; directories = i.directories.items } in
    let hashed : c.pseudo-pseudokey.result ≡ any_pseudokey i.settings.keyer c.args.key = c.pseudo-pseudokey.ensures ∙ ap (any_pseudokey i.settings.keyer) c.as_bytes.ensures.bytes in
    let at_is : c.from-at.result ≡ ward_of i.settings.ward_bits c.pseudo-pseudokey.result = c.from-at.ensures ∙ c.ward_number.ensures in
    ward_covers (file_in old) c.self.invariant (Put c.args.key c.args.value) c.pseudo-pseudokey.result c.from-at.result hashed at_is c.index_mut-ward.result.now c.index_mut-ward.ensures.value

pub put_counted-requires-clause-told : goal.put_counted-requires-clause-told
put_counted-requires-clause-told g c =
    let i = c.self.inside in
    let old : LoaderState = record { cap = i.settings.cap; ward_bits = i.settings.ward_bits; keyer = i.settings.keyer; wards = i.wards.items; directories = i.directories.items } in
    let hashed : c.pseudo-pseudokey.result ≡ any_pseudokey i.settings.keyer c.args.key = c.pseudo-pseudokey.ensures ∙ ap (any_pseudokey i.settings.keyer) c.as_bytes.ensures.bytes in
    let at_is : c.from-at.result ≡ ward_of i.settings.ward_bits c.pseudo-pseudokey.result = c.from-at.ensures ∙ c.ward_number.ensures in
    ward_told old c.args.self.now c.self.view_is c.self.invariant c.requires c.args.key c.args.value c.pseudo-pseudokey.result c.from-at.result hashed at_is c.index_mut-ward.result.now c.index_mut-ward.ensures.value c.index_mut-directory.result.now c.index_mut-directory.ensures.value

pub invariant_of-self : goal.invariant_of-self
invariant_of-self g c =
    let i = c.self.inside in
    let old : LoaderState = record { cap = i.settings.cap; ward_bits = i.settings.ward_bits; keyer = i.settings.keyer; wards = i.wards.items; directories = i.directories.items } in
    let hashed : c.pseudo-pseudokey.result ≡ any_pseudokey i.settings.keyer c.args.key = c.pseudo-pseudokey.ensures ∙ ap (any_pseudokey i.settings.keyer) c.as_bytes.ensures.bytes in
    let at_is : c.from-at.result ≡ ward_of i.settings.ward_bits c.pseudo-pseudokey.result = c.from-at.ensures ∙ c.ward_number.ensures in
    wards_left (file_in old) c.self.invariant (Put c.args.key c.args.value) c.pseudo-pseudokey.result c.from-at.result hashed at_is c.index_mut-ward.result.now c.index_mut-ward.ensures.value c.put_counted.new.ward
    (settings_anew c.index_mut-ward.result.now c.put_counted.new.ward (Put c.args.key c.args.value) c.put_counted.result c.put_counted.ensures.put c.put_counted.ensures.err)

pub returns-in_err-reply-clause-err : goal.returns-in_err-reply-clause-err
returns-in_err-reply-clause-err g c =
    let i = c.self.inside in
    let old : LoaderState = record { cap = i.settings.cap; ward_bits = i.settings.ward_bits; keyer = i.settings.keyer; wards = i.wards.items; directories = i.directories.items } in
    let hashed : c.pseudo-pseudokey.result ≡ any_pseudokey i.settings.keyer c.args.key = c.pseudo-pseudokey.ensures ∙ ap (any_pseudokey i.settings.keyer) c.as_bytes.ensures.bytes in
    let at_is : c.from-at.result ≡ ward_of i.settings.ward_bits c.pseudo-pseudokey.result = c.from-at.ensures ∙ c.ward_number.ensures in
    OnErr-from c.from_residual.result (are_splits_in old c.args.self.now c.self.view_is c.self.invariant c.requires c.args.key c.args.value c.pseudo-pseudokey.result c.from-at.result hashed at_is c.index_mut-ward.result.now c.index_mut-ward.ensures.value c.index_mut-directory.result.now c.index_mut-directory.ensures.value
    c.put_counted.new.ward c.put_counted.new.directory c.in_err-reply.ensures.err)

pub invariant_of-self-2 : goal.invariant_of-self-2
invariant_of-self-2 g c =
    let i = c.self.inside in
    let old : LoaderState = record { cap = i.settings.cap; ward_bits = i.settings.ward_bits; keyer = i.settings.keyer; wards = i.wards.items; directories = i.directories.items } in
    let hashed : c.pseudo-pseudokey.result ≡ any_pseudokey i.settings.keyer c.args.key = c.pseudo-pseudokey.ensures ∙ ap (any_pseudokey i.settings.keyer) c.as_bytes.ensures.bytes in
    let at_is : c.from-at.result ≡ ward_of i.settings.ward_bits c.pseudo-pseudokey.result = c.from-at.ensures ∙ c.ward_number.ensures in
    wards_left (file_in old) c.self.invariant (Put c.args.key c.args.value) c.pseudo-pseudokey.result c.from-at.result hashed at_is c.index_mut-ward.result.now c.index_mut-ward.ensures.value c.put_counted.new.ward
    (settings_anew c.index_mut-ward.result.now c.put_counted.new.ward (Put c.args.key c.args.value) c.put_counted.result c.put_counted.ensures.put c.put_counted.ensures.err)

pub returns-clause-put : goal.returns-clause-put
returns-clause-put g c =
    let i = c.self.inside in
    let old : LoaderState = record { cap = i.settings.cap; ward_bits = i.settings.ward_bits; keyer = i.settings.keyer; wards = i.wards.items; directories = i.directories.items } in
    let hashed : c.pseudo-pseudokey.result ≡ any_pseudokey i.settings.keyer c.args.key = c.pseudo-pseudokey.ensures ∙ ap (any_pseudokey i.settings.keyer) c.as_bytes.ensures.bytes in
    let at_is : c.from-at.result ≡ ward_of i.settings.ward_bits c.pseudo-pseudokey.result = c.from-at.ensures ∙ c.ward_number.ensures in
    put_in old c.args.self.now c.self.view_is c.self.invariant c.requires c.args.key c.args.value c.pseudo-pseudokey.result c.from-at.result hashed at_is c.index_mut-ward.result.now c.index_mut-ward.ensures.value c.index_mut-directory.result.now c.index_mut-directory.ensures.value
    c.put_counted.new.ward c.put_counted.new.directory c.in_ok-reply.reply c.in_ok-reply.ensures.put

pub returns-clause-one : goal.returns-clause-one
returns-clause-one g c =
    let i = c.self.inside in
    let old : LoaderState = record { cap = i.settings.cap; ward_bits = i.settings.ward_bits; keyer = i.settings.keyer; wards = i.wards.items; directories = i.directories.items } in
    let hashed : c.pseudo-pseudokey.result ≡ any_pseudokey i.settings.keyer c.args.key = c.pseudo-pseudokey.ensures ∙ ap (any_pseudokey i.settings.keyer) c.as_bytes.ensures.bytes in
    let at_is : c.from-at.result ≡ ward_of i.settings.ward_bits c.pseudo-pseudokey.result = c.from-at.ensures ∙ c.ward_number.ensures in
    one_put_in old c.args.self.now c.self.view_is c.self.invariant c.requires c.args.key c.args.value c.pseudo-pseudokey.result c.from-at.result hashed at_is c.index_mut-ward.result.now c.index_mut-ward.ensures.value c.index_mut-directory.result.now c.index_mut-directory.ensures.value
    c.put_counted.new.ward c.put_counted.new.directory c.in_ok-reply.reply c.in_ok-reply.ensures.put

pub returns-clause-reply : goal.returns-clause-reply
returns-clause-reply g c =
    let i = c.self.inside in
    let old : LoaderState = record { cap = i.settings.cap; ward_bits = i.settings.ward_bits; keyer = i.settings.keyer; wards = i.wards.items; directories = i.directories.items } in
    let hashed : c.pseudo-pseudokey.result ≡ any_pseudokey i.settings.keyer c.args.key = c.pseudo-pseudokey.ensures ∙ ap (any_pseudokey i.settings.keyer) c.as_bytes.ensures.bytes in
    let at_is : c.from-at.result ≡ ward_of i.settings.ward_bits c.pseudo-pseudokey.result = c.from-at.ensures ∙ c.ward_number.ensures in
    reply_in old c.args.self.now c.self.view_is c.self.invariant c.requires c.args.key c.args.value c.pseudo-pseudokey.result c.from-at.result hashed at_is c.index_mut-ward.result.now c.index_mut-ward.ensures.value c.index_mut-directory.result.now c.index_mut-directory.ensures.value
    c.put_counted.new.ward c.put_counted.new.directory c.in_ok-reply.reply c.in_ok-reply.ensures.put

pub returns-clause-maps : goal.returns-clause-maps
returns-clause-maps g c =
    let i = c.self.inside in
    let old : LoaderState = record { cap = i.settings.cap; ward_bits = i.settings.ward_bits; keyer = i.settings.keyer; wards = i.wards.items; directories = i.directories.items } in
    let hashed : c.pseudo-pseudokey.result ≡ any_pseudokey i.settings.keyer c.args.key = c.pseudo-pseudokey.ensures ∙ ap (any_pseudokey i.settings.keyer) c.as_bytes.ensures.bytes in
    let at_is : c.from-at.result ≡ ward_of i.settings.ward_bits c.pseudo-pseudokey.result = c.from-at.ensures ∙ c.ward_number.ensures in
    maps_in old c.args.self.now c.self.view_is c.self.invariant c.requires c.args.key c.args.value c.pseudo-pseudokey.result c.from-at.result hashed at_is c.index_mut-ward.result.now c.index_mut-ward.ensures.value c.index_mut-directory.result.now c.index_mut-directory.ensures.value
    c.put_counted.new.ward c.put_counted.new.directory c.in_ok-reply.reply c.in_ok-reply.ensures.put

pub returns-clause-records : goal.returns-clause-records
returns-clause-records g c =
    let i = c.self.inside in
    let old : LoaderState = record { cap = i.settings.cap; ward_bits = i.settings.ward_bits; keyer = i.settings.keyer; wards = i.wards.items; directories = i.directories.items } in
    let hashed : c.pseudo-pseudokey.result ≡ any_pseudokey i.settings.keyer c.args.key = c.pseudo-pseudokey.ensures ∙ ap (any_pseudokey i.settings.keyer) c.as_bytes.ensures.bytes in
    let at_is : c.from-at.result ≡ ward_of i.settings.ward_bits c.pseudo-pseudokey.result = c.from-at.ensures ∙ c.ward_number.ensures in
    records_left old c.args.self.now c.self.view_is c.self.invariant c.requires c.args.key c.args.value c.pseudo-pseudokey.result c.from-at.result hashed at_is c.index_mut-ward.result.now c.index_mut-ward.ensures.value c.index_mut-directory.result.now c.index_mut-directory.ensures.value
    c.put_counted.new.ward c.put_counted.new.directory c.in_ok-reply.reply c.in_ok-reply.ensures.put

pub returns-clause-loading : goal.returns-clause-loading
returns-clause-loading g c =
    let i = c.self.inside in
    let old : LoaderState = record { cap = i.settings.cap; ward_bits = i.settings.ward_bits; keyer = i.settings.keyer; wards = i.wards.items; directories = i.directories.items } in
    let hashed : c.pseudo-pseudokey.result ≡ any_pseudokey i.settings.keyer c.args.key = c.pseudo-pseudokey.ensures ∙ ap (any_pseudokey i.settings.keyer) c.as_bytes.ensures.bytes in
    let at_is : c.from-at.result ≡ ward_of i.settings.ward_bits c.pseudo-pseudokey.result = c.from-at.ensures ∙ c.ward_number.ensures in
    loading_left old c.args.self.now c.self.view_is c.self.invariant c.requires c.args.key c.args.value c.pseudo-pseudokey.result c.from-at.result hashed at_is c.index_mut-ward.result.now c.index_mut-ward.ensures.value c.index_mut-directory.result.now c.index_mut-directory.ensures.value
    c.put_counted.new.ward c.put_counted.new.directory c.in_ok-reply.ensures.told

pub returns-in_err-reply-clause-counted : goal.returns-in_err-reply-clause-counted
returns-in_err-reply-clause-counted g c =
    let i = c.self.inside in
    let old : LoaderState = record { cap = i.settings.cap; ward_bits = i.settings.ward_bits; keyer = i.settings.keyer; wards = i.wards.items; directories = i.directories.items } in
    let hashed : c.pseudo-pseudokey.result ≡ any_pseudokey i.settings.keyer c.args.key = c.pseudo-pseudokey.ensures ∙ ap (any_pseudokey i.settings.keyer) c.as_bytes.ensures.bytes in
    let at_is : c.from-at.result ≡ ward_of i.settings.ward_bits c.pseudo-pseudokey.result = c.from-at.ensures ∙ c.ward_number.ensures in
    fault_as c.in_err-reply.field-0.0 _ c.from_residual.result (λ page.
    let counted = c.in_err-reply.ensures.counted page in
    counts_in old c.args.self.now c.self.view_is c.self.invariant c.requires c.args.key c.args.value c.pseudo-pseudokey.result c.from-at.result hashed at_is c.index_mut-ward.result.now c.index_mut-ward.ensures.value c.index_mut-directory.result.now c.index_mut-directory.ensures.value
    c.put_counted.new.ward c.put_counted.new.directory g.P.Pages.failures counted.0 counted.1) c.from_residual.ensures

pub returns-clause-falls : goal.returns-clause-falls
returns-clause-falls g c =
    let i = c.self.inside in
    let old : LoaderState = record { cap = i.settings.cap; ward_bits = i.settings.ward_bits; keyer = i.settings.keyer; wards = i.wards.items; directories = i.directories.items } in
    let hashed : c.pseudo-pseudokey.result ≡ any_pseudokey i.settings.keyer c.args.key = c.pseudo-pseudokey.ensures ∙ ap (any_pseudokey i.settings.keyer) c.as_bytes.ensures.bytes in
    let at_is : c.from-at.result ≡ ward_of i.settings.ward_bits c.pseudo-pseudokey.result = c.from-at.ensures ∙ c.ward_number.ensures in
    falls_in old c.args.self.now c.self.view_is c.self.invariant c.requires c.args.key c.args.value c.pseudo-pseudokey.result c.from-at.result hashed at_is c.index_mut-ward.result.now c.index_mut-ward.ensures.value c.index_mut-directory.result.now c.index_mut-directory.ensures.value
    c.put_counted.new.ward c.put_counted.new.directory (at_least c.in_ok-reply.ensures.failures)
