-- How many records there are: after a pair one more where its key was new.
use Rattle.std.proofs.Common.{◌≡◌, ℕ, ◌+◌, ◌<◌, ◌≤◌, Bool, true, false, cond, List, length, Option, Some, None, refl, ap, ◌∙◌, arith}
use Rattle.std.specs.Prelude.{◌==◌, not}
use Rattle.std.specs.Option.{is_some}
use Rattle.std.proofs.lemmas.Cmp.{nat_list_cmp_total}
use Rattle.std.proofs.lemmas.List.Sums.{count_by-le-length, length-filter, sum_by-set}
use Rattle.std.proofs.lemmas.List.Splits.{length-slice_split}
use Rattle.std.specs.FinMap as fin
use Rattle.exh_page.specs.KeyMap.{KeyMap}
use Rattle.exh_calls.specs.declared.call.Call.TheVariants.{Put}
use Rattle.exh_calls.specs.Effect.{effect_of}
use Rattle.exh_calls.specs.MapMachine.{changed, is_full, map_after}
use Rattle.exh_keyer.specs.Pseudokey.{any_pseudokey}
use Rattle.exh_text.specs.TextLines.{is_empty, lines_of, newline, parts_at}
use Rattle.exh_load.specs.Load.{new_count, record_count}
use Rattle.exh_load.specs.Loading.{Loading, after_pair, map_at, pair_reply, ward_at}

-- a map after a put, by what stood there and whether new keys are turned away
put_len : (m : KeyMap) (key value : List ℕ) (full : Bool) (got : Option (List ℕ)) → fin.get m key ≡ got
    → fin.len (changed (effect_of (Put key value) full got).change key m) ≡ new_count (effect_of (Put key value) full got).reply + fin.len m
put_len m key value full (Some old) is = fin.len-insert nat_list_cmp_total m key value ∙ ap (λ b. cond b (fin.len m) (fin.len m + 1)) (ap is_some is) ∙ omega arith
put_len m key value true None is = omega arith
put_len m key value false None is = fin.len-insert nat_list_cmp_total m key value ∙ ap (λ b. cond b (fin.len m) (fin.len m + 1)) (ap is_some is) ∙ omega arith

-- of all maps, where the key's ward is there
pub pair_counted : (loading : Loading) (key value : List ℕ) → ward_at loading key < length loading.maps
    → new_count (pair_reply loading key value) + record_count loading ≡ record_count (after_pair loading key value)
pair_counted loading key value within =
    let at = ward_at loading key in
    let m = map_at loading key in
    let pseudo = any_pseudokey loading.keyer in
    let after = map_after loading.cap pseudo m (Put key value) in
    let one = put_len m key value (is_full loading.cap pseudo m key) (fin.get m key) refl in
    omega (arith, one, sum_by-set fin.len loading.maps at after fin.empty within)

-- a text has at most a line more than it has bytes
pub lines_few : (text : List ℕ) → length (lines_of text) ≤ length text + 1
unfolding lines_of parts_at
lines_few text =
    let parts = parts_at newline text in
    omega (arith, length-filter (λ part. not (is_empty part)) parts, count_by-le-length (λ part. not (is_empty part)) parts, length-slice_split (λ b. b == newline) text, count_by-le-length (λ b. b == newline) text)
