-- A pair put into the ward of its key, and the directories beside the wards.
use Rattle.std.proofs.Common.{◌≡◌, ℕ, ◌+◌, ◌<◌, ◌≤◌, List, [], ◌∷◌, length, map, slice_get, Some, Result, Ok, Err, IfOk, OnErr, suc, zero, inl, inr, refl, sym, ap, ◌∙◌, subst, arith}
use Rattle.std.specs.Prelude.{option_map, slice_index_or, slice_set}
use Rattle.std.proofs.lemmas.Bool.{cases_eq}
use Rattle.std.proofs.lemmas.Option.{get_or_from_slice_get, slice_get-map, slice_get_read}
use Rattle.std.proofs.lemmas.List.{length-map, length-set, map-set}
use Rattle.exh_page.specs.KeyMap.{KeyMap}
use Rattle.exh_page.specs.declared.page.Page.{Page}
use Rattle.exh_prefix.specs.Leading.{ward_of, ward_prefix}
use Rattle.exh_prefix.specs.PrefixListLemmas.{one_there, set_else, set_here, set_same}
use Rattle.exh_keyer.specs.declared.any_keyer.AnyKeyer.{AnyKeyer}
use Rattle.exh_keyer.specs.Pseudokey.{any_pseudokey}
use Rattle.exh_array.specs.Pointers.{DirectoryState}
use Rattle.exh_calls.specs.MapMachine.{map_after}
use Rattle.exh_calls.specs.declared.call.Call.{Call}
use Rattle.exh_calls.specs.declared.call.Call.TheVariants.{Put}
use Rattle.exh_calls.specs.declared.reply.Reply.{Reply}
use Rattle.exh_legal.specs.Pages.{map_of}
use Rattle.exh_ward.specs.WardState.{IsUnchanged, WardState, own_prefix}
use Rattle.exh_ward.specs.declared.ward_fault.WardFault.{WardFault}
use Rattle.exh_file.specs.Opened.{AreWardsOf, OpenedState}
use Rattle.exh_file.specs.FileChange.{AreParts, ChangesOneMap, maps_in as maps_of}
use Rattle.exh_file.specs.InWardLemmas.{HasSettings, at_within, here, maps_here, one_in, place, reply_here, settings_kept, there, wards_left}
use Rattle.exh_file.specs.WardChange.{AreSplitsAtMost, IsChanged}
use Rattle.exh_load.specs.Put.{IsDirectoryOf}
use Rattle.exh_load.specs.Loader.{AreSplitsAnew, HasSplitsIn, IsAnsweredAnew, IsLoading, IsPutIn, LoaderState, MayHaveBegun, file_in}
use Rattle.exh_load.specs.Loading.{Loading, after_pair, loading_of, pair_reply}
use Rattle.exh_load.specs.Load.{new_count, record_count}
use Rattle.exh_load.specs.LoadFault.{FallsNowhere, HasCountedIn}
use Rattle.exh_load.proofs.Counted.{falls_at}
use Rattle.exh_load.proofs.Records.{pair_counted}

-- whether the history began or goes on, all else is the same
pub record IsSameBeside {K : Type 0} (old new : WardState K) : Type 0 where
  pub pages : new.pages ≡ old.pages
  pub table : new.table ≡ old.table
  pub cap : new.cap ≡ old.cap
  pub bits : new.ward_bits ≡ old.ward_bits
  pub number : new.number ≡ old.number
  pub keyer : new.keyer ≡ old.keyer

pub same_beside : {K : Type 0} (old new : WardState K) → MayHaveBegun old new → IsSameBeside old new
same_beside {K} old new (inl begun) = record {
  pages = ap (λ (w : WardState K). w.pages) begun.1;
  table = ap (λ (w : WardState K). w.table) begun.1;
  cap = ap (λ (w : WardState K). w.cap) begun.1;
  bits = ap (λ (w : WardState K). w.ward_bits) begun.1;
  number = ap (λ (w : WardState K). w.number) begun.1;
  keyer = ap (λ (w : WardState K). w.keyer) begun.1;
}
same_beside {K} old new (inr same) = record {
  pages = ap (λ (w : WardState K). w.pages) same;
  table = ap (λ (w : WardState K). w.table) same;
  cap = ap (λ (w : WardState K). w.cap) same;
  bits = ap (λ (w : WardState K). w.ward_bits) same;
  number = ap (λ (w : WardState K). w.number) same;
  keyer = ap (λ (w : WardState K). w.keyer) same;
}

-- a directory is the ward's as before
pub told_beside : {K : Type 0} (old new : WardState K) (directory : DirectoryState) → IsSameBeside old new → IsDirectoryOf old directory → IsDirectoryOf new directory
told_beside old new directory beside told = record { table = told.table ∙ sym beside.table; bits = told.bits ∙ sym beside.bits }

pub own_beside : {K : Type 0} (old new : WardState K) → IsSameBeside old new → own_prefix new ≡ own_prefix old
own_beside old new beside = ap (λ (b : ℕ). ward_prefix b new.number) beside.bits ∙ ap (λ (n : ℕ). ward_prefix old.ward_bits n) beside.number

settings_beside : (ward begun answered : WardState AnyKeyer) → MayHaveBegun ward begun → HasSettings begun answered → HasSettings ward answered
settings_beside ward begun answered history kept =
    let beside = same_beside ward begun history in
    record { cap = kept.cap ∙ beside.cap; bits = kept.bits ∙ beside.bits; number = kept.number ∙ beside.number; keyer = kept.keyer ∙ beside.keyer }

-- what a put keeps, answered or refused
pub settings_anew : (ward answered : WardState AnyKeyer) (call : Call) (result : Result Reply WardFault) → IfOk result (λ reply. IsAnsweredAnew any_pseudokey ward call reply answered) → OnErr result (AreSplitsAnew ward answered)
    → HasSettings ward answered
settings_anew ward answered call (Ok reply) put refused =
    let result : Result Reply WardFault = Ok reply in
    settings_beside ward put.begun answered put.history (settings_kept put.begun answered call result put.changed tt)
settings_anew ward answered call (Err fault) put refused =
    let result : Result Reply WardFault = Err fault in
    settings_beside ward refused.begun answered refused.history (settings_kept refused.begun answered call result tt refused.splits)

-- what a put leaves, by what it leaves of the ward whose history may have begun anew
module _ (ward begun answered : WardState AnyKeyer) (history : MayHaveBegun ward begun) where
  pub anew_put : (call : Call) (result : Result Reply WardFault) → IfOk result (λ reply. IsChanged any_pseudokey begun call reply answered) → IfOk result (λ reply. IsAnsweredAnew any_pseudokey ward call reply answered)
  anew_put call (Ok reply) changed = record { begun = begun; history = history; changed = changed }
  anew_put call (Err fault) changed = tt

  pub anew_err : (result : Result Reply WardFault) → OnErr result (AreSplitsAtMost begun answered) → OnErr result (AreSplitsAnew ward answered)
  anew_err (Ok reply) splits = tt
  anew_err (Err fault) splits = record { begun = begun; history = history; splits = splits }

-- a refused history leaves no split
pub refused_anew : {K : Type 0} (ward left : WardState K) → IsUnchanged ward left → AreSplitsAnew ward left
refused_anew ward left same = record { begun = ward; history = inr refl; splits = record { splits = []; split = ward; run = refl; else_same = same } }

-- what is written twice in a place is what was written last
twice : {A : Type 0} (xs : List A) (at : ℕ) (one other : A) → slice_set (slice_set xs at one) at other ≡ slice_set xs at other
twice [] at one other = refl
twice (x ∷ xs) zero one other = refl
twice (x ∷ xs) (suc at) one other = ap (λ rest. x ∷ rest) (twice xs at one other)

module _ (old now : LoaderState) (view_is : old ≡ now) (are : AreWardsOf (file_in old)) (loading : IsLoading now) (key value : List ℕ) (pseudokey at : ℕ)
    (hashed : pseudokey ≡ any_pseudokey old.keyer key) (at_is : at ≡ ward_of old.ward_bits pseudokey) where
  abbrev file : OpenedState
  file = file_in old

  abbrev call : Call
  call = Put key value

  loading_old : IsLoading old
  loading_old = subst IsLoading (sym view_is) loading

  place_within : at < length old.wards
  place_within = at_within file are call pseudokey at hashed at_is

  pub directory_within : at < length old.directories
  directory_within = omega (arith, place_within, loading_old.count)

  module _ (ward : WardState AnyKeyer) (ward_is : ward ≡ slice_index_or old.wards at ward) (directory : DirectoryState) (directory_is : directory ≡ slice_index_or old.directories at directory) where
    ward_there : slice_get old.wards at ≡ Some ward
    ward_there = there file are call pseudokey at hashed at_is ward ward_is

    directory_there : slice_get old.directories at ≡ Some directory
    directory_there = slice_get_read old.directories (length old.directories) at directory refl directory_within directory_is

    pub ward_told : IsDirectoryOf ward directory
    ward_told = loading_old.told at ward directory ward_there directory_there

    module _ (answered : WardState AnyKeyer) (told : DirectoryState) where
      -- what a put leaves
      abbrev pub left : LoaderState
      left = record old { wards = slice_set old.wards at answered; directories = slice_set old.directories at told }

      splits_in : AreSplitsAnew ward answered → HasSplitsIn old key left
      splits_in splits =
          let at_place = place file are call pseudokey at hashed at_is in
          record {
            ward = ward;
            after = answered;
            there = subst (λ n. slice_get old.wards n ≡ Some ward) at_place ward_there;
            splits = splits;
            others = ap (λ (n : ℕ). let opened : OpenedState = record file { wards = slice_set old.wards n answered } in opened) at_place;
          }

      -- whose store has counted one
      count_in : {P : Type 0} (failures : P → ℕ) → ward.failures < answered.failures → (store : P) × (failures store ≡ answered.failures) → HasCountedIn failures file key (file_in left)
      count_in failures more has =
          let at_place = place file are call pseudokey at hashed at_is in
          record {
            ward = ward;
            after = answered;
            there = subst (λ n. slice_get old.wards n ≡ Some ward) at_place ward_there;
            others = ap (λ (n : ℕ). let opened : OpenedState = record file { wards = slice_set old.wards n answered } in opened) at_place;
            more = more;
            store = has.0;
            counted = has.1;
          }

      pub counts_in : {P : Type 0} (failures : P → ℕ) → ward.failures < answered.failures → (store : P) × (failures store ≡ answered.failures) → HasCountedIn failures (file_in now) key (file_in left)
      counts_in failures more has = subst (λ (o : LoaderState). HasCountedIn failures (file_in o) key (file_in left)) view_is (count_in failures more has)

      pub are_splits_in : AreSplitsAnew ward answered → HasSplitsIn now key left
      are_splits_in splits = subst (λ o. HasSplitsIn o key left) view_is (splits_in splits)

      pub falls_in : ward.failures ≤ answered.failures → FallsNowhere (file_in now) (file_in left)
      falls_in more = subst (λ (o : LoaderState). FallsNowhere (file_in o) (file_in left)) view_is (falls_at file (file_in left) at ward answered ward_there refl more)

      -- ---- one that was answered

      module _ (reply : Reply) (put : IsAnsweredAnew any_pseudokey ward call reply answered) where
        is_put : IsPutIn (file_in old) key value reply (file_in left)
        is_put =
            let at_place = place file are call pseudokey at hashed at_is in
            record {
              ward = ward;
              after = answered;
              there = subst (λ n. slice_get old.wards n ≡ Some ward) at_place ward_there;
              answered = put;
              others = ap (λ (n : ℕ). let opened : OpenedState = record file { wards = slice_set old.wards n answered } in opened) at_place;
            }

        pub put_in : IsPutIn (file_in now) key value reply (file_in left)
        put_in = subst (λ (o : LoaderState). IsPutIn (file_in o) key value reply (file_in left)) view_is is_put

        -- ---- the file in which the ward's history may have begun anew

        abbrev begun : WardState AnyKeyer
        begun = put.begun

        abbrev renewed : OpenedState
        renewed = record file { wards = slice_set old.wards at begun }

        beside : IsSameBeside ward begun
        beside = same_beside ward begun put.history

        are_renewed : AreWardsOf renewed
        are_renewed = wards_left file are call pseudokey at hashed at_is ward ward_is begun (record { cap = beside.cap; bits = beside.bits; number = beside.number; keyer = beside.keyer })

        begun_is : begun ≡ slice_index_or renewed.wards at begun
        begun_is = sym (get_or_from_slice_get renewed.wards at begun begun (here file are call pseudokey at hashed at_is ward ward_is begun))

        abbrev map_in : WardState AnyKeyer → KeyMap
        map_in = λ (w : WardState AnyKeyer). map_of w.pages

        -- it has the same maps
        same_maps : maps_of renewed ≡ maps_of file
        same_maps =
            map-set map_in old.wards at begun ∙ ap (λ (pages : List Page). slice_set (map map_in old.wards) at (map_of pages)) beside.pages
            ∙ set_same (map map_in old.wards) at (map_of ward.pages) (slice_get-map map_in old.wards at ∙ ap (option_map map_in) ward_there)

        -- the put leaves the same of it
        left_twice : (let opened : OpenedState = record renewed { wards = slice_set renewed.wards at answered } in opened) ≡ file_in left
        left_twice = ap (λ (wards : List (WardState AnyKeyer)). let opened : OpenedState = record file { wards = wards } in opened) (twice old.wards at begun answered)

        one_left : ChangesOneMap (file_in old) call reply (file_in left)
        one_left whole has =
            let had = subst (AreParts old.ward_bits (any_pseudokey old.keyer) whole) (sym same_maps) has in
            let is = one_in renewed are_renewed call pseudokey at hashed at_is begun begun_is answered (Ok reply) put.changed whole had in
            record {
              reply_is = is.reply_is;
              map = subst (λ (opened : OpenedState). AreParts old.ward_bits (any_pseudokey old.keyer) (map_after old.cap (any_pseudokey old.keyer) whole call) (maps_of opened)) left_twice is.map;
            }

        pub one_put_in : ChangesOneMap (file_in now) call reply (file_in left)
        one_put_in = subst (λ (o : LoaderState). ChangesOneMap (file_in o) call reply (file_in left)) view_is one_left

        -- ---- the maps

        abbrev loading_with : List KeyMap → Loading
        loading_with ms = record (loading_of old) { maps = ms }

        reply_was : reply ≡ pair_reply (loading_of old) key value
        reply_was =
            reply_here renewed are_renewed call pseudokey at hashed at_is begun begun_is answered reply put.changed ∙ ap (λ (ms : List KeyMap). pair_reply (loading_with ms) key value) same_maps

        maps_were : loading_of left ≡ after_pair (loading_of old) key value
        maps_were =
            ap (λ (opened : OpenedState). loading_with (maps_of opened)) (sym left_twice)
            ∙ ap loading_with (maps_here renewed are_renewed call pseudokey at hashed at_is begun begun_is answered reply put.changed)
            ∙ ap (λ (ms : List KeyMap). after_pair (loading_with ms) key value) same_maps

        counted : new_count reply + record_count (loading_of old) ≡ record_count (loading_of left)
        counted =
            let within : at < length (loading_of old).maps = omega (arith, place_within, length-map old.wards map_in) in
            let at_place = place file are call pseudokey at hashed at_is in
            ap (λ r. new_count r + record_count (loading_of old)) reply_was
            ∙ pair_counted (loading_of old) key value (subst (λ n. n < length (loading_of old).maps) at_place within) ∙ sym (ap record_count maps_were)

        pub reply_in : reply ≡ pair_reply (loading_of now) key value
        reply_in = subst (λ o. reply ≡ pair_reply (loading_of o) key value) view_is reply_was

        pub maps_in : loading_of left ≡ after_pair (loading_of now) key value
        maps_in = subst (λ o. loading_of left ≡ after_pair (loading_of o) key value) view_is maps_were

        pub records_left : new_count reply + record_count (loading_of now) ≡ record_count (loading_of left)
        records_left = subst (λ o. new_count reply + record_count (loading_of o) ≡ record_count (loading_of left)) view_is counted

      -- ---- the directories

      pub loading_left : IsDirectoryOf answered told → IsLoading left
      loading_left has =
          let ward_here = here file are call pseudokey at hashed at_is ward ward_is answered in
          let directory_here = set_here old.directories at directory told directory_there in
          record {
            count = length-set old.directories at told ∙ loading_old.count ∙ sym (length-set old.wards at answered);
            told = λ number one other found other_found. elim (cases_eq number at) [
              | inl same ↦
                  let one_is : one ≡ answered = one_there (slice_set old.wards at answered) at one answered (subst (λ n. slice_get (slice_set old.wards at answered) n ≡ Some one) same found) ward_here in
                  let other_is : other ≡ told = one_there (slice_set old.directories at told) at other told (subst (λ n. slice_get (slice_set old.directories at told) n ≡ Some other) same other_found) directory_here in
                  subst (λ w. IsDirectoryOf w other) (sym one_is) (subst (IsDirectoryOf answered) (sym other_is) has)
              | inr differ ↦ loading_old.told number one other (sym (set_else old.wards at number answered differ) ∙ found) (sym (set_else old.directories at number told differ) ∙ other_found)
            ];
          }
