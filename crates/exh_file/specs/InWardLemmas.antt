-- A call at the ward of its key, among the wards of a file.
use Rattle.std.proofs.Common.{◌≡◌, ℕ, ◌<◌, ◌^◌, List, length, slice_get, map, get_or, Some, Result, Ok, Err, IfOk, OnErr, inl, inr, refl, sym, ap, ◌∙◌, subst, arith}
use Rattle.std.specs.Prelude.{slice_index_or, slice_set}
use Rattle.std.specs.Option.{option_map}
use Rattle.std.specs.FinMap as fin
use Rattle.std.proofs.lemmas.Bool.{cases_eq}
use Rattle.std.proofs.lemmas.Option.{get_or_from_slice_get, slice_get-map, slice_get_read}
use Rattle.std.proofs.lemmas.List.{length-set, map-set}
use Rattle.exh_prefix.specs.BitLemmas.{length-bits_of, number_of-bits_of}
use Rattle.exh_prefix.specs.Leading.{leading, ward_of, ward_prefix}
use Rattle.exh_prefix.specs.LeadingLemmas.{begins-from_leading, leading-lt}
use Rattle.exh_prefix.specs.PrefixListLemmas.{one_there, set_else, set_here}
use Rattle.exh_prefix.specs.Prefix.{Begins}
use Rattle.exh_keyer.specs.declared.any_keyer.AnyKeyer.{AnyKeyer}
use Rattle.exh_keyer.specs.Pseudokey.{any_pseudokey}
use Rattle.exh_page.specs.KeyMap.{KeyMap}
use Rattle.exh_calls.specs.Call.{key_of}
use Rattle.exh_calls.specs.MapMachine.{reply_of, map_after}
use Rattle.exh_calls.specs.declared.call.Call.{Call}
use Rattle.exh_calls.specs.declared.reply.Reply.{Reply}
use Rattle.exh_legal.specs.Pages.{map_of}
use Rattle.exh_file.specs.Opened.{AreWardsOf, IsWardOf, OpenedState}
use Rattle.exh_ward.specs.WardState.{WardState, own_prefix}
use Rattle.exh_ward.specs.declared.ward_fault.WardFault.{WardFault}
use Rattle.exh_file.specs.WardChange.{AreSplitsAtMost, IsChanged}
use Rattle.exh_file.specs.FileChange.{AreParts, ChangesOneMap, IsChangedIn, maps_in, ward_in}
use Rattle.exh_file.specs.OneMapLemmas.{one_reply, parts_left}
use Rattle.exh_file.specs.SplitLemmas.{splits_keep}

-- ---- what a call keeps of a ward's settings

pub record HasSettings (old new : WardState AnyKeyer) : Type 0 where
  pub cap : new.cap ≡ old.cap
  pub bits : new.ward_bits ≡ old.ward_bits
  pub number : new.number ≡ old.number
  pub keyer : new.keyer ≡ old.keyer

changed_keeps : (old new : WardState AnyKeyer) (call : Call) (reply : Reply) → IsChanged any_pseudokey old call reply new → HasSettings old new
changed_keeps old new call reply changed =
    let kept = splits_keep old changed.splits changed.split changed.run in
    let others = changed.answered.others in
    record {
      cap = ap (λ (w : WardState AnyKeyer). w.cap) others ∙ kept.cap;
      bits = ap (λ (w : WardState AnyKeyer). w.ward_bits) others ∙ kept.bits;
      number = ap (λ (w : WardState AnyKeyer). w.number) others ∙ kept.number;
      keyer = ap (λ (w : WardState AnyKeyer). w.keyer) others ∙ kept.keyer;
    }

at_most_keeps : (old new : WardState AnyKeyer) → AreSplitsAtMost old new → HasSettings old new
at_most_keeps old new most =
    let kept = splits_keep old most.splits most.split most.run in
    let others = most.else_same in
    record {
      cap = ap (λ (w : WardState AnyKeyer). w.cap) others ∙ kept.cap;
      bits = ap (λ (w : WardState AnyKeyer). w.ward_bits) others ∙ kept.bits;
      number = ap (λ (w : WardState AnyKeyer). w.number) others ∙ kept.number;
      keyer = ap (λ (w : WardState AnyKeyer). w.keyer) others ∙ kept.keyer;
    }

pub settings_kept : (old new : WardState AnyKeyer) (call : Call) (result : Result Reply WardFault) → IfOk result (λ reply. IsChanged any_pseudokey old call reply new) → OnErr result (AreSplitsAtMost old new)
    → HasSettings old new
settings_kept old new call (Ok reply) changed most = changed_keeps old new call reply changed
settings_kept old new call (Err fault) changed most = at_most_keeps old new most

if_ok : {P Q : Reply → Type 0} (result : Result Reply WardFault) → ((reply : Reply) → P reply → Q reply) → IfOk result P → IfOk result Q
if_ok (Ok reply) then has = then reply has
if_ok (Err fault) then has = tt

-- ---- the ward of the key

module _ (old : OpenedState) (are : AreWardsOf old) (call : Call) (pseudokey at : ℕ) (hashed : pseudokey ≡ any_pseudokey old.keyer (key_of call)) (at_is : at ≡ ward_of old.ward_bits pseudokey) where
  place_few : at < 2 ^ old.ward_bits
  place_few = omega (arith, at_is, leading-lt old.ward_bits pseudokey (omega (arith, are.bits)))

  pub at_within : at < length old.wards
  at_within = omega (arith, place_few, are.count)

  pub place : at ≡ ward_in old (key_of call)
  place = at_is ∙ ap (λ (k : ℕ). ward_of old.ward_bits k) hashed

  begins_place : Begins (ward_prefix old.ward_bits at) pseudokey
  begins_place = begins-from_leading (ward_prefix old.ward_bits at) pseudokey (omega (arith, length-bits_of old.ward_bits at, are.bits))
      (ap (λ (n : ℕ). leading n pseudokey) (length-bits_of old.ward_bits at) ∙ sym at_is ∙ sym (number_of-bits_of old.ward_bits at place_few))

  module _ (ward : WardState AnyKeyer) (ward_is : ward ≡ slice_index_or old.wards at ward) where
    pub there : slice_get old.wards at ≡ Some ward
    there = slice_get_read old.wards (length old.wards) at ward refl at_within ward_is

    own : IsWardOf old at ward
    own = are.each at ward there

    pub ward_hashed : pseudokey ≡ any_pseudokey ward.keyer (key_of call)
    ward_hashed = hashed ∙ ap (λ keyer. any_pseudokey keyer (key_of call)) (sym own.keyer)

    own_is : own_prefix ward ≡ ward_prefix old.ward_bits at
    own_is = ap (λ (b : ℕ). ward_prefix b ward.number) own.bits ∙ ap (λ (n : ℕ). ward_prefix old.ward_bits n) own.number_is

    pub ward_covers : Begins (own_prefix ward) pseudokey
    ward_covers = subst (λ prefix. Begins prefix pseudokey) (sym own_is) begins_place

    module _ (after : WardState AnyKeyer) where
      abbrev pub left : OpenedState
      left = record old { wards = slice_set old.wards at after }

      pub here : slice_get (slice_set old.wards at after) at ≡ Some after
      here = set_here old.wards at ward after there

      pub wards_left : HasSettings ward after → AreWardsOf left
      wards_left kept = record {
        some = are.some;
        most = are.most;
        bits = are.bits;
        count = length-set old.wards at after ∙ are.count;
        each = λ number one found. elim (cases_eq number at) [
          | inl same ↦
              let one_is : one ≡ after = one_there (slice_set old.wards at after) at one after (subst (λ n. slice_get (slice_set old.wards at after) n ≡ Some one) same found) here in
              record {
                cap = ap (λ (w : WardState AnyKeyer). w.cap) one_is ∙ kept.cap ∙ own.cap;
                bits = ap (λ (w : WardState AnyKeyer). w.ward_bits) one_is ∙ kept.bits ∙ own.bits;
                number_is = ap (λ (w : WardState AnyKeyer). w.number) one_is ∙ kept.number ∙ own.number_is ∙ sym same;
                keyer = ap (λ (w : WardState AnyKeyer). w.keyer) one_is ∙ kept.keyer ∙ own.keyer;
              }
          | inr other ↦
              let is = are.each number one (sym (set_else old.wards at number after other) ∙ found) in
              record { cap = is.cap; bits = is.bits; number_is = is.number_is; keyer = is.keyer }
        ];
      }

      is_changed : (reply : Reply) → IsChanged any_pseudokey ward call reply after → IsChangedIn old call reply left
      is_changed reply changed = record {
        ward = ward;
        after = after;
        there = subst (λ n. slice_get old.wards n ≡ Some ward) place there;
        changed = changed;
        others = ap (λ (n : ℕ). let file : OpenedState = record old { wards = slice_set old.wards n after } in file) place;
      }

      pub changed_in : (result : Result Reply WardFault) → IfOk result (λ reply. IsChanged any_pseudokey ward call reply after) → IfOk result (λ reply. IsChangedIn old call reply left)
      changed_in result = if_ok result is_changed

      -- ---- as one map

      abbrev pub map_now : KeyMap
      map_now = get_or (maps_in old) (ward_in old (key_of call)) fin.empty

      map_here : map_now ≡ map_of ward.pages
      map_here =
          let f : WardState AnyKeyer → KeyMap = λ (w : WardState AnyKeyer). map_of w.pages in
          get_or_from_slice_get (map f old.wards) (ward_in old (key_of call)) (map_of ward.pages) fin.empty
          (slice_get-map f old.wards (ward_in old (key_of call)) ∙ ap (option_map f) (subst (λ n. slice_get old.wards n ≡ Some ward) place there))

      same_machine : {A : Type 0} (read : ℕ → (List ℕ → ℕ) → KeyMap → A) → read ward.cap (any_pseudokey ward.keyer) (map_of ward.pages) ≡ read old.cap (any_pseudokey old.keyer) map_now
      same_machine read =
          ap (λ (cap : ℕ). read cap (any_pseudokey ward.keyer) (map_of ward.pages)) own.cap ∙ ap (λ (keyer : AnyKeyer). read old.cap (any_pseudokey keyer) (map_of ward.pages)) own.keyer
          ∙ ap (λ (m : KeyMap). read old.cap (any_pseudokey old.keyer) m) (sym map_here)

      pub reply_here : (reply : Reply) → IsChanged any_pseudokey ward call reply after → reply ≡ reply_of old.cap (any_pseudokey old.keyer) map_now call
      reply_here reply changed = changed.reply_is ∙ same_machine (λ cap pseudo m. reply_of cap pseudo m call)

      pub maps_here : (reply : Reply) → IsChanged any_pseudokey ward call reply after
          → maps_in left ≡ slice_set (maps_in old) (ward_in old (key_of call)) (map_after old.cap (any_pseudokey old.keyer) map_now call)
      maps_here reply changed =
          let f : WardState AnyKeyer → KeyMap = λ (w : WardState AnyKeyer). map_of w.pages in
          map-set f old.wards at after ∙ ap (slice_set (map f old.wards) at) (changed.map ∙ same_machine (λ cap pseudo m. map_after cap pseudo m call))
          ∙ ap (λ (n : ℕ). slice_set (map f old.wards) n (map_after old.cap (any_pseudokey old.keyer) map_now call)) place

      is_one : (reply : Reply) → IsChanged any_pseudokey ward call reply after → ChangesOneMap old call reply left
      is_one reply changed whole has = record {
        reply_is = reply_here reply changed ∙ one_reply old.cap old.ward_bits old.keyer are.bits (maps_in old) whole has call;
        map = subst (AreParts old.ward_bits (any_pseudokey old.keyer) (map_after old.cap (any_pseudokey old.keyer) whole call)) (sym (maps_here reply changed))
            (parts_left old.cap old.ward_bits old.keyer are.bits (maps_in old) whole has call);
      }

      pub one_in : (result : Result Reply WardFault) → IfOk result (λ reply. IsChanged any_pseudokey ward call reply after) → IfOk result (λ reply. ChangesOneMap old call reply left)
      one_in result = if_ok result is_one
