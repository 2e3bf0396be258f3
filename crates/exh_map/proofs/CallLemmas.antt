-- A call that is answered by the ward of its key, among the wards of a file.
use Rattle.std.proofs.Common.{◌≡◌, ◌⊎◌, ℕ, List, slice_get, map, get_or, Some, Result, Ok, Err, IfOk, OnErr, inl, inr, sym, ap, ◌∙◌, subst}
use Rattle.std.specs.Prelude.{slice_index_or, slice_set}
use Rattle.std.specs.FinMap as fin
use Rattle.std.specs.Option.{option_map}
use Rattle.std.proofs.lemmas.Option.{get_or_from_slice_get, slice_get-map}
use Rattle.exh_keyer.specs.declared.any_keyer.AnyKeyer.{AnyKeyer}
use Rattle.exh_keyer.specs.Pseudokey.{any_pseudokey}
use Rattle.exh_prefix.specs.Leading.{ward_of}
use Rattle.exh_page.specs.KeyMap.{KeyMap}
use Rattle.exh_calls.specs.Call.{key_of}
use Rattle.exh_calls.specs.MapMachine.{map_after, reply_of}
use Rattle.exh_calls.specs.declared.call.Call.{Call}
use Rattle.exh_calls.specs.declared.reply.Reply.{Reply}
use Rattle.exh_legal.specs.Pages.{map_of}
use Rattle.exh_ward.specs.WardState.{IsUnchanged, WardState, history_begun}
use Rattle.exh_ward.specs.declared.ward_fault.WardFault.{WardFault}
use Rattle.exh_in_place.specs.FileChange.{AreParts, ChangesOneMap, maps_in, ward_in}
use Rattle.exh_in_place.specs.InWardLemmas.{HasSettings, place, settings_kept, there}
use Rattle.exh_in_place.specs.OneMapLemmas.{one_reply, parts_left}
use Rattle.exh_in_place.specs.Opened.{AreWardsOf, IsWardOf, OpenedState}
use Rattle.exh_in_place.specs.SplitLemmas.{splits_keep}
use Rattle.exh_in_place.specs.WardChange.{AreSplitsAtMost, IsChanged}
use Rattle.exh_map.specs.FileMap.{IsAnsweredBy, IsSameMap, KeepsMap}
use Rattle.exh_map.proofs.SetLemmas as set

-- ---- one ward, whose history may have begun anew behind the call

renewed_same : (between new : WardState AnyKeyer) → (new ≡ history_begun between) ⊎ IsUnchanged between new → IsSameMap between new
renewed_same between new (inl begun) = record {
  map = ap (λ (w : WardState AnyKeyer). map_of w.pages) begun;
  settings = record {
    cap = ap (λ (w : WardState AnyKeyer). w.cap) begun;
    bits = ap (λ (w : WardState AnyKeyer). w.ward_bits) begun;
    number = ap (λ (w : WardState AnyKeyer). w.number) begun;
    keyer = ap (λ (w : WardState AnyKeyer). w.keyer) begun;
  };
}
renewed_same between new (inr is) = set.unchanged_same between new is

settings_on : (old between new : WardState AnyKeyer) → HasSettings old between → HasSettings between new → HasSettings old new
settings_on old between new one two = record {
  cap = two.cap ∙ one.cap;
  bits = two.bits ∙ one.bits;
  number = two.number ∙ one.number;
  keyer = two.keyer ∙ one.keyer;
}

pub answered_by : (old between new : WardState AnyKeyer) (call : Call) (result : Result Reply WardFault) → IfOk result (λ reply. IsChanged any_pseudokey old call reply between) → OnErr result (AreSplitsAtMost old between)
    → (new ≡ history_begun between) ⊎ IsUnchanged between new → IfOk result (λ reply. IsAnsweredBy old call reply new)
answered_by old between new call (Ok reply) changed most renewed =
    let same = renewed_same between new renewed in
    record {
      reply_is = changed.reply_is;
      map = same.map ∙ changed.map;
      settings = settings_on old between new (settings_kept old between call (Ok reply) changed most) same.settings;
    }
answered_by old between new call (Err fault) changed most renewed = tt

pub refused_by : (old between new : WardState AnyKeyer) (call : Call) (result : Result Reply WardFault) → IfOk result (λ reply. IsChanged any_pseudokey old call reply between) → OnErr result (AreSplitsAtMost old between)
    → (new ≡ history_begun between) ⊎ IsUnchanged between new → OnErr result (IsSameMap old new)
refused_by old between new call (Ok reply) changed most renewed = tt
refused_by old between new call (Err fault) changed most renewed =
    let same = renewed_same between new renewed in
    let kept = splits_keep old most.splits most.split most.run in
    record {
      map = same.map ∙ ap (λ (w : WardState AnyKeyer). map_of w.pages) most.else_same ∙ kept.map;
      settings = settings_on old between new (settings_kept old between call (Err fault) changed most) same.settings;
    }

-- ---- the ward of the key, among the wards of a file

pub settings_of : (old new : WardState AnyKeyer) (call : Call) (result : Result Reply WardFault) → IfOk result (λ reply. IsAnsweredBy old call reply new) → OnErr result (IsSameMap old new) → HasSettings old new
settings_of old new call (Ok reply) answered same = answered.settings
settings_of old new call (Err fault) answered same = same.settings

module _ (old : OpenedState) (are : AreWardsOf old) (call : Call) (pseudokey at : ℕ) (hashed : pseudokey ≡ any_pseudokey old.keyer (key_of call)) (at_is : at ≡ ward_of old.ward_bits pseudokey)
    (ward : WardState AnyKeyer) (ward_is : ward ≡ slice_index_or old.wards at ward) (after : WardState AnyKeyer) where
  pub ward_there : slice_get old.wards at ≡ Some ward
  ward_there = there old are call pseudokey at hashed at_is ward ward_is

  own : IsWardOf old at ward
  own = are.each at ward ward_there

  abbrev left : OpenedState
  left = record old { wards = slice_set old.wards at after }

  abbrev map_now : KeyMap
  map_now = get_or (maps_in old) (ward_in old (key_of call)) fin.empty

  map_here : map_now ≡ map_of ward.pages
  map_here =
      let f : WardState AnyKeyer → KeyMap = λ (w : WardState AnyKeyer). map_of w.pages in
      get_or_from_slice_get (map f old.wards) (ward_in old (key_of call)) (map_of ward.pages) fin.empty
      (slice_get-map f old.wards (ward_in old (key_of call)) ∙ ap (option_map f) (subst (λ n. slice_get old.wards n ≡ Some ward) (place old are call pseudokey at hashed at_is) ward_there))

  same_machine : {A : Type 0} (read : ℕ → (List ℕ → ℕ) → KeyMap → A) → read ward.cap (any_pseudokey ward.keyer) (map_of ward.pages) ≡ read old.cap (any_pseudokey old.keyer) map_now
  same_machine read =
      ap (λ (cap : ℕ). read cap (any_pseudokey ward.keyer) (map_of ward.pages)) own.cap ∙ ap (λ (keyer : AnyKeyer). read old.cap (any_pseudokey keyer) (map_of ward.pages)) own.keyer
      ∙ ap (λ (m : KeyMap). read old.cap (any_pseudokey old.keyer) m) (sym map_here)

  maps_here : (reply : Reply) → IsAnsweredBy ward call reply after → maps_in left ≡ slice_set (maps_in old) (ward_in old (key_of call)) (map_after old.cap (any_pseudokey old.keyer) map_now call)
  maps_here reply answered =
      set.maps_set old at ward after ward_there (map_after old.cap (any_pseudokey old.keyer) map_now call) (answered.map ∙ same_machine (λ cap pseudo m. map_after cap pseudo m call))
      ∙ ap (λ (n : ℕ). slice_set (maps_in old) n (map_after old.cap (any_pseudokey old.keyer) map_now call)) (place old are call pseudokey at hashed at_is)

  is_one : (reply : Reply) → IsAnsweredBy ward call reply after → ChangesOneMap old call reply left
  is_one reply answered whole has = record {
    reply_is = answered.reply_is ∙ same_machine (λ cap pseudo m. reply_of cap pseudo m call) ∙ one_reply old.cap old.ward_bits old.keyer are.bits (maps_in old) whole has call;
    map = subst (AreParts old.ward_bits (any_pseudokey old.keyer) (map_after old.cap (any_pseudokey old.keyer) whole call)) (sym (maps_here reply answered))
        (parts_left old.cap old.ward_bits old.keyer are.bits (maps_in old) whole has call);
  }

  pub one_in : (result : Result Reply WardFault) → IfOk result (λ reply. IsAnsweredBy ward call reply after) → IfOk result (λ reply. ChangesOneMap old call reply left)
  one_in (Ok reply) answered = is_one reply answered
  one_in (Err fault) answered = tt

  pub kept_in : (result : Result Reply WardFault) → OnErr result (IsSameMap ward after) → OnErr result (KeepsMap old left)
  kept_in (Ok reply) same = tt
  kept_in (Err fault) same = set.keeps_set old at ward after ward_there same
