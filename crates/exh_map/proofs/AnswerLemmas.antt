-- What is answered of gets and puts, and calls behind gets.
use Rattle.std.proofs.Common.{◌≡◌, ℕ, Bool, List, Option, None, Some, Result, Ok, Err, IfOk, OnErr, refl, sym, ap, ◌∙◌, subst}
use Rattle.std.specs.FinMap as fin
use Rattle.exh_keyer.specs.Pseudokey.{any_pseudokey}
use Rattle.exh_page.specs.KeyMap.{KeyMap}
use Rattle.exh_page.specs.declared.file_settings.FileSettings.{FileSettings}
use Rattle.exh_keyer.specs.declared.any_keyer.AnyKeyer.{AnyKeyer}
use Rattle.exh_calls.specs.Effect.{effect_of}
use Rattle.exh_calls.specs.MapMachine.{changed, is_full, map_after, reply_of}
use Rattle.exh_calls.specs.declared.call.Call.TheVariants.{Del, Get, Put}
use Rattle.exh_calls.specs.declared.reply.Reply.{Reply}
use Rattle.exh_ward.specs.declared.ward_fault.WardFault.{WardFault}
use Rattle.exh_in_place.specs.FileChange.{ChangesOneMap, HasMap}
use Rattle.exh_in_place.specs.Opened.{OpenedState, settings_in}
use Rattle.exh_map.specs.Answers.{put_new_said, value_said}
use Rattle.exh_map.specs.FileMap.{IsGot, IsPutAbsent, IsPutNew, IsPutOver, IsRemoved, IsReplaced, KeepsMap, PutsNew, Replaces}
use Rattle.exh_map.specs.declared.put_new.PutNew.{PutNew}

-- ---- replies

get_said : (key : List ℕ) (full : Bool) (found : Option (List ℕ)) → value_said (effect_of (Get key) full found).reply ≡ found
get_said key full None = refl
get_said key full (Some value) = refl

del_said : (key : List ℕ) (full : Bool) (found : Option (List ℕ)) → value_said (effect_of (Del key) full found).reply ≡ found
del_said key full None = refl
del_said key full (Some value) = refl

get_keeps : (key : List ℕ) (full : Bool) (found : Option (List ℕ)) (m : KeyMap) → changed (effect_of (Get key) full found).change key m ≡ m
get_keeps key full None m = refl
get_keeps key full (Some value) m = refl

pub is_got : (old new : OpenedState) (key : List ℕ) (reply : Reply) (answer : Option (List ℕ)) → ChangesOneMap old (Get key) reply new → answer ≡ value_said reply → IsGot old key answer new
is_got old new key reply answer one said whole has =
    let pseudo = any_pseudokey old.keyer in
    let full = is_full old.cap pseudo whole key in
    let change = one whole has in
    record {
      answer_is = said ∙ ap value_said change.reply_is ∙ get_said key full (fin.get whole key);
      map = subst (HasMap new) (get_keeps key full (fin.get whole key) whole) change.map;
    }

pub is_removed : (old new : OpenedState) (key : List ℕ) (reply : Reply) (answer : Option (List ℕ)) → ChangesOneMap old (Del key) reply new → answer ≡ value_said reply → IsRemoved old key answer new
is_removed old new key reply answer one said whole has =
    let change = one whole has in
    record {
      answer_is = said ∙ ap value_said change.reply_is ∙ del_said key (is_full old.cap (any_pseudokey old.keyer) whole key) (fin.get whole key);
      map = change.map;
    }

-- ---- a put behind a get

-- what is read of a file's settings
same_settings : {A : Type 0} (read : ℕ → AnyKeyer → A) (old between : OpenedState) → settings_in between ≡ settings_in old → read between.cap between.keyer ≡ read old.cap old.keyer
same_settings read old between same = ap (λ (s : FileSettings AnyKeyer). read s.cap s.keyer) same

pub put_new_on : (old between new : OpenedState) (key value : List ℕ) (answer : PutNew) → IsGot old key None between → settings_in between ≡ settings_in old → IsPutAbsent between key value answer new → IsPutNew old key value answer new
put_new_on old between new key value answer got same put whole has =
    let seen = got whole has in
    let done = put whole seen.map in
    subst (PutsNew old key value answer new whole) seen.answer_is (
      done.answer_is ∙ same_settings (λ cap keyer. put_new_said (reply_of cap (any_pseudokey keyer) whole (Put key value))) old between same,
      subst (HasMap new) (same_settings (λ cap keyer. map_after cap (any_pseudokey keyer) whole (Put key value)) old between same) done.map,
    )

pub replaced_on : (old between new : OpenedState) (key value stood : List ℕ) (answer : Option (List ℕ)) → IsGot old key (Some stood) between → IsPutOver between key value answer new → IsReplaced old key value answer new
replaced_on old between new key value stood answer got put whole has =
    let seen = got whole has in
    let done = put whole seen.map in
    let full = is_full between.cap (any_pseudokey between.keyer) whole key in
    subst (Replaces key value answer new whole) seen.answer_is (
      done.answer_is ∙ ap (λ found. value_said (effect_of (Put key value) full found).reply) (sym seen.answer_is),
      subst (λ found. HasMap new (changed (effect_of (Put key value) full found).change key whole)) (sym seen.answer_is) done.map,
    )

-- ---- of results

pub put_new_if : (old between new : OpenedState) (key value : List ℕ) (result : Result PutNew WardFault) → IsGot old key None between → settings_in between ≡ settings_in old → IfOk result (λ answer. IsPutAbsent between key value answer new)
    → IfOk result (λ answer. IsPutNew old key value answer new)
put_new_if old between new key value (Ok answer) got same put = put_new_on old between new key value answer got same put
put_new_if old between new key value (Err fault) got same put = tt

pub replaced_if : (old between new : OpenedState) (key value stood : List ℕ) (result : Result (Option (List ℕ)) WardFault) → IsGot old key (Some stood) between → IfOk result (λ answer. IsPutOver between key value answer new)
    → IfOk result (λ answer. IsReplaced old key value answer new)
replaced_if old between new key value stood (Ok answer) got put = replaced_on old between new key value stood answer got put
replaced_if old between new key value stood (Err fault) got put = tt

pub kept_behind : {T : Type 0} (old between new : OpenedState) (key : List ℕ) (answer : Option (List ℕ)) (result : Result T WardFault) → IsGot old key answer between → OnErr result (KeepsMap between new) → OnErr result (KeepsMap old new)
kept_behind old between new key answer (Ok done) got kept = tt
kept_behind old between new key answer (Err fault) got kept = λ whole has. kept whole (got whole has).map
