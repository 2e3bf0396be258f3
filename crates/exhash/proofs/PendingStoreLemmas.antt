-- Maps that calls changed, and the calls that are noted of it.
use Rattle.std.proofs.Common.{◌≡◌, ℕ, Bool, true, false, List, Option, None, Some, refl, sym, ap, subst}
use Rattle.std.specs.Prelude.{bytes_eq, if◌then◌else◌}
use Rattle.std.specs.FinMap as fin
use Rattle.exh_keyer.specs.declared.any_keyer.AnyKeyer.{AnyKeyer}
use Rattle.exh_keyer.specs.Pseudokey.{any_pseudokey}
use Rattle.exh_page.specs.KeyMap.{KeyMap}
use Rattle.exh_calls.specs.Effect.{Effect, Keep, Set, effect_of}
use Rattle.exh_calls.specs.MapMachine.{changed, is_full}
use Rattle.exh_calls.specs.declared.call.Call.{Call}
use Rattle.exh_calls.specs.declared.call.Call.TheVariants.{Del, Put, Swap}
use Rattle.exh_calls.specs.declared.reply.Reply.TheVariants as reply
use Rattle.exh_page.specs.declared.file_settings.FileSettings.{FileSettings}
use Rattle.exh_map.specs.FileChange.{HasMap}
use Rattle.exh_map.specs.Opened.{OpenedState, settings_in}
use Rattle.exh_map.specs.Answers.{put_new_said, put_said, swap_said}
use Rattle.exh_map.specs.FileMap.{IsPut, IsPutNew, IsRemoved, IsReplaced, IsSwap, KeepsMap, PutsNew, Replaces, map_then}
use Rattle.exh_map.specs.declared.put.Put.{Put as PutAnswer}
use Rattle.exh_map.specs.declared.put.Put.TheVariants as put
use Rattle.exh_map.specs.declared.put_new.PutNew.{PutNew as PutNewAnswer}
use Rattle.exh_map.specs.declared.put_new.PutNew.TheVariants as put_new
use Rattle.exh_map.specs.declared.swap.Swap.{Swap as SwapAnswer}
use Rattle.exh_map.specs.declared.swap.Swap.TheVariants as swap
use Rattle.exhash.specs.declared.pending.Pending.{Pending}
use Rattle.exhash.specs.Pending.{Follows, KeepsPending, LeadTo, NotesPut, NotesPutNew, NotesRemoved, NotesReplaced, NotesSwap}

-- ---- what the map machine leaves as it was

module _ (m : KeyMap) (key : List ℕ) where
  put_full : (value : List ℕ) (full : Bool) (stood : Option (List ℕ)) → put.Full ≡ put_said (effect_of (Put key value) full stood).reply → changed (effect_of (Put key value) full stood).change key m ≡ m
  put_full value full (Some other) said = let never : put.Full ≡ put.Was other = said in cc
  put_full value true None said = refl
  put_full value false None said = let never : put.Full ≡ put.New = said in cc

  put_new_full : (value : List ℕ) (full : Bool) (stood : Option (List ℕ)) → stood ≡ None → put_new.Full ≡ put_new_said (effect_of (Put key value) full stood).reply → changed (effect_of (Put key value) full stood).change key m ≡ m
  put_new_full value full (Some other) none said = let never : Some other ≡ None = none in cc
  put_new_full value true None none said = refl
  put_new_full value false None none said = let never : put_new.Full ≡ put_new.New = said in cc

  put_new_never : (value was : List ℕ) (full : Bool) (stood : Option (List ℕ)) → stood ≡ None → put_new.Is was ≡ put_new_said (effect_of (Put key value) full stood).reply → ⊥
  put_new_never value was full (Some other) none said = let never : Some other ≡ None = none in cc
  put_new_never value was true None none said = let never : put_new.Is was ≡ put_new.Full = said in cc
  put_new_never value was false None none said = let never : put_new.Is was ≡ put_new.New = said in cc

  put_over : (value was : List ℕ) (full : Bool) (stood : Option (List ℕ)) → stood ≡ Some was → changed (effect_of (Put key value) full stood).change key m ≡ fin.insert m key value
  put_over value was full (Some other) is = refl
  put_over value was full None is = let never : None ≡ Some was = is in cc

  del_none : (full : Bool) (stood : Option (List ℕ)) → None ≡ stood → changed (effect_of (Del key) full stood).change key m ≡ m
  del_none full (Some other) is = let never : None ≡ Some other = is in cc
  del_none full None is = refl

  abbrev swapped : List ℕ → List ℕ → Bool → Effect
  swapped value other same = if same then record { reply = reply.Swapped; change = Set value } else record { reply = reply.Differs other; change = Keep }

  module _ (answer : SwapAnswer) (never : answer ≡ swap.Swapped → ⊥) where
    swap_differs : (value other : List ℕ) (same : Bool) → answer ≡ swap_said (swapped value other same).reply → changed (swapped value other same).change key m ≡ m
    swap_differs value other true said = absurd (never said)
    swap_differs value other false said = refl

    swap_stays : (was value : List ℕ) (full : Bool) (stood : Option (List ℕ)) → answer ≡ swap_said (effect_of (Swap key was value) full stood).reply → changed (effect_of (Swap key was value) full stood).change key m ≡ m
    swap_stays was value full (Some other) said = swap_differs value other (bytes_eq other was) said
    swap_stays was value full None said = refl

-- ---- what a call leaves, and what is noted of it

module _ (old new : OpenedState) (before after : Pending) (settings : settings_in new ≡ settings_in old) where
  lead_over : (pending : Pending) (was whole : KeyMap) → LeadTo old.cap (any_pseudokey old.keyer) was pending whole → LeadTo new.cap (any_pseudokey new.keyer) was pending whole
  lead_over pending was whole lead =
      let with_cap = subst (λ (cap : ℕ). LeadTo cap (any_pseudokey old.keyer) was pending whole) (sym (ap (λ (s : FileSettings AnyKeyer). s.cap) settings)) lead in
      subst (λ (keyer : AnyKeyer). LeadTo new.cap (any_pseudokey keyer) was pending whole) (sym (ap (λ (s : FileSettings AnyKeyer). s.keyer) settings)) with_cap

  -- calls that are as before, over a map that is
  pub stays : after ≡ before → KeepsMap old new → KeepsPending old before new after
  stays same keeps was made = record {
    whole = made.whole;
    has = keeps made.whole made.has;
    lead = subst (λ (pending : Pending). LeadTo new.cap (any_pseudokey new.keyer) was pending made.whole) (sym same) (lead_over before was made.whole made.lead);
  }

  -- a call behind the others, over the map that it leaves
  follows_on : (call : Call) → Follows call before after → ((whole : KeyMap) → HasMap old whole → HasMap new (map_then old whole call)) → KeepsPending old before new after
  follows_on call follows leaves was made = record {
    whole = map_then old made.whole call;
    has = leaves made.whole made.has;
    lead = lead_over after was (map_then old made.whole call) (follows old.cap (any_pseudokey old.keyer) was made.whole made.lead);
  }

  abbrev full_in : KeyMap → List ℕ → Bool
  full_in whole key = is_full old.cap (any_pseudokey old.keyer) whole key

  module _ (key value : List ℕ) where
    pub put_noted : (answer : PutAnswer) → IsPut old key value answer new → NotesPut answer key value before after → KeepsPending old before new after
    put_noted put.New is notes = follows_on (Put key value) notes (λ whole has. (is whole has).map)
    put_noted (put.Was stood) is notes = follows_on (Put key value) notes (λ whole has. (is whole has).map)
    put_noted put.Full is notes = stays notes (λ whole has. subst (HasMap new) (put_full whole key value (full_in whole key) (fin.get whole key) (is whole has).answer_is) (is whole has).map)

    put_new_new : (whole : KeyMap) (stood : Option (List ℕ)) → PutsNew old key value put_new.New new whole stood → HasMap new (map_then old whole (Put key value))
    put_new_new whole (Some other) puts = let never : put_new.New ≡ put_new.Is other = puts.0 in cc
    put_new_new whole None puts = puts.1

    put_new_is : (whole : KeyMap) (was : List ℕ) (stood : Option (List ℕ)) → fin.get whole key ≡ stood → PutsNew old key value (put_new.Is was) new whole stood → HasMap new whole
    put_new_is whole was (Some other) there puts = puts.1
    put_new_is whole was None there puts = absurd (put_new_never whole key value was (full_in whole key) (fin.get whole key) there puts.0)

    put_new_none : (whole : KeyMap) (stood : Option (List ℕ)) → fin.get whole key ≡ stood → PutsNew old key value put_new.Full new whole stood → HasMap new whole
    put_new_none whole (Some other) there puts = let never : put_new.Full ≡ put_new.Is other = puts.0 in cc
    put_new_none whole None there puts = subst (HasMap new) (put_new_full whole key value (full_in whole key) (fin.get whole key) there puts.0) puts.1

    pub put_new_noted : (answer : PutNewAnswer) → IsPutNew old key value answer new → NotesPutNew answer key value before after → KeepsPending old before new after
    put_new_noted put_new.New is notes = follows_on (Put key value) notes (λ whole has. put_new_new whole (fin.get whole key) (is whole has))
    put_new_noted (put_new.Is was) is notes = stays notes (λ whole has. put_new_is whole was (fin.get whole key) refl (is whole has))
    put_new_noted put_new.Full is notes = stays notes (λ whole has. put_new_none whole (fin.get whole key) refl (is whole has))

    replaces_some : (whole : KeyMap) (was : List ℕ) (stood : Option (List ℕ)) → fin.get whole key ≡ stood → Replaces key value (Some was) new whole stood → HasMap new (map_then old whole (Put key value))
    replaces_some whole was (Some other) there replaces = subst (HasMap new) (sym (put_over whole key value other (full_in whole key) (fin.get whole key) there)) replaces.1
    replaces_some whole was None there replaces = let never : Some was ≡ None = replaces.0 in cc

    replaces_none : (whole : KeyMap) (stood : Option (List ℕ)) → Replaces key value None new whole stood → HasMap new whole
    replaces_none whole (Some other) replaces = let never : None ≡ Some other = replaces.0 in cc
    replaces_none whole None replaces = replaces.1

    pub replaced_noted : (answer : Option (List ℕ)) → IsReplaced old key value answer new → NotesReplaced answer key value before after → KeepsPending old before new after
    replaced_noted (Some was) is notes = follows_on (Put key value) notes (λ whole has. replaces_some whole was (fin.get whole key) refl (is whole has))
    replaced_noted None is notes = stays notes (λ whole has. replaces_none whole (fin.get whole key) (is whole has))

  pub removed_noted : (key : List ℕ) (answer : Option (List ℕ)) → IsRemoved old key answer new → NotesRemoved answer key before after → KeepsPending old before new after
  removed_noted key (Some was) is notes = follows_on (Del key) notes (λ whole has. (is whole has).map)
  removed_noted key None is notes = stays notes (λ whole has. subst (HasMap new) (del_none whole key (full_in whole key) (fin.get whole key) (is whole has).answer_is) (is whole has).map)

  module _ (key was value : List ℕ) where
    swap_kept : (answer : SwapAnswer) → (answer ≡ swap.Swapped → ⊥) → IsSwap old key was value answer new → KeepsMap old new
    swap_kept answer never is whole has = subst (HasMap new) (swap_stays whole key answer never was value (full_in whole key) (fin.get whole key) (is whole has).answer_is) (is whole has).map

    pub swap_noted : (answer : SwapAnswer) → IsSwap old key was value answer new → NotesSwap answer key was value before after → KeepsPending old before new after
    swap_noted swap.Swapped is notes = follows_on (Swap key was value) notes (λ whole has. (is whole has).map)
    swap_noted (swap.Differs other) is notes = stays notes (swap_kept (swap.Differs other) (λ same. cc) is)
    swap_noted swap.None is notes = stays notes (swap_kept swap.None (λ same. cc) is)
