-- What beginning a request leaves of the world.
use Rattle.std.proofs.Common.{◌≡◌, ℕ, ◌-◌, ◌^◌, ◌<◌, ◌≤◌, List, [], ◌∷◌, ◌++◌, length, get_or, slice_get, Option, None, Some, Ok, true, false, Bor, refl, sym, ap, ◌∙◌, subst, arith}
use Rattle.std.specs.Prelude.{is_some, slice_set}
use Rattle.std.specs.Option.{option_copied}
use Rattle.std.proofs.lemmas.Option.{get_or_from_slice_get, slice_get_read, slice_get_within}
use Rattle.exh_prefix.specs.declared.prefix.TheConstants.{WARD_BITS_LIMIT}
use Rattle.exh_prefix.specs.PrefixListLemmas.{set_same}
use Rattle.exh_legal.specs.LegalLaws.{IsBelow}
use Rattle.exh_ward.specs.WardFault.{IsStoreFault, PageRefused}
use Rattle.exh_ward.specs.declared.ward_fault.WardFault.{WardFault}
use Rattle.exh_ward.specs.declared.ward_fault.WardFault.TheVariants as faults
use Rattle.exh_ward.specs.declared.ward_fault.WardFault.TheVariants.{NoPage, Memory}
use Rattle.exh_page.specs.declared.page.Page.{Page}
use Rattle.exh_legal.specs.Pages.{IsAt}
use Rattle.exh_world.specs.Sound.{IsWardOf, LeadsRightIn}
use Rattle.exh_world.proofs.BegunSound.{ward_fits, walk_ends_below}
use Rattle.exh_world.proofs.SoundKept.{count_of}
use Rattle.exh_table.specs.Table.{TableMap}
use Rattle.exh_table.specs.TableWalk.{walk_of}
use Rattle.exh_calls.specs.Call.{key_of}
use Rattle.exh_calls.specs.declared.call.Call.{Call}
use Rattle.exh_world.specs.InFlight.{Requests, request_named}
use Rattle.exh_world.specs.WorldKept.{IsKeptWorld}
use Rattle.exh_ward.specs.Distance.{IsDistance}
use Rattle.exh_ward.specs.WardState.{WardState}
use Rattle.exh_world.specs.Step.{request_begun, HasBegun}
use Rattle.exh_prefix.specs.Leading.{ward_of}
use Rattle.exh_world.specs.World.{WorldState, changes_in, numbered}
use Rattle.exh_walk.specs.declared.event.Event.TheVariants.{Begin}
use Rattle.exh_walk.specs.declared.outcome.Outcome.TheVariants.{Begun}
use Rattle.exh_world.specs.declared.world.World.TheInside.{Inside}
use Rattle.exh_world.proofs.InsideWorld.{with_ward, world_of}
use Rattle.exh_world.proofs.StepSound.{after_begun}
use Rattle.exh_world.proofs.ToldTruly.{step_told}

pub none_there : {A : Type 0} (found : Option A) → is_some found ≡ false → found ≡ None
none_there None is = refl
none_there (Some a) is = cc

pub some_there : {A : Type 0} (found : Option (Bor A)) → is_some found ≡ true → is_some (option_copied found) ≡ true
some_there None is = cc
some_there (Some a) is = refl

abbrev pub with_requests : {P K : Type 0} → Inside P K → Requests → WorldState K
with_requests i requests = record (world_of i) { in_flight = requests }

-- a page that is there is refused for a fault of the store alone
store_refusal : (pages : List Page) (number : ℕ) (page : Page) → IsAt pages number page → (fault : WardFault) → PageRefused pages number fault → IsStoreFault fault
store_refusal pages number page is NoPage refused = absurd (let fits = slice_get_within pages number page is in omega (arith, fits, refused))
store_refusal pages number page is Memory refused = tt
store_refusal pages number page is faults.Page refused = tt
store_refusal pages number page is fault refused = absurd refused

-- ---- the ward that a pseudokey is in

module _ {P K : Type 0} (pseudokey_of : K → List ℕ → ℕ) (i : Inside P K) (kept : IsKeptWorld pseudokey_of (world_of i)) (pseudokey at : ℕ) (at_is : at ≡ ward_of i.ward_bits pseudokey) where
  pub at_within : at < length i.wards.items
  at_within = omega (arith, at_is, ward_fits pseudokey_of (world_of i) kept.sound pseudokey, kept.sound.count)

  module _ (state : WardState K) (state_is : state ≡ get_or i.wards.items at state) where
    pub found_at : slice_get i.wards.items at ≡ Some state
    found_at = slice_get_read i.wards.items (length i.wards.items) at state refl at_within state_is

    own : IsWardOf pseudokey_of (world_of i) at state
    own = kept.sound.wards at state found_at

    pub noticed_within : (place : ℕ) → place ≡ at → place < length i.noticed.items
    noticed_within place place_is = let fits = slice_get_within i.noticed.items at own.before own.noticed in omega (arith, place_is, fits)

    module _ (place : ℕ) (place_is : place ≡ at) (noticed : ℕ) (noticed_is : noticed ≡ get_or i.noticed.items place noticed) where
      had : noticed ≡ own.before
      had = noticed_is ∙ ap (λ n. get_or i.noticed.items n noticed) place_is ∙ get_or_from_slice_get i.noticed.items at own.before noticed own.noticed

      pub had_few : noticed ≤ length state.notices
      had_few = omega (arith, had, own.first)

      pub changes_are : length state.notices - noticed ≡ length (changes_in (world_of i) at)
      changes_are = let counted = count_of (world_of i) at own.before state found_at own.noticed in omega (arith, had, counted)

    -- the page that a walk names is there
    pub no_page_missing : (table : TableMap) → LeadsRightIn (world_of i) table → pseudokey < 2 ^ 64 → (page : ℕ) → page ≡ (walk_of table i.ward_bits pseudokey).page
        → (fault : WardFault) → PageRefused state.pages page fault → IsStoreFault fault
    no_page_missing table leads small page page_is fault refused =
        let found = subst (λ n. slice_get i.wards.items n ≡ Some state) at_is found_at in
        let below = walk_ends_below pseudokey_of (world_of i) kept.sound table leads pseudokey small state found in
        let there = subst (λ p. IsBelow state.pages p pseudokey) (sym page_is) below in
        store_refusal state.pages page there.0 there.1 fault refused

    -- where the call left the ward as it was, so is the world
    pub same_ward : (left : WardState K) → left ≡ state → (requests : Requests) → with_ward i at left requests ≡ with_requests i requests
    same_ward left left_is requests =
        ap (λ ws. let then : WorldState K = record (world_of i) { wards = ws; in_flight = requests } in then) (ap (slice_set i.wards.items at) left_is ∙ set_same i.wards.items at state found_at)

-- ---- the request begun

module _ {P K : Type 0} (pseudokey_of : K → List ℕ → ℕ) (i : Inside P K) (name client copy : ℕ) (call : Call) where
  pub begun : (free : request_named name i.in_flight ≡ None) (table : TableMap) (there : numbered i.copies.copies copy ≡ Some table) (bytes : List ℕ) → bytes ≡ key_of call → (pseudokey ward page : ℕ) → pseudokey ≡ pseudokey_of i.keyer bytes
      → ward ≡ ward_of i.ward_bits pseudokey → page ≡ (walk_of table i.ward_bits pseudokey).page
      → (state : WardState K) → slice_get i.wards.items ward ≡ Some state → (distance : ℕ) → IsDistance state.pages page pseudokey distance → (changes : ℕ) → changes ≡ length (changes_in (world_of i) ward)
      → (requests : Requests) → requests ≡ i.in_flight ++ (name, request_begun client call pseudokey ward page distance changes) ∷ []
      → HasBegun pseudokey_of (world_of i) name client copy call ward page (with_requests i requests)
  begun free table there bytes bytes_are pseudokey ward page pseudokey_is ward_is page_is state found distance far changes changes_are requests requests_are =
      let hashed = pseudokey_is ∙ ap (pseudokey_of i.keyer) bytes_are in
      record {
        free = free;
        table = table;
        there = there;
        ward_is = ward_is ∙ ap (ward_of i.ward_bits) hashed;
        page_is = page_is ∙ ap (λ k. (walk_of table i.ward_bits k).page) hashed;
        before = state;
        found = found;
        distance = distance;
        is_distance = subst (λ k. IsDistance state.pages page k distance) hashed far;
        after = ap (with_requests i) (requests_are ∙ ap (λ k. i.in_flight ++ (name, request_begun client call k ward page distance changes) ∷ []) hashed ∙ ap (λ n. i.in_flight ++ (name, request_begun client call (pseudokey_of i.keyer (key_of call)) ward page distance n) ∷ []) changes_are);
      }

  pub begun_kept : (ward page : ℕ) (new : WorldState K) → new.ward_bits ≡ i.ward_bits → new.sent ≡ i.copies.sent → IsKeptWorld pseudokey_of (world_of i) → HasBegun pseudokey_of (world_of i) name client copy call ward page new → IsKeptWorld pseudokey_of new
  begun_kept ward page new bits sent kept has = record {
    sound = after_begun pseudokey_of (world_of i) kept.sound new name client copy call ward page has (step_told pseudokey_of (world_of i) kept.sound (Begin name client copy call) (Ok (Begun ward page)) new has);
    few_wards = subst (λ n. n ≤ WARD_BITS_LIMIT) (sym bits) kept.few_wards;
    few_sent = subst (λ (tables : List TableMap). length tables < 2 ^ 32) (sym sent) kept.few_sent;
  }
