-- What a hop of a request needs of the ward that the request is in, and what it leaves of the world.
use Rattle.std.proofs.Common.{◌≡◌, ℕ, ◌+◌, ◌-◌, ◌^◌, ◌<◌, ◌≤◌, List, length, get_or, slice_get, Some, Ok, refl, sym, ap, ◌∙◌, subst, arith}
use Rattle.std.specs.Prelude.{slice_set}
use Rattle.std.proofs.lemmas.Option.{get_or_from_slice_get, slice_get_within, slice_get_read}
use Rattle.exh_prefix.specs.Prefix.{Begins}
use Rattle.exh_prefix.specs.Leading.{ward_prefix}
use Rattle.exh_calls.specs.Call.{key_of}
use Rattle.exh_ward.specs.HopTable.{HopOf}
use Rattle.exh_ward.specs.WardState.{WardState, IsSoundWard, LeavesAfter, own_prefix}
use Rattle.exh_ward.specs.declared.hop.Hop.{Hop}
use Rattle.exh_ward.specs.declared.hop.Hop.TheVariants.{Done, Moved, MustSplit, Stray}
use Rattle.exh_walk.specs.RouteLaws.{MovesComeNearer}
use Rattle.exh_world.specs.InFlight.{HasRoom, Requests, request_named, requests_after}
use Rattle.exh_world.specs.WorldKept.{IsKeptWorld}
use Rattle.exh_world.specs.WorldLaws.{StepsKeepWorldsSound}
use Rattle.exh_world.specs.Sound.{IsWardOf, IsOnTheWay}
use Rattle.exh_world.specs.Step.{HasEffect, HasHopped, ReachesInto}
use Rattle.exh_world.specs.StepEffectLemmas.{hopped_step}
use Rattle.exh_walk.specs.EventProgress.{hop_in, progress_with, Progress, hop_outcome}
use Rattle.exh_world.specs.RequestProgress.{bound_in, progress_of}
use Rattle.exh_world.specs.World.{WorldState, changes_in}
use Rattle.exh_walk.specs.declared.event.Event.TheVariants.{Hop as HopOn}
use Rattle.exh_world.specs.declared.request.Request.{Request}
use Rattle.exh_world.specs.declared.world.World.TheInside.{Inside}
use Rattle.exh_world.proofs.InsideWorld.{with_ward, world_of}
use Rattle.exh_world.specs.RequestLemmas.{all_named}
use Rattle.exh_world.proofs.HoppedSound.{moved_nearer}
use Rattle.exh_world.proofs.SoundKept.{count_of}
use Rattle.exh_world.proofs.WardsLeft.{wards_left}

-- what a hop comes to tells the hop
pub hop_of_progress : (hop : Hop) (moves bound : ℕ) → hop_in (progress_with hop moves bound) ≡ hop
hop_of_progress (Done reply) moves bound = refl
hop_of_progress (Moved next) moves bound = refl
hop_of_progress MustSplit moves bound = refl
hop_of_progress Stray moves bound = refl

-- ---- a request's ward

module _ {P K : Type 0} (pseudokey_of : K → List ℕ → ℕ) (i : Inside P K) (kept : IsKeptWorld pseudokey_of (world_of i)) (name : ℕ) (request : Request) (named : request_named name i.in_flight ≡ Some request) where
  way : IsOnTheWay pseudokey_of (world_of i) request
  way = all_named (IsOnTheWay pseudokey_of (world_of i)) name i.in_flight request kept.sound.requests named

  pub ward_within : request.ward < length i.wards.items
  ward_within = slice_get_within i.wards.items request.ward way.ward way.there

  module _ (at : ℕ) (at_is : at ≡ request.ward) where
    pub at_within : at < length i.wards.items
    at_within = omega (arith, at_is, ward_within)

    -- the hop reaches into the ward
    pub reaches : (now : WorldState K) → world_of i ≡ now → ReachesInto pseudokey_of now (HopOn name) at
    reaches now view_is = (request, ap (λ (w : WorldState K). request_named name w.in_flight) (sym view_is) ∙ named, at_is)

  module _ (at : ℕ) (at_is : at ≡ request.ward) (ward : WardState K) (ward_is : ward ≡ get_or i.wards.items at ward) where
    there_at : slice_get i.wards.items at ≡ Some ward
    there_at = slice_get_read i.wards.items (length i.wards.items) at ward refl (omega (arith, at_is, ward_within)) ward_is

    there : slice_get i.wards.items request.ward ≡ Some ward
    there = subst (λ n. slice_get i.wards.items n ≡ Some ward) at_is there_at

    own : IsWardOf pseudokey_of (world_of i) request.ward ward
    own = kept.sound.wards request.ward ward there

    pub hashed : request.pseudokey ≡ pseudokey_of ward.keyer (key_of request.call)
    hashed = way.pseudokey_is ∙ ap (λ keyer. pseudokey_of keyer (key_of request.call)) (sym own.keyer)

    pub covered : Begins (own_prefix ward) request.pseudokey
    covered = subst (λ p. Begins p request.pseudokey) (sym (ap (λ bits. ward_prefix bits ward.number) own.bits ∙ ap (ward_prefix i.ward_bits) own.number_is)) way.begins

    -- ---- its moves and their bound

    module _ (place : ℕ) (place_is : place ≡ request.ward) (noticed : ℕ) (noticed_is : noticed ≡ get_or i.noticed.items place noticed) where
      had : noticed ≡ own.before
      had = noticed_is ∙ ap (λ n. get_or i.noticed.items n noticed) place_is ∙ get_or_from_slice_get i.noticed.items request.ward own.before noticed own.noticed

      pub had_few : noticed ≤ length ward.notices
      had_few = omega (arith, had, own.first)

      pub changes_are : length ward.notices - noticed ≡ length (changes_in (world_of i) request.ward)
      changes_are = let counted = count_of (world_of i) request.ward own.before ward there own.noticed in omega (arith, had, counted)

      pub changed_since : request.changes ≤ length ward.notices - noticed
      changed_since = let all = changes_are in omega (arith, all, way.since)

      pub bound_told : (far changes : ℕ) → far ≡ request.distance → changes ≡ length ward.notices - noticed → far + (changes - request.changes) ≡ bound_in (world_of i) request
      bound_told far changes far_is changes_is = ap (λ f. f + (changes - request.changes)) far_is ∙ ap (λ n. request.distance + (n - request.changes)) (changes_is ∙ changes_are)

      pub bound_small : (changes : ℕ) → changes ≡ length ward.notices - noticed → changes < 2 ^ 63 → request.distance < 2 ^ 32 → bound_in (world_of i) request < 2 ^ 64
      bound_small changes changes_is small far = let all = changes_are in omega (arith, changes_is, small, far, all)

    pub noticed_within : (place : ℕ) → place ≡ request.ward → place < length i.noticed.items
    noticed_within place place_is = let fits = slice_get_within i.noticed.items request.ward own.before own.noticed in omega (arith, place_is, fits)

    -- a move more has room where the bound has
    pub room : MovesComeNearer → (hop : Hop) → HopOf ward.cap (pseudokey_of ward.keyer) ward.pages request.page request.call hop → bound_in (world_of i) request < 2 ^ 64
        → (next : ℕ) → hop ≡ Moved next → HasRoom name i.in_flight
    room moves hop outcome small next moved other is =
        let same : request ≡ other = let both : Some request ≡ Some other = sym named ∙ is in cc in
        let own_outcome =
        subst (λ cap. HopOf cap (pseudokey_of i.keyer) ward.pages request.page request.call (Moved next)) own.cap
        (subst (λ (keyer : K). HopOf ward.cap (pseudokey_of keyer) ward.pages request.page request.call (Moved next)) own.keyer (subst (HopOf ward.cap (pseudokey_of ward.keyer) ward.pages request.page request.call) moved outcome)) in
        let nearer = moved_nearer pseudokey_of (world_of i) kept.sound request way ward there moves next own_outcome in
        let more = way.few in
        subst (λ (r : Request). r.moves + 1 < 2 ^ 64) same (omega (arith, small, more, nearer.1))

    module _ (left : WardState K) where
      module _ (hop : Hop) (outcome : HopOf ward.cap (pseudokey_of ward.keyer) ward.pages request.page request.call hop)
          (leaves : LeavesAfter pseudokey_of ward request.page request.client request.call hop left) (requests : Requests) (requests_are : requests ≡ requests_after name hop i.in_flight)
          (progress : Progress) (progress_is : progress ≡ progress_of (world_of i) request hop) where
        same : hop_in progress ≡ hop
        same = ap hop_in progress_is ∙ hop_of_progress hop request.moves (bound_in (world_of i) request)

        outcome_is : HopOf i.cap (pseudokey_of i.keyer) ward.pages request.page request.call hop
        outcome_is =
            subst (λ cap. HopOf cap (pseudokey_of i.keyer) ward.pages request.page request.call hop) own.cap
            (subst (λ (keyer : K). HopOf ward.cap (pseudokey_of keyer) ward.pages request.page request.call hop) own.keyer outcome)

        new_is : with_ward i at left requests ≡ record (world_of i) { wards = slice_set (world_of i).wards request.ward left; in_flight = requests_after name hop i.in_flight }
        new_is =
            ap (λ n. with_ward i n left requests) at_is ∙ ap (with_ward i request.ward left) requests_are

        hopped : HasHopped pseudokey_of (world_of i) name request.ward progress (with_ward i at left requests)
        hopped = record {
          request = request;
          there = named;
          ward_is = refl;
          before = ward;
          found = there;
          outcome = subst (HopOf i.cap (pseudokey_of i.keyer) ward.pages request.page request.call) (sym same) outcome_is;
          counted = progress_is ∙ ap (progress_of (world_of i) request) (sym same);
          left = left;
          leaves = subst (λ h. LeavesAfter pseudokey_of ward request.page request.client request.call h left) (sym same) leaves;
          after = new_is ∙ ap (λ h. let then : WorldState K = record (world_of i) { wards = slice_set i.wards.items request.ward left; in_flight = requests_after name h i.in_flight } in then) (sym same);
        }

        pub hopped_to : HasEffect pseudokey_of (world_of i) (HopOn name) (hop_outcome request.ward progress) (with_ward i at left requests)
        hopped_to = hopped_step pseudokey_of (world_of i) name request.ward progress (with_ward i at left requests) hopped

        pub hopped_kept : StepsKeepWorldsSound pseudokey_of → IsSoundWard pseudokey_of left → IsKeptWorld pseudokey_of (with_ward i at left requests)
        hopped_kept steps sound =
            let wards = wards_left pseudokey_of (world_of i) (with_ward i at left requests) at ward left kept.sound refl there_at sound in
            record {
              sound = steps (world_of i) (HopOn name) (Ok (hop_outcome request.ward progress)) (with_ward i at left requests) kept.sound hopped_to wards;
              few_wards = kept.few_wards;
              few_sent = kept.few_sent;
            }
