-- A request that isn't answered goes on over a run, by no more moves than its distance and the changes since allow.
use Rattle.std.proofs.Common.{◌≡◌, ℕ, suc, ◌+◌, Bool, true, false, cond, eqb, List, [], ◌∷◌, length, drop, slice_get, Option, Some, Result, Ok, Err, inl, inr, refl, sym, ap, ◌∙◌, subst, arith}
use Rattle.std.specs.Prelude.{slice_set}
use Rattle.std.specs.List.{AllByRecursion}
use Rattle.std.specs.Option.{option_map_or}
use Rattle.std.proofs.lemmas.Bool.{cases_eq, eqb-true}
use Rattle.std.proofs.lemmas.Bool.Decides.{nat_tests}
use Rattle.exh_prefix.specs.Prefix.{Begins}
use Rattle.exh_prefix.specs.Leading.{ward_prefix}
use Rattle.exh_prefix.specs.PrefixListLemmas.{set_here, set_else, set_same, one_there}
use Rattle.exh_legal.specs.LegalLaws.{IsBelow}
use Rattle.exh_calls.specs.Call.{key_of}
use Rattle.exh_ward.specs.HopTable.{HopOf}
use Rattle.exh_ward.specs.WardState.{WardState, own_prefix}
use Rattle.exh_ward.specs.declared.hop.Hop.TheVariants as hops
use Rattle.exh_ward.specs.Distance.{IsDistance}
use Rattle.exh_walk.specs.DistanceLaws.{StepsAddChanges}
use Rattle.exh_walk.specs.RouteLaws.{CanGoOn, MovesComeNearer, RunsKeepWardsSound}
use Rattle.exh_world.specs.StepEffectLemmas.{hopped_step, on_effect, on_refusal}
use Rattle.exh_world.specs.InFlight.{request_named, requests_after}
use Rattle.exh_world.specs.WorldLaws.{StepsKeepWorldsSound}
use Rattle.exh_walk.specs.EventProgress.{hop_in, Progress, Done, Moved, MustSplit, Stray, hop_outcome}
use Rattle.exh_world.specs.RequestLemmas.{all_named}
use Rattle.exh_world.specs.WorldRun.{Moment, IsRun}
use Rattle.exh_world.specs.Sound.{IsOnTheWay, IsSoundWorld}
use Rattle.exh_world.specs.Step.{HasHopped, HasEffect, Step}
use Rattle.exh_world.specs.World.{WorldState, changes_in}
use Rattle.exh_walk.specs.declared.event.Event.{Event}
use Rattle.exh_walk.specs.declared.event.Event.TheVariants.{Hop as HopOn}
use Rattle.exh_walk.specs.declared.outcome.Outcome.{Outcome}
use Rattle.exh_world.specs.declared.request.Request.{Request}
use Rattle.exh_walk.specs.declared.step_fault.StepFault.{StepFault}
use Rattle.exh_world.specs.Counted.{moves_by, moves_over, IsAway, LeavesOpen, GoesOn}
use Rattle.exh_world.proofs.NamedRequests.{named_push, named_else, named_on}
use Rattle.exh_world.proofs.SoundKept.{count_of}
use Rattle.exh_world.proofs.WardTurns.{IsWardTurn, Turns, step_turn, stays_sound}

-- ---- how many changes a ward has had

module _ {K : Type 0} where
  pub changes_of : (world : WorldState K) (number noticed : ℕ) (ward : WardState K) → slice_get world.wards number ≡ Some ward → slice_get world.noticed number ≡ Some noticed → changes_in world number ≡ drop noticed ward.notices
  changes_of world number noticed ward there had =
      let issued : option_map_or (λ (w : WardState K). w.notices) (slice_get world.wards number) [] ≡ ward.notices = ap (λ (found : Option (WardState K)). option_map_or (λ (w : WardState K). w.notices) found []) there in
      ap (λ (found : Option ℕ). option_map_or (λ n. drop n (option_map_or (λ (w : WardState K). w.notices) (slice_get world.wards number) [])) found []) had ∙ ap (drop noticed) issued

  -- as many where the ward is the same
  pub same_changes : (old new : WorldState K) (number : ℕ) → slice_get new.wards number ≡ slice_get old.wards number → new.noticed ≡ old.noticed → changes_in new number ≡ changes_in old number
  same_changes old new number ward noticed =
      ap (λ (found : Option (WardState K)). option_map_or (λ n. drop n (option_map_or (λ (w : WardState K). w.notices) found [])) (slice_get new.noticed number) []) ward
      ∙ ap (λ (ns : List ℕ). option_map_or (λ n. drop n (option_map_or (λ (w : WardState K). w.notices) (slice_get old.wards number) [])) (slice_get ns number) []) noticed

module _ {K : Type 0} (pseudokey_of : K → List ℕ → ℕ) (old : WorldState K) (sound : IsSoundWorld pseudokey_of old) (name : ℕ) (request : Request) (distance : ℕ) (away : IsAway old request distance) where
  -- ---- where it stays

  abbrev none : request.moves ≡ request.moves + 0
  none = omega arith

  -- the request's ward is the same
  stays_where : (new : WorldState K) → request_named name new.in_flight ≡ Some request → slice_get new.wards request.ward ≡ slice_get old.wards request.ward → new.noticed ≡ old.noticed → GoesOn old name request distance 0 new
  stays_where new there ward noticed =
      let many = ap length (same_changes old new request.ward ward noticed) in
      record {
        page = request.page;
        there = there ∙ ap (λ n. Some (record request { moves = n })) none;
        stays = λ is. refl;
        left = distance;
        is_left = (away.0, ward ∙ away.1, away.2);
        since = omega (arith, many);
        few = omega (arith, many);
      }

  module _ (steps : StepsAddChanges pseudokey_of) where
    -- the request's ward has made a step
    stays_by : (new : WorldState K) → request_named name new.in_flight ≡ Some request → (turn : IsWardTurn pseudokey_of old new) → request.ward ≡ turn.at → GoesOn old name request distance 0 new
    stays_by new there turn here =
        let own = sound.wards turn.at turn.before turn.found in
        let same : away.0 ≡ turn.before = one_there old.wards turn.at away.0 turn.before (subst (λ n. slice_get old.wards n ≡ Some away.0) here away.1) turn.found in
        let far = subst (λ (w : WardState K). IsDistance w.pages request.page request.pseudokey distance) same away.2 in
        let farther = steps turn.before turn.left turn.event request.page request.pseudokey distance own.sound.legal.legal.legal.linked turn.step far in
        let left_there : slice_get new.wards turn.at ≡ Some turn.left = ap (λ (ws : List (WardState K)). slice_get ws turn.at) turn.wards ∙ set_here old.wards turn.at turn.before turn.left turn.found in
        let now_many = count_of new turn.at own.before turn.left left_there (ap (λ (ns : List ℕ). slice_get ns turn.at) turn.noticed ∙ own.noticed) in
        let was_many = count_of old turn.at own.before turn.before turn.found own.noticed in
        let now_own = ap (λ n. length (changes_in new n)) here in
        let was_own = ap (λ n. length (changes_in old n)) here in
        record {
          page = request.page;
          there = there ∙ ap (λ n. Some (record request { moves = n })) none;
          stays = λ is. refl;
          left = farther.0;
          is_left = (turn.left, subst (λ n. slice_get new.wards n ≡ Some turn.left) (sym here) left_there, farther.1);
          since = omega (arith, now_many, was_many, now_own, was_own, turn.grown, own.first);
          few = omega (arith, now_many, was_many, now_own, was_own, turn.grown, own.first, farther.2);
        }

    pub stays_put : (new : WorldState K) → request_named name new.in_flight ≡ Some request → Turns pseudokey_of old new → GoesOn old name request distance 0 new
    stays_put new there (inl leaves) = stays_where new there (ap (λ (ws : List (WardState K)). slice_get ws request.ward) leaves.wards) leaves.noticed
    stays_put new there (inr turn) = elim (cases_eq request.ward turn.at) [
      | inl here ↦ stays_by new there turn here
      | inr else ↦ stays_where new there (ap (λ (ws : List (WardState K)). slice_get ws request.ward) turn.wards ∙ set_else old.wards turn.at request.ward turn.left else) turn.noticed
    ]

-- ---- where it moves

module _ {K : Type 0} (pseudokey_of : K → List ℕ → ℕ) (old : WorldState K) (sound : IsSoundWorld pseudokey_of old) (name ward : ℕ) (hop : Progress) (new : WorldState K) (has : HasHopped pseudokey_of old name ward hop new) where
  abbrev pseudo : List ℕ → ℕ
  pseudo = pseudokey_of old.keyer

  abbrev hopping : Request
  hopping = has.request

  pub way_of : IsOnTheWay pseudokey_of old hopping
  way_of = all_named (IsOnTheWay pseudokey_of old) name old.in_flight hopping sound.requests has.there

  on_way : way_of.ward ≡ has.before
  on_way = one_there old.wards ward way_of.ward has.before (subst (λ n. slice_get old.wards n ≡ Some way_of.ward) (sym has.ward_is) way_of.there) has.found

  below : IsBelow has.before.pages hopping.page (pseudo (key_of hopping.call))
  below = subst (IsBelow has.before.pages hopping.page) way_of.pseudokey_is (subst (λ (w : WardState K). IsBelow w.pages hopping.page hopping.pseudokey) on_way way_of.below)

  -- no hop strays
  pub no_stray : hop_in hop ≡ hops.Stray → ⊥
  no_stray is = let stray = subst (HopOf old.cap pseudo has.before.pages hopping.page hopping.call) is has.outcome in stray below.0 (record { there = below.1; below = below.2 })

  -- and one that moves on lowers the distance by one
  pub nearer_by : MovesComeNearer → (next : ℕ) → hop_in hop ≡ hops.Moved next → (distance : ℕ) → IsAway old hopping distance
      → (left : ℕ) × (distance ≡ suc left) × IsDistance has.before.pages next hopping.pseudokey left
  nearer_by moves next is distance away =
      let before = has.before in
      let own = sound.wards ward before has.found in
      let own_is : own_prefix before ≡ ward_prefix old.ward_bits ward = ap (λ bits. ward_prefix bits before.number) own.bits ∙ ap (ward_prefix old.ward_bits) own.number_is in
      let on_away : away.0 ≡ before = one_there old.wards ward away.0 before (subst (λ n. slice_get old.wards n ≡ Some away.0) (sym has.ward_is) away.1) has.found in
      let covered : Begins (own_prefix before) (pseudo (key_of hopping.call)) =
      subst (λ p. Begins p (pseudo (key_of hopping.call))) (sym own_is)
      (subst (λ n. Begins (ward_prefix old.ward_bits n) (pseudo (key_of hopping.call))) (sym has.ward_is) (subst (Begins (ward_prefix old.ward_bits hopping.ward)) way_of.pseudokey_is way_of.begins)) in
      let on : CanGoOn (own_prefix before) before.pages hopping.page (pseudo (key_of hopping.call)) = record { linked = own.sound.legal.legal.legal.linked; word = sound.words (key_of hopping.call); covered = covered; below = below } in
      let far = subst (λ k. IsDistance before.pages hopping.page k distance) way_of.pseudokey_is (subst (λ (w : WardState K). IsDistance w.pages hopping.page hopping.pseudokey distance) on_away away.2) in
      let nearer = moves old.cap pseudo (own_prefix before) before.pages hopping.page hopping.call next distance on far (subst (HopOf old.cap pseudo before.pages hopping.page hopping.call) is has.outcome) in
      (nearer.0, nearer.1, subst (λ k. IsDistance before.pages next k nearer.0) (sym way_of.pseudokey_is) nearer.2)

module _ {K : Type 0} (pseudokey_of : K → List ℕ → ℕ) (old : WorldState K) (sound : IsSoundWorld pseudokey_of old) (moves : MovesComeNearer) where
  moved : (name ward next : ℕ) (new : WorldState K) (has : HasHopped pseudokey_of old name ward (Moved next) new) (distance : ℕ) → IsAway old has.request distance → GoesOn old name has.request distance 1 new
  moved name ward next new has distance away =
      let request = has.request in
      let before = has.before in
      let nearer = nearer_by pseudokey_of old sound name ward (Moved next) new has moves next refl distance away in
      let wards : new.wards ≡ old.wards = ap (λ (w : WorldState K). w.wards) has.after ∙ ap (slice_set old.wards ward) has.leaves ∙ set_same old.wards ward before has.found in
      let many = ap length (same_changes old new request.ward (ap (λ (ws : List (WardState K)). slice_get ws request.ward) wards) (ap (λ (w : WorldState K). w.noticed) has.after)) in
      record {
        page = next;
        there = ap (λ (w : WorldState K). request_named name w.in_flight) has.after ∙ named_on name next old.in_flight request has.there;
        stays = λ is. absurd (omega (arith, is));
        left = nearer.0;
        is_left = (before, ap (λ (ws : List (WardState K)). slice_get ws request.ward) wards ∙ subst (λ n. slice_get old.wards n ≡ Some before) has.ward_is has.found, nearer.2);
        since = omega (arith, many);
        few = omega (arith, many, nearer.1);
      }

-- ---- a step

none_moved : (name : ℕ) (event : Event) (fault : StepFault) → moves_by name event (Err fault) ≡ 0
none_moved name (HopOn other) fault = refl
none_moved name event fault = refl

module _ {K : Type 0} (pseudokey_of : K → List ℕ → ℕ) (steps : StepsAddChanges pseudokey_of) (moves : MovesComeNearer) (old : WorldState K) (sound : IsSoundWorld pseudokey_of old)
    (name : ℕ) (request : Request) (named : request_named name old.in_flight ≡ Some request) (distance : ℕ) (away : IsAway old request distance) where
  put : (new : WorldState K) → request_named name new.in_flight ≡ Some request → Turns pseudokey_of old new → GoesOn old name request distance 0 new
  put new there turns = stays_put pseudokey_of old sound name request distance away steps new there turns

  -- another request's hop, or one that leaves the requests as they are
  other_hop : (other ward : ℕ) (hop : Progress) (new : WorldState K) → HasHopped pseudokey_of old other ward hop new → request_named name (requests_after other (hop_in hop) old.in_flight) ≡ Some request → GoesOn old name request distance 0 new
  other_hop other ward hop new has there =
      put new (ap (λ (w : WorldState K). request_named name w.in_flight) has.after ∙ there) (step_turn pseudokey_of old sound (HopOn other) (Ok (hop_outcome ward hop)) new (hopped_step pseudokey_of old other ward hop new has))

  -- its own hop, which moves it on
  own_move : (ward next : ℕ) (new : WorldState K) → HasHopped pseudokey_of old name ward (Moved next) new → GoesOn old name request distance 1 new
  own_move ward next new has =
      let same : request ≡ has.request = let both : Some request ≡ Some has.request = sym named ∙ has.there in cc in
      let P : Request → Type 0 = λ r. IsAway old r distance → GoesOn old name r distance 1 new in
      subst P (sym same) (moved pseudokey_of old sound moves name ward next new has distance) away

  hopped_on : (other ward : ℕ) (hop : Progress) (new : WorldState K) → HasHopped pseudokey_of old other ward hop new → LeavesOpen name (HopOn other) (Ok (hop_outcome ward hop)) → (same : Bool) → eqb name other ≡ same
      → GoesOn old name request distance (moves_by name (HopOn other) (Ok (hop_outcome ward hop))) new
  hopped_on other ward (Done reply told bound) new has unmet true is = absurd (unmet (ap HopOn (sym (eqb-true name other is))) ward reply told bound refl)
  hopped_on other ward (Done reply told bound) new has unmet false is = other_hop other ward (Done reply told bound) new has (named_else name other (grind (arith, nat_tests)) (hops.Done reply) old.in_flight ∙ named)
  hopped_on other ward (Moved next) new has unmet true is =
      let same : other ≡ name = sym (eqb-true name other is) in
      let P : ℕ → Type 0 = λ n. HasHopped pseudokey_of old n ward (Moved next) new in
      subst (λ b. GoesOn old name request distance (cond b 1 0) new) (sym is) (own_move ward next new (subst P same has))
  hopped_on other ward (Moved next) new has unmet false is =
      subst (λ b. GoesOn old name request distance (cond b 1 0) new) (sym is) (other_hop other ward (Moved next) new has (named_else name other (grind (arith, nat_tests)) (hops.Moved next) old.in_flight ∙ named))
  hopped_on other ward MustSplit new has unmet same is = other_hop other ward MustSplit new has named
  hopped_on other ward Stray new has unmet same is = other_hop other ward Stray new has named

  abbrev Goes : Event → Outcome → WorldState K → Type 0
  Goes event outcome new = LeavesOpen name event (Ok outcome) → Turns pseudokey_of old new → GoesOn old name request distance (moves_by name event (Ok outcome)) new

  effect_on : (event : Event) (outcome : Outcome) (new : WorldState K) → HasEffect pseudokey_of old event outcome new → Goes event outcome new
  effect_on = on_effect pseudokey_of old Goes record {
    begun = λ other client copy call ward page new has unmet turns. put new (ap (λ (w : WorldState K). request_named name w.in_flight) has.after ∙ named_push name old.in_flight other _ request named) turns;
    hopped = λ other ward hop new has unmet turns. hopped_on other ward hop new has unmet (eqb name other) refl;
    split = λ ward page notice new has unmet turns. put new (ap (λ (w : WorldState K). request_named name w.in_flight) has.after ∙ named) turns;
    merge = λ ward page notice new has unmet turns. put new (ap (λ (w : WorldState K). request_named name w.in_flight) has.after ∙ named) turns;
    taken = λ copy ward index notice new has unmet turns. put new (ap (λ (w : WorldState K). request_named name w.in_flight) has.after ∙ named) turns;
    sent = λ copy number new has unmet turns. put new (ap (λ (w : WorldState K). request_named name w.in_flight) has.after ∙ named) turns;
    joined = λ copy table new has unmet turns. put new (ap (λ (w : WorldState K). request_named name w.in_flight) has.after ∙ named) turns;
    restarted = λ copy new has unmet turns. put new (ap (λ (w : WorldState K). request_named name w.in_flight) has.after ∙ named) turns;
  }

  pub step_on : (event : Event) (result : Result Outcome StepFault) (new : WorldState K) → Step pseudokey_of old event result new → LeavesOpen name event result → GoesOn old name request distance (moves_by name event result) new
  step_on event (Ok outcome) new step unmet = effect_on event outcome new step unmet (step_turn pseudokey_of old sound event (Ok outcome) new step)
  step_on event (Err fault) new step unmet =
      let turns = step_turn pseudokey_of old sound event (Err fault) new step in
      let there : request_named name new.in_flight ≡ Some request = on_refusal pseudokey_of old (λ w. request_named name w.in_flight ≡ Some request) named (λ number before failures found. named) event fault new step in
      subst (λ n. GoesOn old name request distance n new) (sym (none_moved name event fault)) (put new there turns)

-- ---- one after another

both : {K : Type 0} (now : WorldState K) (name : ℕ) (request : Request) (distance first second : ℕ) (mid later : WorldState K) (one : GoesOn now name request distance first mid)
    → GoesOn mid name (record request { page = one.page; moves = request.moves + first }) one.left second later → GoesOn now name request distance (first + second) later
both now name request distance first second mid later one rest =
    let sum : request.moves + first + second ≡ request.moves + (first + second) = omega arith in
    record {
      page = rest.page;
      there = rest.there ∙ ap (λ n. Some (record request { page = rest.page; moves = n })) sum;
      stays = λ is. rest.stays (omega (arith, is)) ∙ one.stays (omega (arith, is));
      left = rest.left;
      is_left = rest.is_left;
      since = omega (arith, one.since, rest.since);
      few = omega (arith, one.since, rest.since, one.few, rest.few);
    }

module _ {K : Type 0} (pseudokey_of : K → List ℕ → ℕ) (keep : StepsKeepWorldsSound pseudokey_of) (runs : RunsKeepWardsSound pseudokey_of) (steps : StepsAddChanges pseudokey_of) (moves : MovesComeNearer) (name : ℕ) where
  pub run_on : (now : WorldState K) (moments : List (Moment K)) (later : WorldState K) → IsSoundWorld pseudokey_of now → IsRun pseudokey_of now moments later → (request : Request) → request_named name now.in_flight ≡ Some request
      → AllByRecursion (λ (moment : Moment K). LeavesOpen name moment.turn.event moment.turn.result) moments → (distance : ℕ) → IsAway now request distance → GoesOn now name request distance (moves_over name moments) later
  run_on now [] later sound run request named unmet distance away =
      subst (GoesOn now name request distance 0) (sym run) (stays_put pseudokey_of now sound name request distance away steps now named (inl record { wards = refl; noticed = refl }))
  run_on now (moment ∷ moments) later sound run request named unmet distance away =
      let event = moment.turn.event in
      let result = moment.turn.result in
      let mid = moment.after in
      let one = step_on pseudokey_of steps moves now sound name request named distance away event result mid run.1 unmet.0 in
      let mid_sound = stays_sound pseudokey_of now sound runs keep event result mid run.1 in
      both now name request distance (moves_by name event result) (moves_over name moments) mid later one
      (run_on mid moments later mid_sound run.2 (record request { page = one.page; moves = request.moves + moves_by name event result }) one.there unmet.1 one.left one.is_left)

module _ {K : Type 0} (pseudokey_of : K → List ℕ → ℕ) (keep : StepsKeepWorldsSound pseudokey_of) (runs : RunsKeepWardsSound pseudokey_of) where
  pub run_sound : (now : WorldState K) (moments : List (Moment K)) (later : WorldState K) → IsSoundWorld pseudokey_of now → IsRun pseudokey_of now moments later → IsSoundWorld pseudokey_of later
  run_sound now [] later sound run = subst (IsSoundWorld pseudokey_of) (sym run) sound
  run_sound now (moment ∷ moments) later sound run = run_sound moment.after moments later (stays_sound pseudokey_of now sound runs keep moment.turn.event moment.turn.result moment.after run.1) run.2
