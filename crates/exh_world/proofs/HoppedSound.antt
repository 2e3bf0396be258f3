-- A world stays sound where a request hops, and no hop of a sound world strays.
use Rattle.std.proofs.Common.{◌≡◌, ℕ, suc, ◌+◌, Ok, List, length, drop, take, slice_get, Some, sym, ap, ◌∙◌, subst, arith}
use Rattle.std.specs.Prelude.{slice_set, ◌↔◌}
use Rattle.exh_prefix.specs.Prefix.{Begins}
use Rattle.exh_prefix.specs.PrefixListLemmas.{set_same, one_there}
use Rattle.exh_notice.specs.declared.notice.Notice.{Notice}
use Rattle.exh_table.specs.Leaves.{ward_leaves}
use Rattle.exh_table.specs.Table.{TableMap}
use Rattle.exh_page.specs.declared.page.Page.{Page}
use Rattle.exh_page.specs.declared.page.Page.TheVariants.{Live, Forward}
use Rattle.exh_legal.specs.LegalLaws.{KeepsPlaces, RightLinksLeadOn, TargetsLeadOn, IsBelow}
use Rattle.exh_prefix.specs.Leading.{ward_prefix}
use Rattle.exh_calls.specs.Call.{key_of}
use Rattle.exh_ward.specs.HopTable.{IsReached, LeadsTo, HopOf}
use Rattle.exh_ward.specs.WardState.{WardState, IsSoundWard, IsAnswered, own_prefix}
use Rattle.exh_ward.specs.declared.hop.Hop.TheVariants.{Done, Moved, Stray}
use Rattle.exh_calls.specs.declared.reply.Reply.{Reply}
use Rattle.exh_ward.specs.AnswerLemmas.{places_answered}
use Rattle.exh_ward.specs.Distance.{IsDistance}
use Rattle.exh_walk.specs.DistanceLaws.{IsTableWithin, StepsAddChanges}
use Rattle.exh_walk.specs.RouteLaws.{CanGoOn, MovesComeNearer}
use Rattle.exh_walk.specs.WardRun.{HopAt}
use Rattle.exh_world.specs.InFlight.{Requests, request_named, requests_after}
use Rattle.exh_world.specs.Sound.{IsWardOf, IsOnTheWay, IsSoundWorld}
use Rattle.exh_world.specs.World.{WorldState}
use Rattle.exh_world.specs.declared.request.Request.{Request}
use Rattle.exh_world.specs.RequestLemmas.{AllRequests, all_weaker, all_without, all_moved}
use Rattle.exh_world.proofs.SoundKept.{IsSoundAsTold, KeepsWays, after, way_kept, sound_after}
use Rattle.exh_world.proofs.BegunSound.{requests_sound}

module _ {K : Type 0} (pseudokey_of : K → List ℕ → ℕ) (old : WorldState K) (sound : IsSoundWorld pseudokey_of old) (request : Request) (way : IsOnTheWay pseudokey_of old request) (before : WardState K) (found : slice_get old.wards request.ward ≡ Some before) where
  abbrev pub is_own : IsWardOf pseudokey_of old request.ward before
  is_own = sound.wards request.ward before found

  abbrev pub pseudo : List ℕ → ℕ
  pseudo = pseudokey_of old.keyer

  pub below : IsBelow before.pages request.page (pseudo (key_of request.call))
  below = subst (IsBelow before.pages request.page) way.pseudokey_is (subst (λ (w : WardState K). IsBelow w.pages request.page request.pseudokey) (one_there old.wards request.ward way.ward before way.there found) way.below)

  -- no hop strays
  pub no_stray : HopOf old.cap pseudo before.pages request.page request.call Stray → ⊥
  no_stray stray = stray below.0 (record { there = below.1; below = below.2 })

  own_is : own_prefix before ≡ ward_prefix old.ward_bits request.ward
  own_is = ap (λ bits. ward_prefix bits before.number) is_own.bits ∙ ap (ward_prefix old.ward_bits) is_own.number_is

  -- and one that moves goes to a page that can lead to the key
  leads_from : RightLinksLeadOn → TargetsLeadOn → (next : ℕ) (page : Page) → IsReached before.pages request.page (pseudo (key_of request.call)) page → LeadsTo page (pseudo (key_of request.call)) next → IsBelow before.pages next (pseudo (key_of request.call))
  leads_from links targets next (Live prefix right records) reached leads =
      let begins : Begins (own_prefix before) (pseudo (key_of request.call)) = subst (λ p. Begins p (pseudo (key_of request.call))) (sym own_is) (subst (Begins (ward_prefix old.ward_bits request.ward)) way.pseudokey_is way.begins) in
      let on = links (own_prefix before) before.pages request.page prefix right records (pseudo (key_of request.call)) is_own.sound.legal.legal.legal.linked reached.there (sound.words (key_of request.call)) begins reached.below leads.0 in
      let same : on.0 ≡ next = let both : Some on.0 ≡ Some next = sym on.1 ∙ leads.1 in cc in
      subst (λ n. IsBelow before.pages n (pseudo (key_of request.call))) same (on.2, on.3, on.4)
  leads_from links targets next (Forward low target) reached leads =
      let on = targets (own_prefix before) before.pages request.page low target is_own.sound.legal.legal.legal.linked reached.there in
      subst (λ n. IsBelow before.pages n (pseudo (key_of request.call))) leads (on.0, on.1, omega (arith, on.2, reached.below))

  pub moved_below : RightLinksLeadOn → TargetsLeadOn → (next : ℕ) → HopOf old.cap pseudo before.pages request.page request.call (Moved next) → IsBelow before.pages next (pseudo (key_of request.call))
  moved_below links targets next hop = leads_from links targets next hop.0 hop.1 hop.2

  -- ---- the world after the hop

  abbrev pub hopped : Requests → WardState K → WorldState K
  hopped requests left = record old { wards = slice_set old.wards request.ward left; in_flight = requests }

  -- where the ward is as it was
  pub same_sound : (requests : Requests) (left : WardState K) → left ≡ before → AllRequests (IsOnTheWay pseudokey_of old) requests → IsSoundAsTold pseudokey_of (hopped requests left)
  same_sound requests left same all =
      let wards_are : old.wards ≡ slice_set old.wards request.ward left = sym (set_same old.wards request.ward before found) ∙ ap (slice_set old.wards request.ward) (sym same) in
      subst (λ wards. IsSoundAsTold pseudokey_of (record old { wards = wards; in_flight = requests })) wards_are (requests_sound pseudokey_of old sound requests all)

  begins_own : Begins (own_prefix before) (pseudo (key_of request.call))
  begins_own = subst (λ p. Begins p (pseudo (key_of request.call))) (sym own_is) (subst (Begins (ward_prefix old.ward_bits request.ward)) way.pseudokey_is way.begins)

  -- the distance is one less then
  pub moved_nearer : MovesComeNearer → (next : ℕ) → HopOf old.cap pseudo before.pages request.page request.call (Moved next) → (left : ℕ) × (way.left ≡ suc left) × IsDistance before.pages next request.pseudokey left
  moved_nearer moves next hop =
      let here : IsDistance before.pages request.page request.pseudokey way.left = subst (λ (w : WardState K). IsDistance w.pages request.page request.pseudokey way.left) (one_there old.wards request.ward way.ward before way.there found) way.is_left in
      let on : CanGoOn (own_prefix before) before.pages request.page (pseudo (key_of request.call)) = record { linked = is_own.sound.legal.legal.legal.linked; word = sound.words (key_of request.call); covered = begins_own; below = below } in
      let nearer = moves old.cap pseudo (own_prefix before) before.pages request.page request.call next way.left on (subst (λ k. IsDistance before.pages request.page k way.left) way.pseudokey_is here) hop in
      (nearer.0, nearer.1, subst (λ k. IsDistance before.pages next k nearer.0) (sym way.pseudokey_is) nearer.2)

  pub moved_sound : RightLinksLeadOn → TargetsLeadOn → MovesComeNearer → (name next : ℕ) (left : WardState K) → request_named name old.in_flight ≡ Some request → left ≡ before
      → HopOf old.cap pseudo before.pages request.page request.call (Moved next) → IsSoundAsTold pseudokey_of (hopped (requests_after name (Moved next) old.in_flight) left)
  moved_sound links targets moves name next left named same hop =
      same_sound (requests_after name (Moved next) old.in_flight) left same
      (all_moved _ name next old.in_flight sound.requests (λ other is.
      let is_request : other ≡ request = let both : Some other ≡ Some request = sym is ∙ named in cc in
      let nearer = moved_nearer moves next hop in
      subst (λ r. IsOnTheWay pseudokey_of old (record r { page = next; moves = r.moves + 1 })) (sym is_request) record {
        pseudokey_is = way.pseudokey_is;
        ward = before;
        there = found;
        begins = way.begins;
        below = subst (IsBelow before.pages next) (sym way.pseudokey_is) (moved_below links targets next hop);
        since = way.since;
        left = nearer.0;
        is_left = nearer.2;
        few = omega (arith, way.few, nearer.1);
      }))

  -- where the call was answered
  module _ (left : WardState K) (reply : Reply) (client : ℕ) (answered : IsAnswered pseudokey_of before request.page client request.call reply left) (left_sound : IsSoundWard pseudokey_of left)
      (steps : StepsAddChanges pseudokey_of) (hop : HopOf old.cap pseudo before.pages request.page request.call (Done reply)) where
    places : KeepsPlaces before.pages left.pages
    places = subst (KeepsPlaces before.pages) (sym answered.pages) (places_answered before.cap (pseudokey_of before.keyer) before.pages request.page request.call)

    notices_are : left.notices ≡ before.notices
    notices_are = ap (λ (w : WardState K). w.notices) answered.others

    start_is : left.start ≡ before.start
    start_is = ap (λ (w : WardState K). w.start) answered.others

    own_hop : HopOf before.cap (pseudokey_of before.keyer) before.pages request.page request.call (Done reply)
    own_hop =
        subst (λ (keyer : K). HopOf before.cap (pseudokey_of keyer) before.pages request.page request.call (Done reply)) (sym is_own.keyer)
        (subst (λ cap. HopOf cap pseudo before.pages request.page request.call (Done reply)) (sym is_own.cap) hop)

    pub ways : KeepsWays before left
    ways = record {
      places = places;
      more = 0;
      adds = λ from pseudokey distance is. steps before left (HopAt request.page client request.call (Ok (Done reply))) from pseudokey distance is_own.sound.legal.legal.legal.linked (own_hop, answered) is;
      grown = let same = ap length notices_are in omega (arith, same);
    }

    left_is : (requests : Requests) → IsWardOf pseudokey_of (after pseudokey_of old sound request.ward before left found ways requests) request.ward left
    left_is requests =
        let own = ward_prefix old.ward_bits request.ward in
        record {
          cap = ap (λ (w : WardState K). w.cap) answered.others ∙ is_own.cap;
          bits = ap (λ (w : WardState K). w.ward_bits) answered.others ∙ is_own.bits;
          number_is = ap (λ (w : WardState K). w.number) answered.others ∙ is_own.number_is;
          keyer = ap (λ (w : WardState K). w.keyer) answered.others ∙ is_own.keyer;
          sound = left_sound;
          before = is_own.before;
          noticed = is_own.noticed;
          first = omega (arith, is_own.first, ap length notices_are);
          started =
              let P : TableMap → List Notice → Type 0 = λ start ns. IsTableWithin own start (take is_own.before ns) old.start in
              subst (λ start. P start left.notices) (sym start_is) (subst (P before.start) (sym notices_are) is_own.started);
          directory = λ prefix.
              subst (λ ns. ward_leaves old.start own (drop is_own.before ns) prefix ↔ ward_leaves left.start own ns prefix) (sym notices_are)
              (subst (λ start. ward_leaves old.start own (drop is_own.before before.notices) prefix ↔ ward_leaves start own before.notices prefix) (sym start_is) (is_own.directory prefix));
        }

    pub answered_sound : (name : ℕ) → IsSoundAsTold pseudokey_of (hopped (requests_after name (Done reply) old.in_flight) left)
    answered_sound name =
        let requests = requests_after name (Done reply) old.in_flight in
        sound_after pseudokey_of old sound request.ward before left found ways requests (left_is requests)
        (all_without _ name old.in_flight (all_weaker _ _ (way_kept pseudokey_of old sound request.ward before left found ways requests) old.in_flight sound.requests))
