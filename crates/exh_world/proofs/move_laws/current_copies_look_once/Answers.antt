use Rattle.std.proofs.Common.{◌≡◌, List, length, slice_get, Some, Ok, refl, sym, ap, ◌∙◌}
use Rattle.exh_ward.specs.WardState.{WardState}
use Rattle.exh_world.specs.InFlight.{request_named}
use Rattle.exh_world.specs.Step.{pseudokey_in, request_begun}
use Rattle.exh_world.specs.StepEffectLemmas.{step_hopped}
use Rattle.exh_world.specs.World.{WorldState, changes_in}
use Rattle.exh_walk.specs.declared.event.Event.TheVariants.{Begin}
use Rattle.exh_walk.specs.declared.outcome.Outcome.TheVariants.{Begun}
use Rattle.exh_world.specs.declared.request.Request.{Request}
use Rattle.exh_world.specs.Counted.{IsAway, moves_over}
use Rattle.exh_world.proofs.CountedAnswers.{at_home, no_distance, first_hop}
use Rattle.exh_world.proofs.CountedParts.{current_copies}
use Rattle.exh_world.proofs.GoingOn.{run_sound, same_changes}
use Rattle.exh_world.proofs.NamedRequests.{named_last}
use Rattle.exh_world.proofs.TakersCurrent.{taker_along}
use Rattle.exh_world.proofs.WardTurns.{stays_sound}
use Rattle.exh_world.proofs.move_laws.current_copies_look_once.Goals as goal

pub returns-clause-current_begin : goal.returns-clause-current_begin
returns-clause-current_begin g c old now name client copy call ward page sound begins table there current =
    let K = g.row.K.Denot in
    let pseudokey_of = g.K.Keyer.pseudokey_of in
    let k = pseudokey_in pseudokey_of old call in
    let near = no_distance pseudokey_of old sound name client copy call ward page now begins c.whole_tables_name_homes.ensures.copies c.one_distance.ensures table there current in
    ap (λ (w : WorldState K). request_named name w.in_flight) begins.after
    ∙ named_last name old.in_flight _ begins.free
    ∙ ap (λ n. Some (request_begun client call k ward page n (length (changes_in old ward)))) near

pub returns-clause-current : goal.returns-clause-current
returns-clause-current g c old now name client copy call ward page sound begins table there current moments later run unmet kept number hop after step =
    let K = g.row.K.Denot in
    let pseudokey_of = g.K.Keyer.pseudokey_of in
    let keep = c.steps_keep_worlds_sound.ensures in
    let runs = c.runs_keep_wards_sound_and_one_map.ensures.sound in
    let homes = c.whole_tables_name_homes.ensures.copies in
    let one = c.one_distance.ensures in
    let k = pseudokey_in pseudokey_of old call in
    let begun : Request = request_begun client call k ward page 0 (length (changes_in old ward)) in
    let named : request_named name now.in_flight ≡ Some begun = returns-clause-current_begin g c old now name client copy call ward page sound begins table there current in
    let wards : now.wards ≡ old.wards = ap (λ (w : WorldState K). w.wards) begins.after in
    let away : IsAway now begun 0 = (begins.before, ap (λ (ws : List (WardState K)). slice_get ws ward) wards ∙ begins.found, at_home pseudokey_of old sound name client copy call ward page now begins homes one table there current) in
    let now_sound = stays_sound pseudokey_of old sound runs keep (Begin name client copy call) (Ok (Begun ward page)) now begins in
    let goes = c.moves_are_counted.ensures.go_on now moments later now_sound run name begun named unmet 0 away in
    let since = ap length (sym (same_changes old now ward (ap (λ (ws : List (WardState K)). slice_get ws ward) wards) (ap (λ (w : WorldState K). w.noticed) begins.after))) in
    first_hop pseudokey_of c.moves_come_nearer.ensures now later after (run_sound pseudokey_of keep runs now moments later now_sound run) name begun refl refl (moves_over name moments) goes kept since number hop (step_hopped pseudokey_of later name number hop after step)

pub returns-clause-takers : goal.returns-clause-takers
returns-clause-takers g c = taker_along g.K.Keyer.pseudokey_of c.steps_keep_worlds_sound.ensures c.runs_keep_wards_sound_and_one_map.ensures.sound c.runs_carry_the_headline.ensures

pub returns-clause-once : goal.returns-clause-once
returns-clause-once g c start front old sound run name client copy call ward page now begins all moments later run_on unmet kept number hop after step =
    let there = run_sound g.K.Keyer.pseudokey_of c.steps_keep_worlds_sound.ensures c.runs_keep_wards_sound_and_one_map.ensures.sound start front old sound run in
    let current = returns-clause-takers g c start front old sound run copy begins.table ward begins.before begins.there begins.found all in
    returns-clause-current g c old now name client copy call ward page there begins begins.table begins.there current moments later run_on unmet kept number hop after step

pub returns-clause-takers_begin : goal.returns-clause-takers_begin
returns-clause-takers_begin g c start front old sound run name client copy call ward page now begins all =
    let there = run_sound g.K.Keyer.pseudokey_of c.steps_keep_worlds_sound.ensures c.runs_keep_wards_sound_and_one_map.ensures.sound start front old sound run in
    let current = returns-clause-takers g c start front old sound run copy begins.table ward begins.before begins.there begins.found all in
    returns-clause-current_begin g c old now name client copy call ward page there begins begins.table begins.there current

pub returns-clause-runs : goal.returns-clause-runs
returns-clause-runs g c =
    current_copies g.K.Keyer.pseudokey_of c.steps_keep_worlds_sound.ensures c.runs_keep_wards_sound_and_one_map.ensures.sound (returns-clause-current g c) (returns-clause-once g c)
    (returns-clause-current_begin g c) (returns-clause-takers_begin g c)
