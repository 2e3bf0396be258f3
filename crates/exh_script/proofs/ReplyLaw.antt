-- What holds of lines in every sound world: their text is their responses, and each reply among these is to the last accepted begin of its name.
use Rattle.std.proofs.Common.{◌≡◌, ◌+◌, ℕ, List, [], ◌∷◌, ◌++◌, Bool, length, map, flat_map, IsFalse, Result, Ok, Err, refl, sym, ap, ◌∙◌, subst}
use Rattle.std.specs.Prelude.{nat_eq}
use Rattle.std.specs.List.{IsDistinct}
use Rattle.std.specs.Option.{option_map_or}
use Rattle.std.proofs.lemmas.List.Elements.{All-nil}
use Rattle.exh_keyer.specs.declared.any_keyer.AnyKeyer.{AnyKeyer}
use Rattle.exh_keyer.specs.Pseudokey.{any_pseudokey}
use Rattle.exh_text.specs.declared.line_fault.LineFault.{LineFault}
use Rattle.exh_calls.specs.declared.call.Call.{Call}
use Rattle.exh_walk.specs.EventProgress.{Progress, hop_outcome}
use Rattle.exh_walk.specs.EventProgress as hops
use Rattle.exh_calls.specs.declared.journal_entry.JournalEntry.{JournalEntry}
use Rattle.exh_world.specs.InFlight.{Requests}
use Rattle.exh_world.specs.WorldRun.{answered_by, answered_at, journal_entry_of}
use Rattle.exh_world.specs.Step.{pseudokey_in, request_begun, HasBegun, HasHopped, HasEffect, Step}
use Rattle.exh_world.specs.StepFunction.{result_of, world_after}
use Rattle.exh_walk.specs.declared.event.Event.{Event}
use Rattle.exh_walk.specs.declared.event.Event.TheVariants as events
use Rattle.exh_walk.specs.declared.outcome.Outcome.{Outcome}
use Rattle.exh_walk.specs.declared.outcome.Outcome.TheVariants as outcomes
use Rattle.exh_world.specs.World.{changes_in}
use Rattle.exh_world.specs.declared.request.Request.{Request}
use Rattle.exh_walk.specs.declared.step_fault.StepFault.{StepFault}
use Rattle.exh_world.specs.StepEffectLemmas.{on_effect, on_refusal}
use Rattle.exh_line.specs.LineAnswer.{told_moves, outcome_answer, step_answer}
use Rattle.exh_line.specs.Grammar.{line_of}
use Rattle.exh_script.specs.Replies.{Turn, turns_from, is_about, IsBegunLast, Enters, EnterInOrder}
use Rattle.exh_script.specs.Text.{ScriptWorld, Response, Said, view_response, parsed_response, line_response, response_text, after_parsed, after_line, text_from}
use Rattle.exh_script.specs.View.{view_result}
use Rattle.exh_line.specs.declared.answer.Answer.TheVariants.{Begun, Replied, Moved}
use Rattle.exh_line.specs.declared.line.Line.{Line}
use Rattle.exh_line.specs.declared.line.Line.TheVariants as lines
use Rattle.indexmap.specs.IndexMap.{insert_entry}
use Rattle.indexmap.proofs.MapLemmas.{insert_entry-absent, absent_from_lookup}
use Rattle.exh_script.proofs.BegunRequests.{AreBegunLast, AreStill, later, turn_of, quiet, written, answered}
use Rattle.exh_script.proofs.KeptWorlds.{WorldLaws, IsServedWorld, line_kept}
use Rattle.exh_script.proofs.LineMoments.{parsed_entries, entries_from, none_answered}

-- ---- text

pub text_is_responses : (tells_moves : Bool) (world : ScriptWorld) (lines : List (List ℕ)) → text_from tells_moves world lines ≡ flat_map (λ turn. response_text turn.response) (turns_from tells_moves world lines)
text_is_responses tells_moves world [] = refl
text_is_responses tells_moves world (line ∷ lines) = ap (λ rest. response_text (line_response tells_moves world line) ++ rest) (text_is_responses tells_moves (after_line world line) lines)

-- ---- a line behind turns that requests in flight were begun by

module _ (tells_moves : Bool) (world : ScriptWorld) (before : List Turn) (all : AreBegunLast before world.in_flight) (line : List ℕ) where
  abbrev Still : Response → Requests → Type 0
  Still response requests = AreStill world before all line response requests

  -- a turn with this response and entries, and the world after it
  record Goes (response : Response) (entries : List JournalEntry) (after : ScriptWorld) : Type 0 where
    entered : Enters before line response entries
    in_flight : Still response after.in_flight

  goes_quiet : (response : Response) → ((name : ℕ) → IsFalse (is_about name response)) → Enters before line response [] → (after : ScriptWorld) → after.in_flight ≡ world.in_flight → Goes response [] after
  goes_quiet response none entered after same = record {
    entered = entered;
    in_flight = let P : Requests → Type 0 = Still response in subst P (sym same) (quiet world before all line response none);
  }

  -- ---- steps

  goes_begun : (name client copy : ℕ) (call : Call) (ward page : ℕ) (new : ScriptWorld) → HasBegun any_pseudokey world name client copy call ward page new → line_of line ≡ Ok (lines.Step (events.Begin name client copy call))
      → Goes (Said (Begun name ward page)) [] new
  goes_begun name client copy call ward page new has parsed =
      let request : Request = request_begun client call (pseudokey_in any_pseudokey world call) ward page has.distance (length (changes_in world ward)) in
      let response = Said (Begun name ward page) in
      let own : IsBegunLast (before ++ turn_of line response ∷ []) name client call = record {
        front = before;
        begin = turn_of line response;
        since = [];
        split = refl;
        copy = copy;
        line = parsed;
        ward = ward;
        page = page;
        accepted = refl;
        unanswered = All-nil _;
      } in
      let P : Requests → Type 0 = Still response in
      let longer = insert_entry-absent nat_eq name request world.in_flight (absent_from_lookup (nat_eq name) world.in_flight has.free) in
      record {
        entered = refl;
        in_flight = subst P (longer ∙ sym (ap (λ (w : ScriptWorld). w.in_flight) has.after)) (written world before all line name request response own (λ other apart. apart));
      }

  module _ (name ward : ℕ) (parsed : line_of line ≡ Ok (lines.Step (events.Hop name))) where
    goes_hopped : (hop : Progress) (new : ScriptWorld) → HasHopped any_pseudokey world name ward hop new
        → Goes (Said (outcome_answer tells_moves (events.Hop name) (hop_outcome ward hop))) (map journal_entry_of (answered_at world (events.Hop name) (Ok (hop_outcome ward hop)))) new
    goes_hopped (hops.Done reply moves bound) new has =
        let P : Requests → Type 0 = Still (Said (Replied name reply (told_moves tells_moves moves bound))) in
        let told : map journal_entry_of (answered_at world (events.Hop name) (Ok (outcomes.Replied ward reply moves bound))) ≡ record { client = has.request.client; call = has.request.call; reply = reply } ∷ [] =
        ap (λ named. map journal_entry_of (option_map_or (λ request. answered_by world reply moves bound request ∷ []) named [])) has.there in
        record {
          entered = (has.request.client, has.request.call, told, parsed, all.begun name has.request has.there);
          in_flight = subst P (sym (ap (λ (w : ScriptWorld). w.in_flight) has.after)) (answered world before all line name reply (told_moves tells_moves moves bound));
        }
    goes_hopped (hops.Moved next) new has =
        let request : Request = record has.request { page = next; moves = has.request.moves + 1 } in
        let response = Said (Moved name ward next) in
        let P : Requests → Type 0 = Still response in
        let moved = ap (λ named. option_map_or (λ (request : Request). insert_entry nat_eq world.in_flight name (record request { page = next; moves = request.moves + 1 })) named world.in_flight) has.there in
        record {
          entered = refl;
          in_flight = subst P (sym (ap (λ (w : ScriptWorld). w.in_flight) has.after ∙ moved))
              (written world before all line name request response (later (turn_of line response) refl (all.begun name has.request has.there)) (λ other apart. refl));
        }
    goes_hopped hops.MustSplit new has = goes_quiet _ (λ name. refl) refl new (ap (λ (w : ScriptWorld). w.in_flight) has.after)
    goes_hopped hops.Stray new has = goes_quiet _ (λ name. refl) refl new (ap (λ (w : ScriptWorld). w.in_flight) has.after)

  abbrev GoesBy : Event → Outcome → ScriptWorld → Type 0
  GoesBy event outcome new = line_of line ≡ Ok (lines.Step event) → Goes (Said (outcome_answer tells_moves event outcome)) (map journal_entry_of (answered_at world event (Ok outcome))) new

  goes_effect : (event : Event) (outcome : Outcome) (new : ScriptWorld) → HasEffect any_pseudokey world event outcome new → GoesBy event outcome new
  goes_effect = on_effect any_pseudokey world GoesBy record {
    begun = λ name client copy call ward page new has parsed. goes_begun name client copy call ward page new has parsed;
    hopped = λ name ward hop new has parsed. goes_hopped name ward parsed hop new has;
    split = λ ward page notice new has parsed. goes_quiet _ (λ name. refl) refl new (ap (λ (w : ScriptWorld). w.in_flight) has.after);
    merge = λ ward page notice new has parsed. goes_quiet _ (λ name. refl) refl new (ap (λ (w : ScriptWorld). w.in_flight) has.after);
    taken = λ copy ward index notice new has parsed. goes_quiet _ (λ name. refl) refl new (ap (λ (w : ScriptWorld). w.in_flight) has.after);
    sent = λ copy number new has parsed. goes_quiet _ (λ name. refl) refl new (ap (λ (w : ScriptWorld). w.in_flight) has.after);
    joined = λ copy table new has parsed. goes_quiet _ (λ name. refl) refl new (ap (λ (w : ScriptWorld). w.in_flight) has.after);
    restarted = λ copy new has parsed. goes_quiet _ (λ name. refl) refl new (ap (λ (w : ScriptWorld). w.in_flight) has.after);
  }

  goes_step : (event : Event) (result : Result Outcome StepFault) (new : ScriptWorld) → Step any_pseudokey world event result new → line_of line ≡ Ok (lines.Step event)
      → Goes (Said (step_answer tells_moves event result)) (map journal_entry_of (answered_at world event result)) new
  goes_step event (Ok outcome) new step parsed = goes_effect event outcome new step parsed
  goes_step event (Err fault) new step parsed =
      let P : List _ → Type 0 = λ answered. Goes (Said (step_answer tells_moves event (Err fault))) (map journal_entry_of answered) new in
      let same = on_refusal any_pseudokey world (λ w. w.in_flight ≡ world.in_flight) refl (λ number before failures found. refl) event fault new step in
      subst P (sym (none_answered world event fault)) (goes_quiet _ (λ name. refl) refl new same)

  -- ---- views

  goes_view : (shown : Result (List ℕ) StepFault) → Goes (view_response shown) [] world
  goes_view (Ok text) = goes_quiet _ (λ name. refl) refl world refl
  goes_view (Err fault) = goes_quiet _ (λ name. refl) refl world refl

  -- ---- a line

  module _ (laws : WorldLaws) (ward_bits : ℕ) (keyer : AnyKeyer) (is : IsServedWorld ward_bits keyer world) where
    goes_parsed : (parsed : Result Line LineFault) → line_of line ≡ parsed → Goes (parsed_response tells_moves world parsed) (parsed_entries world parsed) (after_parsed world parsed)
    goes_parsed (Ok (lines.Step event)) parsed = goes_step event (result_of any_pseudokey world event) (world_after any_pseudokey world event) (laws.outcomes world event is.sound) parsed
    goes_parsed (Ok (lines.View view)) parsed = goes_view (view_result world view)
    goes_parsed (Err fault) parsed = goes_quiet _ (λ name. refl) refl world refl

    goes : Goes (line_response tells_moves world line) (parsed_entries world (line_of line)) (after_line world line)
    unfolding line_response after_line
    goes = goes_parsed (line_of line) refl

-- ---- lines

module _ (tells_moves : Bool) (laws : WorldLaws) (ward_bits : ℕ) (keyer : AnyKeyer) where
  enter_behind : (world : ScriptWorld) → IsServedWorld ward_bits keyer world → (before : List Turn) → AreBegunLast before world.in_flight → (lines : List (List ℕ)) → EnterInOrder before (turns_from tells_moves world lines) (entries_from world lines)
  enter_behind world is before all [] = refl
  enter_behind world is before all (line ∷ lines) =
      let here = goes tells_moves world before all line laws ward_bits keyer is in
      let after = after_line world line in (
        parsed_entries world (line_of line),
        entries_from after lines,
        refl,
        here.entered,
        enter_behind after (line_kept laws ward_bits keyer world is line) (before ++ turn_of line (line_response tells_moves world line) ∷ []) here.in_flight lines,
      )

  pub enter_in_order : (world : ScriptWorld) → IsServedWorld ward_bits keyer world → world.in_flight ≡ [] → (lines : List (List ℕ)) → EnterInOrder [] (turns_from tells_moves world lines) (entries_from world lines)
  unfolding IsDistinct
  enter_in_order world is none lines =
      let P : Requests → Type 0 = AreBegunLast [] in
      enter_behind world is [] (subst P (sym none) (record { once = tt; begun = λ name request found. cc found })) lines
