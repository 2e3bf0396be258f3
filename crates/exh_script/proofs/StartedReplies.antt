-- What a run of lines prints of the map, from a sound world without a request in flight.
use Rattle.std.proofs.Common.{◌≡◌, ℕ, List, [], map, Some, slice_get, refl, sym, ap, ◌∙◌, subst}
use Rattle.std.specs.Prelude.{All}
use Rattle.std.proofs.lemmas.List.Elements.{All-from_recursion}
use Rattle.exh_keyer.specs.declared.any_keyer.AnyKeyer.{AnyKeyer}
use Rattle.exh_keyer.specs.Pseudokey.{any_pseudokey}
use Rattle.exh_calls.specs.History.{IsHistory, map_left}
use Rattle.exh_ward.specs.WardState.{WardState}
use Rattle.exh_calls.specs.declared.journal_entry.JournalEntry.{JournalEntry}
use Rattle.exh_world.specs.Headline.{IsHeadline, DoesNotStray as KeepsCourse}
use Rattle.exh_world.specs.WorldLaws.{AreWardsSound, RunsCarryTheHeadline}
use Rattle.exh_world.specs.WorldRun.{Moment, answered_in, journal_entry_of}
use Rattle.exh_world.specs.Sound.{IsSoundWorld}
use Rattle.exh_world.specs.World.{map_in}
use Rattle.exh_walk.specs.declared.turn.Turn.{Turn as StepTurn}
use Rattle.exh_script.specs.AnyStart.{HasOwnMore, RepliesFrom}
use Rattle.exh_script.specs.Replies.{steps_from, world_left, ShowTheSame}
use Rattle.exh_script.specs.Text.{ScriptWorld, Start, text_from}
use Rattle.exh_line.specs.Shown.{shown_text, table_text}
use Rattle.exh_script.proofs.Journals.{lines_more}
use Rattle.exh_script.proofs.KeptWorlds.{WorldLaws, IsServedWorld, lines_run}
use Rattle.exh_script.proofs.LineMoments.{moments_from, turns_are, entries_from, entries_are}
use Rattle.exh_script.proofs.ReplyLaw.{text_is_responses, enter_in_order}
use Rattle.exh_script.proofs.Strays.{no_strays}

-- copies that took the same are shown the same
shown_same : (start : ScriptWorld) (steps : List StepTurn) (end : ScriptWorld) → IsHeadline any_pseudokey start steps end → ShowTheSame start steps end
shown_same start steps end headline one other table twin taken taken_too there there_too took took_too same =
    let equal : table ≡ twin = headline.equal one other table twin taken taken_too there there_too took took_too same in
    (table_text end.ward_bits table, refl, ap (λ t. shown_text end.ward_bits other t) (sym equal))

module _ (laws : WorldLaws) (carry : RunsCarryTheHeadline any_pseudokey) (begun : Start) (lines : List (List ℕ)) (sound : IsSoundWorld any_pseudokey begun.world) (none : begun.world.in_flight ≡ []) where
  abbrev start : ScriptWorld
  start = begun.world

  abbrev end : ScriptWorld
  end = world_left start lines

  kept : IsServedWorld start.ward_bits start.keyer start
  kept = record { sound = sound; bits_are = refl; keyer_is = refl }

  -- the headline, over the moments of the lines
  abbrev IsOver : List StepTurn → Type 0
  IsOver turns = (headline : IsHeadline any_pseudokey start turns end) × (headline.moments ≡ moments_from start lines)

  over : IsOver (steps_from start lines)
  over =
      let runs = lines_run laws start.ward_bits start.keyer start kept lines in
      subst IsOver (turns_are start lines)
      (carry start (moments_from start lines) end kept.sound (All-from_recursion (λ (moment : Moment AnyKeyer). AreWardsSound any_pseudokey moment.after) (moments_from start lines) runs.1) runs.0)

  entries_same : map journal_entry_of (answered_in over.0.moments) ≡ entries_from start lines
  entries_same = ap (λ (moments : List (Moment AnyKeyer)). map journal_entry_of (answered_in moments)) over.1 ∙ entries_are start lines

  abbrev entries : List JournalEntry
  entries = entries_from start lines

  history : IsHistory start.cap (any_pseudokey start.keyer) (map_in start) entries
  history =
      let P : List JournalEntry → Type 0 = λ entries. IsHistory start.cap (any_pseudokey start.keyer) (map_in start) entries in
      subst P entries_same over.0.one_map.replies

  journals : (number : ℕ) (ward : WardState AnyKeyer) → slice_get end.wards number ≡ Some ward → HasOwnMore start number entries ward
  journals number ward is =
      let more = lines_more laws start.ward_bits start.keyer number start kept lines ward is in
      record { before = more.before; there = more.there; journal = more.journal }

  pub replies_from : (text : List ℕ) → text ≡ text_from begun.tells_moves start lines → RepliesFrom text begun lines entries
  replies_from text same = record {
    text_is = same ∙ text_is_responses begun.tells_moves start lines;
    answered = enter_in_order begun.tells_moves laws start.ward_bits start.keyer start kept none lines;
    headline = over.0;
    entries_are = entries_same;
    history = history;
    journals = journals;
    left = over.0.one_map.left ∙ ap (map_left start.cap (any_pseudokey start.keyer) (map_in start)) entries_same;
    shows = shown_same start (steps_from start lines) end over.0;
    no_stray = no_strays begun.tells_moves start lines (subst (λ (moments : List (Moment AnyKeyer)). All (λ (moment : Moment AnyKeyer). KeepsCourse moment) moments) over.1 over.0.no_stray);
  }
