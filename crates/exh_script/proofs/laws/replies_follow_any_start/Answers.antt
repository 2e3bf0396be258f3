use Rattle.std.proofs.Common.{◌≡◌, ℕ, ◌≤◌, List, [], ◌∷◌, length, leb, cond, Bool, true, false, Result, Ok, Err, refl, subst}
use Rattle.std.proofs.lemmas.Bool.{leb-true}
use Rattle.exh_keyer.specs.Pseudokey.{any_pseudokey}
use Rattle.exh_text.specs.TextLines.{lines_of}
use Rattle.exh_text.specs.declared.line_fault.LineFault.TheVariants.{Syntax}
use Rattle.exh_world.specs.WorldLaws.{RunsCarryTheHeadline}
use Rattle.exh_world.specs.NewWorld.{new_world}
use Rattle.exh_world.specs.Sound.{IsSoundWorld}
use Rattle.exh_line.specs.LineAnswer.{answer_text}
use Rattle.exh_script.specs.AnyStart.{BeginsSound, PrintsFrom}
use Rattle.exh_script.specs.Text.{ScriptWorld, Beginning, Start, start_in, started, start_of, settings_of, text_after, text_of_lines, ended_after, ended_of_lines, text_of, ended_of}
use Rattle.exh_line.specs.declared.answer.Answer.TheVariants.{Refused}
use Rattle.exh_script.specs.declared.ended.Ended.TheVariants as ended
use Rattle.exh_line.specs.declared.refusal.Refusal.{Refusal}
use Rattle.exh_line.specs.declared.refusal.Refusal.TheVariants.{Line as LineRefusal, TooLong}
use Rattle.exh_text.specs.declared.settings.Settings.{Settings}
use Rattle.exh_text.specs.declared.script.TheConstants.{SCRIPT_LIMIT}
use Rattle.exh_script.proofs.KeptWorlds.{WorldLaws}
use Rattle.exh_script.proofs.LineMoments.{entries_from}
use Rattle.exh_script.proofs.NewFile.{bits_in_range, in_range}
use Rattle.exh_script.proofs.StartedReplies.{replies_from}
use Rattle.exh_script.proofs.laws.replies_follow_any_start.Goals as goal

module _ (laws : WorldLaws) (carry : RunsCarryTheHeadline any_pseudokey) (begin : Beginning) (begins : BeginsSound begin) (script : List ℕ) where
  module _ (first : List ℕ) (lines : List (List ℕ)) (fits : length script ≤ SCRIPT_LIMIT) (split : lines_of script ≡ first ∷ lines) where
    by_world : (settings : Settings) → settings_of first ≡ Ok settings → (world : Result ScriptWorld Refusal) → begin settings.file ≡ world → start_of begin first ≡ start_in settings.tells_moves world
        → text_of begin script ≡ text_after (start_in settings.tells_moves world) lines → PrintsFrom begin script (ended_after (start_in settings.tells_moves world))
    by_world settings right (Ok world) is start text =
        let fresh = begins settings.file world (in_range first settings right) is in
        let begun : Start = record { world = world; tells_moves = settings.tells_moves } in
        (begun, lines, entries_from world lines, record { fits = fits; first = (first, split, start) }, replies_from laws carry begun lines fresh.0 fresh.1 (text_of begin script) text)
    by_world settings right (Err refusal) is start text = (refusal, text)

    by_settings : (read : Result Settings Refusal) → settings_of first ≡ read → start_of begin first ≡ started begin read
        → text_of begin script ≡ text_after (started begin read) lines → PrintsFrom begin script (ended_after (started begin read))
    by_settings (Ok settings) right start text = by_world settings right (begin settings.file) refl start text
    by_settings (Err refusal) right start text = (refusal, text)

    by_first : text_of begin script ≡ text_after (start_of begin first) lines → PrintsFrom begin script (ended_after (start_of begin first))
    unfolding start_of
    by_first = by_settings (settings_of first) refl refl

  by_lines : (lines : List (List ℕ)) → length script ≤ SCRIPT_LIMIT → lines_of script ≡ lines → text_of begin script ≡ text_of_lines begin lines → PrintsFrom begin script (ended_of_lines begin lines)
  by_lines [] fits split text = (LineRefusal Syntax, text)
  by_lines (first ∷ lines) fits split text = by_first first lines fits split text

  by_length : (fits : Bool) → leb (length script) SCRIPT_LIMIT ≡ fits → text_of begin script ≡ cond fits (text_of_lines begin (lines_of script)) (answer_text (Refused TooLong))
      → PrintsFrom begin script (cond fits (ended_of_lines begin (lines_of script)) ended.Refused)
  by_length true fits text = by_lines (lines_of script) (leb-true _ _ fits) refl text
  by_length false fits text = (TooLong, text)

pub returns-clause-follow : goal.returns-clause-follow
unfolding text_of ended_of
returns-clause-follow c begin begins script =
    let laws : WorldLaws = record {
      outcomes = c.steps_have_outcomes.ensures;
      keep_sound = c.steps_keep_worlds_sound.ensures;
      wards = c.runs_keep_wards_sound_and_one_map.ensures.sound;
    } in
    by_length laws c.runs_carry_the_headline.ensures begin begins script _ refl refl

pub returns-clause-new_file : goal.returns-clause-new_file
returns-clause-new_file c file world within is =
    let same : new_world file ≡ world = cc in
    let P : ScriptWorld → Type 0 = λ w. IsSoundWorld any_pseudokey w × (w.in_flight ≡ []) in
    subst P same (c.new_worlds_are_sound.ensures file (bits_in_range file within), refl)
