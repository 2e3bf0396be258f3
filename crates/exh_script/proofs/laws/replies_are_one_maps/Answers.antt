use Rattle.std.proofs.Common.{◌≡◌, ℕ, ◌≤◌, List, [], ◌∷◌, ◌++◌, length, leb, cond, Bool, true, false, Some, slice_get, Result, Ok, Err, refl, ap, ◌∙◌, subst}
use Rattle.std.specs.Prelude.{filter}
use Rattle.std.proofs.lemmas.Bool.{leb-true}
use Rattle.exh_keyer.specs.Pseudokey.{any_pseudokey}
use Rattle.exh_keyer.specs.declared.any_keyer.AnyKeyer.{AnyKeyer}
use Rattle.exh_text.specs.TextLines.{lines_of}
use Rattle.exh_text.specs.declared.line_fault.LineFault.TheVariants.{Syntax}
use Rattle.exh_calls.specs.History.{IsHistory, map_left}
use Rattle.exh_page.specs.KeyMap.{KeyMap}
use Rattle.exh_ward.specs.WardState.{WardState}
use Rattle.exh_calls.specs.declared.journal_entry.JournalEntry.{JournalEntry}
use Rattle.exh_prefix.specs.declared.prefix.TheConstants.{WARD_BITS_LIMIT}
use Rattle.exh_world.specs.WorldLaws.{NewWorldsAreSound, RunsCarryTheHeadline}
use Rattle.exh_world.specs.NewWorld.{new_world}
use Rattle.exh_line.specs.LineAnswer.{answer_text}
use Rattle.exh_script.specs.AnyStart.{RepliesFrom}
use Rattle.exh_script.specs.Replies.{world_left, is_of_ward, RepliesAsMap, PrintsAs}
use Rattle.exh_script.specs.Text.{ScriptWorld, Start, new_file, started, start_of, settings_of, text_from, text_after, text_of_lines, ended_after, ended_of_lines, text_of, ended_of}
use Rattle.exh_line.specs.declared.answer.Answer.TheVariants.{Refused}
use Rattle.exh_script.specs.declared.ended.Ended.TheVariants as ended
use Rattle.exh_line.specs.declared.refusal.Refusal.{Refusal}
use Rattle.exh_line.specs.declared.refusal.Refusal.TheVariants.{Line as LineRefusal, TooLong}
use Rattle.exh_text.specs.declared.settings.Settings.{Settings}
use Rattle.exh_text.specs.declared.script.TheConstants.{SCRIPT_LIMIT}
use Rattle.exh_script.proofs.KeptWorlds.{WorldLaws}
use Rattle.exh_script.proofs.LineMoments.{entries_from}
use Rattle.exh_script.proofs.NewFile.{few_ward_bits, new_map, new_journal, new_kept}
use Rattle.exh_script.proofs.StartedReplies.{replies_from}
use Rattle.exh_script.proofs.laws.replies_are_one_maps.Goals as goal

module _ (laws : WorldLaws) (carry : RunsCarryTheHeadline any_pseudokey) (fresh : NewWorldsAreSound any_pseudokey) (script : List ℕ) where
  module _ (settings : Settings) (lines : List (List ℕ)) (few : settings.file.ward_bits ≤ WARD_BITS_LIMIT) (text : text_of new_file script ≡ text_from settings.tells_moves (new_world settings.file) lines) where
    abbrev start : ScriptWorld
    start = new_world settings.file

    abbrev begun : Start
    begun = record { world = start; tells_moves = settings.tells_moves }

    abbrev entries : List JournalEntry
    entries = entries_from start lines

    replies : RepliesFrom (text_of new_file script) begun lines entries
    replies = replies_from laws carry begun lines (new_kept settings.file fresh few).sound refl (text_of new_file script) text

    journals : (number : ℕ) (ward : WardState AnyKeyer) → slice_get (world_left start lines).wards number ≡ Some ward → ward.journal ≡ filter (is_of_ward settings.file number) entries
    journals number ward is =
        let more = replies.journals number ward is in
        more.journal ∙ ap (λ journal. journal ++ filter (is_of_ward settings.file number) entries) (new_journal settings.file number more.before more.there)

    as_map : RepliesAsMap script settings lines entries
    as_map = record {
      text = replies.text_is;
      answered = replies.answered;
      headline = replies.headline;
      entries_are = replies.entries_are;
      history = let P : KeyMap → Type 0 = λ m. IsHistory settings.file.cap (any_pseudokey settings.file.keyer) m entries in subst P (new_map settings.file) replies.history;
      journals = journals;
      left = replies.left ∙ ap (λ m. map_left settings.file.cap (any_pseudokey settings.file.keyer) m entries) (new_map settings.file);
      shows = replies.shows;
      no_stray = replies.no_stray;
    }

  by_file : (first : List ℕ) (lines : List (List ℕ)) (read : Result Settings Refusal) → length script ≤ SCRIPT_LIMIT → lines_of script ≡ first ∷ lines → settings_of first ≡ read
      → text_of new_file script ≡ text_after (started new_file read) lines → PrintsAs script (ended_after (started new_file read))
  by_file first lines (Ok settings) fits split right text =
      (settings, lines, entries_from (new_world settings.file) lines, record { fits = fits; first = (first, split, right) }, as_map settings lines (few_ward_bits first settings right) text)
  by_file first lines (Err refusal) fits split right text = (refusal, text)

  by_lines : (lines : List (List ℕ)) → length script ≤ SCRIPT_LIMIT → lines_of script ≡ lines → text_of new_file script ≡ text_of_lines new_file lines → PrintsAs script (ended_of_lines new_file lines)
  unfolding start_of
  by_lines [] fits split text = (LineRefusal Syntax, text)
  by_lines (first ∷ lines) fits split text = by_file first lines (settings_of first) fits split refl text

  by_length : (fits : Bool) → leb (length script) SCRIPT_LIMIT ≡ fits → text_of new_file script ≡ cond fits (text_of_lines new_file (lines_of script)) (answer_text (Refused TooLong))
      → PrintsAs script (cond fits (ended_of_lines new_file (lines_of script)) ended.Refused)
  by_length true fits text = by_lines (lines_of script) (leb-true _ _ fits) refl text
  by_length false fits text = (TooLong, text)

pub returns : goal.returns
unfolding text_of ended_of
returns c script =
    let laws : WorldLaws = record {
      outcomes = c.steps_have_outcomes.ensures;
      keep_sound = c.steps_keep_worlds_sound.ensures;
      wards = c.runs_keep_wards_sound_and_one_map.ensures.sound;
    } in
    by_length laws c.runs_carry_the_headline.ensures c.new_worlds_are_sound.ensures script _ refl refl
