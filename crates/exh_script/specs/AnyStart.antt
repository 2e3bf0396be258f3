-- The replies that a script prints, over whatever world its first line begins.
use Rattle.std.specs.Prelude.{◌≡◌, ℕ, ◌≤◌, List, [], ◌∷◌, ◌++◌, length, map, flat_map, filter, slice_get, Bool, ◌==◌, IsTrue, Some, Ok, All}
use Rattle.exh_keyer.specs.declared.any_keyer.AnyKeyer.{AnyKeyer}
use Rattle.exh_keyer.specs.Pseudokey.{any_pseudokey}
use Rattle.exh_text.specs.TextLines.{lines_of}
use Rattle.exh_calls.specs.Call.{key_of}
use Rattle.exh_calls.specs.History.{IsHistory, map_left}
use Rattle.exh_calls.specs.declared.journal_entry.JournalEntry.{JournalEntry}
use Rattle.exh_ward.specs.WardState.{WardState}
use Rattle.exh_prefix.specs.Leading.{ward_of}
use Rattle.exh_world.specs.Headline.{IsHeadline}
use Rattle.exh_world.specs.NewWorld.{settings_of}
use Rattle.exh_world.specs.WorldRun.{answered_in, journal_entry_of}
use Rattle.exh_world.specs.Sound.{IsSoundWorld}
use Rattle.exh_world.specs.World.{map_in}
use Rattle.exh_page.specs.declared.config.Config.{Config}
use Rattle.exh_line.specs.LineAnswer.{answer_text}
use Rattle.exh_text.specs.FileLine.{file_in_range}
use Rattle.exh_script.specs.Replies.{turns_from, world_left, steps_from, EnterInOrder, SaysNoStray, ShowTheSame}
use Rattle.exh_script.specs.Text.{ScriptWorld, Beginning, Start, response_text, start_of, text_of, ended_of}
use Rattle.exh_line.specs.declared.answer.Answer.TheVariants.{Refused}
use Rattle.exh_script.specs.declared.ended.Ended.{Ended}
use Rattle.exh_script.specs.declared.ended.Ended.TheVariants as ended
use Rattle.exh_line.specs.declared.refusal.Refusal.{Refusal}
use Rattle.exh_text.specs.declared.script.TheConstants.{SCRIPT_LIMIT}

-- each world that a right first line begins is sound, and no request is in flight there
abbrev pub BeginsSound : Beginning → Type 0
BeginsSound begin = (file : Config AnyKeyer) (world : ScriptWorld) → IsTrue (file_in_range file) → begin file ≡ Ok world → IsSoundWorld any_pseudokey world × (world.in_flight ≡ [])

-- a script that isn't too long, of a right first line that starts a run, and the lines behind it
pub record IsScriptFrom (begin : Beginning) (script : List ℕ) (start : Start) (lines : List (List ℕ)) : Type 0 where
  pub fits : length script ≤ SCRIPT_LIMIT
  pub first : (line : List ℕ) × (lines_of script ≡ line ∷ lines) × (start_of begin line ≡ Ok start)

-- whether an entry's call is of a ward of the world
abbrev pub is_of_ward_in : ScriptWorld → ℕ → JournalEntry → Bool
is_of_ward_in world ward entry = ward_of world.ward_bits (any_pseudokey world.keyer (key_of entry.call)) == ward

-- a ward whose journal has of these entries those more that are of its own calls
pub record HasOwnMore (start : ScriptWorld) (number : ℕ) (entries : List JournalEntry) (ward : WardState AnyKeyer) : Type 0 where
  pub before : WardState AnyKeyer
  pub there : slice_get start.wards number ≡ Some before
  pub journal : ward.journal ≡ before.journal ++ filter (is_of_ward_in start number) entries

-- what is printed of the map, from a start on, the calls that it answers being these entries
pub record RepliesFrom (text : List ℕ) (start : Start) (lines : List (List ℕ)) (entries : List JournalEntry) : Type 0 where
  -- the text is the responses to the lines
  pub text_is : text ≡ flat_map (λ turn. response_text turn.response) (turns_from start.tells_moves start.world lines)
  -- each reply among these answers the call of the last accepted begin of its name, and no begin is answered twice
  pub answered : EnterInOrder [] (turns_from start.tells_moves start.world lines) entries
  -- the steps that the lines ask for carry the headline of a world
  pub headline : IsHeadline any_pseudokey start.world (steps_from start.world lines) (world_left start.world lines)
  -- and their answering hops are these entries
  pub entries_are : map journal_entry_of (answered_in headline.moments) ≡ entries
  -- the map machine gives these replies to these calls, one after another, from the map at the start
  pub history : IsHistory start.world.cap (any_pseudokey start.world.keyer) (map_in start.world) entries
  -- at the end each ward's journal has its own of these calls more, and the pages of all wards hold the map that they leave
  pub journals : (number : ℕ) (ward : WardState AnyKeyer) → slice_get (world_left start.world lines).wards number ≡ Some ward → HasOwnMore start.world number entries ward
  pub left : map_in (world_left start.world lines) ≡ map_left start.world.cap (any_pseudokey start.world.keyer) (map_in start.world) entries
  -- copies that took the same are shown the same
  pub shows : ShowTheSame start.world (steps_from start.world lines) (world_left start.world lines)
  -- no hop strays
  pub no_stray : All SaysNoStray (turns_from start.tells_moves start.world lines)

-- what a script prints, by how its run ends: where it is refused, that and no reply
module _ (begin : Beginning) where
  abbrev pub PrintsFrom : List ℕ → Ended → Type 0
  PrintsFrom script ended.Done =
      (start : Start) × (lines : List (List ℕ)) × (entries : List JournalEntry) × IsScriptFrom begin script start lines × RepliesFrom (text_of begin script) start lines entries
  PrintsFrom script ended.Refused = (refusal : Refusal) × (text_of begin script ≡ answer_text (Refused refusal))

-- from every start the replies that a script prints are, in the order of the answering hops, those of the map machine from the map there
abbrev pub RepliesFollowAnyStart : Type 0
RepliesFollowAnyStart = (begin : Beginning) → BeginsSound begin → (script : List ℕ) → PrintsFrom begin script (ended_of begin script)

-- lines leave the settings of a sound world as they were
abbrev pub LinesKeepSettings : Type 0
LinesKeepSettings = (world : ScriptWorld) → IsSoundWorld any_pseudokey world → (lines : List (List ℕ)) (copies : ℕ) → settings_of (world_left world lines) copies ≡ settings_of world copies
