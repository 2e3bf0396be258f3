-- The replies that a script prints, and the calls that they answer.
use Rattle.std.specs.Prelude.{◌≡◌, ◌≢◌, ℕ, ◌≤◌, List, [], ◌∷◌, ◌++◌, length, map, flat_map, filter, slice_get, Bool, false, ◌==◌, IsFalse, Some, Result, Ok, Err, All}
use Rattle.std.specs.FinMap.{empty}
use Rattle.exh_keyer.specs.declared.any_keyer.AnyKeyer.{AnyKeyer}
use Rattle.exh_keyer.specs.Pseudokey.{any_pseudokey}
use Rattle.exh_table.specs.Table.{TableMap}
use Rattle.exh_text.specs.TextLines.{lines_of}
use Rattle.exh_calls.specs.Call.{key_of}
use Rattle.exh_calls.specs.History.{IsHistory, map_left}
use Rattle.exh_ward.specs.WardState.{WardState}
use Rattle.exh_calls.specs.declared.call.Call.{Call}
use Rattle.exh_calls.specs.declared.journal_entry.JournalEntry.{JournalEntry}
use Rattle.exh_world.specs.Headline.{IsHeadline, IsSameSet, taken_by}
use Rattle.exh_world.specs.NewWorld.{new_world}
use Rattle.exh_world.specs.WorldRun.{Told, answered_in, journal_entry_of}
use Rattle.exh_world.specs.StepFunction.{result_of}
use Rattle.exh_prefix.specs.Leading.{ward_of}
use Rattle.exh_world.specs.World.{map_in, numbered}
use Rattle.exh_page.specs.declared.config.Config.{Config}
use Rattle.exh_walk.specs.declared.event.Event.TheVariants.{Begin, Hop}
use Rattle.exh_walk.specs.declared.turn.Turn.{Turn as StepTurn}
use Rattle.exh_line.specs.LineAnswer.{answer_text, copy_text}
use Rattle.exh_line.specs.Grammar.{line_of}
use Rattle.exh_script.specs.Text.{ScriptWorld, Response, Said, line_response, response_text, after_line, new_file, settings_of, text_of, ended_of}
use Rattle.exh_line.specs.Shown.{shown_text}
use Rattle.exh_line.specs.declared.answer.Answer.TheVariants.{Begun, Replied, Stray, Refused}
use Rattle.exh_script.specs.declared.ended.Ended.{Ended}
use Rattle.exh_script.specs.declared.ended.Ended.TheVariants as ended
use Rattle.exh_text.specs.declared.settings.Settings.{Settings}
use Rattle.exh_text.specs.declared.script.TheConstants.{SCRIPT_LIMIT}
use Rattle.exh_line.specs.declared.line.Line.{Line}
use Rattle.exh_line.specs.declared.line.Line.TheVariants.{Step}
use Rattle.exh_line.specs.declared.refusal.Refusal.{Refusal}

-- ---- turns

-- a line of a script, and what it is answered
pub record Turn : Type 0 where
  pub line : List ℕ
  pub response : Response

-- the turns of lines, in order, by whether a reply's line tells its moves
abbrev pub turns_from : Bool → ScriptWorld → List (List ℕ) → List Turn
turns_from tells_moves world [] = []
turns_from tells_moves world (line ∷ lines) = record { line = line; response = line_response tells_moves world line } ∷ turns_from tells_moves (after_line world line) lines

-- the world after them
abbrev pub world_left : ScriptWorld → List (List ℕ) → ScriptWorld
world_left world [] = world
world_left world (line ∷ lines) = world_left (after_line world line) lines

-- ---- the calls that turns answer, by their lines and answers alone

-- whether a response says that a request of this name was begun, or answered
abbrev pub is_about : ℕ → Response → Bool
is_about name (Said (Begun other ward page)) = other == name
is_about name (Said (Replied other reply moves)) = other == name
is_about name response = false

-- The last of these turns that begins or answers a request of this name begins it, for this client and with this call.
pub record IsBegunLast (turns : List Turn) (name client : ℕ) (call : Call) : Type 0 where
  pub front : List Turn
  pub begin : Turn
  pub since : List Turn
  pub split : turns ≡ front ++ begin ∷ since
  pub copy : ℕ
  pub line : line_of begin.line ≡ Ok (Step (Begin name client copy call))
  pub ward : ℕ
  pub page : ℕ
  pub accepted : begin.response ≡ Said (Begun name ward page)
  pub unanswered : All (λ turn. IsFalse (is_about name turn.response)) since

-- A reply is that of a hop, and answers what the last accepted begin of its name asked, which was not answered since; no
-- other response enters one. The entry has that client and call, and this reply.
abbrev pub Enters : List Turn → List ℕ → Response → List JournalEntry → Type 0
Enters before line (Said (Replied name reply moves)) entries =
    (client : ℕ) × (call : Call) × (entries ≡ record { client = client; call = call; reply = reply } ∷ []) × (line_of line ≡ Ok (Step (Hop name))) × IsBegunLast before name client call
Enters before line response entries = entries ≡ []

-- the entries of turns behind others, in their order
abbrev pub EnterInOrder : List Turn → List Turn → List JournalEntry → Type 0
EnterInOrder before [] entries = entries ≡ []
EnterInOrder before (turn ∷ turns) entries =
    (here : List JournalEntry) × (rest : List JournalEntry) × (entries ≡ here ++ rest) × Enters before turn.line turn.response here × EnterInOrder (before ++ turn ∷ []) turns rest

abbrev pub SaysNoStray : Turn → Type 0
SaysNoStray turn = (name : ℕ) → turn.response ≢ Said (Stray name)

-- ---- the steps that lines ask for, as turns of the world

abbrev pub step_turns_of : ScriptWorld → Line → List StepTurn
step_turns_of world (Step event) = record { event = event; result = result_of any_pseudokey world event } ∷ []
step_turns_of world line = []

abbrev pub parsed_steps : {Fault : Type 0} → ScriptWorld → Result Line Fault → List StepTurn
parsed_steps world (Ok line) = step_turns_of world line
parsed_steps world (Err fault) = []

abbrev pub steps_from : ScriptWorld → List (List ℕ) → List StepTurn
steps_from world [] = []
steps_from world (line ∷ lines) = parsed_steps world (line_of line) ++ steps_from (after_line world line) lines

-- ---- a whole script

-- a script that isn't too long, of a right first line and the lines behind it
pub record IsScript (script : List ℕ) (settings : Settings) (lines : List (List ℕ)) : Type 0 where
  pub fits : length script ≤ SCRIPT_LIMIT
  pub first : (line : List ℕ) × (lines_of script ≡ line ∷ lines) × (settings_of line ≡ Ok settings)

-- whether an entry's call is of a ward
abbrev pub is_of_ward : Config AnyKeyer → ℕ → JournalEntry → Bool
is_of_ward file ward entry = ward_of file.ward_bits (any_pseudokey file.keyer (key_of entry.call)) == ward

-- what `show` prints of two copies that have taken the same differs in the copies' numbers alone
abbrev pub ShowTheSame : ScriptWorld → List StepTurn → ScriptWorld → Type 0
ShowTheSame start steps end = (one other : ℕ) (table twin : TableMap) (taken taken_too : Told)
    → numbered end.copies one ≡ Some table → numbered end.copies other ≡ Some twin
    → taken_by start steps one taken → taken_by start steps other taken_too → IsSameSet taken taken_too
    → (rest : List ℕ) × (shown_text end.ward_bits one table ≡ copy_text one ++ rest) × (shown_text end.ward_bits other twin ≡ copy_text other ++ rest)

-- what it prints of the map, the calls that it answers being these entries
pub record RepliesAsMap (script : List ℕ) (settings : Settings) (lines : List (List ℕ)) (entries : List JournalEntry) : Type 0 where
  -- its text is the responses to its lines
  pub text : text_of new_file script ≡ flat_map (λ turn. response_text turn.response) (turns_from settings.tells_moves (new_world settings.file) lines)
  -- each reply among these answers the call of the last accepted begin of its name, and no begin is answered twice
  pub answered : EnterInOrder [] (turns_from settings.tells_moves (new_world settings.file) lines) entries
  -- the steps that its lines ask for carry the headline of a world: equal copies, least upper bounds, the directory's pages
  pub headline : IsHeadline any_pseudokey (new_world settings.file) (steps_from (new_world settings.file) lines) (world_left (new_world settings.file) lines)
  -- and their answering hops are these entries
  pub entries_are : map journal_entry_of (answered_in headline.moments) ≡ entries
  -- the map machine gives these replies to these calls, one after another, from the empty map
  pub history : IsHistory settings.file.cap (any_pseudokey settings.file.keyer) empty entries
  -- at the end each ward's journal is those of these calls that are of the ward, and the pages of all wards hold the map that they leave
  pub journals : (number : ℕ) (ward : WardState AnyKeyer) → slice_get (world_left (new_world settings.file) lines).wards number ≡ Some ward → ward.journal ≡ filter (is_of_ward settings.file number) entries
  pub left : map_in (world_left (new_world settings.file) lines) ≡ map_left settings.file.cap (any_pseudokey settings.file.keyer) empty entries
  -- copies that took the same are shown the same
  pub shows : ShowTheSame (new_world settings.file) (steps_from (new_world settings.file) lines) (world_left (new_world settings.file) lines)
  -- no hop strays
  pub no_stray : All SaysNoStray (turns_from settings.tells_moves (new_world settings.file) lines)

-- what a script prints, by how its run ends: where it is refused, that and no reply
abbrev pub PrintsAs : List ℕ → Ended → Type 0
PrintsAs script ended.Done = (settings : Settings) × (lines : List (List ℕ)) × (entries : List JournalEntry) × IsScript script settings lines × RepliesAsMap script settings lines entries
PrintsAs script ended.Refused = (refusal : Refusal) × (text_of new_file script ≡ answer_text (Refused refusal))

-- the replies that a script prints are, in the order of the answering hops, those of the map machine from the empty map
abbrev pub RepliesAreOneMaps : Type 0
RepliesAreOneMaps = (script : List ℕ) → PrintsAs script (ended_of new_file script)
