-- Runs of a world: turns, what they tell its copies, and the calls that they answer.
use Rattle.std.specs.Prelude.{◌≡◌, ℕ, ◌-◌, Bool, List, [], ◌∷◌, ◌++◌, map, flat_map, slice_get, slice_set, Result, Ok}
use Rattle.std.specs.Option.{option_map_or}
use Rattle.std.specs.FinMap.{entries}
use Rattle.exh_notice.specs.declared.entry.Entry.{Entry}
use Rattle.exh_notice.specs.declared.notice.Notice.{Notice}
use Rattle.exh_table.specs.Table.{told_by}
use Rattle.exh_page.specs.declared.page.Page.{Page}
use Rattle.exh_page.specs.declared.page.Page.TheVariants.{Live, Forward}
use Rattle.exh_calls.specs.declared.reply.Reply.{Reply}
use Rattle.exh_calls.specs.declared.journal_entry.JournalEntry.{JournalEntry}
use Rattle.exh_world.specs.InFlight.{request_named}
use Rattle.exh_world.specs.Step.{Step}
use Rattle.exh_world.specs.World.{WorldState, numbered, changes_in}
use Rattle.exh_walk.specs.declared.event.Event.{Event}
use Rattle.exh_walk.specs.declared.event.Event.TheVariants.{Hop as HopOn, Deliver, Send, Combine, Restart}
use Rattle.exh_walk.specs.declared.outcome.Outcome.{Outcome}
use Rattle.exh_walk.specs.declared.outcome.Outcome.TheVariants.{Replied, Taken, Sent, Joined, Restarted}
use Rattle.exh_world.specs.declared.request.Request.{Request}
use Rattle.exh_walk.specs.declared.step_fault.StepFault.{StepFault}
use Rattle.exh_walk.specs.declared.turn.Turn.{Turn}

-- a turn, with the worlds before and after it
pub record Moment (K : Type 0) : Type 0 where
  pub before : WorldState K
  pub turn : Turn
  pub after : WorldState K

-- the moments lead from one world to another, by a step each
abbrev pub IsRun : {K : Type 0} → (K → List ℕ → ℕ) → WorldState K → List (Moment K) → WorldState K → Type 0
IsRun pseudokey_of start [] end = end ≡ start
IsRun pseudokey_of start (moment ∷ moments) end =
    (moment.before ≡ start) × Step pseudokey_of start moment.turn.event moment.turn.result moment.after × IsRun pseudokey_of moment.after moments end

-- ---- what copies have taken

-- a set of entries at prefixes, given as a list
abbrev pub Told : Type 0
Told = List (List Bool × Entry)

-- what each copy has taken, and what each sent table had taken when it was sent
pub record Knowledge : Type 0 where
  pub copies : List Told
  pub sent : List Told

-- what a table has taken, as far as the table tells: its entries
abbrev pub known_by : {K : Type 0} → WorldState K → Knowledge
known_by world = record { copies = map entries world.copies; sent = map entries world.sent }

-- the copy has taken these too
abbrev pub told_too : Knowledge → ℕ → Told → Knowledge
told_too known copy more = option_map_or (λ taken. record known { copies = slice_set known.copies (copy - 1) (taken ++ more) }) (numbered known.copies copy) known

-- what is known after a turn; a refused turn tells nothing
abbrev pub known_after : Told → Knowledge → Event → Result Outcome StepFault → Knowledge
known_after start known (Deliver copy ward index) (Ok (Taken notice)) = told_too known copy (told_by notice ∷ [])
known_after start known (Send copy) (Ok (Sent number)) = record known { sent = known.sent ++ option_map_or (λ taken. taken ∷ []) (numbered known.copies copy) [] }
known_after start known (Combine copy table) (Ok Joined) = told_too known copy (option_map_or (λ taken. taken) (numbered known.sent table) [])
known_after start known (Restart copy) (Ok Restarted) = record known { copies = slice_set known.copies (copy - 1) start }
known_after start known event result = known

abbrev pub known_at_end : Told → Knowledge → List Turn → Knowledge
known_at_end start known [] = known
known_at_end start known (turn ∷ turns) = known_at_end start (known_after start known turn.event turn.result) turns

-- ---- what was answered

-- an answering hop: the request, the reply, the prefix of the page, the ward's changes before it, and the request's moves with their bound
pub record Answered : Type 0 where
  pub request : Request
  pub reply : Reply
  pub prefix : List Bool
  pub changes : List Notice
  pub moves : ℕ
  pub bound : ℕ

abbrev pub prefix_of : Page → List Bool
prefix_of (Live prefix right records) = prefix
prefix_of (Forward low target) = []

-- the prefix of a page of a ward
abbrev pub prefix_at : {K : Type 0} → WorldState K → ℕ → ℕ → List Bool
prefix_at world ward page = option_map_or (λ state. option_map_or prefix_of (slice_get state.pages page) []) (slice_get world.wards ward) []

abbrev pub answered_by : {K : Type 0} → WorldState K → Reply → ℕ → ℕ → Request → Answered
answered_by world reply moves bound request = record { request = request; reply = reply; prefix = prefix_at world request.ward request.page; changes = changes_in world request.ward; moves = moves; bound = bound }

abbrev pub answered_at : {K : Type 0} → WorldState K → Event → Result Outcome StepFault → List Answered
answered_at world (HopOn name) (Ok (Replied ward reply moves bound)) = option_map_or (λ request. answered_by world reply moves bound request ∷ []) (request_named name world.in_flight) []
answered_at world event result = []

-- the answering hops of a run, in order
abbrev pub answered_in : {K : Type 0} → List (Moment K) → List Answered
answered_in moments = flat_map (λ moment. answered_at moment.before moment.turn.event moment.turn.result) moments

-- their calls and replies, with the callers
abbrev pub journal_entry_of : Answered → JournalEntry
journal_entry_of answered = record { client = answered.request.client; call = answered.request.call; reply = answered.reply }
