-- What a line is answered, and what is printed of it.
use Rattle.std.specs.Prelude.{⊤, ℕ, ◌^◌, ◌<◌, List, [], ◌∷◌, ◌++◌, All, Bool, if◌then◌else◌, Option, Some, None, IfSome, Result, Ok, Err, decimal, codes}
use Rattle.exh_notice.specs.declared.entry.Kind.{Kind}
use Rattle.exh_notice.specs.declared.entry.Kind.TheVariants as kinds
use Rattle.exh_notice.specs.declared.notice.Notice.{Notice}
use Rattle.exh_text.specs.Contents.{entry_text}
use Rattle.exh_text.specs.TextLines.{newline}
use Rattle.exh_text.specs.Printing.{place_text, refused_text}
use Rattle.exh_text.specs.ReplyText.{reply_text}
use Rattle.exh_ward.specs.declared.hop.Hop.{Hop}
use Rattle.exh_ward.specs.declared.hop.Hop.TheVariants as hops
use Rattle.exh_calls.specs.declared.reply.Reply.{Reply}
use Rattle.exh_calls.specs.declared.reply.Reply.TheVariants.{Is, None as Absent, New, Was, Full, Swapped, Differs}
use Rattle.exh_walk.specs.declared.event.Event.{Event}
use Rattle.exh_walk.specs.declared.event.Event.TheVariants as events
use Rattle.exh_walk.specs.declared.outcome.Outcome.{Outcome}
use Rattle.exh_walk.specs.declared.outcome.Outcome.TheVariants as outcomes
use Rattle.exh_walk.specs.declared.step_fault.StepFault.{StepFault}
use Rattle.exh_line.specs.LineRefusal.{numbered_refusal, refusal_number}
use Rattle.exh_line.specs.declared.answer.Answer.{Answer}
use Rattle.exh_line.specs.declared.answer.Answer.TheVariants.{Begun, Replied, Moved, MustSplit, Stray, Changed, Taken, Sent, Joined, Restarted, Refused}
use Rattle.exh_line.specs.declared.moves.Moves.{Moves}
use Rattle.exh_line.specs.declared.refusal.Refusal.TheVariants.{Step}

-- ---- what a line is answered, by what its step came to

-- the request that an event's line names, which its answer repeats; 0 where it names none
abbrev pub request_in : Event → ℕ
request_in (events.Begin name client copy call) = name
request_in (events.Hop name) = name
request_in event = 0

-- the copy
abbrev pub copy_in : Event → ℕ
copy_in (events.Deliver copy ward index) = copy
copy_in (events.Combine copy table) = copy
copy_in (events.Restart copy) = copy
copy_in event = 0

-- the sent table
abbrev pub table_in : Event → ℕ
table_in (events.Combine copy table) = table
table_in event = 0

-- the moves that an answered request made, and their bound, where they are told
abbrev pub told_moves : Bool → ℕ → ℕ → Option Moves
told_moves tells_moves made bound = if tells_moves then Some (record { made = made; bound = bound }) else None

-- a hop by itself tells no moves
abbrev pub hop_answer : ℕ → ℕ → Hop → Answer
hop_answer name ward (hops.Done reply) = Replied name reply None
hop_answer name ward (hops.Moved page) = Moved name ward page
hop_answer name ward hops.MustSplit = MustSplit name
hop_answer name ward hops.Stray = Stray name

abbrev pub outcome_answer : Bool → Event → Outcome → Answer
outcome_answer tells_moves event (outcomes.Begun ward page) = Begun (request_in event) ward page
outcome_answer tells_moves event (outcomes.Hopped ward hop) = hop_answer (request_in event) ward hop
outcome_answer tells_moves event (outcomes.Replied ward reply moves bound) = Replied (request_in event) reply (told_moves tells_moves moves bound)
outcome_answer tells_moves event (outcomes.Changed notice) = Changed notice
outcome_answer tells_moves event (outcomes.Taken notice) = Taken (copy_in event) notice.ward notice.index
outcome_answer tells_moves event (outcomes.Sent table) = Sent table
outcome_answer tells_moves event outcomes.Joined = Joined (copy_in event) (table_in event)
outcome_answer tells_moves event outcomes.Restarted = Restarted (copy_in event)

abbrev pub step_answer : Bool → Event → Result Outcome StepFault → Answer
step_answer tells_moves event (Ok outcome) = outcome_answer tells_moves event outcome
step_answer tells_moves event (Err fault) = Refused (Step fault)

-- ---- what is printed of it

-- the moves and their bound, at the end of a reply's line
abbrev pub moves_text : Option Moves → List ℕ
moves_text None = []
moves_text (Some moves) = codes " moves " ++ (decimal moves.made ++ (codes " of " ++ decimal moves.bound))

abbrev pub request_text : ℕ → List ℕ
request_text name = codes "r" ++ decimal name

abbrev pub notice_text : Notice → List ℕ
notice_text notice = codes "notice " ++ (place_text notice.ward notice.index ++ (codes " prefix " ++ entry_text notice.prefix notice.number notice.kind))

abbrev pub copy_text : ℕ → List ℕ
copy_text copy = codes "copy " ++ decimal copy

-- no hop of a script strays: that text is never printed
abbrev pub answer_words : Answer → List ℕ
answer_words (Begun name ward page) = request_text name ++ (codes " at " ++ place_text ward page)
answer_words (Replied name reply moves) = request_text name ++ (codes " " ++ (reply_text reply ++ moves_text moves))
answer_words (Moved name ward page) = request_text name ++ (codes " moved " ++ place_text ward page)
answer_words (MustSplit name) = request_text name ++ codes " split"
answer_words (Stray name) = request_text name ++ codes " stray"
answer_words (Changed notice) = notice_text notice
answer_words (Taken copy ward index) = copy_text copy ++ (codes " took " ++ place_text ward index)
answer_words (Sent table) = codes "table " ++ decimal table
answer_words (Joined copy table) = copy_text copy ++ (codes " joined " ++ decimal table)
answer_words (Restarted copy) = copy_text copy ++ codes " restarted"
answer_words (Refused refusal) = refused_text (refusal_number refusal)

-- an answer is printed on a line of its own
abbrev pub answer_text : Answer → List ℕ
answer_text answer = answer_words answer ++ newline ∷ []

-- ---- the widths of its numbers and bytes

abbrev pub HasByteValues : List ℕ → Type 0
HasByteValues bytes = All (λ byte. byte < 256) bytes

abbrev pub HasReplyWidths : Reply → Type 0
HasReplyWidths (Is value) = HasByteValues value
HasReplyWidths Absent = ⊤
HasReplyWidths New = ⊤
HasReplyWidths (Was value) = HasByteValues value
HasReplyWidths Full = ⊤
HasReplyWidths Swapped = ⊤
HasReplyWidths (Differs value) = HasByteValues value

abbrev pub HaveMovesWidths : Option Moves → Type 0
HaveMovesWidths told = IfSome told (λ moves. (moves.made < 2 ^ 64) × (moves.bound < 2 ^ 64))

abbrev pub HasKindWidth : Kind → Type 0
HasKindWidth (kinds.Split right) = right < 2 ^ 32
HasKindWidth kinds.Merge = ⊤

abbrev pub HasNoticeWidths : Notice → Type 0
HasNoticeWidths notice = (notice.ward < 2 ^ 8) × (notice.index < 2 ^ 64) × (notice.number < 2 ^ 32) × HasKindWidth notice.kind

abbrev pub HasWidths : Answer → Type 0
HasWidths (Begun name ward page) = (name < 2 ^ 32) × (ward < 2 ^ 8) × (page < 2 ^ 32)
HasWidths (Replied name reply moves) = (name < 2 ^ 32) × HasReplyWidths reply × HaveMovesWidths moves
HasWidths (Moved name ward page) = (name < 2 ^ 32) × (ward < 2 ^ 8) × (page < 2 ^ 32)
HasWidths (MustSplit name) = name < 2 ^ 32
HasWidths (Stray name) = name < 2 ^ 32
HasWidths (Changed notice) = HasNoticeWidths notice
HasWidths (Taken copy ward index) = (copy < 2 ^ 32) × (ward < 2 ^ 8) × (index < 2 ^ 64)
HasWidths (Sent table) = table < 2 ^ 32
HasWidths (Joined copy table) = (copy < 2 ^ 32) × (table < 2 ^ 32)
HasWidths (Restarted copy) = copy < 2 ^ 32
HasWidths (Refused refusal) = ⊤

-- the answer, as far as its line tells it
abbrev pub told_answer : Answer → Answer
told_answer (Refused refusal) = Refused (numbered_refusal refusal)
told_answer answer = answer
