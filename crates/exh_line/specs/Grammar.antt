-- The lines of a script after its first, by cases on whole words. The code that reads a script scans bytes.
use Rattle.std.specs.Prelude.{ℕ, List, [], ◌∷◌, Bool, true, ◌&&◌, nat_le, if◌then◌else◌, Option, Some, None, Result, codes}
use Rattle.std.specs.Str.{bytes_eq}
use Rattle.exh_text.specs.ByteWord.{bytes_of_word, key_in_range, value_in_range}
use Rattle.exh_text.specs.LineFault.{ranged}
use Rattle.exh_text.specs.TextLines.{words_of}
use Rattle.exh_text.specs.Numbers.{◌>>=◌, index_spelled, number_after, number_spelled}
use Rattle.exh_text.specs.declared.line_fault.LineFault.{LineFault}
use Rattle.exh_calls.specs.declared.call.Call.{Call}
use Rattle.exh_calls.specs.declared.call.Call.TheVariants.{Get, Put, Del, Swap}
use Rattle.exh_walk.specs.declared.event.Event.{Event}
use Rattle.exh_walk.specs.declared.event.Event.TheVariants.{Begin, Hop, Split, Merge, Deliver, Send, Combine, Restart}
use Rattle.exh_line.specs.declared.line.Line.{Line}
use Rattle.exh_line.specs.declared.line.Line.TheVariants.{Step, View as Seen}
use Rattle.exh_line.specs.declared.view.View.{View}
use Rattle.exh_line.specs.declared.view.View.TheVariants.{Copy, Page, InFlight}

-- ---- the lines that words spell, whatever their numbers and lengths are

-- the key and the value of a put
unfoldable pub spelled_put : List ℕ → List ℕ → Option Call
spelled_put key value = do
  key ← bytes_of_word key
  value ← bytes_of_word value
  Some (Put key value)

-- the key and the two values of a swap
unfoldable pub spelled_swap : List ℕ → List ℕ → List ℕ → Option Call
spelled_swap key old new = do
  key ← bytes_of_word key
  old ← bytes_of_word old
  new ← bytes_of_word new
  Some (Swap key old new)

-- `get KEY`, `del KEY`, `put KEY VALUE` or `swap KEY OLD NEW`
unfoldable pub spelled_call : List (List ℕ) → Option Call
spelled_call (verb ∷ key ∷ []) =
    if bytes_eq verb (codes "get") then (bytes_of_word key >>= λ k. Some (Get k))
    else (if bytes_eq verb (codes "del") then (bytes_of_word key >>= λ k. Some (Del k)) else None)
spelled_call (verb ∷ key ∷ value ∷ []) =
    if bytes_eq verb (codes "put") then spelled_put key value else None
spelled_call (verb ∷ key ∷ old ∷ new ∷ []) = if bytes_eq verb (codes "swap") then spelled_swap key old new else None
spelled_call words = None

-- `rN cN COPY CALL`
unfoldable pub spelled_begin : List (List ℕ) → Option Line
spelled_begin (name ∷ client ∷ copy ∷ call) = do
  name ← number_after (codes "r") name
  client ← number_after (codes "c") client
  copy ← number_spelled copy
  call ← spelled_call call
  Some (Step (Begin name client copy call))
spelled_begin words = None

-- `rN`
unfoldable pub spelled_hop : List (List ℕ) → Option Line
spelled_hop (name ∷ []) = number_after (codes "r") name >>= λ n. Some (Step (Hop n))
spelled_hop words = None

-- a number alone
unfoldable pub spelled_number : List (List ℕ) → Option ℕ
spelled_number (word ∷ []) = number_spelled word
spelled_number words = None

-- two numbers, as `WARD PAGE` or `COPY TABLE`
unfoldable pub spelled_pair_of_numbers : List (List ℕ) → Option (ℕ × ℕ)
spelled_pair_of_numbers (first ∷ second ∷ []) = do
  first ← number_spelled first
  second ← number_spelled second
  Some (first, second)
spelled_pair_of_numbers words = None

-- `COPY WARD INDEX`
unfoldable pub spelled_deliver : List (List ℕ) → Option Line
spelled_deliver (copy ∷ ward ∷ index ∷ []) = do
  copy ← number_spelled copy
  ward ← number_spelled ward
  index ← index_spelled index
  Some (Step (Deliver copy ward index))
spelled_deliver words = None

-- no word more
unfoldable pub spelled_in_flight : List (List ℕ) → Option View
spelled_in_flight [] = Some InFlight
spelled_in_flight words = None

-- views: `show COPY`, `page WARD PAGE`, `inflight`
unfoldable pub spelled_view : List ℕ → List (List ℕ) → Option View
spelled_view keyword words =
    if bytes_eq keyword (codes "show") then (spelled_number words >>= λ copy. Some (Copy copy))
    else (if bytes_eq keyword (codes "page") then (spelled_pair_of_numbers words >>= λ place. Some (Page place.0 place.1))
    else (if bytes_eq keyword (codes "inflight") then spelled_in_flight words else None))

-- steps of copies: `deliver COPY WARD INDEX`, `send COPY`, `combine COPY TABLE`, `restart COPY`; or a view
unfoldable pub spelled_copy_step : List ℕ → List (List ℕ) → Option Line
spelled_copy_step keyword words =
    if bytes_eq keyword (codes "deliver") then spelled_deliver words
    else (if bytes_eq keyword (codes "send") then (spelled_number words >>= λ copy. Some (Step (Send copy)))
    else (if bytes_eq keyword (codes "combine") then (spelled_pair_of_numbers words >>= λ sent. Some (Step (Combine sent.0 sent.1)))
    else (if bytes_eq keyword (codes "restart") then (spelled_number words >>= λ copy. Some (Step (Restart copy)))
    else (spelled_view keyword words >>= λ view. Some (Seen view)))))

-- changes of pages: `split WARD PAGE`, `merge WARD PAGE`; or one of those above
unfoldable pub spelled_change : List ℕ → List (List ℕ) → Option Line
spelled_change keyword words =
    if bytes_eq keyword (codes "split") then (spelled_pair_of_numbers words >>= λ place. Some (Step (Split place.0 place.1)))
    else (if bytes_eq keyword (codes "merge") then (spelled_pair_of_numbers words >>= λ place. Some (Step (Merge place.0 place.1)))
    else spelled_copy_step keyword words)

-- each line by its first word; a `file` line is none of them
unfoldable pub spelled : List (List ℕ) → Option Line
spelled [] = None
spelled (keyword ∷ words) =
    if bytes_eq keyword (codes "begin") then spelled_begin words
    else (if bytes_eq keyword (codes "hop") then spelled_hop words else spelled_change keyword words)

-- ---- ranges

abbrev pub call_in_range : Call → Bool
call_in_range (Get key) = key_in_range key
call_in_range (Put key value) = key_in_range key && value_in_range value
call_in_range (Del key) = key_in_range key
call_in_range (Swap key old new) = key_in_range key && (value_in_range old && value_in_range new)

-- the number after `r` or `c`
abbrev pub name_in_range : ℕ → Bool
name_in_range = nat_le 1

abbrev pub event_in_range : Event → Bool
event_in_range (Begin name client copy call) = name_in_range name && name_in_range client && call_in_range call
event_in_range (Hop name) = name_in_range name
event_in_range event = true

abbrev pub line_in_range : Line → Bool
line_in_range (Step event) = event_in_range event
line_in_range line = true

-- ---- lines

-- each line after the first
unfoldable pub line_of : List ℕ → Result Line LineFault
line_of line = ranged line_in_range (words_of line >>= spelled)
