-- The journal of a ward: entries whose bytes stand one after the other in one list.
use Rattle.std.specs.Prelude.{ℕ, ◌+◌, ◌≤◌, Bool, ◌&&◌, List, [], ltb, leb, length, take, drop, map}
use Rattle.std.specs.List.{All}
use Rattle.exh_page.specs.declared.key.TheConstants.{KEY_LIMIT}
use Rattle.exh_page.specs.declared.value.TheConstants.{VALUE_LIMIT}
use Rattle.exh_calls.specs.declared.call.Call.{Call}
use Rattle.exh_calls.specs.declared.call.Call.TheVariants.{Get, Put, Del, Swap}
use Rattle.exh_calls.specs.declared.journal_entry.JournalEntry.{JournalEntry}
use Rattle.exh_calls.specs.declared.reply.Reply.{Reply}
use Rattle.exh_calls.specs.declared.reply.Reply.TheVariants.{Is, None, New, Was, Full, Swapped, Differs}
use Rattle.exh_calls.specs.declared.stored_entry.CallKind.{CallKind}
use Rattle.exh_calls.specs.declared.stored_entry.CallKind.TheVariants.{Get as OfGet, Put as OfPut, Del as OfDel, Swap as OfSwap}
use Rattle.exh_calls.specs.declared.stored_entry.ReplyKind.{ReplyKind}
use Rattle.exh_calls.specs.declared.stored_entry.ReplyKind.TheVariants.{Is as OfIs, None as OfNone, New as OfNew, Was as OfWas, Full as OfFull, Swapped as OfSwapped, Differs as OfDiffers}
use Rattle.exh_calls.specs.declared.stored_entry.StoredEntry.{StoredEntry}

-- the entries, and whether there is room for one more of the greatest size
pub record JournalState : Type 0 where
  pub entries : List JournalEntry
  pub room : Bool

-- ---- calls and replies, and their values

-- the call of a kind; a put has one value, and only a swap has two
abbrev pub call_as : CallKind → List ℕ → List ℕ → List ℕ → Call
call_as OfGet key value second = Get key
call_as OfPut key value second = Put key value
call_as OfDel key value second = Del key
call_as OfSwap key value second = Swap key value second

-- the first value that a call names, no bytes where it names none
abbrev pub value_given : Call → List ℕ
value_given (Get key) = []
value_given (Put key value) = value
value_given (Del key) = []
value_given (Swap key old new) = old

-- the second, no bytes where it names no two
abbrev pub second_given : Call → List ℕ
second_given (Get key) = []
second_given (Put key value) = []
second_given (Del key) = []
second_given (Swap key old new) = new

abbrev pub reply_as : ReplyKind → List ℕ → Reply
reply_as OfIs value = Is value
reply_as OfNone value = None
reply_as OfNew value = New
reply_as OfWas value = Was value
reply_as OfFull value = Full
reply_as OfSwapped value = Swapped
reply_as OfDiffers value = Differs value

-- the value that a reply tells, no bytes where it tells none
abbrev pub value_told : Reply → List ℕ
value_told (Is value) = value
value_told None = []
value_told New = []
value_told (Was value) = value
value_told Full = []
value_told Swapped = []
value_told (Differs value) = value

-- ---- stored entries

-- the bytes of this length from `start` on
abbrev pub bytes_at : List ℕ → ℕ → ℕ → List ℕ
bytes_at texts start len = take len (drop start texts)

-- the end of an entry's bytes: its key, the call's two values and the reply's
abbrev pub end_of : StoredEntry → ℕ
end_of stored = stored.start + stored.key_len + stored.value_len + stored.second_len + stored.reply_len

abbrev pub key_in : List ℕ → StoredEntry → List ℕ
key_in texts stored = bytes_at texts stored.start stored.key_len

abbrev pub value_in : List ℕ → StoredEntry → List ℕ
value_in texts stored = bytes_at texts (stored.start + stored.key_len) stored.value_len

abbrev pub second_in : List ℕ → StoredEntry → List ℕ
second_in texts stored = bytes_at texts (stored.start + stored.key_len + stored.value_len) stored.second_len

abbrev pub reply_value_in : List ℕ → StoredEntry → List ℕ
reply_value_in texts stored = bytes_at texts (stored.start + stored.key_len + stored.value_len + stored.second_len) stored.reply_len

abbrev pub entry_in : List ℕ → StoredEntry → JournalEntry
entry_in texts stored = record { client = stored.client; call = call_as stored.call (key_in texts stored) (value_in texts stored) (second_in texts stored); reply = reply_as stored.reply (reply_value_in texts stored) }

-- the bytes are there, as many as a key and three values have
pub record IsStoredWithin (texts : List ℕ) (stored : StoredEntry) : Type 0 where
  pub there : end_of stored ≤ length texts
  pub some : 1 ≤ stored.key_len
  pub key : stored.key_len ≤ KEY_LIMIT
  pub value : stored.value_len ≤ VALUE_LIMIT
  pub second : stored.second_len ≤ VALUE_LIMIT
  pub reply : stored.reply_len ≤ VALUE_LIMIT

abbrev pub AreWithin : List ℕ → List StoredEntry → Type 0
AreWithin texts stored = All (IsStoredWithin texts) stored

abbrev pub entries_in : List ℕ → List StoredEntry → List JournalEntry
entries_in texts stored = map (entry_in texts) stored

-- whether two lists have room: one for an entry more, one for the bytes of a key and three values more
abbrev pub has_room : ℕ → ℕ → ℕ → ℕ → Bool
has_room len capacity texts_len texts_capacity = ltb len capacity && leb (texts_len + (KEY_LIMIT + VALUE_LIMIT + VALUE_LIMIT + VALUE_LIMIT)) texts_capacity
