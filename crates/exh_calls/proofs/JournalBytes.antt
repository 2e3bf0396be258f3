-- Bytes that are added to those of a journal leave its entries as they are, and are those of the entry added.
use Rattle.std.proofs.Common.{◌≡◌, ℕ, ◌+◌, ◌≤◌, List, [], ◌∷◌, ◌++◌, length, take, drop, refl, sym, ap, ◌∙◌, arith}
use Rattle.std.proofs.lemmas.List.{append_assoc, append-nil, drop-append-le, take-append-le, length-drop, map-append, length-append}
use Rattle.std.proofs.lemmas.List.Elements.{All-head, All-tail}
use Rattle.std.proofs.Math.Seq.{drop-append_seam, take-append_seam}
use Rattle.exh_calls.specs.Journal.{bytes_at, key_in, value_in, second_in, reply_value_in, call_as, reply_as, entry_in, entries_in, IsStoredWithin, AreWithin}
use Rattle.exh_calls.specs.declared.journal_entry.JournalEntry.{JournalEntry}
use Rattle.exh_calls.specs.declared.stored_entry.CallKind.{CallKind}
use Rattle.exh_calls.specs.declared.stored_entry.ReplyKind.{ReplyKind}
use Rattle.exh_calls.specs.declared.stored_entry.StoredEntry.{StoredEntry}

pub bytes_at-append : (texts more : List ℕ) (start len : ℕ) → start + len ≤ length texts → bytes_at (texts ++ more) start len ≡ bytes_at texts start len
bytes_at-append texts more start len there =
    ap (take len) (drop-append-le start texts more (omega arith)) ∙ take-append-le len (drop start texts) more (omega (arith, length-drop start texts))

entry_in-append : (texts more : List ℕ) (stored : StoredEntry) → IsStoredWithin texts stored → entry_in (texts ++ more) stored ≡ entry_in texts stored
entry_in-append texts more stored within =
    let key = bytes_at-append texts more stored.start stored.key_len (omega (arith, within.there)) in
    let value = bytes_at-append texts more (stored.start + stored.key_len) stored.value_len (omega (arith, within.there)) in
    let second = bytes_at-append texts more (stored.start + stored.key_len + stored.value_len) stored.second_len (omega (arith, within.there)) in
    let told = bytes_at-append texts more (stored.start + stored.key_len + stored.value_len + stored.second_len) stored.reply_len within.there in
    cc

entries_in-append : (texts more : List ℕ) (stored : List StoredEntry) → AreWithin texts stored → entries_in (texts ++ more) stored ≡ entries_in texts stored
entries_in-append texts more [] within = refl
entries_in-append texts more (first ∷ others) within =
    let here = entry_in-append texts more first (All-head (IsStoredWithin texts) first others within) in
    let there = entries_in-append texts more others (All-tail (IsStoredWithin texts) first others within) in
    cc

-- the bytes between two lists
pub bytes_at-between : (before bytes after : List ℕ) (start : ℕ) → start ≡ length before → bytes_at ((before ++ bytes) ++ after) start (length bytes) ≡ bytes
bytes_at-between before bytes after start seam =
    rw (seam, append_assoc, drop-append_seam before (bytes ++ after)) (take-append_seam bytes after)

-- the entry added is that of its key and values
module _ (texts key value second told : List ℕ) (client : ℕ) (call : CallKind) (reply : ReplyKind) where
  abbrev added : StoredEntry
  added = record { client = client; start = length texts; key_len = length key; value_len = length value; second_len = length second; reply_len = length told; call = call; reply = reply }

  abbrev entry : JournalEntry
  entry = record { client = client; call = call_as call key value second; reply = reply_as reply told }

  abbrev bytes : List ℕ
  bytes = (((texts ++ key) ++ value) ++ second) ++ told

  -- the bytes, with those behind the key and those behind the first value taken together
  behind_key : bytes ≡ (texts ++ key) ++ (value ++ (second ++ told))
  behind_key = append_assoc ((texts ++ key) ++ value) second told ∙ append_assoc (texts ++ key) value (second ++ told)

  key_added : key_in bytes added ≡ key
  key_added = ap (λ all. bytes_at all (length texts) (length key)) behind_key ∙ bytes_at-between texts key (value ++ (second ++ told)) (length texts) refl

  value_added : value_in bytes added ≡ value
  value_added =
      ap (λ all. bytes_at all (length texts + length key) (length value)) (append_assoc ((texts ++ key) ++ value) second told)
      ∙ bytes_at-between (texts ++ key) value (second ++ told) (length texts + length key) (sym (length-append texts key))

  second_added : second_in bytes added ≡ second
  second_added = bytes_at-between ((texts ++ key) ++ value) second told (length texts + length key + length value) (simp length-append)

  told_added : reply_value_in bytes added ≡ told
  told_added =
      ap (λ all. bytes_at all (length texts + length key + length value + length second) (length told)) (sym (append-nil bytes))
      ∙ bytes_at-between (((texts ++ key) ++ value) ++ second) told [] (length texts + length key + length value + length second) (simp length-append)

  entry_in-added : entry_in bytes added ≡ entry
  entry_in-added = rw (key_added, value_added, second_added, told_added) refl

  pub entries_in-push : (stored : List StoredEntry) → AreWithin texts stored → entries_in bytes (stored ++ added ∷ []) ≡ entries_in texts stored ++ entry ∷ []
  entries_in-push stored within =
      let whole = behind_key ∙ append_assoc texts key (value ++ (second ++ told)) in
      let older = ap (λ texts. entries_in texts stored) whole ∙ entries_in-append texts (key ++ (value ++ (second ++ told))) stored within in
      map-append (entry_in bytes) stored (added ∷ []) ∙ ap (λ older. older ++ entry_in bytes added ∷ []) older
      ∙ ap (λ newest. entries_in texts stored ++ newest ∷ []) entry_in-added
