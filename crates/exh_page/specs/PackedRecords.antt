-- Records packed into two lists: what is of one size for each, and their bytes, one after the other.
use Rattle.std.specs.Prelude.{◌≡◌, ℕ, ◌+◌, ◌-◌, ◌^◌, ◌<◌, ◌≤◌, List, [], ◌∷◌, ◌++◌, length, take, drop, map}
use Rattle.std.specs.List.{AllByRecursion, flat_map}
use Rattle.exh_page.specs.declared.key.TheConstants.{KEY_LIMIT}
use Rattle.exh_page.specs.declared.record.Record.{Record}
use Rattle.exh_page.specs.declared.stored_record.StoredRecord.{StoredRecord}
use Rattle.exh_page.specs.declared.value.TheConstants.{VALUE_LIMIT}

-- what is kept of a record beside its bytes
abbrev pub stored_of : Record → StoredRecord
stored_of r = record { pseudokey = r.pseudokey; key_len = length r.key; whole_len = length r.key + length r.value }

-- a record's bytes: its key, then its value
abbrev pub record_text : Record → List ℕ
record_text r = r.key ++ r.value

abbrev pub text_len : StoredRecord → ℕ
text_len stored = stored.whole_len

-- the key and the value have lengths that they may have, and the pseudokey is a number of 64 bits
pub record IsSized (r : Record) : Type 0 where
  pub word : r.pseudokey < 2 ^ 64
  pub some : 1 ≤ length r.key
  pub key : length r.key ≤ KEY_LIMIT
  pub value : length r.value ≤ VALUE_LIMIT

-- the lists hold these records, and nothing else
pub record ArePacked (records : List Record) (stored : List StoredRecord) (texts : List ℕ) : Type 0 where
  pub kept : stored ≡ map stored_of records
  pub joined : texts ≡ flat_map record_text records
  pub sized : AllByRecursion IsSized records

-- the record whose bytes come first
abbrev pub record_in : StoredRecord → List ℕ → Record
record_in stored texts = record { pseudokey = stored.pseudokey; key = take stored.key_len texts; value = take (stored.whole_len - stored.key_len) (drop stored.key_len texts) }

-- the records that two lists hold
abbrev pub records_in : List StoredRecord → List ℕ → List Record
records_in [] texts = []
records_in (stored ∷ others) texts = record_in stored texts ∷ records_in others (drop (text_len stored) texts)
