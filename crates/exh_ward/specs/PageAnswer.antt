-- What a call's home page answers it, and the records that it keeps.
use Rattle.std.specs.Prelude.{◌≡◌, ℕ, ◌<◌, ◌≤◌, Bool, List, length, Option, None, IsTrue}
use Rattle.exh_prefix.specs.declared.prefix.TheConstants.{LIMIT}
use Rattle.exh_page.specs.declared.page.Page.{Page}
use Rattle.exh_page.specs.declared.page.Page.TheVariants.{Live, Forward}
use Rattle.exh_page.specs.declared.record.Record.{Record}
use Rattle.exh_page.specs.Records.{value_at, with_record, without_place}
use Rattle.exh_page.specs.Page.{records_of}
use Rattle.exh_calls.specs.Call.{key_of}
use Rattle.exh_calls.specs.Effect.{Change, Keep, Set, Remove, Effect, effect_of, sets_new}
use Rattle.exh_calls.specs.declared.call.Call.{Call}
use Rattle.exh_calls.specs.declared.reply.Reply.{Reply}

-- what the call does to its key at a page of these records, by whether the page is full
abbrev pub effect_at : Bool → ℕ → Call → List Record → Effect
effect_at full pseudokey call records = effect_of call full (value_at (pseudokey, key_of call) records)

-- what a page replies
abbrev pub reply_by : Bool → ℕ → Call → Page → Reply
reply_by full pseudokey call page = (effect_at full pseudokey call (records_of page)).reply

-- the records after a change of a key
abbrev pub records_changed : Change → ℕ → List ℕ → List Record → List Record
records_changed Keep pseudokey key records = records
records_changed (Set value) pseudokey key records = with_record (record { pseudokey = pseudokey; key = key; value = value }) records
records_changed Remove pseudokey key records = without_place (pseudokey, key) records

-- the records after the call
abbrev pub records_after : Bool → ℕ → Call → List Record → List Record
records_after full pseudokey call records = records_changed (effect_at full pseudokey call records).change pseudokey (key_of call) records

-- the call sets a key that has no value, where the page is full and shorter than LIMIT
abbrev pub OverflowsWith : ℕ → Page → Call → Option (List ℕ) → Type 0
OverflowsWith cap (Live prefix right records) call stood = (cap ≤ length records) × (length prefix < LIMIT) × (stood ≡ None) × IsTrue (sets_new call)
OverflowsWith cap (Forward low target) call stood = ⊥

-- by what the page has for the key
abbrev pub OverflowsPage : ℕ → ℕ → Page → Call → Type 0
OverflowsPage cap pseudokey page call = OverflowsWith cap page call (value_at (pseudokey, key_of call) (records_of page))
