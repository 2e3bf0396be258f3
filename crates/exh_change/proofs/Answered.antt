-- A page that answers, as the laws write it.
use Rattle.std.proofs.Common.{◌≡◌, ℕ, Bool, List, Option, None, Some, refl, ap, ◌∙◌}
use Rattle.exh_page.specs.declared.page.Page.{Page}
use Rattle.exh_page.specs.declared.page.Page.TheVariants.{Forward, Live}
use Rattle.exh_page.specs.Page.{records_of, with_records}
use Rattle.exh_calls.specs.declared.call.Call.{Call}
use Rattle.exh_page.specs.declared.record.Record.{Record}
use Rattle.exh_page.specs.Records.{value_at}
use Rattle.exh_calls.specs.declared.call.Call.TheVariants.{Get}
use Rattle.exh_calls.specs.Call.{key_of}
use Rattle.exh_calls.specs.Effect.{Change, Keep, effect_of}
use Rattle.exh_change.specs.PageAnswer.{effect_at, records_after, records_changed}

same_records : (page : Page) → with_records (records_of page) page ≡ page
same_records (Live prefix link records) = refl
same_records (Forward low target) = refl

pub kept_page : (page : Page) (call : Call) (full : Bool) (pseudokey : ℕ) → (effect_at full pseudokey call (records_of page)).change ≡ Keep → with_records (records_after full pseudokey call (records_of page)) page ≡ page
kept_page page call full pseudokey kept = ap (λ (change : Change). with_records (records_changed change pseudokey (key_of call) (records_of page)) page) kept ∙ same_records page

get_value : (key : List ℕ) (full : Bool) (stood : Option (List ℕ)) → (effect_of (Get key) full stood).change ≡ Keep
get_value key full (Some value) = refl
get_value key full None = refl

pub get_keeps : (call : Call) (key : List ℕ) → call ≡ Get key → (full : Bool) (pseudokey : ℕ) (records : List Record) → (effect_at full pseudokey call records).change ≡ Keep
get_keeps call key get full pseudokey records = ap (λ (call : Call). (effect_at full pseudokey call records).change) get ∙ get_value key full (value_at (pseudokey, key) records)
