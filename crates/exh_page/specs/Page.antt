-- Pages: buckets of records, and forwarding pages.
use Rattle.std.specs.Prelude.{◌≡◌, ⊤, ◌≢◌, ℕ, ◌-◌, ◌^◌, ◌<◌, ◌≤◌, Bool, List, [], ◌∷◌, ◌++◌, length, filter, Some}
use Rattle.std.specs.List.{AllByRecursion}
use Rattle.exh_prefix.specs.Prefix.{Begins, begins, low_of, HasPrefixUpTo}
use Rattle.exh_prefix.specs.declared.prefix.TheConstants.{LIMIT}
use Rattle.exh_page.specs.declared.page.Page.{Page}
use Rattle.exh_page.specs.declared.page.Page.TheVariants.{Live, Forward}
use Rattle.exh_page.specs.declared.page.TheConstants.{CAP_LIMIT}
use Rattle.exh_page.specs.declared.record.Record.{Record}
use Rattle.exh_page.specs.Records.{IsRising}

-- the least pseudokey that the page is for
abbrev pub low_bound : Page → ℕ
low_bound (Live prefix right records) = low_of prefix
low_bound (Forward low target) = low

-- a forwarding page has no records
abbrev pub records_of : Page → List Record
records_of (Live prefix right records) = records
records_of (Forward low target) = []

abbrev pub IsLive : Page → Type 0
IsLive (Live prefix right records) = ⊤
IsLive (Forward low target) = ⊥

-- the live page with these records in place of its own
abbrev pub with_records : List Record → Page → Page
with_records records (Live prefix right old) = Live prefix right records
with_records records (Forward low target) = Forward low target

-- the page's records, in their order, each with its key's pseudokey, begun by the prefix
pub record AreRecordsOf (pseudo : List ℕ → ℕ) (prefix : List Bool) (records : List Record) : Type 0 where
  pub rising : IsRising records
  pub hashed : AllByRecursion (λ r. r.pseudokey ≡ pseudo r.key) records
  pub begun : AllByRecursion (λ r. Begins prefix r.pseudokey) records

-- the records whose pseudokeys the prefix begins, in their order
abbrev pub begun_by : List Bool → List Record → List Record
begun_by prefix records = filter (λ r. begins prefix r.pseudokey) records

-- a live page with a prefix that has children
abbrev pub IsDivisible : Page → Type 0
IsDivisible (Live prefix right records) = length prefix < LIMIT
IsDivisible (Forward low target) = ⊥

-- the records of a live page that the child of its prefix by a bit begins
abbrev pub share_of : Bool → Page → List Record
share_of bit (Live prefix right records) = begun_by (prefix ++ bit ∷ []) records
share_of bit (Forward low target) = []

-- well formed under a keyer's pseudokeys, where a prefix has up to `limit` bits
abbrev pub IsFormedUpTo : ℕ → (List ℕ → ℕ) → Page → Type 0
IsFormedUpTo limit pseudo (Live prefix right records) = AreRecordsOf pseudo prefix records × (length records ≤ CAP_LIMIT) × (right ≢ Some (2 ^ 32 - 1))
IsFormedUpTo limit pseudo (Forward low target) = (low ≢ 0) × HasPrefixUpTo limit limit low

-- the same up to LIMIT, which is what every page of any file is
abbrev pub IsWellFormed : (List ℕ → ℕ) → Page → Type 0
IsWellFormed pseudo page = IsFormedUpTo LIMIT pseudo page
