-- What holds of every page.
use Rattle.std.specs.Prelude.{◌≡◌, ◌≢◌, ℕ, ◌^◌, ◌<◌, Bool, true, false, List, [], ◌∷◌, ◌++◌, length, Option, Some}
use Rattle.exh_prefix.specs.declared.prefix.TheConstants.{LIMIT}
use Rattle.exh_page.specs.declared.page.Page.TheVariants.{Live}
use Rattle.exh_page.specs.declared.record.Record.{Record}
use Rattle.exh_page.specs.Page.{AreRecordsOf, IsWellFormed, begun_by}

-- every pseudokey is a number of 64 bits
abbrev pub AreOfWords : (List ℕ → ℕ) → Type 0
AreOfWords pseudo = (key : List ℕ) → pseudo key < 2 ^ 64

-- the shares of the left child and of the right one are all records of the prefix, in their order
abbrev pub ChildrenShareAll : Type 0
ChildrenShareAll = (pseudo : List ℕ → ℕ) (prefix : List Bool) (records : List Record) → AreOfWords pseudo → length prefix < LIMIT → AreRecordsOf pseudo prefix records
    → begun_by (prefix ++ false ∷ []) records ++ begun_by (prefix ++ true ∷ []) records ≡ records

-- each share is as a page of the child has it
abbrev pub SharesAreRecords : Type 0
SharesAreRecords = (pseudo : List ℕ → ℕ) (prefix : List Bool) (bit : Bool) (records : List Record) → AreRecordsOf pseudo prefix records → AreRecordsOf pseudo (prefix ++ bit ∷ []) (begun_by (prefix ++ bit ∷ []) records)

-- the records of two buddies, put together, are as a page of the parent has them
abbrev pub BuddiesUnite : Type 0
BuddiesUnite = (pseudo : List ℕ → ℕ) (prefix : List Bool) (left right : List Record) → AreOfWords pseudo → length prefix < LIMIT
    → AreRecordsOf pseudo (prefix ++ false ∷ []) left → AreRecordsOf pseudo (prefix ++ true ∷ []) right → AreRecordsOf pseudo prefix (left ++ right)

-- a page of any file has 16 records at most, and a right link isn't the greatest number of 32 bits
pub record HasLimits (pseudo : List ℕ → ℕ) (prefix : List Bool) (right : Option ℕ) (records : List Record) : Type 0 where
  pub sixteen : length records ≡ 16 → right ≢ Some 4294967295 → IsWellFormed pseudo (Live prefix right records)
  pub seventeen : length records ≡ 17 → IsWellFormed pseudo (Live prefix right records) → ⊥
  pub greatest : right ≡ Some 4294967295 → IsWellFormed pseudo (Live prefix right records) → ⊥

abbrev pub PagesHaveLimits : Type 0
PagesHaveLimits = (pseudo : List ℕ → ℕ) (prefix : List Bool) (right : Option ℕ) (records : List Record) → AreRecordsOf pseudo prefix records → HasLimits pseudo prefix right records
