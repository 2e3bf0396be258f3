-- What a copy's writer appends, and the table that comes of it.
use Rattle.std.specs.Prelude.{◌≡◌, ℕ, nat_lt, if◌then◌else◌, Bool, List, [], ◌∷◌, ◌++◌, length, fold, All}
use Rattle.std.specs.FinMap.{entries}
use Rattle.exh_notice.specs.declared.entry.Entry.{Entry}
use Rattle.exh_table.specs.Table.{TableMap, table_with, told_by}
use Rattle.exh_table.specs.TableOrder.{table_join}
use Rattle.exh_copy.specs.declared.addition.Addition.{Addition}
use Rattle.exh_copy.specs.declared.addition.Addition.TheVariants.{Take, Combine}

-- a copy's name, the additions that its writer has published, and those that are pending
pub record Additions : Type 0 where
  pub name : ℕ
  pub published : List Addition
  pub pending : List Addition

-- of which copy, by its name, and which additions are held
pub record Held : Type 0 where
  pub name : ℕ
  pub additions : List Addition

-- readers of the copy of this name
abbrev pub AreOf : ℕ → List Held → Type 0
AreOf name readers = All (λ (reader : Held). reader.name ≡ name) readers

-- the table with one addition more
abbrev pub added : TableMap → Addition → TableMap
added table (Take notice) = table_with table notice
added table (Combine other) = table_join table other

-- the start table with a list of additions applied, in order
abbrev pub table_after : TableMap → List Addition → TableMap
table_after start additions = fold added start additions

-- the list begins with those
abbrev pub BeginsWith : List Addition → List Addition → Type 0
BeginsWith additions first = (rest : List Addition) × (additions ≡ first ++ rest)

-- the longer of two lists, the second where they are as long
abbrev pub longest : List Addition → List Addition → List Addition
longest one other = if nat_lt (length other) (length one) then one else other

-- what an addition tells: entries at prefixes
abbrev pub told_in : Addition → List (List Bool × Entry)
told_in (Take notice) = told_by notice ∷ []
told_in (Combine other) = entries other
