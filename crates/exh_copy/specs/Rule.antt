-- The rule over a copy, and what its steps tell.
use Rattle.std.specs.Prelude.{◌≡◌, ℕ, List, length}
use mathlib.Core.Option.{some}
use lib.ListN.{get_elem?}
use Rattle.exh_table.specs.Table.{TableMap}
use Rattle.exh_copy.specs.declared.addition.Addition.{Addition}
use Rattle.exh_copy.specs.declared.published.Published.{Published}
use Rattle.exh_copy.specs.Additions.{BeginsWith, table_after}

-- the published value is the start with the list applied
pub record IsAfter (table : TableMap) (ward_bits : ℕ) (published : Published) (list : List Addition) : Type 0 where
  pub table_is : published.directory.table ≡ table_after table list
  pub ward_bits_are : published.directory.pointers.ward_bits ≡ ward_bits
  pub counted : published.additions ≡ length list

-- there is one published list: what is published is the start with it applied, and what each reader and the writer hold
-- is a beginning of it
pub record IsKept (table : TableMap) (ward_bits : ℕ) (published : Published) (views : List (List Addition)) : Type 0 where
  pub list : List Addition
  pub applied : IsAfter table ward_bits published list
  pub begins : (seat : ℕ) (view : List Addition) → get_elem? views seat ≡ some view → BeginsWith list view

-- what is held now begins with what was held, and is the list of what is published
pub record IsSeen (table : TableMap) (ward_bits : ℕ) (held : List Addition) (published : Published) (now : List Addition) : Type 0 where
  pub begins : BeginsWith now held
  pub applied : IsAfter table ward_bits published now
