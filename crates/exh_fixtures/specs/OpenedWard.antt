-- A ward as of a file that was written: two empty pages, and a table that says that page 0 was split.
use Rattle.std.specs.Prelude.{ℕ, Bool, true, false, List, [], ◌∷◌, ◌++◌, Some, None}
use Rattle.exh_notice.specs.declared.entry.Entry.{Entry}
use Rattle.exh_notice.specs.declared.entry.Kind.TheVariants.{Split}
use Rattle.exh_page.specs.declared.page.Page.{Page}
use Rattle.exh_page.specs.declared.page.Page.TheVariants.{Live}

abbrev pub halves : List Bool → List Page
halves own = Live (own ++ false ∷ []) (Some 1) [] ∷ Live (own ++ true ∷ []) None [] ∷ []

abbrev pub entry_of_split : ℕ → Entry
entry_of_split version = record { number = version; kind = Split 1 }
