-- Tables that were sent, each kept by what it has beyond one that was sent before.
use Rattle.std.specs.Prelude.{◌≡◌, ⊤, ℕ, ◌<◌, List, [], ◌∷◌, ◌++◌, get_or, slice_get, Option, Some, None}
use Rattle.exh_table.specs.Table.{TableMap}
use Rattle.exh_table.specs.TableOrder.{table_join}
use Rattle.exh_array.specs.declared.sent_table.SentTable.{SentTable}

-- the table that another goes on from: that at the place, else the start table
abbrev pub base_in : TableMap → List TableMap → Option ℕ → TableMap
base_in start tables None = start
base_in start tables (Some at) = get_or tables at start

-- behind tables that were sent, those of which so much was kept
abbrev pub unpacked_on : TableMap → List TableMap → List SentTable → List TableMap
unpacked_on start tables [] = tables
unpacked_on start tables (sent ∷ more) = unpacked_on start (tables ++ table_join (base_in start tables sent.since) sent.entries ∷ []) more

-- the tables that were sent
abbrev pub unpacked : TableMap → List SentTable → List TableMap
unpacked start sent = unpacked_on start [] sent

-- there is no such place, or it is below
abbrev pub IsBefore : ℕ → Option ℕ → Type 0
IsBefore bound None = ⊤
IsBefore bound (Some at) = at < bound

-- each goes on from one before it, or from the start table
abbrev pub GoBack : List SentTable → Type 0
GoBack sent = (at : ℕ) (one : SentTable) → slice_get sent at ≡ Some one → IsBefore at one.since
