-- A copy, and what is known of it.
use Rattle.std.specs.Prelude.{◌≡◌, List, length}
use Rattle.exh_table.specs.Table.{TableMap}
use Rattle.exh_table.specs.TableOrder.{IsTableUpTo, table_join}
use Rattle.exh_array.specs.Sent.{IsBefore, base_in}
use Rattle.exh_array.specs.KnownCopy.{AreKnown}
use Rattle.exh_array.specs.declared.held_copy.HeldCopy.{HeldCopy}

-- its table is at least the start table; it is the sent table that it goes on from, and the news; the known tables tell it nothing new
pub record IsHeld (start : TableMap) (sent : List TableMap) (copy : HeldCopy) : Type 0 where
  pub begun : IsTableUpTo start copy.directory.table
  pub before : IsBefore (length sent) copy.since
  pub table : copy.directory.table ≡ table_join (base_in start sent copy.since) copy.news
  pub known : AreKnown sent copy.known copy.directory.table
