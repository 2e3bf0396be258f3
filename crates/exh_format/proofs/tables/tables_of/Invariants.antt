use Rattle.std.proofs.Common.{◌≡◌, ℕ, length, take, get_or}
use Rattle.std.specs.FinMap.{empty}
use Rattle.exh_format.specs.LegalFile.{table_naming}
use Rattle.exh_format.specs.declared.tables.TheConstants.{NAMED_WARDS}
use Rattle.exh_format.proofs.tables.tables_of.Given as goal

-- the tables of the entries so far
abbrev pub invariant-loop-item : goal.invariant-loop-item
invariant-loop-item l = record {
  count : length l.tables.items ≡ NAMED_WARDS;
  each : (ward : ℕ) → get_or l.tables.items ward empty ≡ table_naming (take l.item-index l.entries) ward;
}
