-- Each copy's table is that of the set that the copy has taken.
use Rattle.std.proofs.Common.{◌≡◌, ℕ, zero, suc, ◌-◌, List, [], ◌∷◌, ◌++◌, map, slice_get, Some, refl, sym, ap, subst}
use Rattle.std.specs.Prelude.{slice_set}
use Rattle.std.specs.Option.{option_map_or}
use Rattle.std.specs.FinMap.{entries}
use Rattle.exh_notice.specs.declared.notice.Notice.{Notice}
use Rattle.exh_table.specs.TableLaws.{OwnEntries, OneNoticeMore, UnionIsJoin}
use Rattle.exh_table.specs.Table.{TableMap, told_by, IsTableOf, table_with}
use Rattle.exh_table.specs.TableOrder.{table_join}
use Rattle.exh_world.specs.WorldRun.{Told, Knowledge, told_too}
use Rattle.exh_world.specs.World.{numbered}

-- sets, and the table of each
abbrev pub AreTablesOf : List Told → List TableMap → Type 0
AreTablesOf [] [] = Unit {0}
AreTablesOf [] (table ∷ tables) = ⊥
AreTablesOf (told ∷ tolds) [] = ⊥
AreTablesOf (told ∷ tolds) (table ∷ tables) = IsTableOf told table × AreTablesOf tolds tables

pub own_sets : OwnEntries → (tables : List TableMap) → AreTablesOf (map entries tables) tables
own_sets own [] = tt
own_sets own (table ∷ tables) = (own table, own_sets own tables)

set_at : (tolds : List Told) (tables : List TableMap) → AreTablesOf tolds tables → (at : ℕ) (table : TableMap) → slice_get tables at ≡ Some table → (told : Told) × (slice_get tolds at ≡ Some told) × IsTableOf told table
set_at [] [] are at table is = cc
set_at [] (first ∷ tables) are at table is = absurd are
set_at (told ∷ tolds) [] are at table is = absurd are
set_at (told ∷ tolds) (first ∷ tables) are zero table is = let same : first ≡ table = cc in (told, refl, subst (IsTableOf told) same are.0)
set_at (told ∷ tolds) (first ∷ tables) are (suc at) table is = set_at tolds tables are.1 at table is

pub set_of : (tolds : List Told) (tables : List TableMap) → AreTablesOf tolds tables → (number : ℕ) (table : TableMap) → numbered tables number ≡ Some table → (told : Told) × (numbered tolds number ≡ Some told) × IsTableOf told table
set_of tolds tables are zero table is = cc
set_of tolds tables are (suc number) table is = set_at tolds tables are number table is

written_at : (tolds : List Told) (tables : List TableMap) → AreTablesOf tolds tables → (at : ℕ) (told : Told) (table : TableMap) → IsTableOf told table → AreTablesOf (slice_set tolds at told) (slice_set tables at table)
written_at [] [] are at told table is = tt
written_at [] (first ∷ tables) are at told table is = absurd are
written_at (one ∷ tolds) [] are at told table is = absurd are
written_at (one ∷ tolds) (first ∷ tables) are zero told table is = (is, are.1)
written_at (one ∷ tolds) (first ∷ tables) are (suc at) told table is = (are.0, written_at tolds tables are.1 at told table is)

pub pushed : (tolds : List Told) (tables : List TableMap) → AreTablesOf tolds tables → (told : Told) (table : TableMap) → IsTableOf told table → AreTablesOf (tolds ++ told ∷ []) (tables ++ table ∷ [])
pushed [] [] are told table is = (is, tt)
pushed [] (first ∷ tables) are told table is = absurd are
pushed (one ∷ tolds) [] are told table is = absurd are
pushed (one ∷ tolds) (first ∷ tables) are told table is = (are.0, pushed tolds tables are.1 told table is)

-- the sets that are known, for the tables of the copies and those sent
pub record IsKnown (known : Knowledge) (copies sent : List TableMap) : Type 0 where
  pub copies_are : AreTablesOf known.copies copies
  pub sent_are : AreTablesOf known.sent sent

module _ (known : Knowledge) (copies sent : List TableMap) (is : IsKnown known copies sent) where
  -- a copy is told more
  pub told_known : (copy : ℕ) (more : Told) (own table : TableMap) → numbered copies copy ≡ Some own → ((told : Told) → IsTableOf told own → IsTableOf (told ++ more) table) → IsKnown (told_too known copy more) (slice_set copies (copy - 1) table) sent
  told_known copy more own table there after =
      let taken = set_of known.copies copies is.copies_are copy own there in
      let told : told_too known copy more ≡ record known { copies = slice_set known.copies (copy - 1) (taken.0 ++ more) } =
      ap (λ found. option_map_or (λ taken. record known { copies = slice_set known.copies (copy - 1) (taken ++ more) }) found known) taken.1 in
      subst (λ k. IsKnown k (slice_set copies (copy - 1) table) sent) (sym told)
      record { copies_are = written_at known.copies copies is.copies_are (copy - 1) (taken.0 ++ more) table (after taken.0 taken.2); sent_are = is.sent_are }

  pub taken_known : OneNoticeMore → (copy : ℕ) (notice : Notice) (own : TableMap) → numbered copies copy ≡ Some own → IsKnown (told_too known copy (told_by notice ∷ [])) (slice_set copies (copy - 1) (table_with own notice)) sent
  taken_known law copy notice own there = told_known copy (told_by notice ∷ []) own (table_with own notice) there (λ told table. law told own notice table)

  pub joined_known : UnionIsJoin → (copy number : ℕ) (own other : TableMap) → numbered copies copy ≡ Some own → numbered sent number ≡ Some other
      → IsKnown (told_too known copy (option_map_or (λ taken. taken) (numbered known.sent number) [])) (slice_set copies (copy - 1) (table_join own other)) sent
  joined_known law copy number own other there sent_there =
      let from = set_of known.sent sent is.sent_are number other sent_there in
      subst (λ more. IsKnown (told_too known copy more) (slice_set copies (copy - 1) (table_join own other)) sent) (sym (ap (λ found. option_map_or (λ taken. taken) found []) from.1))
      (told_known copy from.0 own (table_join own other) there (λ told table. law told from.0 own other table from.2))

  pub sent_known : (copy : ℕ) (own : TableMap) → numbered copies copy ≡ Some own → IsKnown (record known { sent = known.sent ++ option_map_or (λ taken. taken ∷ []) (numbered known.copies copy) [] }) copies (sent ++ own ∷ [])
  sent_known copy own there =
      let taken = set_of known.copies copies is.copies_are copy own there in
      subst (λ more. IsKnown (record known { sent = known.sent ++ more }) copies (sent ++ own ∷ [])) (sym (ap (λ found. option_map_or (λ taken. taken ∷ []) found []) taken.1))
      record { copies_are = is.copies_are; sent_are = pushed known.sent sent is.sent_are taken.0 own taken.2 }

  pub restarted_known : (copy : ℕ) (told : Told) (start : TableMap) → IsTableOf told start → IsKnown (record known { copies = slice_set known.copies (copy - 1) told }) (slice_set copies (copy - 1) start) sent
  restarted_known copy told start table = record { copies_are = written_at known.copies copies is.copies_are (copy - 1) told start table; sent_are = is.sent_are }
