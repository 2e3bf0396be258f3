use Rattle.std.proofs.Common.{◌≡◌, ℕ, ◌+◌, ◌<◌, ◌++◌, List, length, map, take, drop, slice_get, Some, refl, sym, ap, ◌∙◌, subst}
use Rattle.std.specs.FinMap.{entries}
use Rattle.std.specs.List.{AllByRecursion}
use Rattle.std.proofs.lemmas.List.{take_all}
use Rattle.std.proofs.lemmas.Option.{slice_get_read}
use Rattle.exh_prefix.specs.PrefixListLemmas.{AllByRecursion-append_left, AllByRecursion-append_right}
use Rattle.exh_prefix.specs.Layout.{written_version}
use Rattle.exh_prefix.specs.declared.prefix.TheConstants.{LIMIT}
use Rattle.exh_keyer.specs.declared.any_keyer.AnyKeyer.{AnyKeyer}
use Rattle.exh_stream.specs.OutputLemmas.{OnErr-from}
use Rattle.exh_table.specs.Table.{TableMap}
use Rattle.exh_format.specs.declared.file_entry.FileEntry.{FileEntry}
use Rattle.exh_format.specs.TableImage.{IsFileEntry}
use Rattle.exh_format.specs.Writing.{TakesEntries, TakesEntriesBeginning, on_its_way}
use Rattle.exh_format.specs.WritingLemmas.{TakesEntries-none}
use Rattle.exh_ward.specs.WardState.{WardState}
use Rattle.exh_file.specs.Saved.{AreShort, entries_of_all, entries_of, file_entry}
use Rattle.exh_file.proofs.Going.{entries_cut, entries_join, entries_next, one_wards_entries}
use Rattle.exh_file.proofs.Lists.{next_all, whole_is}
use Rattle.exh_file.proofs.saving.write_table.Goals as goal

own_entries : (ward : WardState AnyKeyer) (number : ℕ) (table : TableMap) → ward.number ≡ number → table ≡ ward.table → map (file_entry number) (entries table) ≡ entries_of ward
own_entries ward number table here same = ap (λ (n : ℕ). map (file_entry n) (entries table)) (sym here) ∙ ap (λ (t : TableMap). map (file_entry ward.number) (entries t)) same

abbrev IsShort : FileEntry → Type 0
IsShort item = length item.prefix < LIMIT

short_here : (wards : List (WardState AnyKeyer)) (at : ℕ) (ward : WardState AnyKeyer) → slice_get wards at ≡ Some ward → AreShort (entries_of_all wards) → AreShort (entries_of ward)
short_here wards at ward is short =
    AllByRecursion-append_right IsShort (entries_of_all (take at wards)) (entries_of ward)
    (AllByRecursion-append_left IsShort (entries_of_all (take at wards) ++ entries_of ward) (entries_of_all (drop (at + 1) wards))
    (subst (AllByRecursion IsShort) (sym (whole_is entries_of_all entries_join wards at ward is (entries_of ward) (one_wards_entries ward))) short))

pub loop-number-init : goal.loop-number-init
loop-number-init g c = record { writer = refl; taken = TakesEntries-none (on_its_way c.args.output.now c.args.waiting.now); valid = tt }

pub write_entries-requires : goal.write_entries-requires
write_entries-requires g c =
    let wards = c.args.wards.now in
    let number = c.loop-number.number in
    let ward = c.index-wards-number.result in
    let less = c.loop-number-test.true in
    let is = slice_get_read wards (length wards) number ward refl less c.index-wards-number.is in
    record { short = subst AreShort (sym (own_entries ward number c.table.result.now (c.requires.numbers number ward is) c.table.ensures.table)) (short_here wards number ward is c.requires.short) }

pub returns-in_err-write_entries-clause-err : goal.returns-in_err-write_entries-clause-err
returns-in_err-write_entries-clause-err g c =
    let wards = c.args.wards.now in
    let number = c.loop-number.number in
    let ward = c.index-wards-number.result in
    let less = c.loop-number-test.true in
    let is = slice_get_read wards (length wards) number ward refl less c.index-wards-number.is in
    let own = own_entries ward number c.table.result.now (c.requires.numbers number ward is) c.table.ensures.table in
    OnErr-from c.from_residual.result (entries_cut entries_of_all entries_join wards number ward is (entries_of ward) (one_wards_entries ward) c.loop-number.invariant.taken
    (subst (TakesEntriesBeginning g.W.Write.contents written_version (on_its_way c.loop-number.output c.loop-number.waiting) (on_its_way c.write_entries.new.output c.write_entries.new.waiting)) own c.in_err-write_entries.ensures.err))

pub loop-number-preserved : goal.loop-number-preserved
loop-number-preserved g c =
    let inv = c.loop-number.invariant in
    let wards = c.args.wards.now in
    let number = c.loop-number.number in
    let ward = c.index-wards-number.result in
    let less = c.loop-number-test.true in
    let is = slice_get_read wards (length wards) number ward refl less c.index-wards-number.is in
    let own = own_entries ward number c.table.result.now (c.requires.numbers number ward is) c.table.ensures.table in
    record {
      writer = c.in_ok-write_entries.ensures.same_writer ∙ inv.writer;
      taken = entries_next entries_of_all entries_join wards number ward is (entries_of ward) (one_wards_entries ward) inv.taken
          (subst (TakesEntries g.W.Write.contents written_version (on_its_way c.loop-number.output c.loop-number.waiting) (on_its_way c.write_entries.new.output c.write_entries.new.waiting)) own c.in_ok-write_entries.ensures.ok);
      valid = next_all entries_of_all entries_join wards number ward is (entries_of ward) (one_wards_entries ward) (IsFileEntry written_version) inv.valid
          (subst (AllByRecursion (IsFileEntry written_version)) own c.in_ok-write_entries.ensures.entries);
    }

pub returns-clause-ok : goal.returns-clause-ok
returns-clause-ok g c =
    subst (λ (wards : List (WardState AnyKeyer)). TakesEntries g.W.Write.contents written_version (on_its_way c.args.output.now c.args.waiting.now) (on_its_way c.loop-number.output c.loop-number.waiting) (entries_of_all wards)) (take_all c.loop-number.number c.args.wards.now c.loop-number-test.false)
    c.loop-number.invariant.taken

pub returns-clause-entries : goal.returns-clause-entries
returns-clause-entries g c =
    subst (λ (wards : List (WardState AnyKeyer)). AllByRecursion (IsFileEntry written_version) (entries_of_all wards)) (take_all c.loop-number.number c.args.wards.now c.loop-number-test.false) c.loop-number.invariant.valid
