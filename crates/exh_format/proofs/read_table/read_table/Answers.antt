use Rattle.std.proofs.Common.{◌≡◌, ◌+◌, ◌-◌, ◌*◌, ◌/◌, ◌<◌, ◌≤◌, ◌++◌, ℕ, Bool, List, Option, None, min, length, sym, ap, ◌∙◌, subst, arith}
use Rattle.std.proofs.lemmas.List.{length-append}
use Rattle.std.specs.Option.{option_to_list}
use Rattle.exh_prefix.specs.Layout.{layout}
use Rattle.exh_format.specs.declared.file_entry.FileEntry.{FileEntry}
use Rattle.exh_format.specs.TableImage.{AreRising, prefixes_of}
use Rattle.exh_format.specs.FileTests.{NextFails, TableFails}
use Rattle.exh_format.specs.Reading.{FailsInTable, GivesEntries, IsOf, last_prefix}
use Rattle.exh_format.proofs.Pages.{of_later, err_is, failed_so, still_open}
use Rattle.exh_format.proofs.Entries.{fails_next, more_entries}
use Rattle.exh_format.proofs.read_table.read_table.Goals as goal

inside_table : (number count : ℕ) → number < (count + 253) / 254 → 254 * number < count
inside_table number count turn = omega (arith, turn)

full_before : (number count : ℕ) {many : ℕ} → many ≡ min (254 * number) count → 254 * number < count → many ≡ 254 * number
full_before number count some inside = omega (arith, some, inside)

fewer_yet : {many full count : ℕ} → many ≡ full → full < count → many < count
fewer_yet same less = omega (arith, same, less)

all_blocks : {number count : ℕ} → number ≤ count → count ≤ number → number ≡ count
all_blocks most least = omega arith

next_place : (start number : ℕ) {place next : ℕ} → place ≡ start + number → next ≡ place + 1 → next ≡ start + (number + 1)
next_place start number was is = omega (arith, was, is)

next_some : (number count : ℕ) {some more : ℕ} → some ≡ 254 * number → more ≡ min 254 (count - 254 * number) → 254 * number < count → some + more ≡ min (254 * (number + 1)) count
next_some number count full more inside = omega (arith, full, more, inside)

pub returns-in_err-next-clause-failed : goal.returns-in_err-next-clause-failed
returns-in_err-next-clause-failed g c = failed_so c.from_residual.result c.in_err-next.field-0.0 _ c.from_residual.ensures.1 c.in_err-next.ensures.failed

pub returns-clause-given : goal.returns-clause-given
returns-clause-given g c =
    let known = g.R.Read.remaining c.args.blocks.now.source.reader.now in
    let later = g.R.Read.remaining c.loop-number.blocks.source.reader.now in
    subst (λ (number : ℕ). GivesEntries (layout c.args.version) known later number c.loop-number.entries.items) (all_blocks c.loop-number.auto.number-end c.loop-number-test.false) c.loop-number.invariant.given

pub returns-in_err-next-clause-err : goal.returns-in_err-next-clause-err
returns-in_err-next-clause-err g c =
    let known = g.R.Read.remaining c.args.blocks.now.source.reader.now in
    let place = c.args.blocks.now.place in
    let count = c.args.count in
    let number = c.loop-number.number in
    let entries = c.loop-number.entries.items in
    let inside = inside_table number count c.loop-number-test.true in
    let full = full_before number count c.loop-number.invariant.some inside in
    let more : c.min-more.result ≡ min 254 (count - length entries) = c.min-more.ensures ∙ ap (λ (n : ℕ). min 254 (count - n)) (sym full) in
    let before : c.last_prefix-before.result ≡ last_prefix None entries = c.last_prefix-before.ensures ∙ ap (last_prefix None) c.deref.ensures.value in
    let later = g.R.Read.remaining c.loop-number.blocks.source.reader.now in
    let fault = c.in_err-next.field-0.0 in
    let fails : IsOf (NextFails (TableFails (layout c.args.version) (place + number) (min 254 (count - length entries)) (last_prefix None entries))) later fault =
    subst (λ (before : Option (List Bool)). IsOf (NextFails (TableFails (layout c.args.version) (place + number) (min 254 (count - length entries)) before)) later fault) before
    (subst (λ (more : ℕ). IsOf (NextFails (TableFails (layout c.args.version) (place + number) more c.last_prefix-before.result)) later fault) more
    (subst (λ (place : ℕ). IsOf (NextFails (TableFails (layout c.args.version) place c.min-more.result c.last_prefix-before.result)) later fault) c.loop-number.invariant.place c.in_err-next.ensures.err)) in
    err_is c.from_residual.result fault (IsOf (FailsInTable (layout c.args.version) place count) known) c.from_residual.ensures.1
    (of_later (NextFails (TableFails (layout c.args.version) (place + number) (min 254 (count - length entries)) (last_prefix None entries))) (FailsInTable (layout c.args.version) place count) known later fault
    (λ fault. fails_next (layout c.args.version) known later place count number entries fault (fewer_yet full inside) full c.loop-number.invariant.given) fails)

pub loop-number-preserved : goal.loop-number-preserved
loop-number-preserved g c =
    let count = c.args.count in
    let number = c.loop-number.number in
    let entries = c.loop-number.entries.items in
    let next = c.in_ok-next.next.items in
    let inside = inside_table number count c.loop-number-test.true in
    let full = full_before number count c.loop-number.invariant.some inside in
    let more : length next ≡ min 254 (count - 254 * number) = sym c.in_ok-next.next.ok.0 ∙ c.in_ok-next.ensures.count ∙ c.min-more.ensures in
    let before : c.last_prefix-before.result ≡ last_prefix None entries = c.last_prefix-before.ensures ∙ ap (last_prefix None) c.deref.ensures.value in
    let joined : c.append.new.entries.items ≡ entries ++ next = c.in_ok-append.ensures ∙ ap (λ (next : List FileEntry). entries ++ next) c.deref-in-loop-number.ensures.value in
    let read = c.in_ok-next.ensures.ok in
    record {
      unfailed = still_open c.in_ok-next.next _ c.in_ok-next.ensures.failed.1;
      place = next_place c.args.blocks.now.place number c.loop-number.invariant.place c.in_ok-next.ensures.place;
      some = ap length joined ∙ length-append entries next ∙ next_some number count full more inside;
      given = subst (GivesEntries (layout c.args.version) _ _ (number + 1)) (sym joined)
          (more_entries (layout c.args.version) _ _ _ number entries next read.0 full c.loop-number.invariant.given read.1 read.2 read.3
          (subst (λ (before : Option (List Bool)). AreRising (option_to_list before ++ prefixes_of next)) before c.in_ok-next.ensures.rising));
    }
