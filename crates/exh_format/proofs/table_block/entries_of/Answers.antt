use Rattle.std.proofs.Common.{◌≡◌, ◌≤◌, ℕ, ◌+◌, ◌-◌, ◌*◌, ◌++◌, ◌∷◌, [], List, length, take, drop, ap, sym, ◌∙◌, subst, arith}
use Rattle.std.proofs.lemmas.List.{take_all, length-drop}
use Rattle.exh_prefix.specs.Layout.{layout}
use Rattle.exh_prefix.specs.LayoutLemmas.{layout_fits}
use Rattle.exh_legal.specs.NoticeImages.{FailsFirst}
use Rattle.exh_format.specs.declared.file_entry.FileEntry.{FileEntry}
use Rattle.exh_format.specs.TableImage.{AreEntries}
use Rattle.exh_format.proofs.TableBytes.{next_entry}
use Rattle.exh_format.proofs.table_block.entries_of.Goals as goal

at_end : (i count : ℕ) → i ≤ count → count ≤ i → i ≡ count
at_end i count within over = omega (arith, within, over)

pub loop-i-preserved : goal.loop-i-preserved
loop-i-preserved c =
    let bytes = c.args.bytes.now in
    let start = 16 * c.loop-i.i in
    let chunk = rw c.unwrap-image.ensures at c.first_chunk.ensures.cases in
    let whole : take (length bytes - start) (drop start bytes) ≡ drop start bytes = take_all (length bytes - start) (drop start bytes) (omega (arith, length-drop start bytes)) in
    let front : c.unwrap-image.result.now ≡ take 16 (drop start bytes) = chunk.same ∙ ap (take 16) whole in
    let pushed : c.push_item.new.items.items ≡ c.loop-i.entries.items ++ record { ward = c.in-Ok.read.0; prefix = c.in-Ok.read.1; entry = c.in-Ok.read.2 } ∷ [] =
    c.in_ok-push_item-in-Ok.ensures.ok ∙ ap (λ (item : FileEntry). c.loop-i.entries.items ++ item ∷ []) c.of_parts.ensures in
    subst (λ (items : List FileEntry). AreEntries (layout c.args.version) (c.loop-i.i + 1) bytes items (drop (16 * (c.loop-i.i + 1)) bytes)) (sym pushed)
    (next_entry (layout c.args.version) (layout_fits c.args.version) c.loop-i.i bytes c.loop-i.entries.items c.in-Ok.read.0 c.in-Ok.read.1 c.in-Ok.read.2 c.unwrap-image.result.now c.loop-i.invariant front c.in-Ok.ensures.ok)

pub returns-in-Err-clause-fault : goal.returns-in-Err-clause-fault
returns-in-Err-clause-fault c _ =
    let bytes = c.args.bytes.now in
    let start = 16 * c.loop-i.i in
    let chunk = rw c.unwrap-image.ensures at c.first_chunk.ensures.cases in
    let whole : take (length bytes - start) (drop start bytes) ≡ drop start bytes = take_all (length bytes - start) (drop start bytes) (omega (arith, length-drop start bytes)) in
    let front : c.unwrap-image.result.now ≡ take 16 (drop start bytes) = chunk.same ∙ ap (take 16) whole in
    record {
      number = c.loop-i.i;
      fewer = c.loop-i-test.true;
      entries = c.loop-i.entries.items;
      rest = drop start bytes;
      before = c.loop-i.invariant;
      first = c.in-Err.fault;
      fails = subst (FailsFirst (layout c.args.version) c.in-Err.fault) front c.in-Err.ensures.err;
      named = sym c.entry_fault.ensures;
    }

pub returns-clause-entries : goal.returns-clause-entries
returns-clause-entries c =
    subst (λ (n : ℕ). AreEntries (layout c.args.version) n c.args.bytes.now c.loop-i.entries.items (drop (16 * n) c.args.bytes.now))
    (at_end c.loop-i.i c.args.count c.loop-i.auto.i-end c.loop-i-test.false) c.loop-i.invariant
