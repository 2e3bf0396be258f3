use Rattle.std.proofs.Common.{◌≡◌, ◌++◌, take, drop, insert, ap, ◌∙◌, arith}
use Rattle.exh_page.specs.declared.record.Record.{Record}
use Rattle.exh_page.specs.PackedRecords.{ArePacked, IsSized, stored_of, record_text}
use Rattle.exh_page.proofs.Packed.{unpacked, repacked}
use Rattle.exh_page.proofs.PackedReads.{start_inside, packed_as}
use Rattle.exh_page.proofs.PackedEdits.{packed_inserted}
use Rattle.exh_page.proofs.packed_records.PackedRecords.insert.Goals as goal

pub put_text-requires-clause-within : goal.put_text-requires-clause-within
put_text-requires-clause-within c =
    let packed : ArePacked c.args.self.now c.self.inside.stored.items c.self.inside.texts.items = packed_as c.self.invariant c.self.view_is in
    omega (arith, c.requires.spot, start_inside packed c.args.spot.index)

packed_after : (c : goal.After-unwrap) → ArePacked (insert c.args.self.now c.args.spot.index (record { pseudokey = c.args.pseudokey; key = c.args.key.now; value = c.args.value.now })) c.insert.new.self.items c.put_text.new.texts.items
packed_after c =
    let packed : ArePacked c.args.self.now c.self.inside.stored.items c.self.inside.texts.items = packed_as c.self.invariant c.self.view_is in
    let item : Record = record { pseudokey = c.args.pseudokey; key = c.args.key.now; value = c.args.value.now } in
    let sized : IsSized item = record { word = c.ranges.pseudokey.fits; some = c.as_bytes-key.ensures.some; key = c.as_bytes-key.ensures.limit; value = c.as_bytes-value.ensures.limit } in
    let text : c.as_bytes-key.result.now ++ c.as_bytes-value.result.now ≡ record_text item =
    ap (λ key. key ++ c.as_bytes-value.result.now) c.as_bytes-key.ensures.bytes ∙ ap (λ value. c.args.key.now ++ value) c.as_bytes-value.ensures.bytes in
    let texts_is : c.put_text.new.texts.items ≡ take c.args.spot.start c.self.inside.texts.items ++ (record_text item ++ drop c.args.spot.start c.self.inside.texts.items) =
    c.in_ok-put_text.ensures.ok ∙ ap (λ text. take c.args.spot.start c.self.inside.texts.items ++ (text ++ drop c.args.spot.start c.self.inside.texts.items)) text in
    let kept : c.of.result ≡ stored_of item =
    c.of.ensures ∙ ap (λ key. stored_of (record item { key = key; value = c.as_bytes-value.result.now })) c.as_bytes-key.ensures.bytes ∙ ap (λ value. stored_of (record item { value = value })) c.as_bytes-value.ensures.bytes in
    let stored_is : c.insert.new.self.items ≡ insert c.self.inside.stored.items c.args.spot.index (stored_of item) =
    let done = rw c.unwrap.ensures at c.insert.ensures in
    done.items ∙ ap (λ items. insert items c.args.spot.index c.of.result) c.in_ok-reserve.ensures.items ∙ ap (insert c.self.inside.stored.items c.args.spot.index) kept in
    packed_inserted packed c.args.spot.index c.args.spot.start item c.insert.new.self.items c.put_text.new.texts.items sized c.requires.spot stored_is texts_is

pub invariant_of-self-2 : goal.invariant_of-self-2
invariant_of-self-2 c = repacked (packed_after c)

pub returns-clause-ok : goal.returns-clause-ok
returns-clause-ok c = unpacked (packed_after c)
