use Rattle.std.proofs.Common.{◌≡◌, ◌+◌, ◌≤◌, ◌++◌, length, take, drop, get_or, set, length-append, IfSome, IsOk, sym, ap, ◌∙◌, subst, arith}
use Rattle.std.proofs.lemmas.Bool.{false≢true}
use Rattle.std.proofs.lemmas.Option.{slice_get-get_or}
use Rattle.exh_page.specs.declared.record.Record.{Record}
use Rattle.exh_page.specs.PackedRecords.{ArePacked, IsSized, stored_of, record_text}
use Rattle.exh_page.proofs.Packed.{unpacked, repacked}
use Rattle.exh_page.proofs.PackedReads.{start_inside, packed_as}
use Rattle.exh_page.proofs.PackedEdits.{ended_at, long_at, packed_replaced}
use Rattle.exh_page.proofs.packed_records.PackedRecords.replace.Goals as goal

pub overflow_add-end : goal.overflow_add-end
overflow_add-end c =
    let packed : ArePacked c.args.self.now c.self.inside.stored.items c.self.inside.texts.items = packed_as c.self.invariant c.self.view_is in
    let ended = ended_at packed c.args.spot.index c.args.spot.start c.text_len.result c.index.result.now c.requires.there c.requires.spot c.text_len.ensures c.index.ensures in
    omega (arith, ended, start_inside packed (c.args.spot.index + 1), c.self.inside.texts.ok, c.self.inside.texts.small)

pub put_text-requires-clause-within : goal.put_text-requires-clause-within
put_text-requires-clause-within c =
    let packed : ArePacked c.args.self.now c.self.inside.stored.items c.self.inside.texts.items = packed_as c.self.invariant c.self.view_is in
    let ended = ended_at packed c.args.spot.index c.args.spot.start c.text_len.result c.index.result.now c.requires.there c.requires.spot c.text_len.ensures c.index.ensures in
    omega (arith, ended, start_inside packed (c.args.spot.index + 1))

pub returns-in_err-put_text-clause-fits : goal.returns-in_err-put_text-clause-fits
returns-in_err-put_text-clause-fits c =
    let packed : ArePacked c.args.self.now c.self.inside.stored.items c.self.inside.texts.items = packed_as c.self.invariant c.self.view_is in
    let old : Record = get_or c.args.self.now c.args.spot.index (record { pseudokey = c.args.pseudokey; key = c.args.key.now; value = c.args.value.now }) in
    let old_long : c.text_len.result ≡ length (record_text old) = long_at packed c.args.spot.index c.text_len.result c.index.result.now (record { pseudokey = c.args.pseudokey; key = c.args.key.now; value = c.args.value.now }) c.requires.there c.text_len.ensures c.index.ensures in
    let new_long : length c.as_bytes-key.result.now + length c.as_bytes-value.result.now ≡ length (record_text (record { pseudokey = c.args.pseudokey; key = c.args.key.now; value = c.args.value.now })) =
    omega (arith, length-append c.args.key.now c.args.value.now, ap length c.as_bytes-key.ensures.bytes, ap length c.as_bytes-value.ensures.bytes) in
    subst (λ found. IfSome found (λ r. length (record_text (record { pseudokey = c.args.pseudokey; key = c.args.key.now; value = c.args.value.now })) ≤ length (record_text r) → IsOk c.from_residual.result)) (sym (slice_get-get_or c.args.self.now c.args.spot.index (record { pseudokey = c.args.pseudokey; key = c.args.key.now; value = c.args.value.now }) c.requires.there))
    (λ (short : length (record_text (record { pseudokey = c.args.pseudokey; key = c.args.key.now; value = c.args.value.now })) ≤ length (record_text old)). absurd (false≢true (c.in_err-put_text.ensures.fits (omega (arith, short, old_long, new_long)))))

packed_after : (c : goal.After-self-1) → ArePacked (set c.args.self.now c.args.spot.index (record { pseudokey = c.args.pseudokey; key = c.args.key.now; value = c.args.value.now })) (set c.self.inside.stored.items c.args.spot.index c.of.result) c.put_text.new.texts.items
packed_after c =
    let packed : ArePacked c.args.self.now c.self.inside.stored.items c.self.inside.texts.items = packed_as c.self.invariant c.self.view_is in
    let ended = ended_at packed c.args.spot.index c.args.spot.start c.text_len.result c.index.result.now c.requires.there c.requires.spot c.text_len.ensures c.index.ensures in
    let sized : IsSized (record { pseudokey = c.args.pseudokey; key = c.args.key.now; value = c.args.value.now }) = record { word = c.ranges.pseudokey.fits; some = c.as_bytes-key.ensures.some; key = c.as_bytes-key.ensures.limit; value = c.as_bytes-value.ensures.limit } in
    let text : c.as_bytes-key.result.now ++ c.as_bytes-value.result.now ≡ record_text (record { pseudokey = c.args.pseudokey; key = c.args.key.now; value = c.args.value.now }) =
    ap (λ key. key ++ c.as_bytes-value.result.now) c.as_bytes-key.ensures.bytes ∙ ap (λ value. c.args.key.now ++ value) c.as_bytes-value.ensures.bytes in
    let item : Record = record { pseudokey = c.args.pseudokey; key = c.args.key.now; value = c.args.value.now } in
    let kept : c.of.result ≡ stored_of item =
    c.of.ensures ∙ ap (λ key. stored_of (record item { key = key; value = c.as_bytes-value.result.now })) c.as_bytes-key.ensures.bytes ∙ ap (λ value. stored_of (record item { value = value })) c.as_bytes-value.ensures.bytes in
    packed_replaced packed c.args.spot.index c.args.spot.start (c.args.spot.start + c.text_len.result) (record { pseudokey = c.args.pseudokey; key = c.args.key.now; value = c.args.value.now }) (set c.self.inside.stored.items c.args.spot.index c.of.result) c.put_text.new.texts.items
    sized c.requires.there c.requires.spot ended (ap (set c.self.inside.stored.items c.args.spot.index) kept)
    (c.in_ok-put_text.ensures.ok
    ∙ ap (λ text. take c.args.spot.start c.self.inside.texts.items ++ (text ++ drop (c.args.spot.start + c.text_len.result) c.self.inside.texts.items)) text)

pub invariant_of-self-2 : goal.invariant_of-self-2
invariant_of-self-2 c = repacked (packed_after c)

pub returns-clause-ok : goal.returns-clause-ok
returns-clause-ok c = unpacked (packed_after c)
