use Rattle.std.proofs.Common.{◌≡◌, ◌<◌, List, [], ◌∷◌, ◌++◌, length, sym, ap, ◌∙◌, append_assoc, arith}
use Rattle.std.proofs.lemmas.List.{length-append, length-set}
use Rattle.exh_page.specs.declared.record.Record.{Record}
use Rattle.exh_frames.proofs.Keyed.{keyed_next}
use Rattle.exh_frames.proofs.pseudokeys.of_records.Goals as goal

pub loop-item-preserved : goal.loop-item-preserved
loop-item-preserved c =
    let so_far = c.loop-item.invariant in
    let front : List Record = c.loop-item.yielded in
    let item : Record = c.in-Some.item in
    let rest : List Record = c.next.new.self in
    let whole : c.args.records.now ≡ front ++ item ∷ rest = so_far.all ∙ ap (λ (l : List Record). front ++ l) c.in-Some.ensures.steps in
    let room : c.loop-item.index < length c.loop-item.pseudokeys = omega (arith, so_far.index, so_far.len, c.requires, ap length whole, length-append front (item ∷ rest)) in
    record {
      all = whole ∙ sym (append_assoc front (item ∷ []) rest);
      index = omega (arith, so_far.index, length-append front (item ∷ []));
      len = length-set c.loop-item.pseudokeys c.loop-item.index item.pseudokey ∙ so_far.len;
      keyed = keyed_next front item c.loop-item.pseudokeys c.loop-item.index so_far.index room so_far.keyed;
    }
