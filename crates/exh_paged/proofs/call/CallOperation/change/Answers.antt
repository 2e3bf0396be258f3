use Rattle.std.proofs.Common.{◌≡◌, inl, inr, ap, arith}
use Rattle.std.proofs.lemmas.List.{nil_from_length}
use Rattle.exh_change.specs.Leaves.{most_edits}
use Rattle.exh_paged.proofs.EditLemmas.{are_within}
use Rattle.exh_paged.proofs.call.CallOperation.change.Goals as goal

pub returns : goal.returns
returns g c file tables bytes knows bytes_are legal =
    let changed = c.in_ok-changed.changed in
    let is = c.in_ok-changed.ensures.legal file tables bytes knows bytes_are legal in
    let call = c.args.self.now in
    record {
      new = is.new;
      tables = is.tables;
      legal = is.legal;
      pairs_are = is.map_is;
      answer_is = is.reply;
      stamped = elim is.stamped [ inl none ↦ inl none.0 | inr both ↦ inr both ];
      within = are_within bytes changed.edits.items (c.in_ok-changed.ensures.edits bytes knows);
      idle = λ (key, got).
          let none : most_edits call ≡ 0 = ap most_edits got in
          nil_from_length changed.edits.items (omega (arith, c.in_ok-changed.ensures.few, none));
    }
