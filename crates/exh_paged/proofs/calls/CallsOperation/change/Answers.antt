use Rattle.std.proofs.Common.{sym}
use Rattle.exh_paged.proofs.calls.CallsOperation.change.Goals as goal

pub returns : goal.returns
returns g c file tables bytes knows bytes_are legal =
    let e = c.in_ok-changed.ensures in
    let is = e.legal file tables bytes knows bytes_are legal in
    let turn = e.turn bytes knows in
    record {
      new = is.new;
      tables = is.tables;
      legal = is.legal;
      pairs_are = is.map_is;
      answer_is = record { replies_are = is.replies; stamp_is = sym is.stamp_is };
      stamped = is.stamped;
      within = record { count = turn.0; turn = turn.1; own = e.own };
      idle = e.none;
    }
