use Rattle.std.proofs.Common.{◌≡◌, ◌<◌, length, slice_get, Some, refl, sym, subst}
use Rattle.std.proofs.lemmas.Option.{slice_get_read}
use Rattle.exh_array.specs.Sent.{GoBack}
use Rattle.exh_array.proofs.Unpacked.{repeated}
use Rattle.exh_array.proofs.sent_tables.SentTables.first.Goals as goal

pub returns-in-Some-clause-same : goal.returns-in-Some-clause-same
returns-in-Some-clause-same c start =
    let sent = c.args.self.now in
    let at : slice_get c.self.inside.tables.items c.args.place ≡ Some c.index-sent.result.now = slice_get_read _ _ c.args.place c.index-sent.result.now refl (subst (λ list. c.args.place < length list) (sym c.self.view_is) c.requires) c.index-sent.ensures in
    repeated start sent (subst GoBack c.self.view_is c.self.invariant) c.args.place c.index-sent.result.now (subst (λ list. slice_get list c.args.place ≡ Some c.index-sent.result.now) c.self.view_is at) c.in-Some.since c.in-Some.is (c.is_empty.ensures c.if-is_empty.true) c.requires
