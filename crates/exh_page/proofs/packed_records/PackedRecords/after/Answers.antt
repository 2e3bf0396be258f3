use Rattle.std.proofs.Common.{◌+◌, arith}
use Rattle.exh_page.specs.PackedRecords.{ArePacked}
use Rattle.exh_page.proofs.PackedReads.{as_many, packed_as, start_inside}
use Rattle.exh_page.proofs.PackedEdits.{ended_at}
use Rattle.exh_page.proofs.packed_records.PackedRecords.after.Goals as goal

pub overflow_add-result : goal.overflow_add-result
overflow_add-result c =
    let packed : ArePacked c.args.self.now c.self.inside.stored.items c.self.inside.texts.items = packed_as c.self.invariant c.self.view_is in
    omega (arith, c.requires.there, as_many packed, c.self.inside.stored.ok, c.self.inside.stored.small)

pub overflow_add-result-2 : goal.overflow_add-result-2
overflow_add-result-2 c =
    let packed : ArePacked c.args.self.now c.self.inside.stored.items c.self.inside.texts.items = packed_as c.self.invariant c.self.view_is in
    let ended = ended_at packed c.args.spot.index c.args.spot.start c.text_len-len.result c.index.result.now c.requires.there c.requires.spot c.text_len-len.ensures c.index.ensures in
    omega (arith, ended, start_inside packed (c.args.spot.index + 1), c.self.inside.texts.ok, c.self.inside.texts.small)

pub returns-clause-spot : goal.returns-clause-spot
returns-clause-spot c =
    let packed : ArePacked c.args.self.now c.self.inside.stored.items c.self.inside.texts.items = packed_as c.self.invariant c.self.view_is in
    ended_at packed c.args.spot.index c.args.spot.start c.text_len-len.result c.index.result.now c.requires.there c.requires.spot c.text_len-len.ensures c.index.ensures
