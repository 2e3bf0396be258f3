use Rattle.std.proofs.Common.{◌≡◌, [], ◌++◌, drop, MatchResult, sym, subst}
use Rattle.left_right.specs.Sides.{view}
use Rattle.exh_copy.specs.Rule.{IsAfter}
use Rattle.exh_copy.proofs.Keeps.{publishes, after_batch, after_publish}
use Rattle.exh_copy.proofs.writer.published_batch.Goals as goal

pub publish_as-requires : goal.publish_as-requires
publish_as-requires g c next is =
    let writer = c.args.writer in
    let table = g.S.Start.table in
    let ward_bits = g.S.Start.ward_bits in
    let list = view writer.desk.place in
    publishes table ward_bits writer.desk.place.id list g.B.Batch.additions writer.desk.shown.value next c.requires.after
    (subst (λ batch. IsAfter table ward_bits next (list ++ batch)) (sym c.requires.batch) (after_batch table ward_bits writer.desk.shown.value next list (drop writer.behind writer.log.items) c.requires.after is))

pub returns-clause-after : goal.returns-clause-after
returns-clause-after g c =
    let writer = c.args.writer in
    let after = c.publish_as.result.0 in
    let list = view writer.desk.place in
    let now = view after.desk.place in
    let pending = drop writer.behind writer.log.items in
    after_publish g.S.Start.table g.S.Start.ward_bits writer.desk.shown.value after.desk.shown.value list pending now c.publish_as.result.1 (λ _. drop after.behind after.log.items ≡ []) (λ _. drop after.behind after.log.items ≡ pending)
    c.requires.after c.publish_as.ensures.values
    (subst (λ batch. MatchResult c.publish_as.result.1 (λ _. now ≡ list ++ batch) (λ _. now ≡ list)) c.requires.batch c.publish_as.ensures.rule)
