use Rattle.std.proofs.Common.{◌≡◌, [], ◌∷◌, ◌++◌, List, Some, length, sym, ◌∙◌, subst}
use Rattle.exh_table.specs.Table.{TableMap}
use Rattle.exh_table.specs.TableLemmas.{table_laws}
use Rattle.exh_array.specs.Sent.{unpacked}
use Rattle.exh_array.specs.Held.{IsHeld}
use Rattle.exh_array.proofs.HeldCopies.{last_is, own_again, own_sent, pushed, sent_more}
use Rattle.exh_array.proofs.KnownPlaces.{known_more, out_noted}
use Rattle.exh_array.proofs.Unpacked.{unpacked-length}
use Rattle.exh_array.proofs.held_copy.HeldCopy.send.Goals as goal

pub returns-then-is_empty-clause-ok : goal.returns-then-is_empty-clause-ok
returns-then-is_empty-clause-ok c start held = pushed start c.args.sent.now c.push.new.self c.args.self.now c.table.result.now c.table.ensures held (c.in_ok-push.ensures.ok start)

pub returns-then-is_empty-clause-held : goal.returns-then-is_empty-clause-held
returns-then-is_empty-clause-held c start held =
    let copy = c.args.self.now in
    let sent = unpacked start c.args.sent.now in
    subst (λ (tables : List TableMap). IsHeld start tables (record copy { news = c.push.new.news })) (sym (pushed start c.args.sent.now c.push.new.self copy c.table.result.now c.table.ensures held (c.in_ok-push.ensures.ok start)))
    (own_again start sent copy held copy.directory.table c.push.new.news (c.is_empty.ensures c.if-is_empty.true) c.in_ok-push.ensures.none)

-- the copy is as before
undone : (c : goal.After-remove) → record c.args.self.now { news = c.push-2.new.news; known = c.remove.new.self } ≡ c.args.self.now
undone c =
    let news = c.in-Err.ensures.kept in
    let known = out_noted c.args.self.now.known c.insert.new.self c.remove.new.self c.len-place.result c.in_ok-is_new.is_new c.in_ok-is_new.ensures.keys c.in_ok-is_new.ensures.added c.if-is_new.true c.remove.ensures.keys in
    λ i. record c.args.self.now { news = news i; known = known i }

pub returns-then-is_new-clause-held : goal.returns-then-is_new-clause-held
returns-then-is_new-clause-held c start held =
    subst (λ tables. IsHeld start (unpacked start tables) (record c.args.self.now { news = c.push-2.new.news; known = c.remove.new.self })) (sym c.in-Err.ensures.err) (subst (IsHeld start (unpacked start c.args.sent.now)) (sym (undone c)) held)

pub returns-then-is_new-clause-err : goal.returns-then-is_new-clause-err
returns-then-is_new-clause-err c = undone c

pub returns-clause-ok : goal.returns-clause-ok
returns-clause-ok c start held = pushed start c.args.sent.now c.push-2.new.self c.args.self.now c.table-2.result.now c.table-2.ensures held (c.in_default.ensures.ok start)

pub returns-clause-held : goal.returns-clause-held
returns-clause-held c start held =
    let copy = c.args.self.now in
    let own = copy.directory.table in
    let sent = unpacked start c.args.sent.now in
    let place_is : c.len-place.result ≡ length sent = c.len-place.ensures.count ∙ sym (unpacked-length start c.args.sent.now) in
    let last = last_is sent own c.len-place.result place_is in
    let are = known_more (sent ++ own ∷ []) own copy.known c.insert.new.self c.len-place.result (sent_more start sent copy held own).known (own, last, table_laws.order.reflexive own) c.in_ok-is_new.ensures.updates.0 in
    subst (λ (tables : List TableMap). IsHeld start tables (record copy { since = Some c.len-place.result; news = c.push-2.new.news; known = c.insert.new.self })) (sym (pushed start c.args.sent.now c.push-2.new.self copy c.table-2.result.now c.table-2.ensures held (c.in_default.ensures.ok start)))
    (own_sent start sent copy held c.len-place.result c.push-2.new.news c.insert.new.self place_is c.in_default.ensures.none are)
