use Rattle.std.proofs.Common.{◌≡◌, sym, ap, ◌∙◌, subst}
use Rattle.exh_prefix.specs.PrefixListLemmas.{one_there}
use Rattle.exh_table.specs.TableLemmas.{table_laws}
use Rattle.exh_table.specs.TableOrder.{IsTableUpTo, table_join}
use Rattle.exh_array.specs.Sent.{unpacked}
use Rattle.exh_array.specs.KnownCopy.{Places, forgotten}
use Rattle.exh_array.specs.Held.{IsHeld}
use Rattle.exh_array.proofs.Joined.{joined_already}
use Rattle.exh_array.proofs.HeldCopies.{noted, told_same}
use Rattle.exh_array.proofs.held_copy.HeldCopy.combine.Goals as goal

pub returns-then-contains-clause-ok : goal.returns-then-contains-clause-ok
returns-then-contains-clause-ok c start table held there =
    let sent = unpacked start c.args.sent.now in
    let own = c.args.self.now.directory.table in
    let up = held.known c.args.place (sym c.contains.ensures ∙ c.if-contains.true) in
    sym (ap (table_join own) (one_there sent c.args.place table up.0 there up.1) ∙ joined_already own up.0 up.2)

pub returns-in_err-noted-clause-held : goal.returns-in_err-noted-clause-held
returns-in_err-noted-clause-held c start table held there begun =
    subst (λ (known : Places). IsHeld start (unpacked start c.args.sent.now) (record c.args.self.now { known = known })) (sym c.in_err-noted.ensures.err) held

-- the copy is as before
undone : (c : goal.After-drop-news-inside-in-Err) → record c.join.new.self { known = c.forget.new.known } ≡ c.args.self.now
undone c =
    let known : c.forget.new.known ≡ c.args.self.now.known = c.forget.ensures ∙ ap (forgotten c.in_ok-noted.noted.items) c.join.ensures.known ∙ c.in_ok-noted.ensures.back in
    λ i. record (c.in-Err.ensures.err i) { known = known i }

pub returns-in-Err-clause-held : goal.returns-in-Err-clause-held
returns-in-Err-clause-held c start table held there begun = subst (IsHeld start (unpacked start c.args.sent.now)) (sym (undone c)) held

pub returns-clause-ok : goal.returns-clause-ok
returns-clause-ok c start table held there =
    c.in_default.ensures.ok
    ∙ told_same start table (unpacked start c.args.sent.now) c.args.place c.args.self.now c.table.result.now c.in_ok-news.news c.table.ensures (c.in_ok-news.ensures start table) held there

pub returns-clause-held : goal.returns-clause-held
returns-clause-held c start table held there begun =
    let sent = unpacked start c.args.sent.now in
    let own = c.args.self.now.directory.table in
    let old = c.args.self.now.known in
    let new = c.join.new.self in
    let same = told_same start table sent c.args.place c.args.self.now c.table.result.now c.in_ok-news.news c.table.ensures (c.in_ok-news.ensures start table) held there in
    let joined : IsHeld start sent (record new { known = old }) = c.join.ensures.held start table sent old held there begun same in
    let up : IsTableUpTo table new.directory.table = subst (IsTableUpTo table) (sym (c.in_default.ensures.ok ∙ same)) (table_laws.bound.above_second own table) in
    subst (λ (known : Places). IsHeld start sent (record new { known = known })) (sym c.join.ensures.known)
    (noted start sent (record new { known = old }) joined c.note_known.new.known (c.note_known.ensures.known start new.directory.table joined.known (table, there, up)))
