use Rattle.std.proofs.Common.{sym, ap, ◌∙◌, subst}
use Rattle.std.proofs.lemmas.Option.{slice_get_within}
use Rattle.exh_table.specs.Table.{TableMap}
use Rattle.exh_table.specs.TableOrder.{table_join}
use Rattle.exh_array.specs.Pointers.{DirectoryState}
use Rattle.exh_array.specs.Held.{IsHeld}
use Rattle.exh_array.proofs.Joined.{joined_none}
use Rattle.exh_array.proofs.HeldCopies.{joined_begun, joined_on, none_there}
use Rattle.exh_array.proofs.held_copy.HeldCopy.join.Goals as goal

pub returns-then-is_empty-clause-ok : goal.returns-then-is_empty-clause-ok
returns-then-is_empty-clause-ok c =
    sym (ap (table_join c.args.self.now.directory.table) (c.is_empty.ensures c.if-is_empty.true) ∙ joined_none c.args.self.now.directory.table)

pub returns-in_err-join_in-clause-held : goal.returns-in_err-join_in-clause-held
returns-in_err-join_in-clause-held c start table sent known held there begun same =
    subst (λ (directory : DirectoryState). IsHeld start sent (record c.args.self.now { directory = directory; known = known })) (sym c.in_err-join_in.ensures.err) held

pub returns-then-is_none-clause-held : goal.returns-then-is_none-clause-held
returns-then-is_none-clause-held c start table sent known held there begun same =
    joined_begun start sent (record c.args.self.now { known = known }) held c.join_in.new.self c.args.place table (none_there c.args.self.now.since c.is_none.result c.is_none.ensures c.if-is_none.true) there begun (slice_get_within sent c.args.place table there)
    (c.in_ok-join_in.ensures.ok ∙ same)

pub returns-in_err-join_in-3-clause-held : goal.returns-in_err-join_in-3-clause-held
returns-in_err-join_in-3-clause-held c start table sent known held there begun same =
    subst (λ (directory : DirectoryState). IsHeld start sent (record c.args.self.now { directory = directory; known = known })) (sym c.in_err-join_in-3.ensures.err) held

pub returns-clause-held : goal.returns-clause-held
returns-clause-held c start table sent known held there begun same =
    joined_on start sent (record c.args.self.now { known = known }) held c.join_in-3.new.self c.args.news.now c.join_in-2.new.self c.in_ok-join_in-3.ensures.ok
    (c.in_ok-join_in-2.ensures.ok ∙ ap (λ (news : TableMap). table_join news c.args.news.now) c.in_ok-joined.ensures)
