use Rattle.std.proofs.Common.{sym, ap, ◌∙◌, subst, IsSome}
use Rattle.std.specs.FinMap.{remove, insert}
use Rattle.std.specs.Option.{option_copied_mut}
use Rattle.std.proofs.lemmas.Bool.{false≢true}
use Rattle.exh_table.specs.Table.{TableMap, table_at}
use Rattle.exh_table.proofs.Seen.{insert_seen, remove_seen, some_seen}
use Rattle.exh_table.proofs.table.Table.put_back.Goals as goal

pub returns-in-None : goal.returns-in-None
returns-in-None c =
    remove_seen c.self.inside.entries c.remove.new.self c.args.prefix c.remove.ensures.updates ∙ ap (λ (table : TableMap). remove table c.args.prefix) c.self.view_is
    ∙ ap (table_at c.args.self.now c.args.prefix) (sym c.in-None.is)

pub returns-in-Some-get_mut : goal.returns-in-Some-get_mut
returns-in-Some-get_mut c =
    let stands = some_seen c.self.inside.entries.entries c.args.self.now c.args.prefix c.self.view_is c.requires in
    insert_seen c.self.inside.entries (c.get_mut.follows.lender c.in-Some.entry) c.args.prefix c.in-Some.entry ((c.get_mut.follows.holds c.in-Some.entry).3 stands)
    ∙ ap (λ (table : TableMap). insert table c.args.prefix c.in-Some.entry) c.self.view_is
    ∙ ap (table_at c.args.self.now c.args.prefix) (sym c.in-Some.is)

pub returns-in_default : goal.returns-in_default
returns-in_default c =
    let stands = some_seen c.self.inside.entries.entries c.args.self.now c.args.prefix c.self.view_is c.requires in
    let none = sym c.get_mut.ensures.value ∙ ap option_copied_mut c.in_default.is in
    absurd (false≢true (subst IsSome none stands))
