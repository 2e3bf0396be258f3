use Rattle.std.proofs.Common.{◌≡◌, sym, ap, ◌∙◌, subst, IsSome, refl}
use Rattle.std.specs.FinMap.{get, insert, from_entries}
use Rattle.exh_table.specs.Table.{TableMap, greater_of}
use Rattle.exh_table.proofs.Seen.{insert_seen, insert_twice, insert_there, get_seen, on_err}
use Rattle.exh_table.proofs.table.Table.put_greater.Goals as goal

pub returns-in_err-stood-clause-absent : goal.returns-in_err-stood-clause-absent
returns-in_err-stood-clause-absent c =
    on_err c.from_residual.result (ap (λ (table : TableMap). get table c.args.prefix) (sym c.self.view_is) ∙ get_seen c.self.inside.entries.entries c.args.prefix ∙ c.in_err-stood.ensures.absent)

pub returns-in-None-clause-stood : goal.returns-in-None-clause-stood
returns-in-None-clause-stood c =
    let was : c.in_ok-stood.stood ≡ get c.args.self.now c.args.prefix =
    c.in_ok-stood.ensures.old ∙ sym (get_seen c.self.inside.entries.entries c.args.prefix) ∙ ap (λ (table : TableMap). get table c.args.prefix) c.self.view_is in
    was

pub returns-in-None-clause-ok : goal.returns-in-None-clause-ok
returns-in-None-clause-ok c =
    let was : c.in_ok-stood.stood ≡ get c.args.self.now c.args.prefix =
    c.in_ok-stood.ensures.old ∙ sym (get_seen c.self.inside.entries.entries c.args.prefix) ∙ ap (λ (table : TableMap). get table c.args.prefix) c.self.view_is in
    let put : from_entries c.insert.new.self.entries ≡ insert c.args.self.now c.args.prefix c.args.entry =
    insert_seen c.self.inside.entries c.insert.new.self c.args.prefix c.args.entry c.in_ok-stood.ensures.updates
    ∙ ap (λ (table : TableMap). insert table c.args.prefix c.args.entry) c.self.view_is in
    put ∙ ap (insert c.args.self.now c.args.prefix) (sym (ap (λ stood. greater_of stood c.args.entry) (sym was) ∙ c.in-None.ensures))

pub put_back-requires : goal.put_back-requires
put_back-requires c =
    let put : from_entries c.insert.new.self.entries ≡ insert c.args.self.now c.args.prefix c.args.entry =
    insert_seen c.self.inside.entries c.insert.new.self c.args.prefix c.args.entry c.in_ok-stood.ensures.updates
    ∙ ap (λ (table : TableMap). insert table c.args.prefix c.args.entry) c.self.view_is in
    subst IsSome (sym (ap (λ (table : TableMap). get table c.args.prefix) put ∙ insert_there c.args.self.now c.args.prefix c.args.entry)) refl

pub returns-in-Some-clause-stood : goal.returns-in-Some-clause-stood
returns-in-Some-clause-stood c =
    let was : c.in_ok-stood.stood ≡ get c.args.self.now c.args.prefix =
    c.in_ok-stood.ensures.old ∙ sym (get_seen c.self.inside.entries.entries c.args.prefix) ∙ ap (λ (table : TableMap). get table c.args.prefix) c.self.view_is in
    was

pub returns-in-Some-clause-ok : goal.returns-in-Some-clause-ok
returns-in-Some-clause-ok c =
    let was : c.in_ok-stood.stood ≡ get c.args.self.now c.args.prefix =
    c.in_ok-stood.ensures.old ∙ sym (get_seen c.self.inside.entries.entries c.args.prefix) ∙ ap (λ (table : TableMap). get table c.args.prefix) c.self.view_is in
    let put : from_entries c.insert.new.self.entries ≡ insert c.args.self.now c.args.prefix c.args.entry =
    insert_seen c.self.inside.entries c.insert.new.self c.args.prefix c.args.entry c.in_ok-stood.ensures.updates
    ∙ ap (λ (table : TableMap). insert table c.args.prefix c.args.entry) c.self.view_is in
    c.put_back.ensures ∙ ap (λ (table : TableMap). insert table c.args.prefix c.in-Some.greater) put
    ∙ insert_twice c.args.self.now c.args.prefix c.args.entry c.in-Some.greater
    ∙ ap (insert c.args.self.now c.args.prefix) (sym (ap (λ stood. greater_of stood c.args.entry) (sym was) ∙ c.in-Some.ensures))
