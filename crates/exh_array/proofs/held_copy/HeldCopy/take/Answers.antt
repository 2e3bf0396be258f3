use Rattle.std.proofs.Common.{◌≡◌, IsSome, refl, sym, ap, ◌∙◌, subst}
use Rattle.std.specs.FinMap as map
use Rattle.exh_notice.specs.Entry.{entry_of}
use Rattle.exh_table.specs.Table.{TableMap, raised, table_at}
use Rattle.exh_table.specs.SetLemmas.{put_back}
use Rattle.exh_table.specs.RaisedLemmas.{raised_here}
use Rattle.exh_array.specs.Held.{IsHeld}
use Rattle.exh_array.specs.Pointers.{DirectoryState}
use Rattle.exh_array.proofs.HeldCopies.{taken, told}
use Rattle.exh_array.proofs.held_copy.HeldCopy.take.Goals as goal

pub put_back-requires : goal.put_back-requires
put_back-requires c =
    let P : TableMap → Type 0 = λ table. IsSome (map.get table c.args.notice.now.prefix) in
    subst P (sym c.in_ok-stood.ensures.ok) (subst IsSome (sym (raised_here c.args.self.now.news c.args.notice.now.prefix (entry_of c.args.notice.now))) refl)

-- the news are as before
undone : (c : goal.After-put_back) → c.put_back.new.self ≡ c.args.self.now.news
undone c =
    c.put_back.ensures
    ∙ ap (λ (table : TableMap). table_at table c.args.notice.now.prefix c.in_ok-stood.stood) c.in_ok-stood.ensures.ok
    ∙ ap (table_at _ c.args.notice.now.prefix) c.in_ok-stood.ensures.stood
    ∙ put_back c.args.self.now.news c.args.notice.now.prefix (entry_of c.args.notice.now)

-- so is the copy
undone_all : (c : goal.After-put_back) → record c.args.self.now { directory = c.take-3.new.self; news = c.put_back.new.self } ≡ c.args.self.now
undone_all c = λ i. record c.args.self.now { directory = c.in-Err.ensures.err i; news = undone c i }

pub returns-in-Err-clause-err : goal.returns-in-Err-clause-err
returns-in-Err-clause-err c = undone_all c

pub returns-in-Err-clause-held : goal.returns-in-Err-clause-held
returns-in-Err-clause-held c start sent held = subst (IsHeld start sent) (sym (undone_all c)) held

pub returns-clause-held : goal.returns-clause-held
returns-clause-held c start sent held =
    taken start sent c.args.self.now held c.take-3.new.self c.take-2.new.self c.args.notice.now.prefix (entry_of c.args.notice.now) c.in_default.ensures.ok c.in_ok-stood.ensures.ok

-- what was told before changes nothing
pub returns-then-is_told-clause-held : goal.returns-then-is_told-clause-held
returns-then-is_told-clause-held c start sent held =
    let own = c.args.self.now.directory.table in
    let prefix = c.args.notice.now.prefix in
    let same : raised own prefix (entry_of c.args.notice.now) ≡ own =
    subst (λ entry. raised own prefix entry ≡ own) c.entry.ensures (subst (λ (table : TableMap). raised table prefix c.entry.result ≡ table) c.table.ensures (c.if-is_told.ensures refl)) in
    told start sent c.args.self.now held c.take.new.self (c.in_ok-take.ensures.ok ∙ same)

pub returns-in_err-take-clause-held : goal.returns-in_err-take-clause-held
returns-in_err-take-clause-held c start sent held = subst (IsHeld start sent) (sym (ap (λ (directory : DirectoryState). record c.args.self.now { directory = directory }) c.in_err-take.ensures.err)) held
