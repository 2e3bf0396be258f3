use Rattle.std.proofs.Common.{◌≡◌, ◌≤◌, IsSome, refl, sym, ap, ◌∙◌, subst}
use Rattle.std.specs.FinMap as map
use Rattle.exh_prefix.specs.declared.prefix.TheConstants.{LIMIT}
use Rattle.exh_table.specs.Table.{TableMap, table_at}
use Rattle.exh_table.specs.SetLemmas.{put_back}
use Rattle.exh_table.specs.RaisedLemmas.{raised_here, raised_elsewhere}
use Rattle.exh_array.specs.Pointers.{PointerArray, DirectoryState, HasArrayOf}
use Rattle.exh_array.proofs.directory.Directory.put_greater.Goals as goal

pub update-requires : goal.update-requires
update-requires c = (
  c.self.inside.table,
  c.self.invariant.0.array,
  λ at apart. sym (ap (λ (table : TableMap). map.get table at) c.in_ok-stood.ensures.ok ∙ raised_elsewhere c.self.inside.table c.args.prefix c.args.entry at apart),
)

pub put_back-requires : goal.put_back-requires
put_back-requires c =
    let P : TableMap → Type 0 = λ table. IsSome (map.get table c.args.prefix) in
    subst P (sym c.in_ok-stood.ensures.ok) (subst IsSome (sym (raised_here c.self.inside.table c.args.prefix c.args.entry)) refl)

-- the table is as before
undone : (c : goal.After-put_back) → c.put_back.new.self ≡ c.self.inside.table
undone c =
    c.put_back.ensures
    ∙ ap (λ (table : TableMap). table_at table c.args.prefix c.in_ok-stood.stood) c.in_ok-stood.ensures.ok
    ∙ ap (table_at _ c.args.prefix) c.in_ok-stood.ensures.stood
    ∙ put_back c.self.inside.table c.args.prefix c.args.entry

-- so is the directory
undone_all : (c : goal.After-put_back) → record { table = c.put_back.new.self; pointers = c.update.new.self } ≡ c.args.self.now
undone_all c =
    let both : record { table = c.put_back.new.self; pointers = c.update.new.self } ≡ record { table = c.self.inside.table; pointers = c.self.inside.pointers } =
    λ i. record { table = undone c i; pointers = c.in-Err.ensures.err i } in
    both ∙ c.self.view_is

pub invariant_of-self-in-Err : goal.invariant_of-self-in-Err
invariant_of-self-in-Err c =
    let P : TableMap → PointerArray → Type 0 = λ table array. HasArrayOf array.ward_bits (record { table = table; pointers = array }) × (array.ward_bits ≤ LIMIT) in
    subst (P c.put_back.new.self) (sym c.in-Err.ensures.err) (subst (λ table. P table c.self.inside.pointers) (sym (undone c)) c.self.invariant)

pub returns-in-Err-clause-err : goal.returns-in-Err-clause-err
returns-in-Err-clause-err c = undone_all c

pub returns-in-Err-clause-array : goal.returns-in-Err-clause-array
returns-in-Err-clause-array c =
    subst (HasArrayOf c.args.self.now.pointers.ward_bits) (sym (undone_all c))
    (subst (λ (directory : DirectoryState). HasArrayOf directory.pointers.ward_bits directory) c.self.view_is c.self.invariant.0)
