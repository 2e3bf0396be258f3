use Rattle.std.proofs.Common.{◌≡◌, List, Some, slice_get, refl, sym, ap, ◌∙◌, subst}
use Rattle.std.specs.Prelude.{slice_set}
use Rattle.exh_prefix.specs.PrefixListLemmas.{set_same}
use Rattle.exh_array.specs.Pointers.{DirectoryState, HasArrayOf}
use Rattle.exh_table.specs.Table.{TableMap}
use Rattle.exh_array.specs.Copies.{CopiesState}
use Rattle.exh_array.specs.Held.{IsHeld}
use Rattle.exh_array.specs.KeptCopies.{tables_of}
use Rattle.exh_array.specs.Sent.{unpacked}
use Rattle.exh_array.proofs.KeptCopies.{kept_set, lent_there, table_there, written}
use Rattle.exh_array.proofs.copies.Copies.restart.Goals as goal

pub returns-then-is_at_start-clause-ok : goal.returns-then-is_at_start-clause-ok
returns-then-is_at_start-clause-ok c =
    let items = c.self.inside.copies.items in
    let start = c.self.inside.start in
    let sent = unpacked start.table c.self.inside.sent in
    let old = c.index-copy.result.now in
    let there : slice_get items c.args.at ≡ Some old = lent_there items c.args.self.now.copies c.args.at old (ap (λ (s : CopiesState). s.copies) c.self.view_is) c.requires c.index-copy.ensures in
    let is : old.directory.table ≡ start.table = c.is_at_start.ensures start.table sent (c.self.invariant.held c.args.at old there) c.if-is_at_start.true in
    let same = set_same (tables_of items) c.args.at start.table (table_there items c.args.at old there ∙ ap Some is) in
    subst (λ (s : CopiesState). s ≡ record s { copies = slice_set s.copies c.args.at s.start }) c.self.view_is
    (ap (λ (tables : List TableMap). let then : CopiesState = record { ward_bits = start.pointers.ward_bits; start = start.table; copies = tables; sent = sent } in then) (sym same))

pub invariant_of-self : goal.invariant_of-self
invariant_of-self c =
    let items = c.self.inside.copies.items in
    let start = c.self.inside.start in
    let sent = unpacked start.table c.self.inside.sent in
    let old = c.index_mut.result.now in
    let there : slice_get items c.args.at ≡ Some old = lent_there items c.args.self.now.copies c.args.at old (ap (λ (s : CopiesState). s.copies) c.self.view_is) c.requires c.index_mut.ensures.value in
    let directory : c.new.result.directory ≡ start = c.new.ensures.directory ∙ c.in_ok-start.ensures in
    kept_set start items sent c.self.invariant c.args.at old c.new.result there (subst (HasArrayOf start.pointers.ward_bits) (sym directory) c.self.invariant.of_start)
    (subst (λ (s : DirectoryState). IsHeld s.table sent c.new.result) c.in_ok-start.ensures (c.new.ensures.held sent))

pub returns-clause-ok : goal.returns-clause-ok
returns-clause-ok c =
    written _ c.args.self.now c.self.view_is c.self.inside.copies.items refl c.args.at c.new.result (λ s. s.start) (ap (λ (s : DirectoryState). s.table) (c.new.ensures.directory ∙ c.in_ok-start.ensures))
