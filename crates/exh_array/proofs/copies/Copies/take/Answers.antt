use Rattle.std.proofs.Common.{◌≡◌, Some, slice_get, refl, sym, ap, ◌∙◌, subst}
use Rattle.std.proofs.lemmas.Result.{on_ok_weaker}
use Rattle.exh_table.specs.Table.{TableMap, table_with}
use Rattle.exh_array.specs.Copies.{CopiesState}
use Rattle.exh_array.specs.Sent.{unpacked}
use Rattle.exh_array.proofs.KeptCopies.{kept_set, lent_there, own_is, written}
use Rattle.exh_array.proofs.copies.Copies.take.Goals as goal

pub invariant_of-self : goal.invariant_of-self
invariant_of-self c =
    let items = c.self.inside.copies.items in
    let start = c.self.inside.start in
    let sent = unpacked start.table c.self.inside.sent in
    let old = c.index_mut-copy.result.now in
    let there : slice_get items c.args.at ≡ Some old = lent_there items c.args.self.now.copies c.args.at old (ap (λ (s : CopiesState). s.copies) c.self.view_is) c.requires c.index_mut-copy.ensures.value in
    kept_set start items sent c.self.invariant c.args.at old c.take.new.self there (c.take.ensures.array start.pointers.ward_bits (c.self.invariant.arrays c.args.at old there))
    (c.take.ensures.held start.table sent (c.self.invariant.held c.args.at old there))

pub returns-clause-ok : goal.returns-clause-ok
returns-clause-ok c own own_at =
    let items = c.self.inside.copies.items in
    let start = c.self.inside.start in
    let sent = unpacked start.table c.self.inside.sent in
    let old = c.index_mut-copy.result.now in
    let there : slice_get items c.args.at ≡ Some old = lent_there items c.args.self.now.copies c.args.at old (ap (λ (s : CopiesState). s.copies) c.self.view_is) c.requires c.index_mut-copy.ensures.value in
    let own_is_old = own_is items c.args.at old own there (subst (λ (s : CopiesState). slice_get s.copies c.args.at ≡ Some own) (sym c.self.view_is) own_at) in
    on_ok_weaker c.take.result (λ is. written _ c.args.self.now c.self.view_is items refl c.args.at c.take.new.self (λ s. table_with own c.args.notice.now) (is ∙ ap (λ (t : TableMap). table_with t c.args.notice.now) (sym own_is_old))) c.take.ensures.ok
