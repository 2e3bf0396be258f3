use Rattle.std.proofs.Common.{◌≡◌, Some, length, slice_get, refl, sym, ap, ◌∙◌, subst, arith}
use Rattle.std.proofs.lemmas.Result.{on_ok_weaker}
use Rattle.exh_prefix.specs.PrefixListLemmas.{within_there}
use Rattle.exh_table.specs.Table.{TableMap}
use Rattle.exh_table.specs.TableOrder.{table_join}
use Rattle.exh_array.specs.Copies.{CopiesState}
use Rattle.exh_array.specs.Sent.{unpacked}
use Rattle.exh_array.proofs.KeptCopies.{kept_set, lent_there, own_is, written}
use Rattle.exh_array.proofs.Unpacked.{unpacked-length}
use Rattle.exh_array.proofs.copies.Copies.combine.Goals as goal

pub first-first-requires : goal.first-first-requires
first-first-requires c = omega (arith, c.requires.sent, ap (λ (s : CopiesState). length s.sent) c.self.view_is, unpacked-length c.self.inside.start.table c.self.inside.sent)

pub invariant_of-self : goal.invariant_of-self
invariant_of-self c =
    let items = c.self.inside.copies.items in
    let start = c.self.inside.start in
    let sent = unpacked start.table c.self.inside.sent in
    let old = c.index_mut-copy.result.now in
    let there : slice_get items c.args.at ≡ Some old = lent_there items c.args.self.now.copies c.args.at old (ap (λ (s : CopiesState). s.copies) c.self.view_is) c.requires.copy c.index_mut-copy.ensures.value in
    let table = within_there sent c.first-first.result (omega (arith, c.first-first.ensures.within, unpacked-length start.table c.self.inside.sent)) in
    kept_set start items sent c.self.invariant c.args.at old c.combine.new.self there (c.combine.ensures.array start.pointers.ward_bits (c.self.invariant.arrays c.args.at old there))
    (c.combine.ensures.held start.table table.0 (c.self.invariant.held c.args.at old there) table.1 (c.self.invariant.begun c.first-first.result table.0 table.1))

pub returns-clause-ok : goal.returns-clause-ok
returns-clause-ok c own other own_at other_at =
    let items = c.self.inside.copies.items in
    let start = c.self.inside.start in
    let sent = unpacked start.table c.self.inside.sent in
    let old = c.index_mut-copy.result.now in
    let there : slice_get items c.args.at ≡ Some old = lent_there items c.args.self.now.copies c.args.at old (ap (λ (s : CopiesState). s.copies) c.self.view_is) c.requires.copy c.index_mut-copy.ensures.value in
    let own_is_old = own_is items c.args.at old own there (subst (λ (s : CopiesState). slice_get s.copies c.args.at ≡ Some own) (sym c.self.view_is) own_at) in
    let sent_at : slice_get sent c.args.place ≡ Some other = subst (λ (s : CopiesState). slice_get s.sent c.args.place ≡ Some other) (sym c.self.view_is) other_at in
    on_ok_weaker c.combine.result (λ is. written _ c.args.self.now c.self.view_is items refl c.args.at c.combine.new.self (λ s. table_join own other) (is ∙ ap (λ (t : TableMap). table_join t other) (sym own_is_old)))
    (c.combine.ensures.ok start.table other (c.self.invariant.held c.args.at old there) (c.first-first.ensures.same start.table ∙ sent_at))
