use Rattle.std.proofs.Common.{◌≡◌, ◌∷◌, ◌++◌, [], Some, slice_get, refl, sym, ap, ◌∙◌, subst}
use Rattle.std.proofs.lemmas.Result.{on_err_weaker, on_ok_weaker}
use Rattle.exh_table.specs.Table.{TableMap}
use Rattle.exh_array.specs.Copies.{CopiesState}
use Rattle.exh_array.specs.Sent.{IsBefore, unpacked}
use Rattle.exh_array.proofs.KeptCopies.{kept_either, lent_there, own_is, sent_one}
use Rattle.exh_array.proofs.Unpacked.{unpacked-length}
use Rattle.exh_array.proofs.copies.Copies.send.Goals as goal

pub send-requires : goal.send-requires
send-requires c =
    let items = c.self.inside.copies.items in
    let start = c.self.inside.start in
    let sent = unpacked start.table c.self.inside.sent in
    let old = c.index_mut-copy.result.now in
    let there : slice_get items c.args.at ≡ Some old = lent_there items c.args.self.now.copies c.args.at old (ap (λ (s : CopiesState). s.copies) c.self.view_is) c.requires c.index_mut-copy.ensures.value in
    subst (λ n. IsBefore n old.since) (unpacked-length start.table c.self.inside.sent) (c.self.invariant.held c.args.at old there).before

pub invariant_of-self : goal.invariant_of-self
invariant_of-self c =
    let items = c.self.inside.copies.items in
    let start = c.self.inside.start in
    let sent = unpacked start.table c.self.inside.sent in
    let old = c.index_mut-copy.result.now in
    let there : slice_get items c.args.at ≡ Some old = lent_there items c.args.self.now.copies c.args.at old (ap (λ (s : CopiesState). s.copies) c.self.view_is) c.requires c.index_mut-copy.ensures.value in
    let held = c.self.invariant.held c.args.at old there in
    kept_either start items sent (unpacked start.table c.send.new.sent) c.args.at old c.send.new.self c.send.result c.self.invariant there c.send.ensures.directory (c.send.ensures.held start.table held)
    (c.send.ensures.ok start.table held) c.send.ensures.err (on_err_weaker c.send.result (ap (unpacked start.table)) c.send.ensures.unsent)

pub returns-clause-ok : goal.returns-clause-ok
returns-clause-ok c own own_at =
    let items = c.self.inside.copies.items in
    let start = c.self.inside.start in
    let sent = unpacked start.table c.self.inside.sent in
    let old = c.index_mut-copy.result.now in
    let there : slice_get items c.args.at ≡ Some old = lent_there items c.args.self.now.copies c.args.at old (ap (λ (s : CopiesState). s.copies) c.self.view_is) c.requires c.index_mut-copy.ensures.value in
    let own_is_old = own_is items c.args.at old own there (subst (λ (s : CopiesState). slice_get s.copies c.args.at ≡ Some own) (sym c.self.view_is) own_at) in
    on_ok_weaker c.send.result (λ is. sent_one _ c.args.self.now c.self.view_is items refl c.args.at c.send.new.self old (unpacked start.table c.send.new.sent) own there c.send.ensures.directory (is ∙ ap (λ (t : TableMap). sent ++ t ∷ []) (sym own_is_old)))
    (c.send.ensures.ok start.table (c.self.invariant.held c.args.at old there))
