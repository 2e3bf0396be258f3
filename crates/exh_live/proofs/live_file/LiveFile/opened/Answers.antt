use Rattle.std.proofs.Common.{◌^◌, ◌≤◌, vec_len, sym, ap, ◌∙◌, subst, arith}
use Rattle.exh_live.specs.LiveFile.{LiveState}
use Rattle.exh_live.specs.WardParts.{parts_of_first}
use Rattle.exh_live.proofs.Parts.{all_back, answers_are, entries_are, entries_back, parts_are}
use Rattle.exh_live.proofs.live_file.LiveFile.opened.Goals as goal

pub put_in_order-requires-clause-few : goal.put_in_order-requires-clause-few
put_in_order-requires-clause-few g c = subst (λ count. count ≤ 16) (sym c.unlock.ensures.count) c.self.invariant.3

pub put_in_order-requires-clause-all : goal.put_in_order-requires-clause-all
put_in_order-requires-clause-all g c =
    let seats = c.args.seats.ok.0 ∙ c.requires.all ∙ sym (ap (λ (file : LiveState g.row.K.Denot). file.seats) c.self.view_is) in
    let back = all_back _ _ _ _ _ _ (vec_len c.self.inside.wards) _ c.stand_up.ensures.parts c.unlock.ensures.answers c.into_share-answers.ensures.parts seats in
    let made = entries_back _ _ _ _ c.unlock.ensures.entries c.into_share-entries.ensures.parts in
    parts_are (parts_of_first (vec_len c.self.inside.wards)) (vec_len c.self.inside.wards) _ _ _ _ _ _ back c.self.invariant.5 c.audit.ensures.answers made c.self.invariant.7 c.audit.ensures.entries ∙ ap parts_of_first (sym c.unlock.ensures.count)

pub returns : goal.returns
returns g c =
    let seats = c.args.seats.ok.0 ∙ c.requires.all ∙ sym (ap (λ (file : LiveState g.row.K.Denot). file.seats) c.self.view_is) in
    let back = all_back _ _ _ _ _ _ (vec_len c.self.inside.wards) _ c.stand_up.ensures.parts c.unlock.ensures.answers c.into_share-answers.ensures.parts seats in
    let made = entries_back _ _ _ _ c.unlock.ensures.entries c.into_share-entries.ensures.parts in
    let first = parts_of_first (vec_len c.self.inside.wards) in
    let answers = answers_are first (vec_len c.self.inside.wards) _ _ _ _ _ _ back c.self.invariant.5 c.audit.ensures.answers made c.self.invariant.7 c.audit.ensures.entries in
    let entries = entries_are first (vec_len c.self.inside.wards) _ _ _ _ _ _ back c.self.invariant.5 c.audit.ensures.answers made c.self.invariant.7 c.audit.ensures.entries in
    let equal = c.audit.ensures.equal answers entries in
    record {
      all = c.requires.all;
      count = c.put_in_order.ensures.count ∙ c.unlock.ensures.count ∙ c.self.invariant.1 ∙ ap (λ (file : LiveState g.row.K.Denot). 2 ^ file.ward_bits) c.self.view_is;
      order = c.put_in_order.ensures.order;
      diaries_are = c.stand_up.ensures.diaries;
      equally_many = omega (arith, equal, c.put_in_order.ensures.entries, c.unlock.ensures.amount, c.unlock.ensures.none, c.stand_up.ensures.amount, c.into_share-answers.ensures.amount, c.into_share-entries.ensures.amount, c.self.invariant.6, c.self.invariant.8);
    }
