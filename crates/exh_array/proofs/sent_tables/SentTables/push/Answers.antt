use Rattle.std.proofs.Common.{◌≡◌, ◌∷◌, ◌++◌, [], List, length, sym, ap, ◌∙◌, subst}
use Rattle.exh_table.specs.Table.{TableMap}
use Rattle.exh_array.specs.Sent.{GoBack, unpacked}
use Rattle.exh_array.specs.declared.sent_table.SentTable.{SentTable}
use Rattle.exh_array.proofs.Unpacked.{back_pushed, unpacked_on-push}
use Rattle.exh_array.proofs.sent_tables.SentTables.push.Goals as goal

-- the tables once one was pushed
pushed : (c : goal.After-push_reserved) → c.push_reserved.new.self.items ≡ c.args.self.now ++ c.in_ok-sent.sent ∷ []
pushed c =
    c.push_reserved.ensures.items ∙ ap (λ (sent : List SentTable). sent ++ c.in_ok-sent.sent ∷ []) (c.reserve.ensures.items ∙ c.self.view_is)

pub invariant_of-self-2 : goal.invariant_of-self-2
invariant_of-self-2 c =
    subst GoBack (sym (pushed c)) (back_pushed c.args.self.now c.in_ok-sent.sent (subst GoBack c.self.view_is c.self.invariant) (c.in_ok-sent.ensures.before (length c.args.self.now) c.requires))

pub returns-clause-ok : goal.returns-clause-ok
returns-clause-ok c start begun own =
    ap (unpacked start) (pushed c) ∙ unpacked_on-push start [] c.args.self.now c.in_ok-sent.sent
    ∙ ap (λ (table : TableMap). unpacked start c.args.self.now ++ table ∷ []) (sym (c.in_ok-sent.ensures.own start (unpacked start c.args.self.now) begun own))
