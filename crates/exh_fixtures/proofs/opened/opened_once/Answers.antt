use Rattle.std.proofs.Common.{◌≡◌, ◌<◌, List, Bool, [], length, sym, ap, ◌∙◌, subst, arith}
use Rattle.std.specs.FinMap as fin
use Rattle.exh_prefix.specs.BitLemmas.{length-bits_of}
use Rattle.exh_prefix.specs.declared.prefix.TheConstants.{LIMIT}
use Rattle.exh_notice.specs.declared.entry.Entry.{Entry}
use Rattle.exh_table.specs.Table.{TableMap, raised}
use Rattle.exh_page.specs.declared.page.Page.{Page}
use Rattle.exh_legal.specs.LegalLaws.{IsWard}
use Rattle.exh_prefix.specs.Leading.{ward_prefix}
use Rattle.exh_fixtures.specs.OpenedWard.{halves}
use Rattle.exh_fixtures.proofs.OpenedWard.{opened_legal, told}
use Rattle.exh_fixtures.proofs.opened.opened_once.Goals as goal

pub two_pages-requires : goal.two_pages-requires
two_pages-requires g c = omega (arith, c.requires.bits, length-bits_of c.args.ward_bits c.args.number, ap length c.own_prefix-own.ensures)

pub from_pages-requires-clause-legal : goal.from_pages-requires-clause-legal
from_pages-requires-clause-legal g c =
    let own = ward_prefix c.args.ward_bits c.args.number in
    let short : length own < LIMIT = omega (arith, c.requires.bits, length-bits_of c.args.ward_bits c.args.number) in
    let legal = opened_legal _ c.lone_pages_are_legal.ensures c.splits_keep_legal.ensures c.fitting_tables_begin_wards.ensures own short c.args.changes c.requires.odd 2 in
    let table_is : c.put_greater.new.self ≡ told own c.args.changes =
    c.in_ok-put_greater.ensures.ok ∙ ap (λ (table : TableMap). raised table c.own_prefix-own.result c.last_entry.result) c.new-table.ensures
    ∙ ap (λ (prefix : List Bool). raised fin.empty prefix c.last_entry.result) c.own_prefix-own.ensures ∙ ap (λ (entry : Entry). raised fin.empty own entry) c.last_entry.ensures in
    let pages_are : c.in_ok-store.store ≡ halves own = c.in_ok-store.ensures ∙ ap halves c.own_prefix-own.ensures in
    subst (λ (table : TableMap). IsWard 2 (g.K.Keyer.pseudokey_of c.args.keyer) own table [] table c.in_ok-store.store) (sym table_is) (subst (λ (pages : List Page). IsWard 2 (g.K.Keyer.pseudokey_of c.args.keyer) own (told own c.args.changes) [] (told own c.args.changes) pages) (sym pages_are) legal)
