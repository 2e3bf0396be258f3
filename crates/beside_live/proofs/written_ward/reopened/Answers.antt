use Rattle.std.proofs.Common.{rules, ◌≡◌, ◌<◌, List, [], ◌∷◌, ◌++◌, length, take, slice_get, Some, sym, ap, ◌∙◌, arith}
use Rattle.std.proofs.Math.Seq.{take-length}
use Rattle.std.proofs.lemmas.Option.{slice_get_within}
use Rattle.exh_keyer.specs.Pseudokey.{plain_pseudokey}
use Rattle.exh_page.specs.declared.page.Page.{Page}
use Rattle.beside_live.proofs.Reopened.{begun, one_more}
use Rattle.beside_live.proofs.written_ward.reopened.Goals as goal

pub loop-number-preserved : goal.loop-number-preserved
loop-number-preserved c =
    let pages : List Page = c.args.ward.now.pages in
    let there : slice_get pages c.loop-number.number ≡ Some c.in_ok-page.page = search rules in
    let inside : c.loop-number.number < length pages = slice_get_within pages c.loop-number.number c.in_ok-page.page there in
    let pushed : c.push.new.self.items ≡ c.loop-number.pages.items ++ c.in_ok-page.page ∷ [] = search rules in
    record {
      within = omega (arith, inside);
      pages = pushed ∙ ap (λ front. front ++ c.in_ok-page.page ∷ []) c.loop-number.invariant.pages ∙ sym (one_more pages c.loop-number.number c.in_ok-page.page there);
      ward = search rules;
    }

pub from_pages-requires-clause-legal : goal.from_pages-requires-clause-legal
from_pages-requires-clause-legal c =
    let ward_is : c.loop-number.ward ≡ c.args.ward.now = c.loop-number.invariant.ward in
    let all : c.loop-number.number ≡ length c.args.ward.now.pages = search rules in
    let pages_is : c.in_ok-store.store ≡ c.loop-number.ward.pages =
    c.in_ok-store.ensures ∙ c.loop-number.invariant.pages ∙ ap (λ n. take n c.args.ward.now.pages) all ∙ take-length c.args.ward.now.pages ∙ ap (λ ward. ward.pages) (sym ward_is) in
    let table_is : c.in_ok-table.table ≡ c.loop-number.ward.table = search rules in
    begun c.fitting_tables_begin_wards.ensures (λ _ key. plain_pseudokey key) c.loop-number.ward c.args.keyer c.in_ok-table.table c.in_ok-store.store c.table.ensures.sound
    (ap (λ ward. ward.cap) ward_is ∙ c.requires.cap)
    (ap (λ ward. ward.ward_bits) ward_is ∙ c.requires.bits)
    (ap (λ ward. ward.number) ward_is ∙ c.requires.number)
    (ap (λ ward. ward.keyer) ward_is ∙ c.requires.keyer)
    table_is
    pages_is
