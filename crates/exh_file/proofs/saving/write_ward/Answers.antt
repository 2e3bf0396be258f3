use Rattle.std.proofs.Common.{◌≡◌, ℕ, ◌+◌, ◌<◌, ◌≤◌, List, [], ◌∷◌, length, take, slice_get, Some, refl, sym, ◌∙◌, subst, arith}
use Rattle.std.specs.List.{AllByRecursion, flat_map}
use Rattle.std.proofs.lemmas.List.{take_all}
use Rattle.exh_prefix.specs.PrefixListLemmas.{within_there}
use Rattle.exh_prefix.specs.Layout.{written_version}
use Rattle.exh_stream.specs.Output.{Takes}
use Rattle.exh_stream.specs.OutputLemmas.{OnErr-from, Takes-none}
use Rattle.exh_keyer.specs.declared.any_keyer.AnyKeyer.{AnyKeyer}
use Rattle.exh_page.specs.declared.page.Page.{Page}
use Rattle.exh_page.specs.declared.page.TheConstants.{CAP_LIMIT}
use Rattle.exh_codec.specs.PageImage.{IsInRange}
use Rattle.exh_format.specs.PageFile.{page_block}
use Rattle.exh_ward.specs.WardState.{WardState}
use Rattle.exh_file.proofs.Going.{blocks_cut, blocks_join, blocks_next, one_page}
use Rattle.exh_file.proofs.Lists.{next_all}
use Rattle.exh_file.proofs.saving.write_ward.Goals as goal

less_as : {number end count : ℕ} → number < end → end ≡ count → number < count
less_as less is = omega (arith, less, is)

all_within : {number end count : ℕ} → end ≤ number → end ≡ count → count ≤ number
all_within past is = omega (arith, past, is)

none_within : (count : ℕ) → 0 ≤ count
none_within count = omega arith

next_within : (number : ℕ) {count : ℕ} → number < count → number + 1 ≤ count
next_within number less = omega (arith, less)

pub write_page-requires-clause-there : goal.write_page-requires-clause-there
write_page-requires-clause-there g c = subst (λ (w : WardState AnyKeyer). c.loop-number.number < length w.pages) (sym c.loop-number.invariant.ward) (less_as c.loop-number-test.true c.page_count-number-end.ensures.count)

pub write_page-requires-clause-cap : goal.write_page-requires-clause-cap
write_page-requires-clause-cap g c = subst (λ (w : WardState AnyKeyer). w.cap ≤ CAP_LIMIT) (sym c.loop-number.invariant.ward) c.requires

pub loop-number-init : goal.loop-number-init
loop-number-init g c = record { within = none_within (length c.args.ward.now.pages); writer = refl; taken = Takes-none g.W.Write.contents c.args.output.now; ranges = tt; ward = refl }

pub loop-number-preserved : goal.loop-number-preserved
loop-number-preserved g c =
    let inv = c.loop-number.invariant in
    let number = c.loop-number.number in
    let pages = c.args.ward.now.pages in
    let less = less_as c.loop-number-test.true c.page_count-number-end.ensures.count in
    let page = within_there pages number less in
    let there : slice_get c.loop-number.ward.pages number ≡ Some page.0 = subst (λ (w : WardState AnyKeyer). slice_get w.pages number ≡ Some page.0) (sym inv.ward) page.1 in
    let gone = c.in_ok-write_page.ensures.ok page.0 there in
    record {
      within = next_within number less;
      writer = c.in_ok-write_page.ensures.same_writer ∙ inv.writer;
      taken = blocks_next (flat_map page_block) blocks_join pages number page.0 page.1 (page_block page.0) (one_page page.0) inv.taken gone.0;
      ranges = next_all (λ (l : List Page). l) (λ front back. refl) pages number page.0 page.1 (page.0 ∷ []) refl (IsInRange written_version) inv.ranges (gone.1, tt);
      ward = c.in_ok-write_page.ensures.same ∙ inv.ward;
    }

pub returns-in_err-write_page-clause-err : goal.returns-in_err-write_page-clause-err
returns-in_err-write_page-clause-err g c =
    let inv = c.loop-number.invariant in
    let number = c.loop-number.number in
    let pages = c.args.ward.now.pages in
    let less = less_as c.loop-number-test.true c.page_count-number-end.ensures.count in
    let page = within_there pages number less in
    let there : slice_get c.loop-number.ward.pages number ≡ Some page.0 = subst (λ (w : WardState AnyKeyer). slice_get w.pages number ≡ Some page.0) (sym inv.ward) page.1 in
    OnErr-from c.from_residual.result (blocks_cut (flat_map page_block) blocks_join pages number page.0 page.1 (page_block page.0) (one_page page.0) inv.taken (c.in_err-write_page.ensures.err page.0 there))

pub returns-clause-ok : goal.returns-clause-ok
returns-clause-ok g c =
    let all : take c.loop-number.number c.args.ward.now.pages ≡ c.args.ward.now.pages = take_all c.loop-number.number c.args.ward.now.pages (all_within c.loop-number-test.false c.page_count-number-end.ensures.count) in
    subst (λ (pages : List Page). Takes g.W.Write.contents c.args.output.now c.loop-number.output (flat_map page_block pages)) all c.loop-number.invariant.taken

pub returns-clause-pages : goal.returns-clause-pages
returns-clause-pages g c =
    let all : take c.loop-number.number c.args.ward.now.pages ≡ c.args.ward.now.pages = take_all c.loop-number.number c.args.ward.now.pages (all_within c.loop-number-test.false c.page_count-number-end.ensures.count) in
    subst (AllByRecursion (IsInRange written_version)) all c.loop-number.invariant.ranges
