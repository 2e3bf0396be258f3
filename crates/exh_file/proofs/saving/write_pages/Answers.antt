use borrow.Author.Rules.{scaled_Fits}
use Rattle.std.proofs.Common.{◌≡◌, ℕ, ◌<◌, List, length, get_or, slice_get, Some, Err, refl, sym, ap, ◌∙◌, subst, arith}
use Rattle.std.specs.Prelude.{slice_set}
use Rattle.std.specs.List.{AllByRecursion, flat_map}
use Rattle.std.proofs.lemmas.List.{take_all}
use Rattle.std.proofs.lemmas.Option.{slice_get-get_or}
use Rattle.exh_prefix.specs.PrefixListLemmas.{set_same}
use Rattle.exh_prefix.specs.Layout.{written_version}
use Rattle.exh_keyer.specs.declared.any_keyer.AnyKeyer.{AnyKeyer}
use Rattle.exh_stream.specs.Output.{Takes}
use Rattle.exh_stream.specs.OutputLemmas.{OnErr-from, Takes-none}
use Rattle.exh_codec.specs.PageImage.{IsInRange}
use Rattle.exh_format.specs.PageFile.{page_block}
use Rattle.exh_ward.specs.WardState.{WardState}
use Rattle.exh_file.specs.SaveFault.{CountsSaveFailures}
use Rattle.exh_file.specs.Saved.{AreUnchanged, failures_in}
use Rattle.exh_file.proofs.Going.{all_pages_in, blocks_cut, blocks_next, one_ward, one_ward_blocks, pages_join, ward_blocks_join}
use Rattle.exh_file.proofs.Left.{counted_as, one_counted, one_touched}
use Rattle.exh_file.specs.LeftLemmas.{still_the_same}
use Rattle.exh_file.proofs.Lists.{next_all}
use Rattle.exh_file.proofs.saving.write_pages.Goals as goal

less_as : {number many same : ℕ} → number < many → same ≡ many → number < same
less_as less is = omega (arith, less, is)

abbrev blocks_in : List (WardState AnyKeyer) → List ℕ
blocks_in wards = flat_map page_block (all_pages_in wards)

there : (wards now : List (WardState AnyKeyer)) (at : ℕ) (ward : WardState AnyKeyer) → now ≡ wards → slice_get now at ≡ Some ward → slice_get wards at ≡ Some ward
there wards now at ward same is = subst (λ (ws : List (WardState AnyKeyer)). slice_get ws at ≡ Some ward) same is

pub offset_bounds-wards-number : goal.offset_bounds-wards-number
offset_bounds-wards-number g c = scaled_Fits c.loop-number.number (length c.args.wards.now) _ c.loop-number-test.true assumption

pub write_ward-requires : goal.write_ward-requires
write_ward-requires g c =
    let inv = c.loop-number.invariant in
    let number = c.loop-number.number in
    let now = c.loop-number.wards in
    let ward = get_or now number c.index-wards-number.result in
    let less = less_as c.loop-number-test.true (ap length inv.wards) in
    c.requires number ward (there c.args.wards.now now number ward inv.wards (slice_get-get_or now number c.index-wards-number.result less))

pub loop-number-init : goal.loop-number-init
loop-number-init g c = record { writer = refl; taken = Takes-none g.W.Write.contents c.args.output.now; ranges = tt; wards = refl }

pub returns-in_err-write_ward-clause-failures : goal.returns-in_err-write_ward-clause-failures
returns-in_err-write_ward-clause-failures g c =
    let inv = c.loop-number.invariant in
    let number = c.loop-number.number in
    let now = c.loop-number.wards in
    let ward = get_or now number c.index-wards-number.result in
    let less = less_as c.loop-number-test.true (ap length inv.wards) in
    let is = slice_get-get_or now number c.index-wards-number.result less in
    let fault = c.in_err-write_ward.field-0.0 in
    let left = slice_set now number c.write_ward.new.ward in
    counted_as c.from_residual.result fault (failures_in c.args.wards.now) (failures_in left) c.from_residual.ensures.1
    (subst (λ (wards : List (WardState AnyKeyer)). CountsSaveFailures {T = Unit {0}} (Err fault) (failures_in wards) (failures_in left)) inv.wards
    (one_counted now number ward c.write_ward.new.ward is {T = Unit {0}} (Err fault) c.in_err-write_ward.ensures.failures))

pub returns-clause-ok : goal.returns-clause-ok
returns-clause-ok g c =
    let all = take_all c.loop-number.number c.args.wards.now c.loop-number-test.false in
    subst (λ (wards : List (WardState AnyKeyer)). Takes g.W.Write.contents c.args.output.now c.loop-number.output (blocks_in wards)) all c.loop-number.invariant.taken

pub returns-clause-pages : goal.returns-clause-pages
returns-clause-pages g c =
    let all = take_all c.loop-number.number c.args.wards.now c.loop-number-test.false in
    subst (λ (wards : List (WardState AnyKeyer)). AllByRecursion (IsInRange written_version) (all_pages_in wards)) all c.loop-number.invariant.ranges

pub returns-clause-wards : goal.returns-clause-wards
returns-clause-wards g c = subst (AreUnchanged c.args.wards.now) (sym c.loop-number.invariant.wards) (still_the_same c.args.wards.now)

pub returns-clause-failures : goal.returns-clause-failures
returns-clause-failures g c = ap failures_in c.loop-number.invariant.wards

pub returns-in_err-write_ward-clause-err : goal.returns-in_err-write_ward-clause-err
returns-in_err-write_ward-clause-err g c =
    let inv = c.loop-number.invariant in
    let number = c.loop-number.number in
    let now = c.loop-number.wards in
    let ward = get_or now number c.index-wards-number.result in
    let less = less_as c.loop-number-test.true (ap length inv.wards) in
    let is = there c.args.wards.now now number ward inv.wards (slice_get-get_or now number c.index-wards-number.result less) in
    OnErr-from c.from_residual.result (blocks_cut blocks_in ward_blocks_join c.args.wards.now number ward is (flat_map page_block ward.pages) (one_ward_blocks ward) inv.taken c.in_err-write_ward.ensures.err)

pub returns-in_err-write_ward-clause-wards : goal.returns-in_err-write_ward-clause-wards
returns-in_err-write_ward-clause-wards g c =
    let inv = c.loop-number.invariant in
    let number = c.loop-number.number in
    let now = c.loop-number.wards in
    let ward = get_or now number c.index-wards-number.result in
    let less = less_as c.loop-number-test.true (ap length inv.wards) in
    let is = slice_get-get_or now number c.index-wards-number.result less in
    subst (λ (ws : List (WardState AnyKeyer)). AreUnchanged ws (slice_set now number c.write_ward.new.ward)) inv.wards (one_touched now number ward c.write_ward.new.ward is c.in_err-write_ward.ensures.ward)

pub loop-number-preserved : goal.loop-number-preserved
loop-number-preserved g c =
    let inv = c.loop-number.invariant in
    let number = c.loop-number.number in
    let now = c.loop-number.wards in
    let ward = get_or now number c.index-wards-number.result in
    let less = less_as c.loop-number-test.true (ap length inv.wards) in
    let is_now = slice_get-get_or now number c.index-wards-number.result less in
    let is = there c.args.wards.now now number ward inv.wards is_now in
    record {
      writer = c.in_ok-write_ward.ensures.same_writer ∙ inv.writer;
      taken = blocks_next blocks_in ward_blocks_join c.args.wards.now number ward is (flat_map page_block ward.pages) (one_ward_blocks ward) inv.taken c.in_ok-write_ward.ensures.ok;
      ranges = next_all all_pages_in pages_join c.args.wards.now number ward is ward.pages (one_ward ward) (IsInRange written_version) inv.ranges c.in_ok-write_ward.ensures.pages;
      wards = ap (λ (w : WardState AnyKeyer). slice_set now number w) c.in_ok-write_ward.ensures.same ∙ set_same now number ward is_now ∙ inv.wards;
    }
