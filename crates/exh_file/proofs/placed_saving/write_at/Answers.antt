use borrow.Author.Rules.{scaled_Fits}
use Rattle.std.proofs.Common.{◌≡◌, ℕ, ◌<◌, ◌++◌, List, length, get_or, slice_get, Some, Err, sym, ap, ◌∙◌, subst}
use Rattle.std.specs.Prelude.{slice_set}
use Rattle.std.proofs.lemmas.Option.{slice_get-get_or}
use Rattle.exh_prefix.specs.PrefixListLemmas.{set_same}
use Rattle.exh_keyer.specs.declared.any_keyer.AnyKeyer.{AnyKeyer}
use Rattle.exh_page.specs.declared.page.Page.{Page}
use Rattle.exh_stream.specs.Output.{Takes, TakesBeginning}
use Rattle.exh_stream.specs.OutputLemmas.{OnErr-from, TakesBeginning-none}
use Rattle.exh_format.specs.PageFile.{page_block}
use Rattle.exh_placing.specs.Writing.{opening}
use Rattle.exh_ward.specs.WardState.{WardState}
use Rattle.exh_file.specs.Saved.{AreUnchanged, failures_in}
use Rattle.exh_file.specs.LeftLemmas.{still_the_same}
use Rattle.exh_file.proofs.Left.{counted_as, one_counted, one_touched}
use Rattle.exh_file.proofs.Places.{own_is}
use Rattle.exh_file.proofs.placed_saving.write_at.Goals as goal

pub offset_bounds-wards-at : goal.offset_bounds-wards-at
offset_bounds-wards-at g c = scaled_Fits c.args.at.ward (length c.args.wards.now) _ c.requires.ward assumption

pub read_block-requires-clause-there : goal.read_block-requires-clause-there
read_block-requires-clause-there g c =
    let wards = c.args.wards.now in
    let ward = get_or wards c.args.at.ward c.index-wards-at.result in
    let is = slice_get-get_or wards c.args.at.ward c.index-wards-at.result c.requires.ward in
    subst (λ (pages : List Page). c.args.at.number < length pages) (own_is wards c.args.at.ward ward is) c.requires.page

pub read_block-requires-clause-cap : goal.read_block-requires-clause-cap
read_block-requires-clause-cap g c =
    let wards = c.args.wards.now in
    c.requires.caps c.args.at.ward (get_or wards c.args.at.ward c.index-wards-at.result) (slice_get-get_or wards c.args.at.ward c.index-wards-at.result c.requires.ward)

pub returns-in_err-read_block-clause-err : goal.returns-in_err-read_block-clause-err
returns-in_err-read_block-clause-err g c = OnErr-from c.from_residual.result (λ page is. TakesBeginning-none g.W.Write.contents c.args.output.now (opening c.args.cells.now c.args.place ++ page_block page))

pub returns-in_err-read_block-clause-wards : goal.returns-in_err-read_block-clause-wards
returns-in_err-read_block-clause-wards g c =
    let wards = c.args.wards.now in
    let ward = get_or wards c.args.at.ward c.index-wards-at.result in
    let is = slice_get-get_or wards c.args.at.ward c.index-wards-at.result c.requires.ward in
    one_touched wards c.args.at.ward ward c.read_block.new.ward is c.in_err-read_block.ensures.ward

pub returns-in_err-read_block-clause-failures : goal.returns-in_err-read_block-clause-failures
returns-in_err-read_block-clause-failures g c =
    let wards = c.args.wards.now in
    let ward = get_or wards c.args.at.ward c.index-wards-at.result in
    let is = slice_get-get_or wards c.args.at.ward c.index-wards-at.result c.requires.ward in
    let left = slice_set wards c.args.at.ward c.read_block.new.ward in
    counted_as c.from_residual.result c.in_err-read_block.field-0.0 (failures_in wards) (failures_in left) c.from_residual.ensures.1
    (one_counted wards c.args.at.ward ward c.read_block.new.ward is {T = Unit {0}} (Err c.in_err-read_block.field-0.0) c.in_err-read_block.ensures.failures)

same_wards : (wards : List (WardState AnyKeyer)) (at : ℕ) (ward left : WardState AnyKeyer) → slice_get wards at ≡ Some ward → left ≡ ward → slice_set wards at left ≡ wards
same_wards wards at ward left is same = ap (λ (w : WardState AnyKeyer). slice_set wards at w) same ∙ set_same wards at ward is

pub returns-in_err-write_place-clause-err : goal.returns-in_err-write_place-clause-err
returns-in_err-write_place-clause-err g c =
    let wards = c.args.wards.now in
    let ward = get_or wards c.args.at.ward c.index-wards-at.result in
    let is = slice_get-get_or wards c.args.at.ward c.index-wards-at.result c.requires.ward in
    let own = own_is wards c.args.at.ward ward is in
    OnErr-from c.from_residual-in_err-write_place.result (λ page there.
    let read = c.in_ok-read_block.ensures.block page (subst (λ (pages : List Page). slice_get pages c.args.at.number ≡ Some page) own there) in
    subst (λ (block : List ℕ). TakesBeginning g.W.Write.contents c.args.output.now c.write_place.new.output (opening c.args.cells.now c.args.place ++ block)) read.0 c.in_err-write_place.ensures.err)

pub returns-clause-ok : goal.returns-clause-ok
returns-clause-ok g c page there =
    let wards = c.args.wards.now in
    let ward = get_or wards c.args.at.ward c.index-wards-at.result in
    let is = slice_get-get_or wards c.args.at.ward c.index-wards-at.result c.requires.ward in
    let own = own_is wards c.args.at.ward ward is in
    let read = c.in_ok-read_block.ensures.block page (subst (λ (pages : List Page). slice_get pages c.args.at.number ≡ Some page) own there) in
    (subst (λ (block : List ℕ). Takes g.W.Write.contents c.args.output.now c.write_place.new.output (opening c.args.cells.now c.args.place ++ block)) read.0 c.in_ok-write_place.ensures.ok, read.1)

pub returns-in_err-write_place-clause-wards : goal.returns-in_err-write_place-clause-wards
returns-in_err-write_place-clause-wards g c =
    let wards = c.args.wards.now in
    let ward = get_or wards c.args.at.ward c.index-wards-at.result in
    let is = slice_get-get_or wards c.args.at.ward c.index-wards-at.result c.requires.ward in
    subst (AreUnchanged wards) (sym (same_wards wards c.args.at.ward ward c.read_block.new.ward is c.in_ok-read_block.ensures.same)) (still_the_same wards)

pub returns-clause-same : goal.returns-clause-same
returns-clause-same g c =
    let wards = c.args.wards.now in
    let ward = get_or wards c.args.at.ward c.index-wards-at.result in
    let is = slice_get-get_or wards c.args.at.ward c.index-wards-at.result c.requires.ward in
    same_wards wards c.args.at.ward ward c.read_block.new.ward is c.in_ok-read_block.ensures.same

pub returns-clause-wards : goal.returns-clause-wards
returns-clause-wards g c =
    let wards = c.args.wards.now in
    let ward = get_or wards c.args.at.ward c.index-wards-at.result in
    let is = slice_get-get_or wards c.args.at.ward c.index-wards-at.result c.requires.ward in
    subst (AreUnchanged wards) (sym (same_wards wards c.args.at.ward ward c.read_block.new.ward is c.in_ok-read_block.ensures.same)) (still_the_same wards)
