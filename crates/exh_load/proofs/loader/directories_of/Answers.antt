use Rattle.std.proofs.Common.{length, refl, ◌∙◌, ap}
use Rattle.std.proofs.lemmas.Option.{slice_get_read}
use Rattle.exh_keyer.specs.declared.any_keyer.AnyKeyer.{AnyKeyer}
use Rattle.exh_prefix.specs.PrefixListLemmas.{one_there}
use Rattle.exh_ward.specs.WardState.{WardState}
use Rattle.exh_load.specs.Loader.{IsDirectoryAt}
use Rattle.exh_load.proofs.Items.{each_more}
use Rattle.exh_load.proofs.loader.directories_of.Goals as goal

pub loop-ward-preserved : goal.loop-ward-preserved
loop-ward-preserved g c =
    let wards = c.args.wards.now in
    let index = c.loop-ward.ward-index in
    let here = slice_get_read wards (length wards) index c.ward-item.result refl c.loop-ward-test.true c.ward-item.is in
    each_more (IsDirectoryAt c.args.ward_bits wards) index c.loop-ward.directories.items c.in_ok-directory_of.field-0 c.push.new.self.items c.loop-ward.invariant
    (λ ward there. (c.in_ok-directory_of.ensures.table ∙ c.table.ensures.table ∙ ap (λ (w : WardState AnyKeyer). w.table) (one_there wards index c.ward-item.result ward here there), c.in_ok-directory_of.ensures.bits)) c.in_ok-push.ensures.items
