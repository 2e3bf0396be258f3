use Rattle.std.proofs.Common.{◌≡◌, ◌<◌, get_or}
use Rattle.std.proofs.lemmas.Option.{slice_get-get_or}
use Rattle.std.proofs.lemmas.Result.{IfErr-weaker}
use Rattle.exh_file.specs.declared.save_fault.SaveFault.TheVariants.{Page}
use Rattle.exh_ward.specs.WardState.{WardState}
use Rattle.exh_keyer.specs.declared.any_keyer.AnyKeyer.{AnyKeyer}
use Rattle.exh_file.specs.Saved.{HasCountedOf}
use Rattle.exh_file.proofs.ward_lows.low_at.Goals as goal

pub returns-clause-counted : goal.returns-clause-counted
returns-clause-counted g c =
    let wards = c.args.wards.now in
    let ward : WardState AnyKeyer = get_or wards c.args.at.ward c.index-wards-at.result in
    let there = slice_get-get_or wards c.args.at.ward c.index-wards-at.result c.requires.ward in
    let Counted : Type 0 = (store : g.row.P.Denot) × (ward.failures < g.P.Pages.failures store) in
    let counted : Counted → HasCountedOf g.P.Pages.failures wards = λ has. (has.0, c.args.at.ward, ward, there, has.1) in
    IfErr-weaker c.low_of.result (λ fault. fault ≡ Page → Counted) (λ fault. fault ≡ Page → HasCountedOf g.P.Pages.failures wards) (λ fault why page. counted (why page)) c.low_of.ensures.counted
