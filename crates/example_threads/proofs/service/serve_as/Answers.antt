use Rattle.std.proofs.Common.{◌≡◌, List, length, slice_get, sym, ap, ◌∙◌, subst}
use Rattle.exh_keyer.specs.declared.any_keyer.AnyKeyer.{AnyKeyer}
use Rattle.exh_page.specs.declared.file_settings.FileSettings.{FileSettings}
use Rattle.exh_ward.specs.WardState.{WardState}
use Rattle.exh_system.specs.Opened.{AreWardsOf, OpenedState, settings_in}
use Rattle.exh_live.specs.LiveFile.{AreNewWardsOf, LiveState}
use Rattle.example_threads.specs.Unasked.{AreUnasked}
use Rattle.example_threads.proofs.service.serve_as.Goals as goal

-- a file's wards of which nothing was asked are those that a live file begins with
new_wards : (opened : OpenedState) (wards : List (WardState AnyKeyer)) → wards ≡ opened.wards → AreWardsOf opened → AreUnasked opened → AreNewWardsOf (settings_in opened) wards
new_wards opened wards wards_are are unasked = record {
  count = ap length wards_are ∙ are.count;
  each = λ number ward there.
      let own = ap (λ (all : List (WardState AnyKeyer)). slice_get all number) (sym wards_are) ∙ there in
      let is = are.each number ward own in
      record { cap_is = is.cap; bits = is.bits; number_is = is.number_is; keyer_is = is.keyer; empty = unasked number ward own };
}

pub new-requires-clause-wards : goal.new-requires-clause-wards
new-requires-clause-wards g c =
    let wards = c.into_wards-wards.result.items in
    (settings_in c.args.opened, new_wards c.args.opened wards c.into_wards-wards.ensures.wards c.into_wards-wards.ensures.each c.requires.unasked, c.requires.hashed)

pub serve_copy-requires-clause-bits : goal.serve_copy-requires-clause-bits
serve_copy-requires-clause-bits g c κs within =
    let news = new_wards c.args.opened c.into_wards-wards.result.items c.into_wards-wards.ensures.wards c.into_wards-wards.ensures.each c.requires.unasked in
    ap (λ (file : LiveState AnyKeyer). file.ward_bits) (c.in_ok-file.ensures (settings_in c.args.opened) news)
    ∙ sym (ap (λ (settings : FileSettings AnyKeyer). settings.ward_bits) c.settings-settings.ensures)
