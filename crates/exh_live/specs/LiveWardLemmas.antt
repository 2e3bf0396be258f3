-- The wards of a new file are those that a live file begins with.
use Rattle.std.proofs.Common.{◌≡◌, List, sym, ap, subst}
use Rattle.exh_page.specs.declared.file_settings.FileSettings.{FileSettings}
use Rattle.exh_ward.specs.NewWardLemmas.{count_of_new, new_ward_at}
use Rattle.exh_ward.specs.NewWards.{new_wards}
use Rattle.exh_ward.specs.WardState.{WardState}
use Rattle.exh_live.specs.LiveFile.{AreNewWardsOf}

pub answered_nothing : {K : Type 0} (settings : FileSettings K) (wards : List (WardState K)) → wards ≡ new_wards settings → AreNewWardsOf settings wards
answered_nothing {K} settings wards made = subst (AreNewWardsOf settings) (sym made) (record {
  count = count_of_new settings;
  each = λ number ward there.
      let is = (new_ward_at settings number ward there).1 in
      record {
        cap_is = ap (λ (w : WardState K). w.cap) is;
        bits = ap (λ (w : WardState K). w.ward_bits) is;
        number_is = ap (λ (w : WardState K). w.number) is;
        keyer_is = ap (λ (w : WardState K). w.keyer) is;
        empty = ap (λ (w : WardState K). w.journal) is;
      };
})
