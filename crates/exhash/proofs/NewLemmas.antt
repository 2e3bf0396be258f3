-- The wards of a new file.
use Rattle.std.proofs.Common.{◌≡◌, ℕ, ◌^◌, List, length, slice_get, Some, ap, ◌∙◌, subst}
use Rattle.exh_keyer.specs.declared.any_keyer.AnyKeyer.{AnyKeyer}
use Rattle.exh_page.specs.FileSettings.{AreInRange}
use Rattle.exh_page.specs.declared.file_settings.FileSettings.{FileSettings}
use Rattle.exh_map.specs.NewWardLemmas.{count_of_new, new_ward_at}
use Rattle.exh_map.specs.NewWards.{new_ward, new_wards}
use Rattle.exh_map.specs.WardState.{WardState}
use Rattle.exh_map.specs.Opened.{AreWardsOf, in_file}

module _ (settings : FileSettings AnyKeyer) (wards : List (WardState AnyKeyer)) (made : wards ≡ new_wards settings) where
  pub new_at : (number : ℕ) (ward : WardState AnyKeyer) → slice_get wards number ≡ Some ward → ward ≡ new_ward settings number
  new_at number ward is_there = (new_ward_at settings number ward (subst (λ (ws : List (WardState AnyKeyer)). slice_get ws number ≡ Some ward) made is_there)).1

  pub new_count : length wards ≡ 2 ^ settings.ward_bits
  new_count = ap length made ∙ count_of_new settings

  pub new_are : AreInRange settings → AreWardsOf (in_file settings wards)
  new_are range = record {
    some = range.some;
    most = range.most;
    bits = range.bits;
    count = new_count;
    each = λ number ward is_there.
        let is = new_at number ward is_there in
        record {
          cap = ap (λ (w : WardState AnyKeyer). w.cap) is;
          bits = ap (λ (w : WardState AnyKeyer). w.ward_bits) is;
          number_is = ap (λ (w : WardState AnyKeyer). w.number) is;
          keyer = ap (λ (w : WardState AnyKeyer). w.keyer) is;
        };
  }
