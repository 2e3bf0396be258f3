-- The settings of a file are those of its first ward.
use Rattle.std.proofs.Common.{◌≡◌, ℕ, ◌<◌, List, length, refl, sym, ap, ◌∙◌, subst}
use Rattle.std.proofs.Math.ListN.{get_or}
use Rattle.std.proofs.lemmas.Nat.{pow_pos}
use Rattle.std.proofs.lemmas.Option.{slice_get_read}
use Rattle.exh_page.specs.declared.file_settings.FileSettings.{FileSettings}
use Rattle.exh_ward.specs.WardState.{WardState}
use Rattle.exh_live.specs.LiveFile.{AreNewWardsOf, IsNewWardOf, without_seats}

abbrev pub settings_of : {K : Type 0} → WardState K → FileSettings K
settings_of ward = record { cap = ward.cap; ward_bits = ward.ward_bits; keyer = ward.keyer }

same : {K : Type 0} (settings : FileSettings K) (number : ℕ) (ward : WardState K) → IsNewWardOf settings.cap settings.ward_bits settings.keyer number ward → settings_of ward ≡ settings
same {K} settings number ward is =
    ap (λ cap. record { cap = cap; ward_bits = ward.ward_bits; keyer = ward.keyer }) is.cap_is
    ∙ ap (λ bits. record { cap = settings.cap; ward_bits = bits; keyer = ward.keyer }) is.bits
    ∙ ap (λ keyer. record { cap = settings.cap; ward_bits = settings.ward_bits; keyer = keyer }) is.keyer_is

pub settings_of_first : {K : Type 0} (settings : FileSettings K) (wards : List (WardState K)) (ward : WardState K) → AreNewWardsOf settings wards → ward ≡ get_or wards 0 ward → settings_of ward ≡ settings
settings_of_first settings wards ward new is =
    let some : 0 < length wards = subst (λ count. 0 < count) (sym new.count) (pow_pos settings.ward_bits) in
    same settings 0 ward (new.each 0 ward (slice_get_read wards (length wards) 0 ward refl some is))

-- a file of its settings is one of all its wards
pub new_file : {K : Type 0} (own settings : FileSettings K) (wards : List (WardState K)) (ward : WardState K) → own ≡ settings_of ward → AreNewWardsOf settings wards → ward ≡ get_or wards 0 ward → without_seats own ≡ without_seats settings
new_file own settings wards ward made new is = ap without_seats (made ∙ settings_of_first settings wards ward new is)
