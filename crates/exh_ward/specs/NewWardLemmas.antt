-- The wards of a new file, each by its number.
use Rattle.std.proofs.Common.{◌≡◌, ℕ, ◌^◌, ◌<◌, length, slice_get, Some, sym, ◌∙◌, subst, arith}
use Rattle.std.proofs.lemmas.List.FromFn.{get_or-map-range_with_len, length-map-range_with_len}
use Rattle.std.proofs.lemmas.Option.{get_or_from_slice_get, slice_get_within}
use Rattle.exh_page.specs.declared.file_settings.FileSettings.{FileSettings}
use Rattle.exh_ward.specs.NewWards.{new_ward, new_wards}
use Rattle.exh_ward.specs.WardState.{WardState}

module _ {K : Type 0} (settings : FileSettings K) where
  pub count_of_new : length (new_wards settings) ≡ 2 ^ settings.ward_bits
  count_of_new = length-map-range_with_len (new_ward settings) 0 (2 ^ settings.ward_bits)

  pub new_ward_at : (number : ℕ) (ward : WardState K) → slice_get (new_wards settings) number ≡ Some ward → (number < 2 ^ settings.ward_bits) × (ward ≡ new_ward settings number)
  new_ward_at number ward is =
      let within = subst (λ length. number < length) count_of_new (slice_get_within (new_wards settings) number ward is) in
      (within, sym (get_or_from_slice_get (new_wards settings) number ward ward is) ∙ get_or-map-range_with_len (new_ward settings) 0 (2 ^ settings.ward_bits) number number ward within (omega arith))
