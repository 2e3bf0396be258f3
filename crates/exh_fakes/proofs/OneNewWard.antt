-- The one ward that a live file begins with.
use Rattle.std.proofs.Common.{◌≡◌, ℕ, zero, suc, List, [], ◌∷◌, slice_get, Some, refl, sym, subst}
use Rattle.exh_page.specs.declared.file_settings.FileSettings.{FileSettings}
use Rattle.exh_ward.specs.WardState.{WardState}
use Rattle.exh_live.specs.LiveFile.{AreNewWardsOf, IsNewWardOf}

module _ {K : Type 0} (cap : ℕ) (keyer : K) (only : WardState K) (is : IsNewWardOf cap 0 keyer 0 only) where
  -- those of a file that has it alone
  abbrev settings : FileSettings K
  settings = record { cap = cap; ward_bits = 0; keyer = keyer }

  each_is : (number : ℕ) (ward : WardState K) → slice_get (only ∷ []) number ≡ Some ward → IsNewWardOf cap 0 keyer number ward
  each_is zero ward at = subst (IsNewWardOf cap 0 keyer 0) (same at) is
    where
      same : Some only ≡ Some ward → only ≡ ward
      same at = cc
  each_is (suc number) ward at = cc

  pub one_new_ward : (wards : List (WardState K)) → wards ≡ only ∷ [] → AreNewWardsOf settings wards
  one_new_ward wards are = subst (AreNewWardsOf settings) (sym are) (record { count = refl; each = each_is })
