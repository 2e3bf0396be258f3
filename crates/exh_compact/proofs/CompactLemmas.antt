-- Pairs of a file that are in a new one.
use Rattle.std.proofs.Common.{◌≡◌, ℕ, List, [], length, Result, Ok, Err, IfOk, ◌∙◌, ap, subst}
use Rattle.exh_keyer.specs.declared.any_keyer.AnyKeyer.{AnyKeyer}
use Rattle.exh_page.specs.KeyMap.{KeyMap}
use Rattle.exh_page.specs.declared.file_settings.FileSettings.{FileSettings}
use Rattle.exhash.specs.FileChange.{HasMap}
use Rattle.exhash.specs.Opened.{OpenedState}
use Rattle.exhash.specs.Pairs.{pairs_in}
use Rattle.exhash.specs.declared.StoreError.{StoreError}
use Rattle.exh_compact.specs.Compacted.{IsCompacted, IsFilled, full_keys}
use Rattle.exh_compact.specs.declared.compacted.Compacted.{Compacted}
use Rattle.exh_compact.specs.declared.compacted.Compacted.TheVariants.{Full, Wards}
use Rattle.exh_compact.proofs.FillLemmas.{all_of}

module _ (old : OpenedState) (settings : FileSettings AnyKeyer) (pairs : List (List ℕ × List ℕ)) (are : pairs ≡ pairs_in old.wards) (map : (whole : KeyMap) → HasMap old whole → all_of pairs ≡ whole) where
  compacted : (made : Compacted) → IsFilled pairs settings made → IsCompacted old settings made
  compacted (Wards new records) filled = (
    subst (λ (ps : List (List ℕ × List ℕ)). full_keys settings ps ≡ []) are filled.0,
    filled.1 ∙ ap length are,
    record { settings_are = filled.2.settings_are; has = λ whole has. subst (HasMap new) (map whole has) filled.2.has; needed = filled.2.needed },
  )
  compacted (Full keys) filled = (subst (λ (ps : List (List ℕ × List ℕ)). full_keys settings ps ≡ keys.items) are filled.0, filled.1)

  pub compacted_if : (result : Result Compacted StoreError) → IfOk result (IsFilled pairs settings) → IfOk result (IsCompacted old settings)
  compacted_if (Ok made) filled = compacted made filled
  compacted_if (Err fault) filled = tt
