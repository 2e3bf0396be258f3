-- A store that was just made.
use Rattle.std.proofs.Common.{◌≡◌, ℕ, List, [], ◌∷◌, length, IsTrue, arith}
use Rattle.std.specs.FinMap as fin
use Rattle.exh_keyer.specs.declared.any_keyer.AnyKeyer.{AnyKeyer}
use Rattle.exh_page.specs.FileSettings.{are_same}
use Rattle.exh_page.specs.declared.file_settings.FileSettings.{FileSettings}
use Rattle.exh_map.specs.FileChange.{HasMap}
use Rattle.exh_map.specs.Opened.{OpenedState, settings_in}
use Rattle.exhash.specs.Store.{IsNew}

pub is_new : (map : OpenedState) (settings : FileSettings AnyKeyer) (pairs : List (List ℕ × List ℕ)) → HasMap map (fin.from_entries pairs) → length pairs ≡ 0 → IsTrue (are_same (settings_in map) settings) → IsNew settings map
is_new map settings [] has none same = record { settings_are = same; pairs = has }
is_new map settings (pair ∷ pairs) has none same = absurd (omega (arith, none))
