-- The world of a script's first line.
use Rattle.std.proofs.Common.{◌≡◌, ℕ, ◌^◌, ◌≤◌, List, [], ◌∷◌, leb, map, flat_map, slice_get, Bool, true, false, cond, Option, Some, None, Result, Ok, Err, refl, ap, subst}
use Rattle.std.specs.Prelude.{◌&&◌}
use Rattle.std.specs.Int.{is_in_range}
use Rattle.std.specs.FinMap.{empty, from_entries}
use Rattle.std.specs.List.{range_with_len}
use Rattle.std.proofs.lemmas.Bool.{leb-true, and_parts}
use Rattle.exh_keyer.specs.declared.any_keyer.AnyKeyer.{AnyKeyer}
use Rattle.exh_keyer.specs.Pseudokey.{any_pseudokey}
use Rattle.exh_page.specs.Page.{records_of}
use Rattle.exh_page.specs.declared.page.TheConstants.{CAP_LIMIT}
use Rattle.exh_page.specs.declared.record.Record.{Record}
use Rattle.exh_text.specs.LineFault.{ranged}
use Rattle.exh_text.specs.TextLines.{words_of}
use Rattle.exh_text.specs.Numbers.{◌>>=◌}
use Rattle.exh_page.specs.KeyMap.{pair_of}
use Rattle.exh_ward.specs.WardState.{WardState}
use Rattle.exh_prefix.specs.declared.prefix.TheConstants.{WARD_BITS_LIMIT}
use Rattle.exh_world.specs.WorldLaws.{NewWorldsAreSound}
use Rattle.exh_ward.specs.NewWards.{new_ward}
use Rattle.exh_world.specs.NewWorld.{new_world}
use Rattle.exh_world.specs.World.{map_in}
use Rattle.exh_page.specs.Config.{file_settings}
use Rattle.exh_page.specs.declared.config.Config.{Config}
use Rattle.exh_world.specs.WorldListLemmas.{mapped_is}
use Rattle.exh_script.specs.Text.{opened, settings_of}
use Rattle.exh_text.specs.FileLine.{file_in_range, settings_in_range, file_line_of, spelled_file}
use Rattle.exh_text.specs.declared.file_line.TheConstants.{COPIES_LIMIT}
use Rattle.exh_text.specs.declared.settings.Settings.{Settings}
use Rattle.exh_line.specs.declared.refusal.Refusal.{Refusal}
use Rattle.exh_text.specs.declared.line_fault.LineFault.TheVariants.{Range}
use Rattle.exh_script.proofs.KeptWorlds.{IsServedWorld}

-- ---- its settings are in their ranges

pub bits_in_range : (file : Config AnyKeyer) → file_in_range file ≡ true → file.ward_bits ≤ WARD_BITS_LIMIT
bits_in_range file is =
    let cap = is_in_range 1 CAP_LIMIT file.cap in
    let bits = is_in_range 0 WARD_BITS_LIMIT file.ward_bits in
    let copies = is_in_range 1 COPIES_LIMIT file.copies in
    leb-true file.ward_bits WARD_BITS_LIMIT (and_parts (leb 0 file.ward_bits) (leb file.ward_bits WARD_BITS_LIMIT) (and_parts cap bits (and_parts (cap && bits) copies is).0).1).1

by_range : (settings read : Settings) (within : Bool) → settings_in_range read ≡ within
    → (let opened : Result Settings Refusal = opened (cond within (Ok read) (Err Range)) in opened) ≡ Ok settings → file_in_range settings.file ≡ true
by_range settings read true is right = let same : read ≡ settings = cc in subst (λ (s : Settings). file_in_range s.file ≡ true) same is
by_range settings read false is right = cc

by_words : (settings : Settings) (spelled : Option Settings) → opened (ranged settings_in_range spelled) ≡ Ok settings → file_in_range settings.file ≡ true
by_words settings None right = cc
by_words settings (Some read) right = by_range settings read (settings_in_range read) refl right

pub in_range : (line : List ℕ) (settings : Settings) → settings_of line ≡ Ok settings → file_in_range settings.file ≡ true
unfolding settings_of file_line_of
in_range line settings right = by_words settings (words_of line >>= spelled_file) right

pub few_ward_bits : (line : List ℕ) (settings : Settings) → settings_of line ≡ Ok settings → settings.file.ward_bits ≤ WARD_BITS_LIMIT
few_ward_bits line settings right = bits_in_range settings.file (in_range line settings right)

-- ---- what the new world has

module _ (file : Config AnyKeyer) where
  no_records : (numbers : List ℕ) → flat_map records_of (flat_map (λ (ward : WardState AnyKeyer). ward.pages) (map (new_ward (file_settings file)) numbers)) ≡ []
  no_records [] = refl
  no_records (number ∷ numbers) = no_records numbers

  pub new_map : map_in (new_world file) ≡ empty
  new_map = ap (λ (records : List Record). from_entries (map pair_of records)) (no_records (range_with_len 0 (2 ^ file.ward_bits)))

  pub new_journal : (number : ℕ) (ward : WardState AnyKeyer) → slice_get (new_world file).wards number ≡ Some ward → ward.journal ≡ []
  new_journal number ward is = ap (λ (w : WardState AnyKeyer). w.journal) (mapped_is (new_ward (file_settings file)) (2 ^ file.ward_bits) number ward is).1

  pub new_kept : NewWorldsAreSound any_pseudokey → file.ward_bits ≤ WARD_BITS_LIMIT → IsServedWorld file.ward_bits file.keyer (new_world file)
  new_kept law few = record {
    sound = law file few;
    bits_are = refl;
    keyer_is = refl;
  }
