-- The wards of an opened file under settings that are its own.
use Rattle.std.proofs.Common.{◌≡◌, ◌^◌, ◌≤◌, List, [], length, cond, Bool, true, false, Ok, Err, eqb, refl, sym, ap, ap₂, ◌∙◌, subst}
use Rattle.std.specs.Prelude.{◌&&◌}
use Rattle.std.proofs.lemmas.Bool.{and_parts, eqb-true}
use Rattle.exh_keyer.specs.declared.any_keyer.AnyKeyer.{AnyKeyer}
use Rattle.exh_keyer.specs.declared.any_keyer.AnyKeyer.TheVariants.{Plain, Sha}
use Rattle.exh_keyer.specs.Pseudokey.{any_pseudokey}
use Rattle.exh_prefix.specs.declared.prefix.TheConstants.{WARD_BITS_LIMIT}
use Rattle.exh_load.specs.Opened.{AreWardsOf, OpenedState}
use Rattle.exh_world.specs.WorldLaws.{WorldsOfWardsAreSound}
use Rattle.exh_world.specs.NewWorld.{AreWardsFor, settings_of, world_of_wards}
use Rattle.exh_world.specs.Sound.{IsSoundWorld}
use Rattle.exh_page.specs.declared.config.Config.{Config}
use Rattle.exh_script.specs.AnyStart.{BeginsSound}
use Rattle.exh_script.specs.Text.{ScriptWorld}
use Rattle.exh_line.specs.declared.refusal.Refusal.TheVariants.{OtherFile}
use Rattle.exh_page.specs.declared.page.TheConstants.{CAP_LIMIT}
use Rattle.exh_ward.specs.WardState.{WardState}
use Rattle.exh_script.specs.ScriptLaws.{IsSoundFile}
use Rattle.exh_script.specs.Left.{file_left}
use Rattle.exh_page.specs.Keyers.{is_same_keyer}
use Rattle.exh_script.specs.OpenedScript.{is_of_file, opened_file}

same_keyer : (keyer other : AnyKeyer) → is_same_keyer keyer other ≡ true → keyer ≡ other
same_keyer Plain Plain is = refl
same_keyer Sha Sha is = refl
same_keyer Plain Sha is = cc
same_keyer Sha Plain is = cc

module _ (opened : OpenedState) (file : Config AnyKeyer) (is : is_of_file opened file ≡ true) where
  parts : ((eqb opened.cap file.cap && eqb opened.ward_bits file.ward_bits) ≡ true) × (is_same_keyer opened.keyer file.keyer ≡ true)
  parts = and_parts (eqb opened.cap file.cap && eqb opened.ward_bits file.ward_bits) (is_same_keyer opened.keyer file.keyer) is

  numbers : (eqb opened.cap file.cap ≡ true) × (eqb opened.ward_bits file.ward_bits ≡ true)
  numbers = and_parts (eqb opened.cap file.cap) (eqb opened.ward_bits file.ward_bits) parts.0

  cap_is : opened.cap ≡ file.cap
  cap_is = eqb-true opened.cap file.cap numbers.0

  bits_is : opened.ward_bits ≡ file.ward_bits
  bits_is = eqb-true opened.ward_bits file.ward_bits numbers.1

  keyer_is : opened.keyer ≡ file.keyer
  keyer_is = same_keyer opened.keyer file.keyer parts.1

  module _ (are : AreWardsOf opened) where
    pub few_bits : file.ward_bits ≤ WARD_BITS_LIMIT
    few_bits = subst (λ bits. bits ≤ WARD_BITS_LIMIT) bits_is are.bits

    pub one_each : length opened.wards ≡ 2 ^ file.ward_bits
    one_each = are.count ∙ ap (λ bits. 2 ^ bits) bits_is

    pub wards_for : AreWardsFor file opened.wards
    wards_for number ward there =
        let own = are.each number ward there in
        record { cap = own.cap ∙ cap_is; bits = own.bits ∙ bits_is; number_is = own.number_is; keyer = own.keyer ∙ keyer_is }

-- ---- what they begin

module _ (opened : OpenedState) (file : Config AnyKeyer) where
  by_test : (own : Bool) → is_of_file opened file ≡ own → cond own (Ok (world_of_wards file opened.wards)) (Err OtherFile) ≡ opened_file opened file
  by_test own is = ap (λ own. cond own (Ok (world_of_wards file opened.wards)) (Err OtherFile)) (sym is)

  pub begun_of_file : is_of_file opened file ≡ true → (world : ScriptWorld) (wards : List (WardState AnyKeyer)) → world ≡ world_of_wards file wards → wards ≡ opened.wards → Ok world ≡ opened_file opened file
  begun_of_file own world wards is are = ap Ok (is ∙ ap (world_of_wards file) are) ∙ by_test true own

  pub begun_of_other : is_of_file opened file ≡ false → Err OtherFile ≡ opened_file opened file
  begun_of_other other = by_test false other

-- ---- the world that they begin is sound

module _ (law : WorldsOfWardsAreSound any_pseudokey) (opened : OpenedState) (are : IsSoundFile opened) (file : Config AnyKeyer) (world : ScriptWorld) where
  begun_sound : (own : Bool) → is_of_file opened file ≡ own → cond own (Ok (world_of_wards file opened.wards)) (Err OtherFile) ≡ Ok world → IsSoundWorld any_pseudokey world × (world.in_flight ≡ [])
  begun_sound true own is =
      let same : world_of_wards file opened.wards ≡ world = cc in
      let P : ScriptWorld → Type 0 = λ w. IsSoundWorld any_pseudokey w × (w.in_flight ≡ []) in
      subst P same (law file opened.wards (few_bits opened file own are.wards) (one_each opened file own are.wards) (wards_for opened file own are.wards) are.sound, refl)
  begun_sound false own is = cc

pub begins_sound : WorldsOfWardsAreSound any_pseudokey → (opened : OpenedState) → IsSoundFile opened → BeginsSound (opened_file opened)
begins_sound law opened are file world within is = begun_sound law opened are file world (is_of_file opened file) refl is

-- ---- the wards of a world, as those of a file

module _ (file : Config AnyKeyer) (world : ScriptWorld) (same : settings_of world file.copies ≡ file) where
  abbrev file_with : Config AnyKeyer → List (WardState AnyKeyer) → OpenedState
  file_with config wards = record { cap = config.cap; ward_bits = config.ward_bits; keyer = config.keyer; wards = wards }

  pub wards_of : (wards : List (WardState AnyKeyer)) → 1 ≤ file.cap → file.cap ≤ CAP_LIMIT → file.ward_bits ≤ WARD_BITS_LIMIT → length wards ≡ 2 ^ world.ward_bits → AreWardsFor (settings_of world file.copies) wards
      → AreWardsOf (file_with file wards)
  wards_of wards some most bits count each = record {
    some = some;
    most = most;
    bits = bits;
    count = count ∙ ap (λ (config : Config AnyKeyer). 2 ^ config.ward_bits) same;
    each = λ number ward there.
        let own = each number ward there in
        record {
          cap = own.cap ∙ ap (λ (config : Config AnyKeyer). config.cap) same;
          bits = own.bits ∙ ap (λ (config : Config AnyKeyer). config.ward_bits) same;
          number_is = own.number_is;
          keyer = own.keyer ∙ ap (λ (config : Config AnyKeyer). config.keyer) same;
        };
  }

  pub left_is : (left : OpenedState) (wards : List (WardState AnyKeyer)) → left ≡ file_with file wards → wards ≡ world.wards → left ≡ file_left world
  left_is left wards is are = is ∙ ap₂ file_with (sym same) are
