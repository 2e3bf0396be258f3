-- The wards of a new file.
use Rattle.std.specs.Prelude.{ℕ, ◌^◌, List, [], ◌∷◌, map, None}
use Rattle.std.specs.List.{range_with_len}
use Rattle.std.specs.FinMap.{empty}
use Rattle.exh_page.specs.declared.page.Page.TheVariants.{Live}
use Rattle.exh_prefix.specs.Leading.{ward_prefix}
use Rattle.exh_page.specs.declared.file_settings.FileSettings.{FileSettings}
use Rattle.exh_ward.specs.WardState.{WardState}

-- a ward of one page, of all its keys, with no record
abbrev pub empty_ward : {K : Type 0} → ℕ → ℕ → ℕ → K → WardState K
empty_ward cap ward_bits number keyer = record {
  pages = Live (ward_prefix ward_bits number) None [] ∷ [];
  base = empty;
  journal = [];
  start = empty;
  notices = [];
  table = empty;
  failures = 0;
  cap = cap;
  ward_bits = ward_bits;
  number = number;
  keyer = keyer;
}

-- the ward of a number
abbrev pub new_ward : {K : Type 0} → FileSettings K → ℕ → WardState K
new_ward settings number = empty_ward settings.cap settings.ward_bits number settings.keyer

-- one for each number, in order
abbrev pub new_wards : {K : Type 0} → FileSettings K → List (WardState K)
new_wards settings = map (new_ward settings) (range_with_len 0 (2 ^ settings.ward_bits))
