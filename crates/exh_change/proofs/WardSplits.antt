-- A full page of a legal file, which is shorter than LIMIT: what its ward says of a split.
use Rattle.std.proofs.Common.{◌≡◌, ◌≢◌, ℕ, ◌-◌, ◌%◌, ◌^◌, ◌<◌, ◌≤◌, Bool, true, List, [], ◌∷◌, ◌++◌, length, get_or, slice_get, Option, Some, refl, sym, ap, ◌∙◌, subst, arith}
use Rattle.std.specs.FinMap.{empty}
use Rattle.exh_keyer.specs.Pseudokey.{any_pseudokey}
use Rattle.exh_prefix.specs.declared.prefix.TheConstants.{LIMIT}
use Rattle.exh_prefix.specs.BitLemmas.{length-bits_of}
use Rattle.exh_prefix.specs.Leading.{ward_of, ward_prefix}
use Rattle.exh_prefix.specs.LowLemmas.{front_shorter, right_above}
use Rattle.exh_prefix.specs.Prefix.{low_of}
use Rattle.exh_prefix.specs.PrefixListLemmas.{one_there}
use Rattle.exh_notice.specs.declared.entry.Kind.TheVariants.{Split}
use Rattle.exh_table.specs.Table.{TableMap}
use Rattle.exh_page.specs.declared.page.Page.{Page}
use Rattle.exh_page.specs.declared.page.Page.TheVariants.{Live}
use Rattle.exh_page.specs.declared.record.Record.{Record}
use Rattle.exh_page.specs.Page.{low_bound, with_records}
use Rattle.exh_legal.specs.BareLemmas.{bare_at}
use Rattle.exh_legal.specs.Change.{IsSplit}
use Rattle.exh_legal.specs.ChangeNumbers.{next_notice}
use Rattle.exh_legal.specs.LegalLaws.{FittingTablesBeginWards, IsChanged, IsWard, LivePagesSplit, PagesAreFew, SplitsKeepLegal, IsSplittable as WardSplits}
use Rattle.exh_legal.specs.Pages.{map_of}
use Rattle.exh_cells.specs.declared.cell.Cell.{Cell}
use Rattle.exh_cells.specs.LegalPlaced.{IsLegalPlaced, pages_of_ward}
use Rattle.exh_cells.specs.PlacedFile.{IsPlaced, PlacedFile}
use Rattle.exh_change.specs.PlacedSteps.{IsFullIn, slot_of}
use Rattle.exh_change.proofs.StepsCounts.{few_bits}
use Rattle.exh_change.proofs.InPlace.{CellLaws}
use Rattle.exh_change.proofs.LegalWards.{own_ward, ward_less}
use Rattle.exh_change.proofs.Slots.{next_table, stands, table_number_is}

-- what is cited of splits
pub record SplitLaws : Type 0 where
  pub cells : CellLaws
  pub begin : FittingTablesBeginWards
  pub split : SplitsKeepLegal
  pub live : LivePagesSplit
  pub few : PagesAreFew

module _ (laws : SplitLaws) (file : PlacedFile) (tables : List TableMap) (valid : IsPlaced file) (legal : IsLegalPlaced file tables) (place : ℕ) (prefix : List Bool) (link : Option ℕ) (records : List Record) (cell : Cell)
    (is : IsFullIn file place prefix link records cell) where
  abbrev bits : ℕ
  bits = file.header.settings.ward_bits

  abbrev cap : ℕ
  cap = file.header.settings.cap

  abbrev pseudo : List ℕ → ℕ
  pseudo = any_pseudokey file.header.settings.keyer

  abbrev pub page : Page
  page = Live prefix link records

  abbrev pub w : ℕ
  w = ward_of bits (low_of prefix)

  abbrev pub ward : List Bool
  ward = ward_prefix bits w

  abbrev pub own : List Page
  own = pages_of_ward bits file.pages w

  abbrev pub table : TableMap
  table = get_or tables w empty

  pub few : bits ≤ 4
  few = few_bits file.header valid.header

  pub w_less : w < 2 ^ bits
  w_less = ward_less bits (low_of prefix) few

  pub standing : slice_get own cell.number ≡ Some page
  standing = stands file tables valid legal place page cell is.there.page_is is.there.cell_is w refl

  pub is_ward : IsWard cap pseudo ward table [] table own
  is_ward = own_ward file tables few legal.legal w w_less

  pub length_ward : length ward ≡ bits
  length_ward = length-bits_of bits w

  pub long : bits ≤ length prefix
  long =
      let within = is_ward.legal.legal.linked.within cell.number (with_records [] page) (bare_at own cell.number page standing) in
      omega (arith, length_ward, front_shorter ward prefix within.0)

  pub splits : WardSplits table own prefix
  splits = laws.live cap pseudo ward table [] table own prefix cell.number is_ward (link, records, standing) is.short

  pub even : (slot_of cell (length prefix)).number % 2 ≡ 0
  even =
      let number = table_number_is laws.cells.slots file tables valid legal place page cell is.there.page_is is.there.cell_is prefix refl is.short long in
      ap (λ (n : ℕ). n % 2) (sym number) ∙ splits.even

  -- the right half's low bound is another one
  pub lows_differ : low_of prefix ≡ low_of (prefix ++ true ∷ []) → ⊥
  lows_differ same = omega (arith, same, right_above prefix is.short)

  -- no page but its own has the low bound
  pub not_here : (number : ℕ) (other : Page) → slice_get own number ≡ Some other → low_bound other ≡ low_of (prefix ++ true ∷ []) → number ≢ cell.number
  not_here number other at low same =
      let alike = one_there own cell.number other page (subst (λ (n : ℕ). slice_get own n ≡ Some other) same at) standing in
      lows_differ (sym (ap low_bound alike) ∙ low)

  -- ---- the ward after a split

  module _ (right : ℕ) (new : List Page) (split : IsSplit cap own cell.number prefix right new) where
    abbrev pub table_after : TableMap
    table_after = next_table laws.cells.slots file tables valid legal place page cell is.there.page_is is.there.cell_is prefix refl is.short long (Split right)

    changed : IsChanged cap pseudo ward table [] table own (next_notice w table prefix (Split right)) new
    changed = laws.split cap pseudo ward table [] table own cell.number prefix right new (next_notice w table prefix (Split right)) is_ward split refl refl refl

    pub ward_after : IsWard cap pseudo ward table_after [] table_after new
    ward_after = laws.begin cap pseudo ward table_after new changed.legal.legal changed.fits

    pub map_after : map_of new ≡ map_of own
    map_after = changed.map

    pub room_after : length new ≤ 2 ^ (LIMIT - bits)
    room_after = subst (λ (n : ℕ). length new ≤ 2 ^ (LIMIT - n)) length_ward (laws.few ward new (omega (arith, length_ward, few)) changed.legal.legal.linked)
