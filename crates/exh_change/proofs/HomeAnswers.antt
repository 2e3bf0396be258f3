-- A call at its home in a legal file, where it doesn't overflow.
use Rattle.std.proofs.Common.{◌≡◌, ◌≢◌, ℕ, ◌<◌, ◌≤◌, ◌^◌, Bool, List, [], length, take, get_or, inl, inr, Option, refl, sym, ap, ◌∙◌, subst, arith}
use Rattle.std.specs.Prelude.{nat_le, slice_set}
use Rattle.std.specs.FinMap as fin
use Rattle.std.proofs.lemmas.Bool.{cases_eq}
use Rattle.std.proofs.lemmas.List.{length-map, take_all}
use Rattle.exh_keyer.specs.Pseudokey.{any_pseudokey}
use Rattle.exh_keyer.specs.PseudokeyFits.{any_pseudokey-lt}
use Rattle.exh_prefix.specs.BitLemmas.{length-bits_of}
use Rattle.exh_prefix.specs.Leading.{ward_of, ward_prefix}
use Rattle.exh_prefix.specs.LowLemmas.{front_shorter}
use Rattle.exh_prefix.specs.Prefix.{low_of}
use Rattle.exh_prefix.specs.PrefixLemmas.{begins_low}
use Rattle.exh_prefix.specs.PrefixListLemmas.{set_same}
use Rattle.exh_table.specs.Table.{TableMap}
use Rattle.exh_page.specs.declared.page.Page.{Page}
use Rattle.exh_page.specs.declared.page.Page.TheVariants.{Forward, Live}
use Rattle.exh_page.specs.declared.record.Record.{Record}
use Rattle.exh_page.specs.KeyMap.{KeyMap}
use Rattle.exh_page.specs.Page.{low_bound, with_records}
use Rattle.exh_page.specs.Records.{value_at}
use Rattle.exh_legal.specs.BareLemmas.{bare_at}
use Rattle.exh_legal.specs.Fit.{FitsPages}
use Rattle.exh_legal.specs.LegalLaws.{FittingTablesBeginWards, IsWard}
use Rattle.exh_legal.specs.Pages.{IsAt, IsLegal, IsWithin, bare, map_of}
use Rattle.exh_calls.specs.Call.{key_of}
use Rattle.exh_calls.specs.MapMachine.{map_after, reply_of}
use Rattle.exh_calls.specs.declared.call.Call.{Call}
use Rattle.exh_ward.specs.declared.hop.Hop.TheVariants.{Done}
use Rattle.exh_ward.specs.AnswerLemmas.{bare_answered}
use Rattle.exh_ward.specs.HopTable.{HopOf, Overflows, pages_after}
use Rattle.exh_ward.specs.PageAnswer.{records_after}
use Rattle.exh_ward.specs.WardLaws.{AnswersKeepLegal, IsLegalAnswer}
use Rattle.exh_cells.specs.Fit.{FitsCells, pages_in}
use Rattle.exh_cells.specs.LegalPlaced.{IsLegalPlaced, pages_of_ward}
use Rattle.exh_cells.specs.PlacedFile.{IsPlaced, PlacedFile, lows_of}
use Rattle.exh_cells.specs.Told.{AreTablesOf}
use Rattle.exh_edits.specs.PlacedLaws.{map_in}
use Rattle.exh_edits.specs.PlacedEdits.{with_page}
use Rattle.exh_change.specs.PlacedSteps.{IsAnswering, IsStep, page_after, reply_at}
use Rattle.exh_change.specs.StepLaws.{IsMachines}
use Rattle.exh_change.proofs.ChangedWard.{IsChange, step_to}
use Rattle.exh_change.proofs.StepsCounts.{few_bits}
use Rattle.exh_change.proofs.HomeReplies.{get_key, reply_is}
use Rattle.exh_change.proofs.LegalWards.{get_in_file, own_ward, table_there, ward_less}
use Rattle.exh_change.proofs.Slots.{ward_of_prefix}
use Rattle.exh_change.proofs.WardPlaces.{lows_set, numbered, set_other, set_own}
use Rattle.exh_change.proofs.WardParts.{else_after, own_after, reply_same}

-- what is cited of answers
pub record AnswerLaws : Type 0 where
  pub begin : FittingTablesBeginWards
  pub answer : AnswersKeepLegal

module _ (laws : AnswerLaws) (file : PlacedFile) (tables : List TableMap) (valid : IsPlaced file) (legal : IsLegalPlaced file tables) (call : Call) (place : ℕ) (prefix : List Bool) (link : Option ℕ) (records : List Record)
    (is : IsAnswering file call place (Live prefix link records)) where
  abbrev bits : ℕ
  bits = file.header.settings.ward_bits

  abbrev cap : ℕ
  cap = file.header.settings.cap

  abbrev pseudo : List ℕ → ℕ
  pseudo = any_pseudokey file.header.settings.keyer

  abbrev k : ℕ
  k = any_pseudokey file.header.settings.keyer (key_of call)

  abbrev page : Page
  page = Live prefix link records

  abbrev w : ℕ
  w = ward_of bits (low_of prefix)

  abbrev ward : List Bool
  ward = ward_prefix bits w

  abbrev own : List Page
  own = pages_of_ward bits file.pages w

  abbrev table : TableMap
  table = get_or tables w fin.empty

  abbrev at : ℕ
  at = pages_in bits w (take place (lows_of file.pages))

  -- ---- its ward

  few : bits ≤ 4
  few = few_bits file.header valid.header

  w_less : w < 2 ^ bits
  w_less = ward_less bits (low_of prefix) few

  is_ward : IsWard cap pseudo ward table [] table own
  is_ward = own_ward file tables few legal.legal w w_less

  here : IsAt own at page
  here = numbered bits w file.pages place page is.there refl

  within : IsWithin ward (with_records [] page)
  within = is_ward.legal.legal.linked.within at (with_records [] page) (bare_at own at page here)

  key_ward : w ≡ ward_of bits k
  key_ward = ward_of_prefix bits k prefix (omega (arith, length-bits_of bits w, front_shorter ward prefix within.0)) within.1 is.home

  small : k < 2 ^ 64
  small = any_pseudokey-lt file.header.settings.keyer (key_of call)

  -- ---- the answer

  abbrev left : List Record
  left = records_after (nat_le cap (length records)) k call records

  abbrev left_page : Page
  left_page = Live prefix link left

  abbrev own_now : List Page
  own_now = slice_set own at left_page

  now_is : pages_after cap pseudo own at call ≡ own_now
  unfolding pages_after
  now_is = rw here refl

  key_there : fin.get (map_of own) (key_of call) ≡ value_at (k, key_of call) records
  key_there = get_key cap pseudo ward own at prefix link records call is_ward.legal.legal here is.home is.fits

  hop : HopOf cap pseudo own at call (Done (reply_of cap pseudo (map_of own) call))
  hop = (
    page,
    record { there = here; below = (begins_low prefix k (omega (arith, within.1)) small is.home).0 },
    is.home,
    (λ (over : Overflows cap (map_of own) page call). is.fits (over.1, over.2, sym key_there ∙ over.0, over.3)),
    refl,
  )

  answered : IsLegalAnswer cap pseudo ward own call (pages_after cap pseudo own at call)
  answered = laws.answer cap pseudo ward own at call (reply_of cap pseudo (map_of own) call) (any_pseudokey-lt file.header.settings.keyer) is_ward.legal.legal hop

  legal_now : IsLegal cap pseudo ward own_now
  legal_now = subst (IsLegal cap pseudo ward) now_is answered.legal

  map_now : map_of own_now ≡ map_after cap pseudo (map_of own) call
  map_now = ap map_of (sym now_is) ∙ answered.map

  fits_now : FitsPages ward table (bare own_now)
  fits_now = subst (FitsPages ward table) (sym (bare_answered cap pseudo own at call) ∙ ap bare now_is) is_ward.fits

  ward_now : IsWard cap pseudo ward table [] table own_now
  ward_now = laws.begin cap pseudo ward table own_now legal_now fits_now

  -- ---- the file

  abbrev pages_now : List Page
  pages_now = slice_set file.pages place left_page

  lows_same : lows_of pages_now ≡ lows_of file.pages
  lows_same = lows_set file.pages place page left_page is.there refl

  own_is : pages_of_ward bits pages_now w ≡ own_now
  own_is = set_own bits w file.pages place page left_page is.there refl refl

  others_are : (other : ℕ) → other ≢ w → pages_of_ward bits pages_now other ≡ pages_of_ward bits file.pages other
  others_are other differ = set_other bits other file.pages place page left_page is.there (λ same. differ (sym same)) (λ same. differ (sym same))

  same_tables : slice_set tables w table ≡ tables
  same_tables = set_same tables w table (table_there file tables valid legal w w_less)

  change : IsChange file tables file.header.page_counts pages_now file.cells w table
  change = record {
    there = w_less;
    others = others_are;
    own = subst (λ (pages : List Page). IsWard cap pseudo ward table [] table pages) (sym own_is) ward_now;
    fits = subst (λ (lows : List ℕ). FitsCells bits file.header.page_counts lows file.cells) (sym lows_same) legal.fits;
    told = subst (λ (lows : List ℕ). AreTablesOf bits lows file.cells (slice_set tables w table)) (sym lows_same)
        (subst (λ (tables : List TableMap). AreTablesOf bits (lows_of file.pages) file.cells tables) (sym same_tables) legal.tables_are);
    places = ap (take (length file.pages)) lows_same ∙ take_all (length file.pages) (lows_of file.pages) (omega (arith, length-map file.pages low_bound));
  }

  -- ---- the map

  abbrev whole : KeyMap
  whole = map_in file

  part : (key : List ℕ) → ward_of bits (pseudo key) ≡ ward_of bits k → fin.get (map_of own) key ≡ fin.get whole key
  part key same = sym (get_in_file file tables few legal.legal key ∙ ap (λ (ward : ℕ). fin.get (map_of (pages_of_ward bits file.pages ward)) key) (same ∙ sym key_ward))

  map_part : (key : List ℕ) → fin.get (map_of (pages_of_ward bits pages_now (ward_of bits (pseudo key)))) key ≡ fin.get (map_after cap pseudo whole call) key
  map_part key = elim (cases_eq (ward_of bits (pseudo key)) w) [
    | inl same ↦
        ap (λ (ward : ℕ). fin.get (map_of (pages_of_ward bits pages_now ward)) key) same ∙ ap (λ (pages : List Page). fin.get (map_of pages) key) own_is ∙ ap (λ (m : KeyMap). fin.get m key) map_now
        ∙ own_after cap bits pseudo few call (map_of own) whole part key (same ∙ key_ward)
    | inr differ ↦
        ap (λ (pages : List Page). fin.get (map_of pages) key) (others_are (ward_of bits (pseudo key)) differ) ∙ sym (get_in_file file tables few legal.legal key)
        ∙ sym (else_after cap bits pseudo few call (map_of own) whole part key (λ same. differ (same ∙ sym key_ward)))
  ]

  answer_step : IsStep file (map_after cap pseudo whole call) (with_page place (page_after file call page) file)
  answer_step = step_to file tables few legal.tables_are.count legal.legal file.header.page_counts pages_now file.cells w table change (map_after cap pseudo whole call) map_part

  reply_there : reply_at file call page ≡ reply_of cap pseudo whole call
  reply_there = reply_is cap pseudo ward own at prefix link records call is_ward.legal.legal here is.home is.fits ∙ reply_same cap bits pseudo few call (map_of own) whole part

  is_machines : IsMachines file call place page
  is_machines = record { reply = reply_there; step = answer_step }

pub home_answers : AnswerLaws → (file : PlacedFile) (tables : List TableMap) (call : Call) (place : ℕ) (page : Page) → IsPlaced file → IsLegalPlaced file tables → IsAnswering file call place page → IsMachines file call place page
home_answers laws file tables call place (Live prefix link records) valid legal is = is_machines laws file tables valid legal call place prefix link records is
home_answers laws file tables call place (Forward low target) valid legal is = absurd is.home
