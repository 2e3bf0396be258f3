-- A ward of a new file.
use Rattle.std.proofs.Common.{◌≡◌, ℕ, zero, suc, ◌<◌, ◌≤◌, Bool, List, [], ◌∷◌, lit<, None, Some, refl, sym, ap, ◌∙◌, subst, arith}
use Rattle.std.specs.FinMap as fin
use Rattle.std.specs.List.{sum_by}
use Rattle.exh_prefix.specs.BitLemmas.{length-bits_of}
use Rattle.exh_notice.specs.declared.entry.Entry.{Entry}
use Rattle.exh_notice.specs.declared.notice.Notice.{Notice}
use Rattle.exh_legal.specs.Table.{TableMap}
use Rattle.exh_legal.specs.SetLemmas.{no_entries, since_nothing}
use Rattle.exh_page.specs.declared.page.TheConstants.{CAP_LIMIT}
use Rattle.exh_page.specs.declared.page.Page.{Page}
use Rattle.exh_page.specs.declared.page.Page.TheVariants.{Live}
use Rattle.exh_page.specs.Page.{IsWellFormed}
use Rattle.exh_page.specs.KeyMap.{KeyMap}
use Rattle.exh_legal.specs.Growth.{IsPageOf}
use Rattle.exh_legal.specs.LegalLaws.{LonePagesAreLegal}
use Rattle.exh_legal.specs.ChangeNumbers.{index_of}
use Rattle.exh_prefix.specs.Leading.{ward_prefix}
use Rattle.exh_ward.specs.WardKept.{IsKeptWard}
use Rattle.exh_legal.specs.PageIndex.{IndexMap, IsIndexOf}
use Rattle.exh_ward.specs.WardState.{WardState}
use Rattle.exh_prefix.specs.declared.prefix.TheConstants.{WARD_BITS_LIMIT}
use Rattle.exh_calls.specs.declared.journal_entry.JournalEntry.{JournalEntry}
use Rattle.std.specs.Ordering.{nat_cmp}

no_index : index_of fin.empty ≡ 0
no_index = ap (sum_by (λ (e : List Bool × Entry). e.1.number)) no_entries

pub first_alone : (page : Page) (low number : ℕ) → 0 < number → IsPageOf (page ∷ []) low number → ⊥
first_alone page low zero some is = omega arith
first_alone page low (suc number) some is = cc

pub no_pages : (page : Page) → IsIndexOf fin.empty (page ∷ [])
no_pages page low number = (λ found. let none : None ≡ Some number = sym (fin.get-empty nat_cmp low) ∙ found in cc, λ is. absurd (first_alone page low number is.0 is.1))

module _ {K : Type 0} (law : LonePagesAreLegal) {pseudo : List ℕ → ℕ} {takes : Page → Type 0} (cap ward_bits number failures : ℕ) (keyer : K) (takes_all : (page : Page) → IsWellFormed pseudo page → takes page)
    (bits : ward_bits ≤ WARD_BITS_LIMIT) (some : 1 ≤ cap) (most : cap ≤ CAP_LIMIT) where
  abbrev fresh : WardState K
  fresh = record {
    pages = Live (ward_prefix ward_bits number) None [] ∷ [];
    base = fin.empty;
    journal = [];
    start = fin.empty;
    notices = [];
    table = fin.empty;
    failures = failures;
    cap = cap;
    ward_bits = ward_bits;
    number = number;
    keyer = keyer;
  }

  fresh_kept : IsKeptWard pseudo takes (ward_prefix ward_bits number) fin.empty 0 fresh
  fresh_kept = record {
    sound = record {
      legal = law cap pseudo (ward_prefix ward_bits number) (omega (arith, bits, length-bits_of ward_bits number));
      since = since_nothing;
      numbered = λ place notice is. cc;
      counted = omega arith;
      notices = λ notice there. absurd (omega (arith, there.1));
      history = tt;
      left = refl;
    };
    own_is = refl;
    bits = bits;
    some = some;
    most = most;
    takes_all = takes_all;
    indexed = no_pages _;
    told_is = sym no_index;
    told_few = lit< tt;
  }

  module _ {pages : List Page} {base : KeyMap} {journal : List JournalEntry} {start table : TableMap} {notices : List Notice} {index : IndexMap} {own : List Bool} where
    pub kept_new : pages ≡ Live (ward_prefix ward_bits number) None [] ∷ [] → base ≡ fin.empty → journal ≡ [] → start ≡ fin.empty → notices ≡ [] → table ≡ fin.empty → index ≡ fin.empty → own ≡ ward_prefix ward_bits number
        → IsKeptWard pseudo takes own index 0
        (let w : WardState K = record { pages = pages; base = base; journal = journal; start = start; notices = notices; table = table; failures = failures; cap = cap; ward_bits = ward_bits; number = number; keyer = keyer } in w)
    kept_new is_pages is_base is_journal is_start is_notices is_table is_index is_own =
        let ward = λ (pages : List Page) (base : KeyMap) (journal : List JournalEntry) (start : TableMap) (notices : List Notice) (table : TableMap).
        (let w : WardState K = record { pages = pages; base = base; journal = journal; start = start; notices = notices; table = table; failures = failures; cap = cap; ward_bits = ward_bits; number = number; keyer = keyer } in w) in
        let first = Live (ward_prefix ward_bits number) None [] ∷ [] in
        let one : List Page → Type 0 = λ pages. IsKeptWard pseudo takes own index 0 (ward pages base journal start notices table) in
        let two : KeyMap → Type 0 = λ base. IsKeptWard pseudo takes own index 0 (ward first base journal start notices table) in
        let three : List JournalEntry → Type 0 = λ journal. IsKeptWard pseudo takes own index 0 (ward first fin.empty journal start notices table) in
        let four : TableMap → Type 0 = λ start. IsKeptWard pseudo takes own index 0 (ward first fin.empty [] start notices table) in
        let five : List Notice → Type 0 = λ notices. IsKeptWard pseudo takes own index 0 (ward first fin.empty [] fin.empty notices table) in
        let six : TableMap → Type 0 = λ table. IsKeptWard pseudo takes own index 0 (ward first fin.empty [] fin.empty [] table) in
        let seven : IndexMap → Type 0 = λ index. IsKeptWard pseudo takes own index 0 (ward first fin.empty [] fin.empty [] fin.empty) in
        let eight : List Bool → Type 0 = λ own. IsKeptWard pseudo takes own fin.empty 0 (ward first fin.empty [] fin.empty [] fin.empty) in
        subst one (sym is_pages) (subst two (sym is_base) (subst three (sym is_journal) (subst four (sym is_start) (subst five (sym is_notices) (subst six (sym is_table) (subst seven (sym is_index) (subst eight (sym is_own) fresh_kept)))))))
