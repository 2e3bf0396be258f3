-- A ward that is made of pages.
use Rattle.std.proofs.Common.{◌≡◌, ℕ, ◌-◌, ◌^◌, ◌<◌, ◌≤◌, Bool, List, [], append-nil, length, refl, sym, ◌∙◌, subst, arith}
use Rattle.std.specs.FinMap as fin
use Rattle.std.proofs.Math.Nat.{pow-le-pow_right}
use Rattle.exh_prefix.specs.BitLemmas.{length-bits_of}
use Rattle.exh_prefix.specs.declared.prefix.TheConstants.{LIMIT, WARD_BITS_LIMIT}
use Rattle.exh_notice.specs.declared.notice.Notice.{Notice}
use Rattle.exh_legal.specs.TableLaws.{OwnEntries}
use Rattle.exh_legal.specs.Table.{TableMap, IsTableOf, IsTableSince}
use Rattle.exh_page.specs.declared.page.TheConstants.{CAP_LIMIT}
use Rattle.exh_page.specs.declared.page.Page.{Page}
use Rattle.exh_page.specs.KeyMap.{KeyMap}
use Rattle.exh_page.specs.Page.{IsWellFormed}
use Rattle.exh_legal.specs.BareLemmas.{bare_at, bare_low}
use Rattle.exh_legal.specs.LegalLaws.{EntriesAreFew, IsWard}
use Rattle.exh_legal.specs.ChangeNumbers.{index_of}
use Rattle.exh_legal.specs.Pages.{AreLinked, bare, map_of}
use Rattle.exh_prefix.specs.Leading.{ward_prefix}
use Rattle.exh_calls.specs.declared.journal_entry.JournalEntry.{JournalEntry}
use Rattle.exh_ward.specs.FromPages.{HaveOwnBounds}
use Rattle.exh_ward.specs.WardKept.{IsKeptWard}
use Rattle.exh_legal.specs.PageIndex.{IndexMap, IsIndexOf}
use Rattle.exh_ward.specs.WardState.{WardState}

pub apart_from : (ward : List Bool) (pages : List Page) → AreLinked ward (bare pages) → HaveOwnBounds pages
apart_from ward pages linked one other page twin is too same =
    linked.apart one other _ _ (bare_at pages one page is) (bare_at pages other twin too) (bare_low page ∙ same ∙ sym (bare_low twin))

pub few_entries : EntriesAreFew → {cap : ℕ} {pseudo : List ℕ → ℕ} (ward_bits number : ℕ) → ward_bits ≤ WARD_BITS_LIMIT → {table : TableMap} (pages : List Page) → IsWard cap pseudo (ward_prefix ward_bits number) table [] table pages
    → length (fin.entries table) < 2 ^ LIMIT
few_entries law ward_bits number bits pages legal =
    let own = ward_prefix ward_bits number in
    let few = law own _ pages (omega (arith, bits, length-bits_of ward_bits number)) legal.legal.legal.linked legal.fits in
    omega (arith, few, pow-le-pow_right {n = 2} (omega arith) (let less : LIMIT - length own ≤ LIMIT = omega arith in less))

module _ {K : Type 0} {pseudo : List ℕ → ℕ} {takes : Page → Type 0} (cap ward_bits number failures : ℕ) (keyer : K) (given : List Page) (told_first : TableMap) (own_entries : OwnEntries)
    (legal : IsWard cap pseudo (ward_prefix ward_bits number) told_first [] told_first given) (takes_all : (page : Page) → IsWellFormed pseudo page → takes page)
    (bits : ward_bits ≤ WARD_BITS_LIMIT) (some : 1 ≤ cap) (most : cap ≤ CAP_LIMIT) where
  since : IsTableSince told_first [] told_first
  since = subst (λ told. IsTableOf told told_first) (sym (append-nil (fin.entries told_first))) (own_entries told_first)

  module _ {index : IndexMap} {told : ℕ} (indexed : IsIndexOf index (bare given)) (told_is : told ≡ index_of told_first) (told_few : told < 2 ^ 62) where
    made_kept : IsKeptWard pseudo takes (ward_prefix ward_bits number) index told
        (let w : WardState K = record { pages = given; base = map_of given; journal = []; start = told_first; notices = []; table = told_first; failures = failures; cap = cap; ward_bits = ward_bits; number = number; keyer = keyer } in w)
    made_kept = record {
      sound = record {
        legal = legal;
        since = since;
        numbered = λ place notice is. cc;
        counted = omega arith;
        notices = λ notice there. absurd (omega (arith, there.1));
        history = tt;
        left = refl;
      };
      own_is = refl;
      bits = bits;
      some = some;
      most = most;
      takes_all = takes_all;
      indexed = indexed;
      told_is = told_is;
      told_few = told_few;
    }

    module _ {pages : List Page} {base : KeyMap} {journal : List JournalEntry} {start : TableMap} {notices : List Notice} {own : List Bool} where
      pub kept_made : pages ≡ given → base ≡ map_of given → journal ≡ [] → start ≡ told_first → notices ≡ [] → own ≡ ward_prefix ward_bits number
          → IsKeptWard pseudo takes own index told
          (let w : WardState K = record { pages = pages; base = base; journal = journal; start = start; notices = notices; table = told_first; failures = failures; cap = cap; ward_bits = ward_bits; number = number; keyer = keyer } in w)
      kept_made is_pages is_base is_journal is_start is_notices is_own =
          let ward = λ (pages : List Page) (base : KeyMap) (journal : List JournalEntry) (start : TableMap) (notices : List Notice).
          (let w : WardState K = record { pages = pages; base = base; journal = journal; start = start; notices = notices; table = told_first; failures = failures; cap = cap; ward_bits = ward_bits; number = number; keyer = keyer } in w) in
          let one : List Page → Type 0 = λ pages. IsKeptWard pseudo takes own index told (ward pages base journal start notices) in
          let two : KeyMap → Type 0 = λ base. IsKeptWard pseudo takes own index told (ward given base journal start notices) in
          let three : List JournalEntry → Type 0 = λ journal. IsKeptWard pseudo takes own index told (ward given (map_of given) journal start notices) in
          let four : TableMap → Type 0 = λ start. IsKeptWard pseudo takes own index told (ward given (map_of given) [] start notices) in
          let five : List Notice → Type 0 = λ notices. IsKeptWard pseudo takes own index told (ward given (map_of given) [] told_first notices) in
          let six : List Bool → Type 0 = λ own. IsKeptWard pseudo takes own index told (ward given (map_of given) [] told_first []) in
          subst one (sym is_pages) (subst two (sym is_base) (subst three (sym is_journal) (subst four (sym is_start) (subst five (sym is_notices) (subst six (sym is_own) made_kept)))))
