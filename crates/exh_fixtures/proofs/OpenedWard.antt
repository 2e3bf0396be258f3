-- A ward of two empty pages, whose start table has a split at the ward's prefix, of whatever odd number, is legal.
use Rattle.std.proofs.Common.{◌≡◌, ℕ, zero, suc, ◌+◌, ◌<◌, ◌%◌, Bool, true, false, cond, List, [], ◌∷◌, ◌++◌, length, slice_get, Option, None, Some, inl, inr, refl, sym, ap, ◌∙◌, subst, arith}
use Rattle.std.specs.FinMap as fin
use Rattle.std.specs.Option.{option_map_or}
use Rattle.std.specs.Ordering.{eq_by_cmp}
use Rattle.std.proofs.lemmas.Bool.{cases_Bool, false≢true}
use Rattle.exh_prefix.specs.declared.prefix.TheConstants.{LIMIT}
use Rattle.exh_prefix.specs.Prefix.{low_of, prefix_cmp}
use Rattle.exh_prefix.specs.PrefixLemmas.{prefix_cmp-total, prefix_cmp-exact}
use Rattle.exh_notice.specs.declared.entry.Entry.{Entry}
use Rattle.exh_notice.specs.declared.entry.Kind.{Kind}
use Rattle.exh_notice.specs.declared.entry.Kind.TheVariants.{Split, Merge}
use Rattle.exh_notice.specs.declared.notice.Notice.{Notice}
use Rattle.exh_table.specs.Table.{TableMap, greater_of, raised}
use Rattle.exh_table.specs.TableWalk.{right_of, split_at}
use Rattle.exh_page.specs.declared.page.Page.{Page}
use Rattle.exh_page.specs.declared.page.Page.TheVariants.{Live}
use Rattle.exh_page.specs.Page.{low_bound}
use Rattle.exh_legal.specs.Change.{IsSplit}
use Rattle.exh_legal.specs.Fit.{FitsPages, IsMergeAt, IsWardEntry}
use Rattle.exh_legal.specs.LegalLaws.{FittingTablesBeginWards, IsChanged, IsWard, LonePagesAreLegal, SplitsKeepLegal}
use Rattle.exh_prefix.specs.PrefixListLemmas.{is_equal}
use Rattle.exh_prefix.specs.LowLemmas.{own_front, right_above}
use Rattle.exh_legal.specs.ChangeNumbers.{number_at}
use Rattle.exh_legal.specs.Pages.{IsAt}
use Rattle.exh_fixtures.specs.OpenedWard.{entry_of_split, halves}

abbrev is_merge : Kind → Bool
is_merge (Split right) = false
is_merge Merge = true

abbrev is_some : Option Entry → Bool
is_some None = false
is_some (Some entry) = true

-- ---- the table: one entry, at the ward's prefix

abbrev pub told : List Bool → ℕ → TableMap
told own number = raised fin.empty own (entry_of_split number)

module _ (own : List Bool) where
  abbrev is_own : List Bool → Bool
  is_own prefix = eq_by_cmp prefix_cmp prefix own

  own_is : (prefix : List Bool) → is_own prefix ≡ true → prefix ≡ own
  own_is prefix tied = prefix_cmp-exact prefix own (is_equal (prefix_cmp prefix own) tied)

  get_told : (number : ℕ) (prefix : List Bool) → fin.get (told own number) prefix ≡ cond (is_own prefix) (Some (entry_of_split number)) None
  get_told number prefix =
      let table : TableMap = fin.empty in
      let entry = entry_of_split number in
      fin.get-insert prefix_cmp-total table own (greater_of (fin.get table own) entry) prefix
      ∙ ap (λ (found : Option Entry). cond (is_own prefix) (Some (greater_of found entry)) (fin.get table prefix)) (fin.get-empty prefix_cmp own)
      ∙ ap (λ (found : Option Entry). cond (is_own prefix) (Some entry) found) (fin.get-empty prefix_cmp prefix)

  get_own : (number : ℕ) (prefix : List Bool) → is_own prefix ≡ true → fin.get (told own number) prefix ≡ Some (entry_of_split number)
  get_own number prefix tied = get_told number prefix ∙ ap (λ b. cond b (Some (entry_of_split number)) None) tied

  get_else : (number : ℕ) (prefix : List Bool) → is_own prefix ≡ false → fin.get (told own number) prefix ≡ None
  get_else number prefix differs = get_told number prefix ∙ ap (λ b. cond b (Some (entry_of_split number)) None) differs

  right_told : (b : Bool) (number : ℕ) → right_of (cond b (Some (entry_of_split number)) None) ≡ cond b (Some 1) None
  right_told true number = refl
  right_told false number = refl

  split_told : (number : ℕ) (prefix : List Bool) → split_at (told own number) prefix ≡ cond (is_own prefix) (Some 1) None
  split_told number prefix = ap right_of (get_told number prefix) ∙ right_told (is_own prefix) number

  -- the splits don't tell the number
  same_split : (number other : ℕ) (prefix : List Bool) → split_at (told own number) prefix ≡ split_at (told own other) prefix
  same_split number other prefix = split_told number prefix ∙ sym (split_told other prefix)

  no_merge : (number : ℕ) (prefix : List Bool) → IsMergeAt (told own number) prefix → ⊥
  no_merge number prefix merge = elim (cases_Bool (is_own prefix)) [
    | inl tied ↦
        let both : Some (entry_of_split number) ≡ Some (record { number = merge.0; kind = Merge }) = sym (get_own number prefix tied) ∙ merge.1 in
        let entry_is : entry_of_split number ≡ record { number = merge.0; kind = Merge } = cc in
        absurd (false≢true (ap (λ (entry : Entry). is_merge entry.kind) entry_is))
    | inr differs ↦ absurd (false≢true (ap is_some (sym (get_else number prefix differs) ∙ merge.1)))
  ]

-- ---- the pages: those of a split of an empty page that may hold no record

module _ (pseudo : List ℕ → ℕ) (lone : LonePagesAreLegal) (splits : SplitsKeepLegal) (begin : FittingTablesBeginWards) (own : List Bool) (short : length own < LIMIT) where
  abbrev before : List Page
  before = Live own None [] ∷ []

  abbrev first : Notice
  first = record { ward = 0; index = 1; prefix = own; number = 1; kind = Split 1 }

  only_at : (page other : Page) (number : ℕ) → IsAt (page ∷ []) number other → page ≡ other
  only_at page other zero is = cc
  only_at page other (suc number) is = cc

  alone : (number : ℕ) (page : Page) → IsAt before number page → low_bound page ≡ low_of (own ++ true ∷ []) → ⊥
  alone number page is same = absurd (omega (arith, right_above own short, same, ap low_bound (only_at (Live own None []) page number is)))

  others_stay : (number : ℕ) → (number ≡ 0 → ⊥) → (number ≡ 1 → ⊥) → slice_get (halves own) number ≡ slice_get before number
  others_stay zero here there = absurd (here refl)
  others_stay (suc zero) here there = absurd (there refl)
  others_stay (suc (suc number)) here there = refl

  is_split : IsSplit 0 before 0 own 1 (halves own)
  is_split = record {
    link = None;
    records = [];
    there = refl;
    full = omega arith;
    short = short;
    left = refl;
    right_half = refl;
    place = inr (record { none = alone; last = refl; more = refl });
    others = others_stay;
  }

  changed : IsChanged 0 pseudo own fin.empty [] fin.empty before first (halves own)
  changed =
      let numbered : 1 ≡ number_at fin.empty own + 1 = ap (λ (found : Option Entry). option_map_or (λ entry. entry.number) found 0 + 1) (sym (fin.get-empty prefix_cmp own)) in
      splits 0 pseudo own fin.empty [] fin.empty before 0 own 1 (halves own) first (lone 0 pseudo own (omega (arith, short))) is_split refl numbered refl

  module _ (number : ℕ) (odd : number % 2 ≡ 1) where
    entries : (prefix : List Bool) (entry : Entry) → fin.get (told own number) prefix ≡ Some entry → IsWardEntry own prefix entry
    entries prefix entry is = elim (cases_Bool (is_own own prefix)) [
      | inl tied ↦
          let both : Some (entry_of_split number) ≡ Some entry = sym (get_own own number prefix tied) ∙ is in
          let entry_is : entry_of_split number ≡ entry = cc in
          subst (λ at. IsWardEntry own at entry) (sym (own_is own prefix tied)) (subst (IsWardEntry own own) entry_is (record { within = own_front own; some = omega (arith, odd); parity = odd }))
      | inr differs ↦ let none : None ≡ Some entry = sym (get_else own number prefix differs) ∙ is in cc
    ]

    fits : FitsPages own (told own number) (halves own)
    fits = record {
      entries = entries;
      splits = λ prefix. (
        λ split. (changed.fits.splits prefix).0 (split.0, same_split own 1 number prefix ∙ split.1),
        λ is. let split = (changed.fits.splits prefix).1 is in (split.0, same_split own number 1 prefix ∙ split.1),
      );
      merges = λ prefix. (λ merge. absurd (no_merge own number prefix merge), λ is. absurd (no_merge own 1 prefix ((changed.fits.merges prefix).1 is)));
      rights = λ prefix right is. changed.fits.rights prefix right (same_split own 1 number prefix ∙ is);
    }

    pub opened_legal : (cap : ℕ) → IsWard cap pseudo own (told own number) [] (told own number) (halves own)
    opened_legal cap =
        begin cap pseudo own (told own number) (halves own) (record {
          each = ((record { rising = tt; hashed = tt; begun = tt }, omega arith), ((record { rising = tt; hashed = tt; begun = tt }, omega arith), tt));
          linked = changed.legal.legal.linked;
        }) fits
