-- A table fits a ward's pages exactly where each entry is told by a page, and each page but the first has an entry.
use Rattle.std.proofs.Common.{◌≡◌, ℕ, ◌+◌, ◌<◌, ◌≤◌, ◌^◌, Bool, true, false, List, [], ◌∷◌, ◌++◌, length, take, Option, None, Some, inl, inr, refl, sym, ap, ◌∙◌, subst, arith}
use Rattle.std.specs.Prelude.{IsSome, is_some}
use Rattle.std.specs.FinMap.{get}
use Rattle.std.specs.List.{AllByRecursion}
use Rattle.std.specs.Option.{SomeIff}
use Rattle.std.proofs.lemmas.Bool.{false≢true}
use Rattle.std.proofs.lemmas.Bool.Decides.{leb_tells}
use Rattle.std.proofs.lemmas.List.{length_push}
use Rattle.exh_prefix.specs.Bits.{word_bits}
use Rattle.exh_prefix.specs.declared.prefix.TheConstants.{LIMIT}
use Rattle.exh_prefix.specs.Prefix.{IsFront, Begins, HasPrefix, low_of}
use Rattle.exh_prefix.specs.PrefixLemmas.{begins_low, front_of_front, fronts_nest, length-stored, low_of-left_child, low_of-stored, parent_begins}
use Rattle.exh_prefix.specs.BitLemmas.{number_of-zeros}
use Rattle.exh_table.specs.declared.Entry.{Entry}
use Rattle.exh_table.specs.declared.Kind.{Kind}
use Rattle.exh_table.specs.declared.Kind.TheVariants.{Split, Merge}
use Rattle.exh_table.specs.Table.{TableMap}
use Rattle.exh_table.specs.TableWalk.{right_of, split_at}
use Rattle.exh_page.specs.declared.page.Page.{Page}
use Rattle.exh_page.specs.declared.page.Page.TheVariants.{Live, Forward}
use Rattle.exh_page.specs.Page.{IsLive, low_bound}
use Rattle.exh_legal.specs.Fit.{FitsPages, IsInner, IsMergeAt, IsSplitAt, IsWardEntry}
use Rattle.exh_legal.specs.Growth.{IsLiveAt}
use Rattle.exh_prefix.specs.LowLemmas.{begins_own_low, child_short, front_shorter, low_of-HasPrefix, low_of-small, right_above, right_tells_parent}
use Rattle.exh_legal.specs.Pages.{IsAt, IsHome}
use Rattle.exh_legal.specs.LegalParts.{IsBounded}
use Rattle.exh_legal.specs.BuiltIndex.{AreIndex, IsOwnEntry, IsRecordedBy, IsToldBy, page_number_at}
use Rattle.exh_legal.specs.Reasons.{HasLows, HasLeaves}
use Rattle.exh_legal.proofs.Index.{same_page}
use Rattle.exh_legal.proofs.LeafTests.{home_begun}

-- a prefix with the low bound of another's right child has that child as its front
branch_longer : (prefix parent : List Bool) → length prefix ≤ LIMIT → length parent < LIMIT → low_of prefix ≡ low_of (parent ++ true ∷ []) → length parent < length prefix
branch_longer prefix parent short few same = elim (leb_tells (length prefix) (length parent)) [
  | inl less ↦
      let begun : Begins parent (low_of (parent ++ true ∷ [])) = parent_begins parent (low_of (parent ++ true ∷ [])) true (begins_own_low (parent ++ true ∷ []) (child_short parent true few)) in
      let own : Begins prefix (low_of (parent ++ true ∷ [])) = subst (Begins prefix) same (begins_own_low prefix short) in
      let front : IsFront prefix parent = fronts_nest prefix parent (word_bits (low_of (parent ++ true ∷ []))) less.1 own begun in
      let lower : Begins prefix (low_of parent) = front_of_front prefix parent (word_bits (low_of parent)) less.1 front (begins_own_low parent (omega (arith, few))) in
      let reach = begins_low prefix (low_of parent) (omega (arith, short)) (low_of-small parent (omega (arith, few))) lower in
      absurd (omega (arith, reach.0, same, right_above parent few))
  | inr more ↦ more.1
]

branch_front : (prefix parent : List Bool) → length prefix ≤ LIMIT → length parent < LIMIT → low_of prefix ≡ low_of (parent ++ true ∷ []) → IsFront parent prefix
branch_front prefix parent short few same =
    let less = branch_longer prefix parent short few same in
    let begun : Begins parent (low_of (parent ++ true ∷ [])) = parent_begins parent (low_of (parent ++ true ∷ [])) true (begins_own_low (parent ++ true ∷ []) (child_short parent true few)) in
    fronts_nest parent prefix (word_bits (low_of (parent ++ true ∷ []))) (omega (arith, less)) begun (subst (Begins prefix) same (begins_own_low prefix short))

module _ {ward : List Bool} {pages : List Page} (short : length ward ≤ LIMIT) (lows : HasLows ward pages) (leaves : HasLeaves ward pages) (bounded : (number : ℕ) (page : Page) → IsAt pages number page → IsBounded page) where
  low_small : (number : ℕ) (page : Page) → IsAt pages number page → low_bound page < 2 ^ 64
  low_small number (Live prefix right records) is = low_of-small prefix (bounded number _ is)
  low_small number (Forward low target) is = bounded number _ is

  -- the page of a right child's low bound under a proper front of a live prefix is live
  pub record IsLivePage (low : ℕ) : Type 0 where
    pub number : ℕ
    pub page : Page
    pub at : IsAt pages number page
    pub live : IsLive page
    pub low_is : low_bound page ≡ low

  branch_home : (prefix leaf : List Bool) (number : ℕ) → IsFront ward prefix → IsLiveAt pages leaf number → IsFront prefix leaf → length prefix < length leaf
      → (other : ℕ) (page : Page) → IsAt pages other page → IsHome page (low_of (prefix ++ true ∷ [])) → IsLivePage (low_of (prefix ++ true ∷ []))
  branch_home prefix leaf number within live front less other (Live own right records) at home =
      let leaf_short : length leaf ≤ LIMIT = bounded number _ live.2 in
      let few : length prefix < LIMIT = omega (arith, less, leaf_short) in
      let child = prefix ++ true ∷ [] in
      let one : length child ≡ length prefix + 1 = length_push prefix true in
      let child_few : length child ≤ LIMIT = omega (arith, one, few) in
      let small : low_of child < 2 ^ 64 = low_of-small child child_few in
      let own_short : length own ≤ LIMIT = bounded other _ at in
      let reach = begins_low own (low_of child) (omega (arith, own_short)) small home in
      elim (leb_tells (length own) (length prefix)) [
        | inl shorter ↦
            let parent : Begins prefix (low_of child) = parent_begins prefix (low_of child) true (begins_own_low child child_few) in
            let own_front_of : IsFront own prefix = fronts_nest own prefix (word_bits (low_of child)) shorter.1 home parent in
            let own_leaf : IsFront own leaf = front_of_front own prefix leaf shorter.1 own_front_of front in
            let leaf_small : low_of leaf < 2 ^ 64 = low_of-small leaf leaf_short in
            let both : Begins own (low_of leaf) = front_of_front own leaf (word_bits (low_of leaf)) (omega (arith, shorter.1, less)) own_leaf (begins_own_low leaf leaf_short) in
            let begun = home_begun short lows bounded leaves other (Live own right records) (low_of leaf) at both in
            let same = leaves.one_home (low_of leaf) leaf_small begun other number (Live own right records) _ at live.2 both (begins_own_low leaf leaf_short) in
            let alike = same_page pages number (Live own right records) _ (subst (λ n. IsAt pages n (Live own right records)) same at) live.2 in
            let equal : own ≡ leaf = cc in
            absurd (omega (arith, ap length equal, shorter.1, less))
        | inr longer ↦
            let front_own : IsFront child own = fronts_nest child own (word_bits (low_of child)) (omega (arith, one, longer.1)) (begins_own_low child child_few) home in
            let begun : Begins child (low_of own) = front_of_front child own (word_bits (low_of own)) (omega (arith, one, longer.1)) front_own (begins_own_low own own_short) in
            let above = begins_low child (low_of own) (omega (arith, child_few)) (low_of-small own own_short) begun in
            record { number = other; page = Live own right records; at = at; live = tt; low_is = omega (arith, above.0, reach.0) }
      ]
  branch_home prefix leaf number within live front less other (Forward low target) at home = absurd home

  branch_live : (prefix leaf : List Bool) (number : ℕ) → IsFront ward prefix → IsLiveAt pages leaf number → IsFront prefix leaf → length prefix < length leaf → IsLivePage (low_of (prefix ++ true ∷ []))
  branch_live prefix leaf number within live front less =
      let few : length prefix < LIMIT = omega (arith, less, bounded number _ live.2) in
      let child = prefix ++ true ∷ [] in
      let child_few : length child ≤ LIMIT = child_short prefix true few in
      let begun : Begins ward (low_of child) = front_of_front ward prefix (word_bits (low_of child)) (front_shorter ward prefix within) within (parent_begins prefix (low_of child) true (begins_own_low child child_few)) in
      let found = leaves.home (low_of child) (low_of-small child child_few) begun in
      branch_home prefix leaf number within live front less found.0 found.1 found.2 found.3

  same_live : (low : ℕ) (live : IsLivePage low) (number : ℕ) (page : Page) → IsAt pages number page → low_bound page ≡ low → IsLive page
  same_live low live number page at is =
      let same = lows.apart live.number number live.page page live.at at (live.low_is ∙ sym is) in
      subst IsLive (same_page pages number live.page page (subst (λ n. IsAt pages n live.page) same live.at) at) live.live

  -- the parent of a page other than the first is the ward's
  parent_within : (number : ℕ) (page : Page) (parent : List Bool) → IsAt pages number page → 0 < number → length parent < LIMIT → low_bound page ≡ low_of (parent ++ true ∷ []) → IsFront ward parent
  parent_within number page parent at some few is =
      let child = parent ++ true ∷ [] in
      let child_few : length child ≤ LIMIT = child_short parent true few in
      let begun : Begins ward (low_of child) = subst (Begins ward) is (lows.within number page at) in
      let own : Begins child (low_of child) = begins_own_low child child_few in
      elim (leb_tells (length ward) (length parent)) [
        | inl less ↦ fronts_nest ward parent (word_bits (low_of child)) less.1 begun (parent_begins parent (low_of child) true own)
        | inr longer ↦
            let front : IsFront child ward = fronts_nest child ward (word_bits (low_of child)) (omega (arith, longer.1, length_push parent true)) own begun in
            let lower : Begins child (low_of ward) = front_of_front child ward (word_bits (low_of ward)) (omega (arith, longer.1, length_push parent true)) front (begins_own_low ward short) in
            let reach = begins_low child (low_of ward) (omega (arith, child_few)) (low_of-small ward short) lower in
            let back = begins_low ward (low_of child) (omega (arith, short)) (low_of-small child child_few) begun in
            let first = lows.first in
            absurd (omega (arith, some, lows.apart number 0 page first.0 at first.1 (omega (arith, is, reach.0, back.0, first.3))))
      ]

  not_first : (prefix : List Bool) → IsFront ward prefix → length prefix < LIMIT → (number : ℕ) (page : Page) → IsAt pages number page → low_bound page ≡ low_of (prefix ++ true ∷ []) → 0 < number
  not_first prefix within few number page at is = elim (leb_tells 1 number) [
    | inl some ↦ some.1
    | inr none ↦
        let zero_is : number ≡ 0 = omega (arith, none.1) in
        let first = lows.first in
        let same = same_page pages 0 page first.0 (subst (λ n. IsAt pages n page) zero_is at) first.1 in
        let begun : Begins ward (low_of prefix) = front_of_front ward prefix (word_bits (low_of prefix)) (front_shorter ward prefix within) within (begins_own_low prefix (omega (arith, few))) in
        let reach = begins_low ward (low_of prefix) (omega (arith, short)) (low_of-small prefix (omega (arith, few))) begun in
        absurd (omega (arith, is, ap low_bound same, first.3, reach.0, right_above prefix few))
  ]

  module _ (table : TableMap) where
    pub record AreRecorded : Type 0 where
      pub entries : (prefix : List Bool) (entry : Entry) → get table prefix ≡ Some entry → IsOwnEntry ward pages prefix entry
      pub each : (number : ℕ) (page : Page) → IsAt pages number page → 0 < number → IsRecordedBy table page

    -- ---- from the fit

    split_of : (entry : Entry) (right : ℕ) → entry.kind ≡ Split right → right_of (Some entry) ≡ Some right
    split_of entry right is = rw is refl

    merge_of : (entry : Entry) → entry.kind ≡ Merge → entry ≡ record { number = entry.number; kind = Merge }
    merge_of entry is = λ i. record { number = entry.number; kind = is i }

    kind_from : (kind : Kind) (right : ℕ) → right_of (Some (record { number = 0; kind = kind })) ≡ Some right → kind ≡ Split right
    kind_from (Split own) right is = let same : own ≡ right = cc in ap (λ r. Split r) same
    kind_from Merge right is = cc

    some_from_split : (prefix : List Bool) (right : ℕ) → split_at table prefix ≡ Some right → (entry : Entry) × (get table prefix ≡ Some entry) × (entry.kind ≡ Split right)
    some_from_split prefix right is = elim (get table prefix) as (λ found. get table prefix ≡ found → right_of found ≡ Some right → (entry : Entry) × (get table prefix ≡ Some entry) × (entry.kind ≡ Split right)) [
      | None ↦ λ found is. cc
      | Some entry ↦ λ found is. (entry, found, kind_from entry.kind right is)
    ] refl is

    is_some_of : (prefix : List Bool) (entry : Entry) → get table prefix ≡ Some entry → IsSome (get table prefix)
    is_some_of prefix entry is = ap is_some is

    module _ (fits : FitsPages ward table pages) where
      own_entry : (prefix : List Bool) (entry : Entry) (kind : Kind) → get table prefix ≡ Some entry → entry.kind ≡ kind → IsOwnEntry ward pages prefix entry
      own_entry prefix entry (Split right) found is =
          let split = ap right_of found ∙ split_of entry right is in
          let inner = (fits.splits prefix).0 (right, split) in
          let leaf = inner.1 in
          let page = fits.rights prefix right split in
          let live = branch_live prefix leaf.0 leaf.1 inner.0 leaf.2 leaf.3.0 leaf.3.1 in
          record {
            own = fits.entries prefix entry found;
            short = omega (arith, leaf.3.1, bounded leaf.1 _ leaf.2.2);
            told = (right, page.0, page.1, page.2, subst (λ kind. IsToldBy kind right page.0) (sym is) (refl, same_live (low_of (prefix ++ true ∷ [])) live right page.0 page.1 page.2));
          }
      own_entry prefix entry Merge found is =
          let merge = (fits.merges prefix).0 (entry.number, found ∙ ap (λ e. Some e) (merge_of entry is)) in
          record {
            own = fits.entries prefix entry found;
            short = merge.0;
            told = (merge.1.0, Forward (low_of (prefix ++ true ∷ [])) merge.1.1.0, merge.1.1.1, refl, subst (λ kind. IsToldBy kind merge.1.0 (Forward (low_of (prefix ++ true ∷ [])) merge.1.1.0)) (sym is) (λ live. live));
          }

      recorded : (number : ℕ) (page : Page) → IsAt pages number page → 0 < number → IsRecordedBy table page
      recorded number (Live prefix right records) at some parent few is =
          let within = parent_within number _ parent at some few is in
          let own_short : length prefix ≤ LIMIT = bounded number _ at in
          let split = (fits.splits parent).1 (within, (prefix, number, (right, records, at), (branch_front prefix parent own_short few is, branch_longer prefix parent own_short few is))) in
          let entry = some_from_split parent split.0 split.1 in
          is_some_of parent entry.0 entry.1
      recorded number (Forward low target) at some parent few is =
          let merge = (fits.merges parent).1 (few, (number, (target, subst (λ l. IsAt pages number (Forward l target)) is at))) in
          is_some_of parent _ merge.1

      pub to_recorded : AreRecorded
      to_recorded = record { entries = λ prefix entry found. own_entry prefix entry entry.kind found refl; each = recorded }

    -- ---- to the fit

    module _ (all : AreRecorded) where
      entry_at : (prefix : List Bool) → IsSome (get table prefix) → (entry : Entry) × (get table prefix ≡ Some entry)
      entry_at prefix some = elim (get table prefix) as (λ found. get table prefix ≡ found → IsSome found → (entry : Entry) × (get table prefix ≡ Some entry)) [
        | None ↦ λ found some. absurd (false≢true some)
        | Some entry ↦ λ found some. (entry, found)
      ] refl some

      told_split : (prefix : List Bool) (right : ℕ) → split_at table prefix ≡ Some right → (page : Page) × IsAt pages right page × (low_bound page ≡ low_of (prefix ++ true ∷ [])) × IsLive page × IsFront ward prefix × (length prefix < LIMIT)
      told_split prefix right is =
          let found = some_from_split prefix right is in
          let entry = all.entries prefix found.0 found.1 in
          let told = entry.told in
          let kind = subst (λ kind. IsToldBy kind told.0 told.1) found.2 told.4 in
          (told.1, subst (λ n. IsAt pages n told.1) (sym kind.0) told.2, told.3, kind.1, entry.own.within, entry.short)

      inner_of : (prefix : List Bool) (number : ℕ) (page : Page) → IsAt pages number page → IsLive page → low_bound page ≡ low_of (prefix ++ true ∷ []) → length prefix < LIMIT → IsInner pages prefix
      inner_of prefix number (Live own right records) at live is few =
          let own_short : length own ≤ LIMIT = bounded number _ at in
          (own, number, (right, records, at), (branch_front own prefix own_short few is, branch_longer own prefix own_short few is))
      inner_of prefix number (Forward low target) at live is few = absurd live

      live_kind : (prefix : List Bool) (entry : Entry) (kind : Kind) → get table prefix ≡ Some entry → entry.kind ≡ kind → (number : ℕ) (page : Page) → IsToldBy entry.kind number page → IsLive page → IsSplitAt table prefix
      live_kind prefix entry (Split right) found is number page told live = (right, ap right_of found ∙ split_of entry right is)
      live_kind prefix entry Merge found is number page told live = absurd (subst (λ kind. IsToldBy kind number page) is told live)

      split_there : (prefix : List Bool) → IsFront ward prefix → IsInner pages prefix → IsSplitAt table prefix
      split_there prefix within inner =
          let live = branch_live prefix inner.0 inner.1 within inner.2 inner.3.0 inner.3.1 in
          let few : length prefix < LIMIT = omega (arith, inner.3.1, bounded inner.1 _ inner.2.2) in
          let found = entry_at prefix (all.each live.number live.page live.at (not_first prefix within few live.number live.page live.at live.low_is) prefix few live.low_is) in
          let told = (all.entries prefix found.0 found.1).told in
          let page_live = same_live (low_of (prefix ++ true ∷ [])) live told.0 told.1 told.2 told.3 in
          live_kind prefix found.0 found.0.kind found.1 refl told.0 told.1 told.4 page_live

      forward_kind : (prefix : List Bool) (entry : Entry) (kind : Kind) → get table prefix ≡ Some entry → entry.kind ≡ kind → (number : ℕ) (page : Page) → IsToldBy entry.kind number page → (IsLive page → ⊥) → IsMergeAt table prefix
      forward_kind prefix entry (Split right) found is number page told dead = absurd (dead (subst (λ kind. IsToldBy kind number page) is told).1)
      forward_kind prefix entry Merge found is number page told dead = (entry.number, found ∙ ap (λ e. Some e) (merge_of entry is))

      forward_of : (low number : ℕ) (page : Page) → IsAt pages number page → (IsLive page → ⊥) → low_bound page ≡ low → (target : ℕ) × IsAt pages number (Forward low target)
      forward_of low number (Live prefix right records) at dead is = absurd (dead tt)
      forward_of low number (Forward own target) at dead is = (target, subst (λ l. IsAt pages number (Forward l target)) is at)

      merge_told : (prefix : List Bool) → IsMergeAt table prefix → (length prefix < LIMIT) × ((number : ℕ) × (target : ℕ) × IsAt pages number (Forward (low_of (prefix ++ true ∷ [])) target))
      merge_told prefix merge =
          let entry = all.entries prefix _ merge.1 in
          let told = entry.told in
          let forward = forward_of (low_of (prefix ++ true ∷ [])) told.0 told.1 told.2 told.4 told.3 in
          (entry.short, (told.0, forward.0, forward.1))

      merge_there : (prefix : List Bool) → length prefix < LIMIT → (number target : ℕ) → IsAt pages number (Forward (low_of (prefix ++ true ∷ [])) target) → IsMergeAt table prefix
      merge_there prefix few number target at =
          let page = Forward (low_of (prefix ++ true ∷ [])) target in
          let first = lows.first in
          let some : 0 < number = elim (leb_tells 1 number) [
            | inl some ↦ some.1
            | inr none ↦
                let zero_is : number ≡ 0 = omega (arith, none.1) in
                absurd (subst IsLive (same_page pages 0 first.0 page first.1 (subst (λ n. IsAt pages n page) zero_is at)) first.2)
          ] in
          let found = entry_at prefix (all.each number page at some prefix few refl) in
          let told = (all.entries prefix found.0 found.1).told in
          let same = lows.apart told.0 number told.1 page told.2 at told.3 in
          let alike = same_page pages number told.1 page (subst (λ n. IsAt pages n told.1) same told.2) at in
          forward_kind prefix found.0 found.0.kind found.1 refl told.0 told.1 told.4 (λ live. subst IsLive alike live)

      pub to_fits : FitsPages ward table pages
      to_fits = record {
        entries = λ prefix entry found. (all.entries prefix entry found).own;
        splits = λ prefix. (
          λ is. let told = told_split prefix is.0 is.1 in (told.4, inner_of prefix is.0 told.0 told.1 told.3 told.2 told.5),
          λ is. split_there prefix is.0 is.1,
        );
        merges = λ prefix. (
          λ is. let told = merge_told prefix is in (told.0, (told.1.0, (told.1.1, told.1.2))),
          λ is. merge_there prefix is.0 is.1.0 is.1.1.0 is.1.1.1,
        );
        rights = λ prefix right is. let told = told_split prefix right is in (told.0, told.1, told.2);
      }

-- ---- entry by entry, page by page

abbrev pub AreOwnEntries : List Bool → List Page → List (List Bool × Entry) → Type 0
AreOwnEntries ward pages told = AllByRecursion (λ item. IsOwnEntry ward pages item.0 item.1) told

abbrev pub RecordedBelow : TableMap → List Page → ℕ → Type 0
RecordedBelow table pages count = (number : ℕ) (page : Page) → number < count → IsAt pages number page → 0 < number → IsRecordedBy table page

pub told_there : (pages : List Page) (entries : List (ℕ × ℕ)) → AreIndex entries pages → (ward prefix : List Bool) (entry : Entry) → IsWardEntry ward prefix entry → length prefix < LIMIT
    → (number : ℕ) (page : Page) → page_number_at entries (low_of (prefix ++ true ∷ [])) ≡ Some number → IsAt pages number page → IsToldBy entry.kind number page → IsOwnEntry ward pages prefix entry
told_there pages entries index ward prefix entry own short number page found at told =
    let there = (index (low_of (prefix ++ true ∷ [])) number).0 found in
    record { own = own; short = short; told = (number, page, at, sym (ap low_bound (same_page pages number there.0 page there.1 at)) ∙ there.2, told) }

pub index_number : (pages : List Page) (entries : List (ℕ × ℕ)) → AreIndex entries pages → (ward prefix : List Bool) (entry : Entry) → (own : IsOwnEntry ward pages prefix entry) → page_number_at entries (low_of (prefix ++ true ∷ [])) ≡ Some own.told.0
index_number pages entries index ward prefix entry own = (index (low_of (prefix ++ true ∷ [])) own.told.0).1 (own.told.1, own.told.2, own.told.3)

pub there_told : (pages : List Page) (entries : List (ℕ × ℕ)) → AreIndex entries pages → (ward prefix : List Bool) (entry : Entry) → IsOwnEntry ward pages prefix entry
    → (number : ℕ) (page : Page) → page_number_at entries (low_of (prefix ++ true ∷ [])) ≡ Some number → IsAt pages number page → IsToldBy entry.kind number page
there_told pages entries index ward prefix entry own number page found at =
    let both : Some own.told.0 ≡ Some number = sym (index_number pages entries index ward prefix entry own) ∙ found in
    let same : own.told.0 ≡ number = cc in
    let alike = same_page pages number own.told.1 page (subst (λ n. IsAt pages n own.told.1) same own.told.2) at in
    subst (λ p. IsToldBy entry.kind number p) alike (subst (λ n. IsToldBy entry.kind n own.told.1) same own.told.4)

pub one_parent : (table : TableMap) (page : Page) (parent : List Bool) → length parent < LIMIT → low_of (parent ++ true ∷ []) ≡ low_bound page → IsSome (get table parent) → IsRecordedBy table page
one_parent table page parent few is some other other_few low = subst (λ p. IsSome (get table p)) (right_tells_parent parent other few other_few (is ∙ low)) some

-- ---- a child that was answered

pub same_child : (found : Option (List Bool)) (Holds : Type 0) (value child : List Bool) → SomeIff found Holds value → found ≡ Some child → child ≡ value
same_child None Holds value child iff is = cc
same_child (Some own) Holds value child iff is = let same : own ≡ child = cc in sym same ∙ iff.1

pub child_short_of : (found : Option (List Bool)) (Holds : Type 0) (value child : List Bool) → SomeIff found Holds value → found ≡ Some child → Holds
child_short_of None Holds value child iff is = cc
child_short_of (Some own) Holds value child iff is = iff.0

-- ---- the parent that a low bound tells

pub whole_prefix : (found : Option (List Bool)) (low : ℕ) (prefix : List Bool) → low < 2 ^ 64 → SomeIff found (HasPrefix LIMIT low) (take LIMIT (word_bits low)) → found ≡ Some prefix → (low_of prefix ≡ low) × (length prefix ≡ LIMIT)
whole_prefix found low prefix small iff is =
    let stored = child_short_of found (HasPrefix LIMIT low) (take LIMIT (word_bits low)) prefix iff is in
    let same = same_child found (HasPrefix LIMIT low) (take LIMIT (word_bits low)) prefix iff is in
    (ap low_of same ∙ low_of-stored LIMIT low small stored, ap length same ∙ length-stored LIMIT low stored)

pub no_prefix : (found : Option (List Bool)) (low : ℕ) → SomeIff found (HasPrefix LIMIT low) (take LIMIT (word_bits low)) → found ≡ None → (parent : List Bool) → length parent < LIMIT → low_of (parent ++ true ∷ []) ≡ low → ⊥
no_prefix None low iff is parent few same = iff (subst (HasPrefix LIMIT) same (low_of-HasPrefix (parent ++ true ∷ []) (child_short parent true few)))
no_prefix (Some prefix) low iff is parent few same = cc

pub step_up : (prefix parent : List Bool) (right : Bool) (low : ℕ) → (bit : Bool) × (prefix ≡ parent ++ bit ∷ []) → ((own : List Bool) × (prefix ≡ own ++ true ∷ []) → right ≡ true) → right ≡ false → length prefix ≤ LIMIT → low_of prefix ≡ low → (low_of parent ≡ low) × (length prefix ≡ length parent + 1)
step_up prefix parent right low (true, is) tells not short same = absurd (false≢true (sym not ∙ tells (parent, is)))
step_up prefix parent right low (false, is) tells not short same =
    let long : length prefix ≡ length parent + 1 = ap length is ∙ length_push parent false in
    (sym (low_of-left_child parent (omega (arith, long, short))) ∙ ap low_of (sym is) ∙ same, long)

low_none : low_of [] ≡ 0
unfolding low_of
low_none = number_of-zeros 64

pub no_parent : (prefix : List Bool) (low : ℕ) → length prefix ≡ 0 → low_of prefix ≡ low → (parent : List Bool) → length parent < LIMIT → low_of (parent ++ true ∷ []) ≡ low → ⊥
no_parent [] low none same parent few is =
    let nothing : low_of [] ≡ 0 = low_none in
    absurd (omega (arith, nothing, same, is, right_above parent few))
no_parent (bit ∷ prefix) low none same parent few is = absurd (omega (arith, none))
