-- Linked pages are what a table that fits them begins.
use Rattle.std.proofs.Common.{◌≡◌, ◌≢◌, ℕ, zero, suc, ◌<◌, ◌≤◌, Bool, true, false, List, [], ◌∷◌, ◌++◌, length, take, None, Some, ◌⊎◌, inl, inr, refl, sym, ap, ◌∙◌, subst, arith}
use Rattle.std.specs.Prelude.{IsSome, is_some}
use Rattle.std.specs.FinMap as fin
use Rattle.std.proofs.lemmas.Bool.{cases_eq, false≢true}
use Rattle.std.proofs.lemmas.List.{length_push}
use Rattle.exh_prefix.specs.declared.prefix.TheConstants.{LIMIT}
use Rattle.exh_prefix.specs.Bits.{word_bits}
use Rattle.exh_prefix.specs.Prefix.{IsFront, Begins, low_of}
use Rattle.exh_prefix.specs.PrefixLemmas.{begins_low, front_of_front, fronts_nest, last_split, length-stored, low_of-left_child, low_of-stored}
use Rattle.exh_table.specs.declared.Entry.{Entry}
use Rattle.exh_table.specs.declared.Kind.TheVariants.{Merge}
use Rattle.exh_table.specs.Table.{TableMap}
use Rattle.exh_table.specs.TableWalk.{split_at, right_of}
use Rattle.exh_table.specs.Leaves.{leaves_in}
use Rattle.exh_page.specs.declared.page.Page.{Page}
use Rattle.exh_page.specs.declared.page.Page.TheVariants.{Live, Forward}
use Rattle.exh_page.specs.Page.{IsLive, low_bound}
use Rattle.exh_legal.specs.Fit.{FitsPages}
use Rattle.exh_legal.specs.Growth.{IsLiveAt, IsPageOf, HasEntryEver, IsGrown}
use Rattle.exh_prefix.specs.LowLemmas.{begins_own_low, front_of_longer, front_shorter, low_of-small, own_front, right_above, front_of_child, same_front}
use Rattle.exh_legal.specs.Pages.{IsAt, AreLinked}
use Rattle.exh_legal.proofs.SplitFit.{kind_of_entry, split_from_entry}
use Rattle.exh_prefix.specs.PrefixListLemmas.{one_there}
use Rattle.exh_legal.proofs.Walks.{live_home, walk_ends}

-- ---- the right child that a low bound tells

pub record IsRightBranch (ward prefix parent : List Bool) : Type 0 where
  pub within : IsFront ward parent
  pub front : IsFront (parent ++ true ∷ []) prefix
  pub low : low_of (parent ++ true ∷ []) ≡ low_of prefix

whole_ward : (ward prefix : List Bool) (bit : Bool) → IsFront ward (prefix ++ bit ∷ []) → IsFront ward prefix ⊎ (ward ≡ prefix ++ bit ∷ [])
whole_ward ward prefix bit is = elim (cases_eq (length ward) (length (prefix ++ bit ∷ []))) [
  | inl same ↦ inr (same_front ward (prefix ++ bit ∷ []) is same)
  | inr differ ↦ inl (front_of_child ward prefix bit is (omega (arith, differ, front_shorter ward (prefix ++ bit ∷ []) is, length_push prefix bit)))
]

branch_within : (n : ℕ) (ward prefix : List Bool) → length prefix ≡ n → n ≤ 64 → IsFront ward prefix → low_of prefix ≢ low_of ward → (parent : List Bool) × IsRightBranch ward prefix parent
branch_within zero ward [] is few within differ =
    let none : ward ≡ [] = same_front ward [] within (omega (arith, front_shorter ward [] within)) in
    absurd (differ (ap low_of (sym none)))
branch_within zero ward (bit ∷ bits) is few within differ = absurd (omega (arith, is))
branch_within (suc n) ward prefix is few within differ =
    let last = last_split prefix (omega (arith, is)) in
    let long : length last.0 ≡ n = omega (arith, length_push last.0 last.1, ap length last.2, is) in
    elim last.1 as (λ bit. prefix ≡ last.0 ++ bit ∷ [] → (parent : List Bool) × IsRightBranch ward prefix parent) [
      | true ↦ λ same. elim (whole_ward ward last.0 true (subst (IsFront ward) same within)) [
        | inl inside ↦ (last.0, record { within = inside; front = subst (IsFront (last.0 ++ true ∷ [])) (sym same) (own_front (last.0 ++ true ∷ [])); low = ap low_of (sym same) })
        | inr whole ↦ absurd (differ (ap low_of (same ∙ sym whole)))
      ]
      | false ↦ λ same.
          let kept : low_of prefix ≡ low_of last.0 = ap low_of same ∙ low_of-left_child last.0 (omega (arith, long)) in
          elim (whole_ward ward last.0 false (subst (IsFront ward) same within)) [
            | inl inside ↦
                let found = branch_within n ward last.0 long (omega (arith, few)) inside (λ equal. differ (kept ∙ equal)) in
                (found.0, record { within = found.1.within; front = subst (IsFront (found.0 ++ true ∷ [])) (sym same) (front_of_longer (found.0 ++ true ∷ []) last.0 (false ∷ []) found.1.front); low = found.1.low ∙ sym kept })
            | inr whole ↦ absurd (differ (ap low_of (same ∙ sym whole)))
          ]
    ] last.2

-- a prefix of a ward with another low bound than the ward's has the front that ends in its last bit 1
pub right_branch : (ward prefix : List Bool) → length prefix ≤ LIMIT → IsFront ward prefix → low_of prefix ≢ low_of ward → (parent : List Bool) × IsRightBranch ward prefix parent
right_branch ward prefix short within differ = branch_within (length prefix) ward prefix refl (omega (arith, short)) within differ

pub branch_shorter : (ward prefix parent : List Bool) → IsRightBranch ward prefix parent → length parent < length prefix
branch_shorter ward prefix parent is = omega (arith, front_shorter (parent ++ true ∷ []) prefix is.front, length_push parent true)

pub branch_front : (ward prefix parent : List Bool) → IsRightBranch ward prefix parent → IsFront parent prefix
branch_front ward prefix parent is = front_of_front parent (parent ++ true ∷ []) prefix (omega (arith, length_push parent true)) (front_of_longer parent parent (true ∷ []) (own_front parent)) is.front

-- ---- what the entries of a table that fits say

module _ {ward : List Bool} {table : TableMap} {pages : List Page} (linked : AreLinked ward pages) (fits : FitsPages ward table pages) where
  ward_short : length ward ≤ LIMIT
  ward_short =
      let first = linked.first in
      elim first.0 as (λ page. IsAt pages 0 page → IsLive page → length ward ≤ LIMIT) [
        | Live prefix right records ↦ λ is live. let within = linked.within 0 _ is in omega (arith, within.1, front_shorter ward prefix within.0)
        | Forward low target ↦ λ is live. absurd live
      ] first.1 first.2

  -- a page of a right child of the ward isn't the first
  not_first : (prefix : List Bool) (number : ℕ) → IsFront ward prefix → length prefix < LIMIT → IsPageOf pages (low_of (prefix ++ true ∷ [])) number → 0 < number
  not_first prefix zero within short page =
      let same = one_there pages 0 page.0 linked.first.0 page.1 linked.first.1 in
      let equal : low_of (prefix ++ true ∷ []) ≡ low_of ward = sym page.2 ∙ ap low_bound same ∙ linked.first.3 in
      let begun : Begins ward (low_of prefix) = front_of_front ward prefix (word_bits (low_of prefix)) (front_shorter ward prefix within) within (begins_own_low prefix (omega (arith, short))) in
      let reach = begins_low ward (low_of prefix) (omega (arith, ward_short)) (low_of-small prefix (omega (arith, short))) begun in
      absurd (omega (arith, equal, reach.0, right_above prefix short))
  not_first prefix (suc number) within short page = omega arith

  abbrev IsBegun : List Bool → Type 0
  IsBegun prefix = (number : ℕ) × (0 < number) × IsPageOf pages (low_of (prefix ++ true ∷ [])) number

  split_begun : (prefix : List Bool) (right : ℕ) → split_at table prefix ≡ Some right → IsBegun prefix
  split_begun prefix right is =
      let inner = (fits.splits prefix).0 (right, is) in
      let leaf = inner.1 in
      let short : length prefix < LIMIT = omega (arith, leaf.3.1, (linked.within leaf.1 _ leaf.2.2).1) in
      let page = fits.rights prefix right is in
      (right, not_first prefix right inner.0 short page, page)

  merge_begun : (prefix : List Bool) (entry : Entry) → fin.get table prefix ≡ Some entry → entry.kind ≡ Merge → IsBegun prefix
  merge_begun prefix entry is kind =
      let same : entry ≡ record { number = entry.number; kind = Merge } = λ i. record { number = entry.number; kind = kind i } in
      let found = (fits.merges prefix).0 (entry.number, is ∙ ap (λ e. Some e) same) in
      let page : IsPageOf pages (low_of (prefix ++ true ∷ [])) found.1.0 = (Forward (low_of (prefix ++ true ∷ [])) found.1.1.0, found.1.1.1, refl) in
      (found.1.0, not_first prefix found.1.0 (fits.entries prefix entry is).within found.0 page, page)

  entry_begun : (prefix : List Bool) → HasEntryEver table [] prefix → IsBegun prefix
  entry_begun prefix (inl some) = elim (fin.get table prefix) as (λ found. fin.get table prefix ≡ found → IsSome found → IsBegun prefix) [
    | None ↦ λ is some. absurd (false≢true some)
    | Some entry ↦ λ is some. elim (kind_of_entry entry) [
      | inl merge ↦ merge_begun prefix entry is merge.1
      | inr split ↦ split_begun prefix split.0 (split_from_entry table prefix entry split.0 is split.1)
    ]
  ] refl some
  entry_begun prefix (inr told) = absurd (omega (arith, told.1.1))

  some_entry : (prefix : List Bool) (right : ℕ) → split_at table prefix ≡ Some right → IsSome (fin.get table prefix)
  some_entry prefix right is = elim (fin.get table prefix) as (λ found. right_of found ≡ Some right → IsSome found) [
    | None ↦ λ is. cc
    | Some entry ↦ λ is. refl
  ] is

  abbrev IsTold : Page → Type 0
  IsTold page = (prefix : List Bool) × HasEntryEver table [] prefix × (low_bound page ≡ low_of (prefix ++ true ∷ []))

  apart_from_first : (number : ℕ) (page : Page) → IsAt pages number page → 0 < number → low_bound page ≢ low_of ward
  apart_from_first number page is some same = absurd (omega (arith, some, linked.apart number 0 page linked.first.0 is linked.first.1 (same ∙ sym linked.first.3)))

  told : (number : ℕ) (page : Page) → IsAt pages number page → 0 < number → IsTold page
  told number (Live prefix right records) is some =
      let within = linked.within number _ is in
      let branch = right_branch ward prefix within.1 within.0 (apart_from_first number _ is some) in
      let split = (fits.splits branch.0).1 (branch.1.within, (prefix, number, (right, records, is), (branch_front ward prefix branch.0 branch.1, branch_shorter ward prefix branch.0 branch.1))) in
      (branch.0, inl (some_entry branch.0 split.0 split.1), sym branch.1.low)
  told number (Forward low target) is some =
      let within = linked.within number _ is in
      let bits : List Bool = take LIMIT (word_bits low) in
      let whole : low_of bits ≡ low = low_of-stored LIMIT low within.0 within.2 in
      let long : length bits ≡ LIMIT = length-stored LIMIT low within.2 in
      let inside : IsFront ward bits = fronts_nest ward bits (word_bits low) (omega (arith, long, ward_short)) within.1 (ap (λ n. take n (word_bits low)) long) in
      let branch = right_branch ward bits (omega (arith, long)) inside (λ same. apart_from_first number _ is some (sym whole ∙ same)) in
      let equal : low ≡ low_of (branch.0 ++ true ∷ []) = sym whole ∙ sym branch.1.low in
      let merge = (fits.merges branch.0).1 (omega (arith, branch_shorter ward bits branch.0 branch.1, long), (number, (target, subst (λ l. IsAt pages number (Forward l target)) equal is))) in
      (branch.0, inl (ap is_some merge.1), equal)

  leaf_live : (prefix : List Bool) → leaves_in table ward prefix → (number : ℕ) × IsLiveAt pages prefix number
  leaf_live prefix is =
      let found = linked.home is.1.0 is.1.1 is.1.2 in
      let home = live_home pages found.0 found.1 is.1.0 found.2 found.3 in
      let walk = walk_ends linked fits is.1.0 home.0 found.0 home.1 home.2 is.1.2 in
      let same : record { prefix = home.0; page = found.0 } ≡ record { prefix = prefix; page = is.0 } = sym walk ∙ is.1.3 in
      (found.0, subst (λ p. IsLiveAt pages p found.0) (ap (λ leaf. leaf.prefix) same) home.1)

  live_leaf : (prefix : List Bool) (number : ℕ) → IsLiveAt pages prefix number → leaves_in table ward prefix
  live_leaf prefix number is =
      let within = linked.within number _ is.2 in
      let own = begins_own_low prefix within.1 in
      let begun : Begins ward (low_of prefix) = front_of_front ward prefix (word_bits (low_of prefix)) (front_shorter ward prefix within.0) within.0 own in
      (number, (low_of prefix, low_of-small prefix within.1, begun, walk_ends linked fits (low_of prefix) prefix number is own begun))

  pub begun_grown : IsGrown ward table [] pages
  begun_grown = record {
    leaves = λ prefix. (leaf_live prefix, λ is. live_leaf prefix is.0 is.1);
    for_each = entry_begun;
    no_other = told;
  }
