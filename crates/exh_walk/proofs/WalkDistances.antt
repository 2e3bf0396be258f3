-- How far the page that a walk names is from the pseudokey's home.
use Rattle.std.proofs.Common.{◌≡◌, ℕ, ◌<◌, ◌^◌, Bool, List, [], ◌∷◌, length, take, drop, Option, None, Some, refl, sym, ap, ◌∙◌, subst, arith}
use Rattle.std.specs.FinMap.{get}
use Rattle.std.specs.Option.{option_map_or}
use Rattle.exh_prefix.specs.declared.prefix.TheConstants.{LIMIT}
use Rattle.exh_prefix.specs.Bits.{word_bits}
use Rattle.exh_prefix.specs.LowLemmas.{front_of_longer, own_front}
use Rattle.exh_prefix.specs.Prefix.{IsFront, Begins}
use Rattle.exh_notice.specs.declared.entry.Entry.{Entry}
use Rattle.exh_notice.specs.EntryLemmas.{entry_laws}
use Rattle.exh_notice.specs.declared.notice.Notice.{Notice}
use Rattle.exh_table.specs.declared.leaf.Leaf.{Leaf}
use Rattle.exh_table.specs.Table.{TableMap, IsEntryOf}
use Rattle.exh_table.specs.TableWalk.{right_of, split_at, step, walk_in, walk_on}
use Rattle.exh_page.specs.declared.page.Page.{Page}
use Rattle.exh_page.specs.declared.page.Page.TheVariants.{Live}
use Rattle.exh_page.specs.Page.{low_bound}
use Rattle.exh_legal.specs.LegalLaws.{IsWard, WalksNameHomes}
use Rattle.exh_legal.specs.Pages.{IsAt, IsHome, AreLinked, bare}
use Rattle.exh_ward.specs.Distance.{IsDistance, live_between}
use Rattle.exh_walk.specs.DistanceLaws.{IsTableWithin}
use Rattle.exh_ward.specs.LinkLemmas.{none_beyond_home}
use Rattle.exh_ward.specs.LiveCountLemmas.{none_between}

-- from a home no live page is left to come to
pub none_from_home : (ward : List Bool) (pages : List Page) → AreLinked ward (bare pages) → (pseudokey home : ℕ) (page : Page) → IsAt pages home page → pseudokey < 2 ^ 64 → IsHome page pseudokey → live_between pages (low_bound page) pseudokey ≡ 0
none_from_home ward pages linked pseudokey home page is small begins =
    none_between pages (low_bound page) pseudokey (λ other beyond is_beyond. none_beyond_home ward pages linked pseudokey home page is small begins other beyond is_beyond)

pub whole_names_home : WalksNameHomes → (cap : ℕ) (pseudo : List ℕ → ℕ) (ward : List Bool) (start : TableMap) (changes : List Notice) (table : TableMap) (pages : List Page) (pseudokey : ℕ)
    → IsWard cap pseudo ward start changes table pages → pseudokey < 2 ^ 64 → Begins ward pseudokey → IsDistance pages (walk_in table ward pseudokey).page pseudokey 0
whole_names_home names cap pseudo ward start changes table pages pseudokey is small covered =
    let named = names cap pseudo ward start changes table pages pseudokey is small covered in
    let home = Live named.leaf.prefix named.live.0 named.live.1 in
    let none = none_from_home ward pages is.legal.legal.linked pseudokey named.leaf.page home named.live.2 small named.name.begins in
    subst (λ (leaf : Leaf). IsDistance pages leaf.page pseudokey 0) (sym named.walk)
    record { over = []; live = named.leaf.page; forwarded = refl; page = home; there = named.live.2; lives = tt; sum = omega (arith, none) }

-- ---- copies

-- a set has one entry at a prefix
same_entry : (told : List (List Bool × Entry)) (prefix : List Bool) (one other : Option Entry) → IsEntryOf told prefix one → IsEntryOf told prefix other → one ≡ other
same_entry told prefix None None first second = refl
same_entry told prefix None (Some entry) first second = absurd (first entry second.member)
same_entry told prefix (Some entry) None first second = absurd (second entry first.member)
same_entry told prefix (Some one) (Some other) first second = ap Some (entry_laws.order.antisymmetric one other (second.greatest one first.member) (first.greatest other second.member))

module _ (ward : List Bool) (table copy : TableMap) (same : (prefix : List Bool) → IsFront ward prefix → split_at copy prefix ≡ split_at table prefix) where
  same_walk : (bits : List Bool) (at : Leaf) → IsFront ward at.prefix → walk_on (split_at copy) bits at ≡ walk_on (split_at table) bits at
  same_walk [] at front = refl
  same_walk (bit ∷ bits) at front =
      ap (λ split. option_map_or (λ right. walk_on (split_at copy) bits (step at bit right)) split at) (same at.prefix front)
      ∙ elim (split_at table at.prefix) as (λ split. option_map_or (λ right. walk_on (split_at copy) bits (step at bit right)) split at ≡ option_map_or (λ right. walk_on (split_at table) bits (step at bit right)) split at) [
        | None ↦ refl
        | Some right ↦ same_walk bits (step at bit right) (front_of_longer ward at.prefix (bit ∷ []) front)
      ]

pub whole_copies_name_home : WalksNameHomes → (cap : ℕ) (pseudo : List ℕ → ℕ) (ward : List Bool) (start : TableMap) (changes : List Notice) (table : TableMap) (pages : List Page) (copy : TableMap) (pseudokey : ℕ)
    → IsWard cap pseudo ward start changes table pages → IsTableWithin ward start changes table → IsTableWithin ward start changes copy → pseudokey < 2 ^ 64 → Begins ward pseudokey → IsDistance pages (walk_in copy ward pseudokey).page pseudokey 0
whole_copies_name_home names cap pseudo ward start changes table pages copy pseudokey is own taken small covered =
    let same : (prefix : List Bool) → IsFront ward prefix → split_at copy prefix ≡ split_at table prefix = λ prefix front. ap right_of (same_entry _ prefix (get copy prefix) (get table prefix) (taken prefix front) (own prefix front)) in
    let walk : walk_in copy ward pseudokey ≡ walk_in table ward pseudokey = same_walk ward table copy same (drop (length ward) (take LIMIT (word_bits pseudokey))) (record { prefix = ward; page = 0 }) (own_front ward) in
    subst (λ (leaf : Leaf). IsDistance pages leaf.page pseudokey 0) (sym walk) (whole_names_home names cap pseudo ward start changes table pages pseudokey is small covered)
