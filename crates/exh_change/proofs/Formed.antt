-- Pages that splits, merges and answers make are well formed.
use Rattle.std.proofs.Common.{◌≡◌, ◌≢◌, ℕ, ◌+◌, ◌<◌, ◌≤◌, Bool, true, false, not, leb, List, [], ◌∷◌, ◌++◌, length, filter, Option, None, Some, refl, sym, subst, arith}
use Rattle.std.proofs.lemmas.Bool.{leb-false}
use Rattle.std.proofs.lemmas.List.{length-append, length_push}
use Rattle.std.proofs.lemmas.List.Filters.{length-filter_both}
use Rattle.exh_prefix.specs.LowLemmas.{low_of-HasPrefix, right_above}
use Rattle.exh_prefix.specs.Prefix.{Begins, begins}
use Rattle.exh_prefix.specs.PrefixListLemmas.{AllByRecursion-filter}
use Rattle.exh_page.specs.declared.page.Page.{Page}
use Rattle.exh_page.specs.declared.page.Page.TheVariants.{Forward, Live}
use Rattle.exh_page.specs.declared.record.Record.{Record}
use Rattle.exh_page.specs.Halves.{left_half, right_half, sent_to, union}
use Rattle.exh_page.specs.Page.{AreRecordsOf, IsDivisible, IsLive, IsWellFormed, records_of, with_records}
use Rattle.exh_page.specs.PageLaws.{AreOfWords, BuddiesUnite, SharesAreRecords}
use Rattle.exh_page.specs.Records.{value_at, with_record}
use Rattle.exh_page.specs.RecordsLemmas.{IsRising-filter, IsRising-with_record}
use Rattle.exh_page.specs.Values.{AllByRecursion-with_record, length-with_record_le, length-with_record_old, length-without_place}
use Rattle.exh_calls.specs.declared.call.Call.{Call}
use Rattle.exh_calls.specs.Call.{key_of}
use Rattle.exh_calls.specs.CallEffectLemmas.{full_sets_nothing}
use Rattle.exh_calls.specs.Effect.{Change, Keep, Remove, Set, effect_of}
use Rattle.exh_legal.specs.Pages.{IsHome}
use Rattle.exh_change.specs.PageAnswer.{records_after, records_changed}
use Rattle.exh_change.specs.Changes.{IsOfPrefix}

-- ---- splits

few_filtered : {X : Type 0} (p : X → Bool) (xs : List X) → length (filter p xs) ≤ length xs
few_filtered p xs = omega (arith, length-filter_both p (λ x. not (p x)) (λ x. refl) xs)

small_number : (number : ℕ) → number < 4294967295 → Some number ≢ Some 4294967295
small_number number less same = let is : number ≡ 4294967295 = cc in omega (arith, is, less)

pub left_formed : SharesAreRecords → (pseudo : List ℕ → ℕ) (page : Page) (number : ℕ) → number < 4294967295 → IsWellFormed pseudo page → IsDivisible page → IsWellFormed pseudo (left_half number page)
left_formed shares pseudo (Live prefix link records) number small formed short =
    (shares pseudo prefix false records formed.0, omega (arith, formed.1, few_filtered (λ r. begins (prefix ++ false ∷ []) r.pseudokey) records), small_number number small)
left_formed shares pseudo (Forward low target) number small formed short = formed

pub right_formed : SharesAreRecords → (pseudo : List ℕ → ℕ) (page : Page) → IsWellFormed pseudo page → IsDivisible page → IsWellFormed pseudo (right_half page)
right_formed shares pseudo (Live prefix link records) formed short =
    (shares pseudo prefix true records formed.0, omega (arith, formed.1, few_filtered (λ r. begins (prefix ++ true ∷ []) r.pseudokey) records), formed.2)
right_formed shares pseudo (Forward low target) formed short = formed

-- ---- merges

pub union_records : BuddiesUnite → (pseudo : List ℕ → ℕ) (parent : List Bool) (page right : Page) → AreOfWords pseudo → length parent < 20 → IsWellFormed pseudo page → IsWellFormed pseudo right → IsOfPrefix (parent ++ false ∷ []) page → IsOfPrefix (parent ++ true ∷ []) right
    → AreRecordsOf pseudo parent (records_of page ++ records_of right)
union_records unite pseudo parent (Live prefix link records) (Live right_prefix right_link more) words short formed right_formed is right_is =
    unite pseudo parent records more words short (subst (λ (prefix : List Bool). AreRecordsOf pseudo prefix records) is formed.0) (subst (λ (prefix : List Bool). AreRecordsOf pseudo prefix more) right_is right_formed.0)
union_records unite pseudo parent (Live prefix link records) (Forward low target) words short formed right_formed is right_is = absurd right_is
union_records unite pseudo parent (Forward low target) right words short formed right_formed is right_is = absurd is

pub union_formed : (pseudo : List ℕ → ℕ) (parent : List Bool) (page right : Page) → AreRecordsOf pseudo parent (records_of page ++ records_of right) → IsWellFormed pseudo right → IsOfPrefix (parent ++ true ∷ []) right
    → length (records_of page) + length (records_of right) ≤ 16 → IsWellFormed pseudo (union parent page right)
union_formed pseudo parent page (Live right_prefix right_link more) records right_formed right_is few = (records, omega (arith, few, length-append (records_of page) more), right_formed.2)
union_formed pseudo parent page (Forward low target) records right_formed right_is few = absurd right_is

pub sent_formed : (pseudo : List ℕ → ℕ) (parent : List Bool) (number : ℕ) (right : Page) → length parent < 20 → IsOfPrefix (parent ++ true ∷ []) right → IsWellFormed pseudo (sent_to number right)
sent_formed pseudo parent number (Live right_prefix right_link more) short is =
    subst (λ (prefix : List Bool). IsWellFormed pseudo (sent_to number (Live prefix right_link more))) (sym is)
    ((λ (none : _). omega (arith, none, right_above parent short)), low_of-HasPrefix (parent ++ true ∷ []) (omega (arith, short, length_push parent true)))
sent_formed pseudo parent number (Forward low target) short is = absurd is

-- ---- answers

records_formed : (pseudo : List ℕ → ℕ) (prefix : List Bool) (records : List Record) (change : Change) (key : List ℕ) → AreRecordsOf pseudo prefix records × (length records ≤ 16) → Begins prefix (pseudo key)
    → ((value : List ℕ) → change ≡ Set value → length (with_record (record { pseudokey = pseudo key; key = key; value = value }) records) ≤ 16)
    → AreRecordsOf pseudo prefix (records_changed change (pseudo key) key records) × (length (records_changed change (pseudo key) key records) ≤ 16)
records_formed pseudo prefix records Keep key formed begins room = formed
records_formed pseudo prefix records (Set value) key formed begins room = (
  record {
    rising = IsRising-with_record _ records formed.0.rising;
    hashed = AllByRecursion-with_record _ _ records refl formed.0.hashed;
    begun = AllByRecursion-with_record _ _ records begins formed.0.begun;
  },
  room value refl,
)
records_formed pseudo prefix records Remove key formed begins room = (
  record {
    rising = IsRising-filter _ records formed.0.rising;
    hashed = AllByRecursion-filter _ _ records formed.0.hashed;
    begun = AllByRecursion-filter _ _ records formed.0.begun;
  },
  omega (arith, formed.1, length-without_place (pseudo key, key) records),
)

room_for : (k : ℕ) (call : Call) (records : List Record) (full : Bool) (found : Option (List ℕ)) → length records ≤ 16 → (full ≡ false → length records < 16) → value_at (k, key_of call) records ≡ found
    → (value : List ℕ) → (effect_of call full found).change ≡ Set value → length (with_record (record { pseudokey = k; key = key_of call; value = value }) records) ≤ 16
room_for k call records full (Some old) few is found value set = omega (arith, few, length-with_record_old (record { pseudokey = k; key = key_of call; value = value }) records old found)
room_for k call records true None few is found value set = absurd (full_sets_nothing call value set)
room_for k call records false None few is found value set = omega (arith, is refl, length-with_record_le (record { pseudokey = k; key = key_of call; value = value }) records)

pub answered_formed : (pseudo : List ℕ → ℕ) (page : Page) (call : Call) (full : Bool) → IsWellFormed pseudo page → IsHome page (pseudo (key_of call)) → (full ≡ false → length (records_of page) < 16)
    → IsWellFormed pseudo (with_records (records_after full (pseudo (key_of call)) call (records_of page)) page)
answered_formed pseudo (Live prefix link records) call full formed home room =
    let found = value_at (pseudo (key_of call), key_of call) records in
    let both = records_formed pseudo prefix records (effect_of call full found).change (key_of call) (formed.0, formed.1) home (room_for (pseudo (key_of call)) call records full found formed.1 room refl) in
    (both.0, both.1, formed.2)
answered_formed pseudo (Forward low target) call full formed home room = absurd home

pub live_home : (page : Page) (pseudokey : ℕ) → IsHome page pseudokey → IsLive page
live_home (Live prefix link records) pseudokey home = tt
live_home (Forward low target) pseudokey home = absurd home

pub answered_formed_at : (pseudo : List ℕ → ℕ) (page : Page) (call : Call) (full : Bool) (pseudokey : ℕ) → pseudokey ≡ pseudo (key_of call) → IsWellFormed pseudo page → IsHome page pseudokey → (full ≡ false → length (records_of page) < 16)
    → IsWellFormed pseudo (with_records (records_after full pseudokey call (records_of page)) page)
answered_formed_at pseudo page call full pseudokey same formed home room =
    subst (λ (k : ℕ). IsHome page k → IsWellFormed pseudo (with_records (records_after full k call (records_of page)) page)) (sym same) (λ home. answered_formed pseudo page call full formed home room) home

pub room_below : (cap records count : ℕ) → cap ≤ 16 → records ≡ count → leb cap records ≡ false → count < 16
room_below cap records count few same below = omega (arith, leb-false cap records below, few, same)

pub few_records : (pseudo : List ℕ → ℕ) (page : Page) → IsWellFormed pseudo page → length (records_of page) ≤ 16
few_records pseudo (Live prefix link records) formed = formed.1
few_records pseudo (Forward low target) formed = omega arith
