-- A table that lacks some of a ward's changes names a page that is no farther than these are many.
use Rattle.std.proofs.Common.{◌≡◌, ℕ, ◌+◌, ◌-◌, ◌<◌, ◌≤◌, ◌^◌, Bool, true, false, nat_lt, List, [], ◌∷◌, ◌++◌, length, map, take, drop, Option, None, Some, ◌⊎◌, inl, inr, refl, sym, ap, ◌∙◌, subst, arith}
use Rattle.std.specs.Prelude.{count_by}
use Rattle.std.specs.FinMap.{entries, get}
use Rattle.std.proofs.lemmas.Bool.{cases_eq, cases_lt}
use Rattle.std.proofs.lemmas.List.{append_assoc, append-nil, length_push, length-drop, take-append-drop}
use Rattle.std.proofs.lemmas.List.Sums.{count_by-le-length}
use Rattle.exh_prefix.specs.declared.prefix.TheConstants.{LIMIT}
use Rattle.exh_prefix.specs.Bits.{lowest_cleared, word_bits}
use Rattle.exh_prefix.specs.Prefix.{IsFront, Begins, low_of}
use Rattle.exh_prefix.specs.PrefixLemmas.{begins_low, begins_from_low, front_of_front, fronts_nest, lowest_cleared-right_child}
use Rattle.exh_notice.specs.declared.entry.Entry.{Entry}
use Rattle.exh_notice.specs.declared.entry.Kind.TheVariants.{Merge}
use Rattle.exh_notice.specs.declared.notice.Notice.{Notice}
use Rattle.exh_table.specs.declared.leaf.Leaf.{Leaf}
use Rattle.exh_table.specs.Leaves.{leaves_after, leaves_in, ward_leaves}
use Rattle.exh_table.specs.Table.{TableMap, IsEntryOf, told_by}
use Rattle.exh_table.specs.TableWalk.{right_of, right_of_kind, split_at, walk_in}
use Rattle.exh_page.specs.declared.page.Page.{Page}
use Rattle.exh_page.specs.declared.page.Page.TheVariants.{Live, Forward}
use Rattle.exh_page.specs.Page.{IsLive, low_bound, with_records}
use Rattle.exh_legal.specs.BareLemmas.{bare_at}
use Rattle.exh_legal.specs.Change.{IsForwardOf}
use Rattle.exh_legal.specs.Fit.{FitsPages, IsInner, IsMergeAt}
use Rattle.exh_legal.specs.Growth.{IsGrown, IsLiveAt}
use Rattle.exh_legal.specs.LegalLaws.{IsBelow, IsWard}
use Rattle.exh_prefix.specs.LowLemmas.{begins_own_low, front_of_longer, front_shorter, left_keeps, own_front, same_front}
use Rattle.exh_legal.specs.Pages.{IsAt, IsHome, AreLinked, bare}
use Rattle.exh_ward.specs.Distance.{IsDistance, IsForwarded, is_live_between, live_between}
use Rattle.exh_walk.specs.DistanceLaws.{IsDistanceUpTo, IsTableWithin, NamesPages}
use Rattle.exh_walk.specs.RouteLaws.{GetsGoHome}
use Rattle.exh_walk.proofs.ChangedDistances.{between_tells}
use Rattle.exh_walk.proofs.CoveredPages.{count_covered, more_below}
use Rattle.exh_walk.proofs.LateWalks.{IsStop, walk_stops}
use Rattle.exh_walk.proofs.LaterNotices.{AnyNotice, IsChangeAt, IsSplitNotice, any_such, told_later, split_above, leaves_after-append}
use Rattle.exh_ward.specs.LinkLemmas.{apart, first_page, target_cleared, ward_few}
use Rattle.exh_prefix.specs.PrefixListLemmas.{one_there}
use Rattle.exh_walk.proofs.WalkDistances.{none_from_home}

-- ---- the right child whose low bound a prefix has

-- low bounds go up where a one is added
pub record EndsInOne (front bits : List Bool) : Type 0 where
  pub parent : List Bool
  pub below : IsFront front parent
  pub child : IsFront (parent ++ true ∷ []) bits
  pub low_is : low_of (parent ++ true ∷ []) ≡ low_of bits

last_one : (front rest : List Bool) → length (front ++ rest) ≤ LIMIT → (low_of (front ++ rest) ≡ low_of front) ⊎ EndsInOne front (front ++ rest)
last_one front [] short = inl (ap low_of (append-nil front))
last_one front (bit ∷ rest) short =
    let parts : (front ++ bit ∷ []) ++ rest ≡ front ++ bit ∷ rest = append_assoc front (bit ∷ []) rest in
    let few : length (front ++ bit ∷ []) ≤ LIMIT = omega (arith, short, ap length parts, front_shorter (front ++ bit ∷ []) ((front ++ bit ∷ []) ++ rest) (front_of_longer (front ++ bit ∷ []) (front ++ bit ∷ []) rest (own_front (front ++ bit ∷ [])))) in
    let more = last_one (front ++ bit ∷ []) rest (omega (arith, short, ap length parts)) in
    let front_more : IsFront front (front ++ bit ∷ []) = front_of_longer front front (bit ∷ []) (own_front front) in
    let child : IsFront (front ++ bit ∷ []) (front ++ bit ∷ rest) = subst (IsFront (front ++ bit ∷ [])) parts (front_of_longer (front ++ bit ∷ []) (front ++ bit ∷ []) rest (own_front (front ++ bit ∷ []))) in
    elim more [
      | inl same ↦ (elim bit as (λ bit. length (front ++ bit ∷ []) ≤ LIMIT → IsFront (front ++ bit ∷ []) (front ++ bit ∷ rest) → low_of (front ++ bit ∷ rest) ≡ low_of (front ++ bit ∷ []) → (low_of (front ++ bit ∷ rest) ≡ low_of front) ⊎ EndsInOne front (front ++ bit ∷ rest)) [
        | true ↦ λ few child same. inr record { parent = front; below = own_front front; child = child; low_is = sym same }
        | false ↦ λ few child same. inl (same ∙ left_keeps front (omega (arith, few, length_push front false)))
      ]) few child (sym (ap low_of parts) ∙ same)
      | inr found ↦ inr record {
        parent = found.parent;
        below = front_of_front front (front ++ bit ∷ []) found.parent (front_shorter front (front ++ bit ∷ []) front_more) front_more found.below;
        child = subst (IsFront (found.parent ++ true ∷ [])) parts found.child;
        low_is = found.low_is ∙ ap low_of parts;
      }
    ]

ends_in_one : (front bits : List Bool) → IsFront front bits → length bits ≤ LIMIT → (low_of bits ≡ low_of front) ⊎ EndsInOne front bits
ends_in_one front bits is short =
    let rest = drop (length front) bits in
    let parts : front ++ rest ≡ bits = ap (λ f. f ++ rest) (sym is) ∙ take-append-drop (length front) bits in
    subst (λ bits. (low_of bits ≡ low_of front) ⊎ EndsInOne front bits) parts (last_one front rest (omega (arith, short, ap length parts)))

-- a front of a prefix has no greater low bound
front_low : (front bits : List Bool) → IsFront front bits → length bits ≤ LIMIT → low_of bits < 2 ^ 64 → low_of front ≤ low_of bits
front_low front bits is short small =
    let begun = front_of_front front bits (word_bits (low_of bits)) (front_shorter front bits is) is (begins_own_low bits short) in
    (begins_low front (low_of bits) (omega (arith, short, front_shorter front bits is)) small begun).0

parent_front : (parent bits : List Bool) → IsFront (parent ++ true ∷ []) bits → IsFront parent bits × (length parent < length bits)
parent_front parent bits child =
    let long : length (parent ++ true ∷ []) ≡ length parent + 1 = length_push parent true in (
      front_of_front parent (parent ++ true ∷ []) bits (omega (arith, long)) (front_of_longer parent parent (true ∷ []) (own_front parent)) child,
      omega (arith, long, front_shorter (parent ++ true ∷ []) bits child),
    )

merge_no_split : (found : Option Entry) (version right : ℕ) → found ≡ Some (record { number = version; kind = Merge }) → right_of found ≡ Some right → ⊥
merge_no_split found version right merge split = let none : Some right ≡ None = sym split ∙ ap right_of merge in cc

-- a live page, without its records
record HasLivePrefix (page : Page) : Type 0 where
  prefix : List Bool
  link : Option ℕ
  bare_is : with_records [] page ≡ Live prefix link []
  low_is : low_bound page ≡ low_of prefix
  home : (pseudokey : ℕ) → Begins prefix pseudokey → IsHome page pseudokey

live_page : (page : Page) → IsLive page → HasLivePrefix page
live_page (Live prefix link records) live = record { prefix = prefix; link = link; bare_is = refl; low_is = refl; home = λ pseudokey begins. begins }
live_page (Forward low target) live = absurd live

module _ (ward : List Bool) (start table late : TableMap) (taken later : List Notice) (pages : List Page) (pseudokey : ℕ)
    (linked : AreLinked ward (bare pages)) (grown : IsGrown ward start (taken ++ later) (bare pages)) (fits : FitsPages ward table (bare pages))
    (now : IsTableWithin ward start (taken ++ later) table) (then : IsTableWithin ward start taken late)
    (small : pseudokey < 2 ^ 64) (stop : Leaf) (is_stop : IsStop ward pages late pseudokey stop) where
  abbrev at : List Bool
  at = stop.prefix

  abbrev all : List (List Bool × Entry)
  all = entries start ++ map told_by (taken ++ later)

  live_of : (number : ℕ) (page : Page) → IsAt pages number page → IsLive page
      → (prefix : List Bool) × IsLiveAt (bare pages) prefix number × (low_bound page ≡ low_of prefix) × (Begins prefix pseudokey → IsHome page pseudokey)
  live_of number page is live =
      let shape = live_page page live in
      (shape.prefix, (shape.link, [], bare_at pages number page is ∙ ap Some shape.bare_is), shape.low_is, shape.home pseudokey)

  few_bits : (prefix : List Bool) (number : ℕ) → IsLiveAt (bare pages) prefix number → length prefix ≤ LIMIT
  few_bits prefix number live = (linked.within number _ live.2).1

  -- ---- what came later

  -- where the late table has a split and the ward's a merge, a change came later
  merged_later : (prefix : List Bool) (right : ℕ) → IsFront ward prefix → split_at late prefix ≡ Some right → IsMergeAt table prefix → AnyNotice (IsChangeAt prefix) later
  merged_later prefix right within split merge =
      let entry : Entry = record { number = merge.0; kind = Merge } in
      let told = told_later start taken later prefix entry (get late prefix) (subst (IsEntryOf all prefix) merge.1 (now prefix within)) (then prefix within) (λ same. merge_no_split (get late prefix) merge.0 right same split) in
      any_such _ (IsChangeAt prefix) (λ notice is. ap (λ (t : List Bool × Entry). t.0) is) later told

  -- where the ward's has a split and the late one none, a split came later
  split_later : (prefix : List Bool) (right : ℕ) → IsFront ward prefix → split_at late prefix ≡ None → split_at table prefix ≡ Some right → AnyNotice (IsSplitNotice prefix right) later
  split_later prefix right within none split =
      (elim (get table prefix) as (λ found. IsEntryOf all prefix found → right_of found ≡ Some right → AnyNotice (IsSplitNotice prefix right) later) [
        | None ↦ λ _ split. cc
        | Some entry ↦ λ is split.
            let told = told_later start taken later prefix entry (get late prefix) is (then prefix within) (λ same. let clash : Some right ≡ None = sym split ∙ sym (ap right_of same) ∙ none in cc) in
            any_such _ (IsSplitNotice prefix right) (λ notice is. (ap (λ (t : List Bool × Entry). t.0) is, ap (λ (t : List Bool × Entry). right_of_kind t.1.kind) is ∙ split)) later told
      ]) (now prefix within) split

  -- no leaf is a front of an inner prefix
  no_leaf_above : (prefix leaf : List Bool) → IsInner (bare pages) prefix → ward_leaves start ward (taken ++ later) leaf → IsFront leaf prefix → ⊥
  no_leaf_above prefix leaf inner is front =
      let live = inner.2 in
      let own = (grown.leaves leaf).0 is in
      let short = few_bits inner.0 inner.1 live in
      let shorter = front_shorter leaf prefix front in
      let above = front_of_front leaf prefix inner.0 shorter front inner.3.0 in
      let begun = front_of_front leaf inner.0 (word_bits (low_of inner.0)) (front_shorter leaf inner.0 above) above (begins_own_low inner.0 short) in
      let same : own.0 ≡ inner.1 = linked.one_home (low_of inner.0) own.0 inner.1 _ _ own.1.2 live.2 begun (begins_own_low inner.0 short) in
      let page = one_there (bare pages) inner.1 _ _ (subst (λ n. IsAt (bare pages) n (Live leaf own.1.0 own.1.1)) same own.1.2) live.2 in
      let prefix_is : leaf ≡ inner.0 = cc in
      omega (arith, ap length prefix_is, shorter, inner.3.1)

  -- each inner prefix from where the walk stops on was changed later
  inner_later : (prefix : List Bool) → IsFront at prefix → IsInner (bare pages) prefix → AnyNotice (IsChangeAt prefix) later
  inner_later prefix front inner =
      let short = few_bits inner.0 inner.1 inner.2 in
      let shorter = front_shorter at prefix front in
      let inner_at : IsInner (bare pages) at = (inner.0, inner.1, inner.2, (front_of_front at prefix inner.0 shorter front inner.3.0, omega (arith, shorter, inner.3.1))) in
      let split = (fits.splits at).1 (is_stop.within, inner_at) in
      let told = split_later at split.0 is_stop.within (is_stop.stops (omega (arith, short, shorter, inner.3.1))) split.1 in
      elim (cases_eq (length at) (length prefix)) [
        | inl same ↦ any_such (IsSplitNotice at split.0) (IsChangeAt prefix) (λ notice is. is.0 ∙ same_front at prefix front same) later told
        | inr differs ↦ elim (split_above (leaves_after (leaves_in start ward) taken) later at prefix split.0 front (omega (arith, differs, shorter)) told) [
          | inl leaf ↦ absurd (no_leaf_above prefix leaf.0 inner (subst (λ set. set leaf.0) (sym (leaves_after-append (leaves_in start ward) taken later)) leaf.1) leaf.2)
          | inr found ↦ found
        ]
      ]

  -- ---- from a live page on

  abbrev IsRightLow : ℕ → Notice → Type 0
  IsRightLow low notice = low ≡ low_of (notice.prefix ++ true ∷ [])

  right_later : (number : ℕ) (page : Page) → IsAt pages number page → is_live_between (low_of at) pseudokey page ≡ true → AnyNotice (IsRightLow (low_bound page)) later
  right_later number page is passes =
      let told = between_tells (low_of at) pseudokey page passes in
      let live = live_of number page is told.lives in
      let low = low_bound page in
      let short = few_bits live.0 number live.1 in
      let reach = begins_low at pseudokey (omega (arith, is_stop.few)) small is_stop.begins in
      let at_begins : Begins at low = begins_from_low at low (omega (arith, is_stop.few)) (omega (arith, told.above)) (omega (arith, told.within, reach)) in
      let own_begins : Begins live.0 low = subst (Begins live.0) (sym live.2) (begins_own_low live.0 short) in
      let front : IsFront at live.0 = (elim (cases_lt (length live.0) (length at)) [
        | inl less ↦
            let back = fronts_nest live.0 at (word_bits low) (omega (arith, less)) own_begins at_begins in
            absurd (omega (arith, front_low live.0 at back is_stop.few (omega (arith, reach, small)), told.above, live.2))
        | inr enough ↦ fronts_nest at live.0 (word_bits low) enough at_begins own_begins
      ]) in
      elim (ends_in_one at live.0 front short) [
        | inl same ↦ absurd (omega (arith, told.above, live.2, same))
        | inr one ↦
            let proper = parent_front one.parent live.0 one.child in
            any_such (IsChangeAt one.parent) (IsRightLow low) (λ notice is. live.2 ∙ sym one.low_is ∙ ap (λ p. low_of (p ++ true ∷ [])) (sym is)) later (inner_later one.parent one.below (live.0, number, live.1, proper))
      ]

  few_right : live_between pages (low_of at) pseudokey ≤ length later
  few_right = count_covered pages (apart ward pages linked) later (is_live_between (low_of at) pseudokey) right_later

  -- ---- over forwarding pages

  -- a forwarding page of a front of the stop's prefix: it was merged later, and sends on to the page of a shorter front
  record StepsUp (high : List Bool) (target : ℕ) : Type 0 where
    parent : List Bool
    within : IsFront ward parent
    front : IsFront parent at
    less : length parent < length high
    merged : IsMergeAt table parent
    told : AnyNotice (IsChangeAt parent) later
    page : Page
    there : IsAt pages target page
    low_is : low_bound page ≡ low_of parent

  steps_up : (number low target : ℕ) (high : List Bool) → IsAt pages number (Forward low target) → low ≡ low_of high → IsFront ward high → IsFront high at → StepsUp high target
  steps_up number low target high is low_is within front =
      let short : length high ≤ LIMIT = omega (arith, front_shorter high at front, is_stop.few) in
      elim (ends_in_one ward high within short) [
        | inl same ↦
            let first = first_page ward pages linked in
            let zero_is : number ≡ 0 = apart ward pages linked number 0 (Forward low target) first.0 is first.1 (low_is ∙ same ∙ sym first.3) in
            absurd (subst IsLive (one_there pages 0 first.0 (Forward low target) first.1 (subst (λ n. IsAt pages n (Forward low target)) zero_is is)) first.2)
        | inr one ↦
            let proper = parent_front one.parent high one.child in
            let less = proper.1 in
            let few : length one.parent < LIMIT = omega (arith, less, short) in
            let up = front_of_front one.parent high at (omega (arith, less)) proper.0 front in
            let split = is_stop.passed one.parent one.below up (omega (arith, less, front_shorter high at front)) in
            let low_one : low ≡ low_of (one.parent ++ true ∷ []) = low_is ∙ sym one.low_is in
            let forward : IsForwardOf (bare pages) (low_of (one.parent ++ true ∷ [])) number = (target, subst (λ low. IsAt (bare pages) number (Forward low target)) low_one (bare_at pages number (Forward low target) is)) in
            let merge = (fits.merges one.parent).1 (few, (number, forward)) in
            let next = target_cleared ward pages linked number low target is in
            record {
              parent = one.parent;
              within = one.below;
              front = up;
              less = less;
              merged = merge;
              told = merged_later one.parent split.0 one.below split.1 merge;
              page = next.0;
              there = next.1;
              low_is = next.2 ∙ ap lowest_cleared low_one ∙ lowest_cleared-right_child one.parent (omega (arith, few));
            }
      ]

  abbrev shorter_than : ℕ → Notice → Bool
  shorter_than most notice = nat_lt (length notice.prefix) most

  few_forwards : (over : List ℕ) (from to : ℕ) (page : Page) (high : List Bool) → IsForwarded pages from over to → IsAt pages from page → low_bound page ≡ low_of high → IsFront ward high → IsFront high at
      → length over ≤ count_by (shorter_than (length high)) later
  few_forwards [] from to page high chain is low_is within front = omega arith
  few_forwards (number ∷ over) from to page high chain is low_is within front =
      let low = chain.1.0 in
      let target = chain.1.1 in
      let same : page ≡ Forward low target = one_there pages number page (Forward low target) (subst (λ n. IsAt pages n page) chain.0 is) chain.1.2 in
      let up = steps_up number low target high chain.1.2 (sym (ap low_bound same) ∙ low_is) within front in
      let rest = few_forwards over target to up.page up.parent chain.1.3 up.there up.low_is up.within up.front in
      omega (arith, rest, more_below up.parent (length high) up.less later up.told)

  -- the first live page past a forwarding one is the home
  home_past : (over : List ℕ) (number from to : ℕ) (page : Page) (high : List Bool) → IsForwarded pages from (number ∷ over) to → IsAt pages from page → low_bound page ≡ low_of high → IsFront ward high → IsFront high at
      → (upper : List Bool) × StepsUp upper to
  home_past [] number from to page high chain is low_is within front =
      let low = chain.1.0 in
      let target = chain.1.1 in
      let same : page ≡ Forward low target = one_there pages number page (Forward low target) (subst (λ n. IsAt pages n page) chain.0 is) chain.1.2 in
      (high, subst (StepsUp high) chain.1.3 (steps_up number low target high chain.1.2 (sym (ap low_bound same) ∙ low_is) within front))
  home_past (next ∷ over) number from to page high chain is low_is within front =
      let low = chain.1.0 in
      let target = chain.1.1 in
      let same : page ≡ Forward low target = one_there pages number page (Forward low target) (subst (λ n. IsAt pages n page) chain.0 is) chain.1.2 in
      let up = steps_up number low target high chain.1.2 (sym (ap low_bound same) ∙ low_is) within front in
      home_past over next target to up.page up.parent chain.1.3 up.there up.low_is up.within up.front

  home_begins : (high : List Bool) (number : ℕ) (page : Page) → StepsUp high number → IsAt pages number page → IsLive page → live_between pages (low_bound page) pseudokey ≡ 0
  home_begins high number page up is live =
      let own = live_of number page is live in
      let short = few_bits own.0 number own.1 in
      let same_page : up.page ≡ page = one_there pages number up.page page up.there is in
      let low_is : low_of up.parent ≡ low_of own.0 = sym up.low_is ∙ ap low_bound same_page ∙ own.2 in
      let few : length up.parent ≤ LIMIT = omega (arith, front_shorter up.parent at up.front, is_stop.few) in
      let word = word_bits (low_of own.0) in
      let parent_begins : IsFront up.parent word = subst (Begins up.parent) low_is (begins_own_low up.parent few) in
      let own_begins = begins_own_low own.0 short in
      let front : IsFront own.0 up.parent = (elim (cases_lt (length up.parent) (length own.0)) [
        | inl less ↦
            let inner : IsInner (bare pages) up.parent = (own.0, number, own.1, (fronts_nest up.parent own.0 word (omega (arith, less)) parent_begins own_begins, less)) in
            let split = (fits.splits up.parent).1 (up.within, inner) in
            absurd (merge_no_split (get table up.parent) up.merged.0 split.0 up.merged.1 split.1)
        | inr enough ↦ fronts_nest own.0 up.parent word enough own_begins parent_begins
      ]) in
      let front_at = front_of_front own.0 up.parent at (front_shorter own.0 up.parent front) front up.front in
      let begins : Begins own.0 pseudokey = front_of_front own.0 at (word_bits pseudokey) (front_shorter own.0 at front_at) front_at is_stop.begins in
      none_from_home ward pages linked pseudokey number page is small (own.3 begins)

  -- ---- any page

  near_over : (over : List ℕ) (live : ℕ) (page : Page) → IsForwarded pages stop.page over live → IsAt pages live page → IsLive page → length over + live_between pages (low_bound page) pseudokey ≤ length later
  near_over [] live page chain is lives =
      let named = is_stop.page in
      let same : named.0 ≡ page = one_there pages live named.0 page (subst (λ n. IsAt pages n named.0) chain named.1) is in
      let low_is : low_bound page ≡ low_of at = sym (ap low_bound same) ∙ named.2 in
      omega (arith, few_right, ap (λ low. live_between pages low pseudokey) low_is)
  near_over (number ∷ over) live page chain is lives =
      let named = is_stop.page in
      let few = few_forwards (number ∷ over) stop.page live named.0 at chain named.1 named.2 is_stop.within (own_front at) in
      let past = home_past over number stop.page live named.0 at chain named.1 named.2 is_stop.within (own_front at) in
      omega (arith, few, count_by-le-length (shorter_than (length at)) later, home_begins past.0 live page past.1 is lives)

  pub near : (distance : ℕ) → IsDistance pages stop.page pseudokey distance → distance ≤ length later
  near distance is = omega (arith, is.sum, near_over is.over is.live is.page is.forwarded is.there is.lives)

-- ---- the claim

module _ (home : GetsGoHome) (ward : List Bool) (pages : List Page) (linked : AreLinked ward (bare pages)) (pseudokey : ℕ) (small : pseudokey < 2 ^ 64) (covered : Begins ward pseudokey) where
  -- where a request can go on, it has a distance
  has_distance : (number : ℕ) → IsBelow pages number pseudokey → (distance : ℕ) × IsDistance pages number pseudokey distance
  has_distance number below =
      let way = (home 0 (λ key. pseudokey) ward pages number [] (record { linked = linked; word = small; covered = covered; below = below })).0 in
      (length way.moves, way.distance)

  stop_below : (table : TableMap) (stop : Leaf) → IsStop ward pages table pseudokey stop → IsBelow pages stop.page pseudokey
  stop_below table stop is = (is.page.0, is.page.1, omega (arith, is.page.2, (begins_low stop.prefix pseudokey (omega (arith, is.few)) small is.begins).0))

pub late_near : GetsGoHome → (cap : ℕ) (pseudo : List ℕ → ℕ) (ward : List Bool) (start : TableMap) (changes : List Notice) (table : TableMap) (pages : List Page) (m : ℕ) (late : TableMap) (pseudokey : ℕ)
    → IsWard cap pseudo ward start changes table pages → IsTableWithin ward start changes table → m ≤ length changes → IsTableWithin ward start (take m changes) late → NamesPages ward pages late
    → pseudokey < 2 ^ 64 → Begins ward pseudokey → IsDistanceUpTo pages (walk_in late ward pseudokey).page pseudokey (length changes - m)
late_near home cap pseudo ward start changes table pages m late pseudokey is now within then names small covered =
    let linked = is.legal.legal.linked in
    let parts : take m changes ++ drop m changes ≡ changes = take-append-drop m changes in
    let first = first_page ward pages linked in
    let stop = walk_in late ward pseudokey in
    let is_stop = walk_stops ward pages late pseudokey names (ward_few ward pages linked) covered (first.0, first.1, first.3) in
    let grown = subst (λ changes. IsGrown ward start changes (bare pages)) (sym parts) is.legal.grown in
    let now_parts = subst (λ changes. IsTableWithin ward start changes table) (sym parts) now in
    let has = has_distance home ward pages linked pseudokey small covered stop.page (stop_below home ward pages linked pseudokey small covered late stop is_stop) in
    let few = near ward start table late (take m changes) (drop m changes) pages pseudokey linked grown is.fits now_parts then small stop is_stop has.0 has.1 in
    (has.0, has.1, omega (arith, few, length-drop m changes))
