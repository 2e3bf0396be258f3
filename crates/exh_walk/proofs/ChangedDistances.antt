-- A split or a merge raises a distance by at most one.
use Rattle.std.proofs.Common.{◌≡◌, ◌≢◌, ℕ, suc, ◌+◌, ◌-◌, ◌^◌, ◌<◌, ◌≤◌, Bool, true, false, List, [], ◌∷◌, ◌++◌, length, Some, ◌⊎◌, inl, inr, refl, sym, ap, ◌∙◌, subst, arith}
use Rattle.std.specs.Prelude.{nat_lt, nat_le}
use Rattle.std.proofs.lemmas.Bool.{cases_eq, cases_lt, and_parts, ltb-true, leb-true}
use Rattle.std.proofs.lemmas.List.{length_push}
use Rattle.std.proofs.lemmas.Option.{slice_get_within}
use Rattle.exh_prefix.specs.declared.prefix.TheConstants.{LIMIT}
use Rattle.exh_prefix.specs.Prefix.{Begins, low_of}
use Rattle.exh_prefix.specs.PrefixLemmas.{begins_from_low, low_of-child}
use Rattle.exh_page.specs.declared.page.Page.{Page}
use Rattle.exh_page.specs.declared.page.Page.TheVariants.{Live, Forward}
use Rattle.exh_page.specs.Page.{IsLive, low_bound, begun_by}
use Rattle.exh_legal.specs.Change.{IsSplit, IsMerge}
use Rattle.exh_prefix.specs.LowLemmas.{left_keeps}
use Rattle.exh_legal.specs.Pages.{IsAt, AreLinked, bare}
use Rattle.exh_ward.specs.Distance.{IsDistance, IsForwarded, is_live_between, live_between}
use Rattle.exh_walk.specs.DistanceLaws.{IsChange, IsDistanceUpTo}
use Rattle.exh_walk.proofs.CountsWithin.{count_within, count_within_but}
use Rattle.exh_ward.specs.LinkLemmas.{apart, one_home, within_at, target_below}
use Rattle.exh_legal.specs.LegalPlaceLemmas.{home_of_low}
use Rattle.exh_ward.specs.LiveCountLemmas.{is_between}
use Rattle.exh_prefix.specs.PrefixListLemmas.{one_there}

-- ---- what the test that counts live pages tells

pub record IsBetween (low pseudokey : ℕ) (page : Page) : Type 0 where
  pub lives : IsLive page
  pub above : low < low_bound page
  pub within : low_bound page ≤ pseudokey

pub between_tells : (low pseudokey : ℕ) (page : Page) → is_live_between low pseudokey page ≡ true → IsBetween low pseudokey page
between_tells low pseudokey (Live prefix right records) passed =
    let both = and_parts (nat_lt low (low_of prefix)) (nat_le (low_of prefix) pseudokey) passed in
    record { lives = tt; above = ltb-true low (low_of prefix) both.0; within = leb-true (low_of prefix) pseudokey both.1 }
between_tells low pseudokey (Forward bound target) passed = cc

-- ---- forwarding pages before and after

-- but for one page, forwarding pages stay, and live pages stay live, with their low bounds, and were it before
pub record AreKeptBut (pages new : List Page) (one : ℕ) : Type 0 where
  pub forwards : (number low target : ℕ) → number ≢ one → IsAt pages number (Forward low target) → IsAt new number (Forward low target)
  pub lives : (number : ℕ) (page : Page) → number ≢ one → IsAt pages number page → IsLive page → (after : Page) × IsAt new number after × IsLive after × (low_bound after ≡ low_bound page)
  pub lived : (number : ℕ) (after : Page) → number ≢ one → IsAt new number after → IsLive after → (page : Page) × IsAt pages number page × IsLive page × (low_bound page ≡ low_bound after)

-- forwarding comes to one page, and goes on from there
pub record IsCut (pages new : List Page) (from one : ℕ) (over : List ℕ) (to : ℕ) : Type 0 where
  pub front : List ℕ
  pub rest : List ℕ
  pub before : IsForwarded new from front one
  pub low : ℕ
  pub target : ℕ
  pub there : IsAt pages one (Forward low target)
  pub after : IsForwarded pages target rest to
  pub longer : length over ≡ suc (length front + length rest)

module _ (pages new : List Page) (one : ℕ) (kept : AreKeptBut pages new one) where
  pub cut_or_kept : (from : ℕ) (over : List ℕ) (to : ℕ) → IsForwarded pages from over to → IsForwarded new from over to ⊎ IsCut pages new from one over to
  cut_or_kept from [] to chain = inl chain
  cut_or_kept from (number ∷ over) to chain =
      let low = chain.1.0 in
      let target = chain.1.1 in
      elim (cases_eq number one) [
        | inl here ↦ inr record {
          front = [];
          rest = over;
          before = chain.0 ∙ here;
          low = low;
          target = target;
          there = subst (λ n. IsAt pages n (Forward low target)) here chain.1.2;
          after = chain.1.3;
          longer = omega arith;
        }
        | inr else ↦
            let stays = kept.forwards number low target else chain.1.2 in
            elim (cut_or_kept target over to chain.1.3) [
              | inl rest ↦ inl (chain.0, (low, target, stays, rest))
              | inr cut ↦ inr record {
                front = number ∷ cut.front;
                rest = cut.rest;
                before = (chain.0, (low, target, stays, cut.before));
                low = cut.low;
                target = cut.target;
                there = cut.there;
                after = cut.after;
                longer = omega (arith, cut.longer);
              }
            ]
      ]

  -- what is counted afterwards was counted, but at one page
  counted_before : (low bound pseudokey : ℕ) → bound ≤ low → (place : ℕ) → place ≢ one → (after : Page) → IsAt new place after → is_live_between low pseudokey after ≡ true → (page : Page) × IsAt pages place page × (is_live_between bound pseudokey page ≡ true)
  counted_before low bound pseudokey less place else after is passed =
      let told = between_tells low pseudokey after passed in
      let was = kept.lived place after else is told.lives in
      (was.0, was.1, is_between bound pseudokey was.0 was.2 (omega (arith, told.above, was.3, less)) (omega (arith, told.within, was.3)))

  one_more_counted : (low bound pseudokey : ℕ) → bound ≤ low → live_between new low pseudokey ≤ suc (live_between pages bound pseudokey)
  one_more_counted low bound pseudokey less = count_within_but (is_live_between low pseudokey) (is_live_between bound pseudokey) pages new one (counted_before low bound pseudokey less)

  -- none more, where that page isn't counted
  pub none_more_counted : (low bound pseudokey : ℕ) → bound ≤ low → ((after : Page) → IsAt new one after → IsLive after → ⊥) → live_between new low pseudokey ≤ live_between pages bound pseudokey
  none_more_counted low bound pseudokey less not =
      count_within (is_live_between low pseudokey) (is_live_between bound pseudokey) pages new (λ place after is passed.
      elim (cases_eq place one) [
        | inl here ↦ absurd (not after (subst (λ n. IsAt new n after) here is) (between_tells low pseudokey after passed).lives)
        | inr else ↦ counted_before low bound pseudokey less place else after is passed
      ])

  -- the way to a live page that stays
  module _ (from pseudokey distance : ℕ) (is : IsDistance pages from pseudokey distance) (chain : IsForwarded new from is.over is.live) (else : is.live ≢ one) where
    pub stayed : (counted : ℕ) → live_between new (low_bound is.page) pseudokey ≤ live_between pages (low_bound is.page) pseudokey + counted → IsDistanceUpTo new from pseudokey (distance + counted)
    stayed counted few =
        let after = kept.lives is.live is.page else is.there is.lives in
        let count : live_between new (low_bound after.0) pseudokey ≡ live_between new (low_bound is.page) pseudokey = ap (λ low. live_between new low pseudokey) after.3 in (
          length is.over + live_between new (low_bound after.0) pseudokey,
          record { over = is.over; live = is.live; forwarded = chain; page = after.0; there = after.1; lives = after.2; sum = refl },
          omega (arith, is.sum, few, count),
        )

-- ---- low bounds along forwarding pages

module _ (ward : List Bool) (pages : List Page) (linked : AreLinked ward (bare pages)) where
  chain_down : (from : ℕ) (over : List ℕ) (to : ℕ) (first last : Page) → IsForwarded pages from over to → IsAt pages from first → IsAt pages to last → low_bound last ≤ low_bound first
  chain_down from [] to first last chain is is_last = omega (arith, ap low_bound (one_there pages to first last (subst (λ n. IsAt pages n first) chain is) is_last))
  chain_down from (number ∷ over) to first last chain is is_last =
      let low = chain.1.0 in
      let target = chain.1.1 in
      let same : first ≡ Forward low target = one_there pages number first (Forward low target) (subst (λ n. IsAt pages n first) chain.0 is) chain.1.2 in
      let next = target_below ward pages linked number low target chain.1.2 in
      omega (arith, chain_down target over to next.0 last chain.1.3 next.1 is_last, next.2, ap low_bound same)

  -- ---- a split

  module _ (cap at : ℕ) (prefix : List Bool) (right : ℕ) (new : List Page) (split : IsSplit cap pages at prefix right new) where
    -- the right page wasn't live
    not_live_before : (page : Page) → IsAt pages right page → IsLive page → ⊥
    not_live_before page is live = elim split.place [
      | inl revived ↦ subst IsLive (one_there pages right page (Forward _ revived.0.0) is revived.0.1) live
      | inr fresh ↦ omega (arith, slice_get_within pages right page is, fresh.last)
    ]

    -- and where it was there, it forwarded from its own low bound
    forwarded_before : (low target : ℕ) → IsAt pages right (Forward low target) → low ≡ low_of (prefix ++ true ∷ [])
    forwarded_before low target is = elim split.place [
      | inl revived ↦ ap low_bound (one_there pages right (Forward low target) (Forward _ revived.0.0) is revived.0.1)
      | inr fresh ↦ absurd (omega (arith, slice_get_within pages right (Forward low target) is, fresh.last))
    ]

    split_forwards : (number low target : ℕ) → number ≢ right → IsAt pages number (Forward low target) → IsAt new number (Forward low target)
    split_forwards number low target else is = elim (cases_eq number at) [
      | inl here ↦ absurd (subst IsLive (one_there pages at (Live prefix split.link split.records) (Forward low target) split.there (subst (λ n. IsAt pages n (Forward low target)) here is)) tt)
      | inr other ↦ split.others number other else ∙ is
    ]

    left_page : Page
    left_page = Live (prefix ++ false ∷ []) (Some right) (begun_by (prefix ++ false ∷ []) split.records)

    split_lives : (number : ℕ) (page : Page) → number ≢ right → IsAt pages number page → IsLive page → (after : Page) × IsAt new number after × IsLive after × (low_bound after ≡ low_bound page)
    unfolding left_page
    split_lives number page else is live = elim (cases_eq number at) [
      | inl here ↦
          let same = one_there pages at page (Live prefix split.link split.records) (subst (λ n. IsAt pages n page) here is) split.there in
          (left_page, subst (λ n. IsAt new n left_page) (sym here) split.left, tt, left_keeps prefix split.short ∙ sym (ap low_bound same))
      | inr other ↦ (page, split.others number other else ∙ is, live, refl)
    ]

    split_lived : (number : ℕ) (after : Page) → number ≢ right → IsAt new number after → IsLive after → (page : Page) × IsAt pages number page × IsLive page × (low_bound page ≡ low_bound after)
    unfolding left_page
    split_lived number after else is live = elim (cases_eq number at) [
      | inl here ↦
          let same = one_there new at after left_page (subst (λ n. IsAt new n after) here is) split.left in
          let old = Live prefix split.link split.records in
          (old, subst (λ n. IsAt pages n old) (sym here) split.there, tt, sym (left_keeps prefix split.short) ∙ sym (ap low_bound same))
      | inr other ↦ (after, sym (split.others number other else) ∙ is, live, refl)
    ]

    split_kept : AreKeptBut pages new right
    split_kept = record { forwards = split_forwards; lives = split_lives; lived = split_lived }

    -- the way ends at the page that is live now
    cut_short : (from pseudokey distance : ℕ) (is : IsDistance pages from pseudokey distance) → IsCut pages new from right is.over is.live → IsDistanceUpTo new from pseudokey (distance + 1)
    cut_short from pseudokey distance is cut =
        let first = Forward cut.low cut.target in
        let down : low_bound is.page ≤ low_bound first = chain_down right (right ∷ cut.rest) is.live first is.page (refl, (cut.low, cut.target, cut.there, cut.after)) cut.there is.there in
        let low_is = forwarded_before cut.low cut.target cut.there in
        let low = low_of (prefix ++ true ∷ []) in
        let few = one_more_counted pages new right split_kept low (low_bound is.page) pseudokey (omega (arith, down, low_is)) in (
          length cut.front + live_between new low pseudokey,
          record { over = cut.front; live = right; forwarded = cut.before; page = Live (prefix ++ true ∷ []) split.link (begun_by (prefix ++ true ∷ []) split.records); there = split.right_half; lives = tt; sum = refl },
          omega (arith, is.sum, few, cut.longer),
        )

    pub split_adds_one : (from pseudokey distance : ℕ) → IsDistance pages from pseudokey distance → IsDistanceUpTo new from pseudokey (distance + 1)
    split_adds_one from pseudokey distance is = elim (cut_or_kept pages new right split_kept from is.over is.live is.forwarded) [
      | inl chain ↦
          stayed pages new right split_kept from pseudokey distance is chain (λ same. not_live_before is.page (subst (λ n. IsAt pages n is.page) same is.there) is.lives) 1
          (omega (arith, one_more_counted pages new right split_kept (low_bound is.page) (low_bound is.page) pseudokey (omega arith)))
      | inr cut ↦ cut_short from pseudokey distance is cut
    ]

  -- ---- a merge

  chain_longer : (new : List Page) (from : ℕ) (over : List ℕ) (at low target : ℕ) → IsForwarded new from over at → IsAt new at (Forward low target) → IsForwarded new from (over ++ at ∷ []) target
  chain_longer new from [] at low target chain is = (chain, (low, target, is, refl))
  chain_longer new from (number ∷ over) at low target chain is = (chain.0, (chain.1.0, chain.1.1, chain.1.2, chain_longer new chain.1.1 over at low target chain.1.3 is))

  module _ (cap at : ℕ) (prefix : List Bool) (new : List Page) (merge : IsMerge cap pages at prefix new) where
    left_old : Page
    left_old = Live (prefix ++ false ∷ []) merge.left_link merge.left_records

    right_old : Page
    right_old = Live (prefix ++ true ∷ []) merge.right_link merge.right_records

    merged_page : Page
    merged_page = Live prefix merge.right_link (merge.left_records ++ merge.right_records)

    forward_page : Page
    forward_page = Forward (low_of (prefix ++ true ∷ [])) at

    short : length prefix < LIMIT
    unfolding left_old
    short = omega (arith, (within_at ward pages linked at left_old merge.there).1, length_push prefix false)

    not_live_after : (after : Page) → IsAt new merge.right after → IsLive after → ⊥
    unfolding forward_page
    not_live_after after is live = subst IsLive (one_there new merge.right after forward_page is merge.forwards) live

    merge_forwards : (number low target : ℕ) → number ≢ merge.right → IsAt pages number (Forward low target) → IsAt new number (Forward low target)
    unfolding left_old
    merge_forwards number low target else is = elim (cases_eq number at) [
      | inl here ↦ absurd (subst IsLive (one_there pages at left_old (Forward low target) merge.there (subst (λ n. IsAt pages n (Forward low target)) here is)) tt)
      | inr other ↦ merge.others number other else ∙ is
    ]

    merge_lives : (number : ℕ) (page : Page) → number ≢ merge.right → IsAt pages number page → IsLive page → (after : Page) × IsAt new number after × IsLive after × (low_bound after ≡ low_bound page)
    unfolding left_old merged_page
    merge_lives number page else is live = elim (cases_eq number at) [
      | inl here ↦
          let same = one_there pages at page left_old (subst (λ n. IsAt pages n page) here is) merge.there in
          (merged_page, subst (λ n. IsAt new n merged_page) (sym here) merge.merged, tt, sym (left_keeps prefix short) ∙ sym (ap low_bound same))
      | inr other ↦ (page, merge.others number other else ∙ is, live, refl)
    ]

    merge_lived : (number : ℕ) (after : Page) → number ≢ merge.right → IsAt new number after → IsLive after → (page : Page) × IsAt pages number page × IsLive page × (low_bound page ≡ low_bound after)
    unfolding left_old merged_page
    merge_lived number after else is live = elim (cases_eq number at) [
      | inl here ↦
          let same = one_there new at after merged_page (subst (λ n. IsAt new n after) here is) merge.merged in
          (left_old, subst (λ n. IsAt pages n left_old) (sym here) merge.there, tt, left_keeps prefix short ∙ sym (ap low_bound same))
      | inr other ↦ (after, sym (merge.others number other else) ∙ is, live, refl)
    ]

    merge_kept : AreKeptBut pages new merge.right
    merge_kept = record { forwards = merge_forwards; lives = merge_lives; lived = merge_lived }

    right_live : (low target : ℕ) → IsAt pages merge.right (Forward low target) → ⊥
    unfolding right_old
    right_live low target is = subst IsLive (one_there pages merge.right right_old (Forward low target) merge.buddy is) tt

    -- no other live page has a low bound from the left page's to the right page's
    left_begins : (bound : ℕ) → low_of prefix ≤ bound → bound < low_of (prefix ++ true ∷ []) → Begins (prefix ++ false ∷ []) bound
    left_begins bound above below =
        let size : 64 - length (prefix ++ false ∷ []) ≡ 63 - length prefix = omega (arith, length_push prefix false) in
        let power : 2 ^ (64 - length (prefix ++ false ∷ [])) ≡ 2 ^ (63 - length prefix) = ap (λ n. 2 ^ n) size in
        begins_from_low (prefix ++ false ∷ []) bound (omega (arith, length_push prefix false, short)) (omega (arith, left_keeps prefix short, above)) (omega (arith, left_keeps prefix short, low_of-child prefix true (omega (arith, short)), power, below))

    beyond_right : (number : ℕ) (page : Page) → IsAt pages number page → IsLive page → number ≢ at → number ≢ merge.right → low_of prefix < low_bound page → low_of (prefix ++ true ∷ []) < low_bound page
    unfolding left_old right_old
    beyond_right number page is live else other above = elim (cases_lt (low_bound page) (low_of (prefix ++ true ∷ []))) [
      | inl below ↦
          let begun = left_begins (low_bound page) (omega (arith, above)) below in
          let own = home_of_low page ward (within_at ward pages linked number page is) live in
          absurd (else (one_home ward pages linked (low_bound page) number at page left_old is merge.there own begun))
      | inr not ↦ elim (cases_eq (low_bound page) (low_of (prefix ++ true ∷ []))) [
        | inl same ↦ absurd (other (apart ward pages linked number merge.right page right_old is merge.buddy same))
        | inr differs ↦ omega (arith, not, differs)
      ]
    ]

    counted_beyond : (pseudokey place : ℕ) (after : Page) → IsAt new place after → is_live_between (low_of prefix) pseudokey after ≡ true → (page : Page) × IsAt pages place page × (is_live_between (low_of (prefix ++ true ∷ [])) pseudokey page ≡ true)
    unfolding merged_page
    counted_beyond pseudokey place after is passed =
        let told = between_tells (low_of prefix) pseudokey after passed in
        elim (cases_eq place at) [
          | inl here ↦
              let same = one_there new at after merged_page (subst (λ n. IsAt new n after) here is) merge.merged in
              absurd (omega (arith, told.above, ap low_bound same))
          | inr else ↦ elim (cases_eq place merge.right) [
            | inl right ↦ absurd (not_live_after after (subst (λ n. IsAt new n after) right is) told.lives)
            | inr other ↦
                let was : IsAt pages place after = sym (merge.others place else other) ∙ is in
                (after, was, is_between (low_of (prefix ++ true ∷ [])) pseudokey after told.lives (beyond_right place after was told.lives else other told.above) told.within)
          ]
        ]

    -- the way goes on over the right page
    gone_on : (from pseudokey distance : ℕ) (is : IsDistance pages from pseudokey distance) → IsForwarded new from is.over is.live → is.live ≡ merge.right → IsDistanceUpTo new from pseudokey (distance + 1)
    unfolding right_old merged_page
    gone_on from pseudokey distance is chain here =
        let low = low_of (prefix ++ true ∷ []) in
        let same : is.page ≡ right_old = one_there pages merge.right is.page right_old (subst (λ n. IsAt pages n is.page) here is.there) merge.buddy in
        let low_is : low_bound is.page ≡ low = ap low_bound same in
        let before : live_between pages (low_bound is.page) pseudokey ≡ live_between pages low pseudokey = ap (λ bound. live_between pages bound pseudokey) low_is in
        let few : live_between new (low_of prefix) pseudokey ≤ live_between pages low pseudokey = count_within (is_live_between (low_of prefix) pseudokey) (is_live_between low pseudokey) pages new (counted_beyond pseudokey) in
        let over = is.over ++ merge.right ∷ [] in (
          length over + live_between new (low_of prefix) pseudokey,
          record {
            over = over;
            live = at;
            forwarded = chain_longer new from is.over merge.right low at (subst (IsForwarded new from is.over) here chain) merge.forwards;
            page = merged_page;
            there = merge.merged;
            lives = tt;
            sum = refl;
          },
          omega (arith, is.sum, few, before, length_push is.over merge.right),
        )

    pub merge_adds_one : (from pseudokey distance : ℕ) → IsDistance pages from pseudokey distance → IsDistanceUpTo new from pseudokey (distance + 1)
    merge_adds_one from pseudokey distance is = elim (cut_or_kept pages new merge.right merge_kept from is.over is.live is.forwarded) [
      | inl chain ↦ elim (cases_eq is.live merge.right) [
        | inl here ↦ gone_on from pseudokey distance is chain here
        | inr else ↦
            stayed pages new merge.right merge_kept from pseudokey distance is chain else 1
            (omega (arith, none_more_counted pages new merge.right merge_kept (low_bound is.page) (low_bound is.page) pseudokey (omega arith) not_live_after))
      ]
      | inr cut ↦ absurd (right_live cut.low cut.target cut.there)
    ]

  -- ---- either

  pub change_adds_one : (cap : ℕ) (new : List Page) → IsChange cap pages new → (from pseudokey distance : ℕ) → IsDistance pages from pseudokey distance → IsDistanceUpTo new from pseudokey (distance + 1)
  change_adds_one cap new change = elim change [
    | inl split ↦ split_adds_one cap split.0 split.1 split.2 new split.3
    | inr merge ↦ merge_adds_one cap merge.0 merge.1 new merge.2
  ]
