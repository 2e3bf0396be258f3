-- A merge of two pages of a ward: what it finds, the pages that it leaves, and its notice.
use Rattle.std.proofs.Common.{◌≡◌, ℕ, ◌-◌, ◌<◌, ◌≤◌, ◌^◌, Bool, true, false, List, [], ◌∷◌, ◌++◌, length, Option, Some, inl, inr, refl, sym, ap, ◌∙◌, subst, arith}
use Rattle.std.specs.Prelude.{slice_set}
use Rattle.std.proofs.lemmas.List.{length-append, length-set}
use Rattle.std.proofs.lemmas.Option.{slice_get_within}
use Rattle.exh_prefix.specs.declared.prefix.TheConstants.{LIMIT}
use Rattle.exh_prefix.specs.Prefix.{IsFront, low_of}
use Rattle.exh_notice.specs.declared.entry.Kind.TheVariants.{Merge}
use Rattle.exh_notice.specs.declared.notice.Notice.{Notice}
use Rattle.exh_page.specs.declared.page.TheConstants.{CAP_LIMIT}
use Rattle.exh_page.specs.declared.page.Page.{Page}
use Rattle.exh_page.specs.declared.page.Page.TheVariants.{Live, Forward}
use Rattle.exh_page.specs.Halves.{union}
use Rattle.exh_page.specs.PageLaws.{AreOfWords, BuddiesUnite}
use Rattle.exh_page.specs.Page.{AreRecordsOf, IsWellFormed, low_bound, records_of}
use Rattle.exh_page.specs.PageHead.{IsLiveHead, count_in, head_of}
use Rattle.exh_page.specs.declared.page_head.PageHead.{PageHead}
use Rattle.exh_page.specs.declared.page_head.PageHead.TheVariants.{Live as LiveHead}
use Rattle.exh_stores.specs.PageStore.{HasHead}
use Rattle.exh_legal.specs.BareLemmas.{bare_at}
use Rattle.exh_legal.specs.Change.{IsMerge}
use Rattle.exh_legal.specs.LegalLaws.{LinksToSibling, LeftChildrenLinkToSiblings, MergesKeepLegal}
use Rattle.exh_prefix.specs.LowLemmas.{left_keeps, right_above}
use Rattle.exh_prefix.specs.PrefixListLemmas.{set_here, set_else, one_there}
use Rattle.exh_legal.specs.MapLemmas.{page_at}
use Rattle.exh_legal.specs.ChangeNumbers.{next_notice}
use Rattle.exh_legal.specs.Pages.{IsAt, IsLegalPage, IsWithin}
use Rattle.exh_ward.specs.WardKept.{IsKeptWard}
use Rattle.exh_ward.specs.MergeStep.{FitTogether, IsLeftChild, HasNoBuddy, IsMergeStep}
use Rattle.exh_legal.specs.LeftHalf.{FitsBeside, IsLeftHalf}
use Rattle.exh_legal.specs.HalvesFault.{NoLeftHalf, NotBeside}
use Rattle.exh_legal.specs.declared.halves_fault.HalvesFault.{HalvesFault}
use Rattle.exh_legal.specs.declared.left_half.LeftHalf.{LeftHalf}
use Rattle.exh_ward.specs.WardFault.{MergeRefused, IsTellingFault, fault_of_halves}
use Rattle.exh_ward.specs.declared.ward_fault.WardFault.{WardFault}
use Rattle.exh_ward.specs.declared.ward_fault.WardFault.TheVariants.{NoPage, NotLive as WardNotLive, NotFull as WardNotFull, AtLimit as WardAtLimit, NoBuddy as WardNoBuddy, BuddySplit as WardBuddySplit, TooMany as WardTooMany, Worn, Memory as WardMemory, Page as PageFault}
use Rattle.exh_legal.specs.PageIndex.{IndexMap}
use Rattle.exh_ward.specs.Told.{IsChangedTo, IsTold, MayChange}
use Rattle.exh_ward.specs.WardState.{WardState, IsSound, own_prefix}
use Rattle.exh_legal.specs.declared.halves_fault.HalvesFault.TheVariants.{NotLive, NotFull, AtLimit, NoBuddy, BuddySplit, TooMany}
use Rattle.exh_ward.proofs.Heads.{IsHeaded, counted_in, headed}
use Rattle.exh_ward.proofs.StepsKeepSound.{well_formed}

forwards : (page : Page) → (IsLiveHead (head_of page) → ⊥) → (low target : ℕ) × (page ≡ Forward low target)
forwards (Live prefix link records) not = absurd (not tt)
forwards (Forward low target) not = (low, target, refl)

few_in : (cap : ℕ) (pseudo : List ℕ → ℕ) (page : Page) → IsLegalPage cap pseudo page → length (records_of page) ≤ cap
few_in cap pseudo (Live prefix link records) legal = legal.1
few_in cap pseudo (Forward low target) legal = omega arith

-- ---- the pages that it leaves

module _ {K : Type 0} {w : WardState K} {at : ℕ} {parent : List Bool} {twin : ℕ} (halves : FitTogether w at parent twin) where
  abbrev merged : Page
  merged = Live parent halves.link (halves.records ++ halves.others)

  abbrev forward_page : Page
  forward_page = Forward (low_of (parent ++ true ∷ [])) at

  abbrev left_half : Page
  left_half = Live (parent ++ false ∷ []) halves.left.link halves.records

  abbrev right_half : Page
  right_half = Live (parent ++ true ∷ []) halves.link halves.others

  pub apart : at ≡ twin → ⊥
  apart same =
      let one : left_half ≡ right_half = one_there w.pages at left_half right_half halves.left.there (subst (λ n. IsAt w.pages n right_half) (sym same) halves.buddy) in
      let low : low_of (parent ++ false ∷ []) ≡ low_of (parent ++ true ∷ []) = ap low_bound one in
      omega (arith, low, left_keeps parent halves.short, right_above parent halves.short)

  abbrev first : List Page
  first = slice_set w.pages at merged

  abbrev new : List Page
  new = slice_set first twin forward_page

  right_first : IsAt first twin right_half
  right_first = set_else w.pages at twin merged (λ same. apart (sym same)) ∙ halves.buddy

  forwards_there : IsAt new twin forward_page
  forwards_there = set_here first twin right_half forward_page right_first

  merge_is : IsMerge w.cap w.pages at parent new
  merge_is = record {
    right = twin;
    left_link = halves.left.link;
    right_link = halves.link;
    left_records = halves.records;
    right_records = halves.others;
    there = halves.left.there;
    buddy = halves.buddy;
    few = halves.few;
    merged = set_else first twin at forward_page apart ∙ set_here w.pages at left_half merged halves.left.there;
    forwards = forwards_there;
    others = λ number else elsewhere. set_else first twin number forward_page elsewhere ∙ set_else w.pages at number merged else;
    same = length-set first twin forward_page ∙ length-set w.pages at merged;
  }

  module _ {pseudo : List ℕ → ℕ} (sound : IsSound pseudo w) (words : AreOfWords pseudo) (law : MergesKeepLegal) (notice : Notice) (next : notice ≡ next_notice w.number w.table parent Merge) where
    pub merge_changed : IsChangedTo pseudo w notice new
    merge_changed = law w.cap pseudo (own_prefix w) w.start w.notices w.table w.pages at parent new notice words sound.legal merge_is
        (ap (λ (n : Notice). n.prefix) next) (ap (λ (n : Notice). n.number) next) (ap (λ (n : Notice). n.kind) next)

    pub forward_formed : IsWellFormed pseudo forward_page
    forward_formed =
        let within : IsWithin (own_prefix w) forward_page = merge_changed.legal.legal.linked.within twin forward_page (bare_at new twin forward_page forwards_there) in
        (λ none. omega (arith, right_above parent halves.short, none), within.2)

    pub merge_step : (after : WardState K) → IsTold w notice new after → IsMergeStep w at notice after
    merge_step after told =
        let P : WardState K → Type 0 = λ after. IsMergeStep w at notice after in
        let at_prefix : parent ≡ notice.prefix = sym (ap (λ (n : Notice). n.prefix) next) in
        let Q : List Bool → Type 0 = λ p. IsMerge w.cap w.pages at p new in
        let R : List Bool → Type 0 = λ p. notice ≡ next_notice w.number w.table p Merge in
        subst P (sym told) (record { merge = subst Q at_prefix merge_is; notice_is = subst R at_prefix next; map = merge_changed.map; places = merge_changed.places; others = refl })

module _ {K : Type 0} {pseudo : List ℕ → ℕ} {takes : Page → Type 0} {own : List Bool} {index : IndexMap} {told : ℕ} {w : WardState K} (kept : IsKeptWard pseudo takes own index told w) where
  legal_at : (number : ℕ) (page : Page) → IsAt w.pages number page → IsLegalPage w.cap pseudo page
  legal_at number page is = page_at (IsLegalPage w.cap pseudo) w.pages number page kept.sound.legal.legal.legal.each is

  few_at : (number : ℕ) (page : Page) → IsAt w.pages number page → length (records_of page) ≤ CAP_LIMIT
  few_at number page is = omega (arith, few_in w.cap pseudo page (legal_at number page is), kept.most)

  pub few_counted : (number : ℕ) (head : PageHead) → HasHead w.pages number head → count_in head ≤ CAP_LIMIT
  few_counted number head is = omega (arith, ap count_in is.2, counted_in is.0, few_at number is.0 is.1)

  pub own_in_front : (number : ℕ) (head : PageHead) → HasHead w.pages number head → (prefix : List Bool) (link : Option ℕ) (count : ℕ) → head ≡ LiveHead prefix link count → IsFront own prefix
  own_in_front number head is prefix link count live =
      let page_is = headed is.0 prefix link count (sym is.2 ∙ live) in
      let within : IsWithin (own_prefix w) (Live prefix link []) = kept.sound.legal.legal.legal.linked.within number _ (bare_at w.pages number (Live prefix link page_is.records) (is.1 ∙ ap Some page_is.live)) in
      subst (λ (own : List Bool). IsFront own prefix) (sym kept.own_is) within.0

  pub no_left_half : (at : ℕ) (left : PageHead) → HasHead w.pages at left → (fault : HalvesFault) → NoLeftHalf own left fault → MergeRefused w at (fault_of_halves fault)
  no_left_half at left is NotLive refused =
      let forward = forwards is.0 (λ live. refused (subst IsLiveHead (sym is.2) live)) in
      (forward.0, forward.1, is.1 ∙ ap Some forward.2)
  no_left_half at left is NotFull refused = absurd refused
  no_left_half at left is AtLimit refused = absurd refused
  no_left_half at left is NoBuddy (prefix, link, count, head, why) =
      let page_is = headed is.0 prefix link count (sym is.2 ∙ head) in
      let no_buddy : HasNoBuddy w prefix = elim why [ inl same ↦ inl (same ∙ kept.own_is) | inr ends ↦ inr ends ] in
      (prefix, link, page_is.records, is.1 ∙ ap Some page_is.live, no_buddy)
  no_left_half at left is BuddySplit refused = absurd refused
  no_left_half at left is (TooMany sum) refused = absurd refused

  module _ (at : ℕ) {left : PageHead} (there : HasHead w.pages at left) {half : LeftHalf} (is : IsLeftHalf own left half) where
    abbrev pub page_is : IsHeaded there.0 (half.parent ++ false ∷ []) half.right half.count
    page_is = headed there.0 (half.parent ++ false ∷ []) half.right half.count (sym there.2 ∙ is.live)

    pub live_left : IsAt w.pages at (Live (half.parent ++ false ∷ []) half.right page_is.records)
    live_left = there.1 ∙ ap Some page_is.live

    inner : length (own_prefix w) ≤ length half.parent
    inner = subst (λ (own : List Bool). length own ≤ length half.parent) kept.own_is is.inner

    pub left_child : IsLeftChild w at half.parent page_is.records
    left_child = record { link = half.right; there = live_left; inner = inner }

    pub few_left : half.count ≤ CAP_LIMIT
    few_left = omega (arith, page_is.counted, few_at at _ live_left)

    module _ (law : LeftChildrenLinkToSiblings) where
      pub to_sibling : LinksToSibling w.pages half.parent half.right
      to_sibling = law (own_prefix w) w.pages at half.parent half.right page_is.records kept.sound.legal.legal.legal.linked live_left inner

      module _ {right : ℕ} (found : half.right ≡ Some right) where
        pub right_is : to_sibling.right ≡ right
        right_is = let both : Some to_sibling.right ≡ Some right = sym to_sibling.link_is ∙ found in cc

        pub right_within : right < length w.pages
        right_within = subst (λ n. n < length w.pages) right_is (slice_get_within w.pages to_sibling.right to_sibling.page.0 to_sibling.page.1)

        module _ {buddy : PageHead} (is_buddy : HasHead w.pages right buddy) where
          pub not_beside : (fault : HalvesFault) → NotBeside w.cap half buddy fault → MergeRefused w at (fault_of_halves fault)
          not_beside NotLive refused = absurd refused
          not_beside NotFull refused = absurd refused
          not_beside AtLimit refused = absurd refused
          not_beside NoBuddy refused = absurd refused
          not_beside BuddySplit refused = (
            half.parent,
            page_is.records,
            left_child,
            λ others (number, link, there).
                let here : number ≡ right = to_sibling.sibling number (link, others, there) ∙ right_is in
                refused link (length others) (is_buddy.2 ∙ ap head_of (one_there w.pages right is_buddy.0 _ is_buddy.1 (subst (λ n. IsAt w.pages n (Live (half.parent ++ true ∷ []) link others)) here there))),
          )
          not_beside (TooMany sum) (link, count, head, sum_is, more) =
              let other = headed is_buddy.0 (half.parent ++ true ∷ []) link count (sym is_buddy.2 ∙ head) in
              (half.parent, page_is.records, other.records, left_child, (right, link, is_buddy.1 ∙ ap Some other.live), omega (arith, sum_is, page_is.counted, other.counted), more)

          pub halves_fit : length half.parent < LIMIT → FitsBeside w.cap half buddy → FitTogether w at half.parent right
          halves_fit short fits =
              let other = headed is_buddy.0 (half.parent ++ true ∷ []) fits.link fits.count (sym is_buddy.2 ∙ fits.live) in
              record {
                records = page_is.records;
                link = fits.link;
                others = other.records;
                left = left_child;
                buddy = is_buddy.1 ∙ ap Some other.live;
                few = omega (arith, page_is.counted, other.counted, fits.few);
                short = short;
              }

  -- ---- the page that it makes

  module _ {at : ℕ} {parent : List Bool} {right : ℕ} (halves : FitTogether w at parent right) where
    abbrev left_page : Page
    left_page = Live (parent ++ false ∷ []) halves.left.link halves.records

    abbrev right_page : Page
    right_page = Live (parent ++ true ∷ []) halves.link halves.others

    pub buddy_within : right < length w.pages
    buddy_within = slice_get_within w.pages right right_page halves.buddy

    module _ (words : AreOfWords pseudo) (unite : BuddiesUnite) where
      all_records : AreRecordsOf pseudo parent (halves.records ++ halves.others)
      all_records = unite pseudo parent halves.records halves.others words halves.short (legal_at at left_page halves.left.there).0 (legal_at right right_page halves.buddy).0

      well_merged : length w.pages < 2 ^ 32 - 1 → IsWellFormed pseudo (union parent left_page right_page)
      well_merged few =
          let formed = well_formed w.pages kept.sound.legal.legal.legal.linked few kept.most right (parent ++ true ∷ []) halves.link halves.others halves.others halves.buddy (legal_at right right_page halves.buddy) in
          let most : length (halves.records ++ halves.others) ≤ CAP_LIMIT = omega (arith, length-append halves.records halves.others, halves.few, kept.most) in
          (all_records, most, formed.2)

      -- the ward may make the merge
      pub may_merge : MergesKeepLegal → length w.pages < 2 ^ 32 - 1 → MayChange pseudo w at right parent Merge
      may_merge law few =
          let changed = merge_changed halves kept.sound words law _ refl in
          record {
            page = left_page;
            twin = right_page;
            there = halves.left.there;
            twin_there = halves.buddy;
            apart = apart halves;
            fit = (tt, tt, all_records.rising);
            formed = well_merged few;
            twin_formed = forward_formed halves kept.sound words law _ refl;
            changed = changed;
          }

-- ---- what is refused when it is told

pub telling_refuses : {K : Type 0} {w : WardState K} {at : ℕ} {parent : List Bool} {right : ℕ} → FitTogether w at parent right → (fault : WardFault) → IsTellingFault w parent fault → MergeRefused w at fault
telling_refuses halves NoPage is = absurd is
telling_refuses halves WardNotLive is = absurd is
telling_refuses halves WardNotFull is = absurd is
telling_refuses halves WardAtLimit is = absurd is
telling_refuses halves WardNoBuddy is = absurd is
telling_refuses halves WardBuddySplit is = absurd is
telling_refuses halves (WardTooMany sum) is = absurd is
telling_refuses {parent = parent} {right = right} halves Worn is = (parent, halves.records, halves.others, halves.left, (right, halves.link, halves.buddy), halves.few, is)
telling_refuses halves WardMemory is = tt
telling_refuses halves PageFault is = tt
