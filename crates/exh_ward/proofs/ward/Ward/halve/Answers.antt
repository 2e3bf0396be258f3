use Rattle.std.proofs.Common.{◌≡◌, ◌+◌, ◌<◌, Bool, true, List, [], ◌∷◌, ◌++◌, length, None, Some, SomeIff, IsSome, ◌↔◌, refl, sym, ap, ◌∙◌, subst, arith, Option, ℕ, OnErr}
use Rattle.std.specs.Prelude.{slice_set}
use Rattle.std.specs.FinMap as fin
use Rattle.std.proofs.lemmas.List.{length-set}
use Rattle.std.proofs.lemmas.Result.{IfOk-from_err}
use Rattle.exh_prefix.specs.declared.prefix.TheConstants.{LIMIT}
use Rattle.exh_prefix.specs.Prefix.{low_of}
use Rattle.exh_prefix.specs.PrefixListLemmas.{one_there}
use Rattle.exh_notice.specs.declared.entry.Entry.{Entry}
use Rattle.exh_notice.specs.declared.entry.Kind.TheVariants.{Split}
use Rattle.exh_notice.specs.declared.notice.Notice.{Notice}
use Rattle.exh_legal.specs.Table.{TableMap, table_with, entry_number}
use Rattle.exh_page.specs.declared.page.Page.{Page}
use Rattle.exh_page.specs.declared.page.Page.TheVariants.{Live, Forward}
use Rattle.exh_page.specs.Halves.{left_half, right_half}
use Rattle.exh_page.specs.Page.{IsDivisible, low_bound}
use Rattle.exh_legal.specs.Change.{IsForwardOf}
use Rattle.exh_legal.specs.LegalLaws.{LivePagesSplit, PagesAreFew, SplitsKeepLegal}
use Rattle.exh_legal.specs.ChangeNumbers.{index_of, next_notice}
use Rattle.exh_legal.specs.PageIndex.{IndexMap, IsIndexOf}
use Rattle.exh_legal.specs.Pages.{IsAt, bare}
use Rattle.exh_ward.specs.WardKept.{IsKeptWard}
use Rattle.exh_ward.specs.Told.{IsTold, MayChange, pages_changed}
use Rattle.exh_ward.specs.SplitStep.{IsHalved, IsSplitStep}
use Rattle.exh_ward.specs.WardFault.{IsStoreFault, IsTellingFault, CountsFailures}
use Rattle.exh_ward.specs.WardState.{WardState, IsUnchanged}
use Rattle.exh_ward.specs.declared.ward_fault.WardFault.TheVariants.{Memory}
use Rattle.exh_ward.proofs.AnswersAreLeft.{few_pages}
use Rattle.exh_ward.proofs.ChangesAreTold.{index_forgotten, index_grown, kept_told, kept_undone, notice_made, raised_back, refused_so, stands, state_of, taking_stores, telling_stores, told_as, told_more, told_seen, unchanged_seen}
use Rattle.exh_ward.proofs.HalvesOfPages.{failed_with, found_forward}
use Rattle.exh_ward.proofs.SplitsAreSteps.{IsMade, apart, at_within, formed, left_page, live_there, made_fresh, made_revived, not_greatest, right_page, split_changed, split_step, step_seen}
use Rattle.exh_ward.proofs.Exits.{on_err, unchanged_read, memory_counted, taking_counted, made_counted, same_failures, store_fault}
use Rattle.exh_ward.proofs.ward.Ward.halve.Goals as goal

-- what has a place in it isn't empty
some_within : {at count : ℕ} → at < count → 0 < count
some_within within = omega (arith, within)

removed_same : (grown between back : IndexMap) (low : ℕ) → back ≡ fin.remove between low → between ≡ grown → back ≡ fin.remove grown low
removed_same grown between back low removed same = removed ∙ ap (λ (index : IndexMap). fin.remove index low) same

-- the page that is halved, where the ward is as it is kept
halved_before : {K : Type 0} {w now : WardState K} → w ≡ now → {page : ℕ} {prefix : List Bool} → IsHalved now page prefix → IsHalved w page prefix
halved_before {K = K} seen {page = page} {prefix = prefix} of = let P : WardState K → Type 0 = λ w. IsHalved w page prefix in subst P (sym seen) of

-- a page that is halved, and what the index finds at the right child's low bound
module _ {K : Type 0} {pseudo : List ℕ → ℕ} {takes : Page → Type 0} {own : List Bool} {index : IndexMap} {told : ℕ} {w now : WardState K} (kept : IsKeptWard pseudo takes own index told w) (seen : w ≡ now) (page : ℕ) (prefix : List Bool)
    (of : IsHalved now page prefix) (splits : SplitsKeepLegal) (lives : LivePagesSplit) (few : PagesAreFew) (child : List Bool) (made : Option (List Bool)) (low : ℕ) (found : Option ℕ)
    (unwrapped : made ≡ Some child) (child_is : SomeIff made (length prefix < LIMIT) (prefix ++ true ∷ [])) (low_is : low ≡ low_of child) (found_is : found ≡ fin.get index low) where
  is : IsHalved w page prefix
  is = halved_before seen of

  right_low : low ≡ low_of (prefix ++ true ∷ [])
  right_low = low_is ∙ ap low_of (rw unwrapped at child_is).1

  module _ (right : ℕ) (there : found ≡ Some right) where
    forward_there : IsForwardOf w.pages (low_of (prefix ++ true ∷ [])) right
    forward_there = let live = live_there is in found_forward lives kept prefix live.0 live.1 is.short (Some right) (sym there ∙ found_is ∙ ap (fin.get index) right_low)

    abbrev told_of : Notice
    told_of = next_notice w.number w.table prefix (Split right)

    abbrev again : IsMade w page prefix right (left_page is right) (right_page is) (slice_set (slice_set w.pages page (left_page is right)) right (right_page is))
    again = made_revived is right forward_there

    may_split : MayChange pseudo w page right prefix (Split right)
    may_split = record {
      page = Live prefix is.link is.records;
      twin = Forward (low_of (prefix ++ true ∷ [])) forward_there.0;
      there = is.there;
      twin_there = forward_there.1;
      apart = apart is right forward_there;
      fit = (is.short, refl);
      formed = formed is kept.sound splits right _ again.split told_of refl few kept.bits kept.most page (left_page is right) again.left_at again.left_live;
      twin_formed = formed is kept.sound splits right _ again.split told_of refl few kept.bits kept.most right (right_page is) again.twin_at again.twin_live;
      changed = split_changed is kept.sound splits right _ again.split told_of refl;
    }

    again_step : (after : WardState K) → ((one : Page) → IsAt w.pages page one → (two : Page) → IsAt w.pages right two → IsTold w told_of (pages_changed (Split right) prefix page right one two w.pages) after) → IsSplitStep now page told_of after
    again_step after told =
        let P : WardState K → Type 0 = λ old. IsSplitStep old page told_of after in
        subst P seen (split_step is kept.sound splits right _ again.split told_of refl after (told _ is.there _ forward_there.1))

  module _ (absent : found ≡ None) where
    abbrev last : ℕ
    last = length w.pages

    abbrev grown_pages : List Page
    grown_pages = slice_set w.pages page (left_page is last) ++ right_page is ∷ []

    abbrev notice_of : Notice
    notice_of = next_notice w.number w.table prefix (Split last)

    none : (other : ℕ) (page : Page) → IsAt w.pages other page → low_bound page ≡ low_of (prefix ++ true ∷ []) → ⊥
    none = let live = live_there is in found_forward lives kept prefix live.0 live.1 is.short None (sym absent ∙ found_is ∙ ap (fin.get index) right_low)

    anew : IsMade w page prefix last (left_page is last) (right_page is) grown_pages
    anew = made_fresh is none

    anew_taken : (old : Page) → IsAt w.pages page old → takes (left_half last old)
    anew_taken old there =
        let T : Page → Type 0 = λ old. takes (left_half last old) in
        subst T (sym (one_there w.pages page old _ there is.there)) (kept.takes_all _ (formed is kept.sound splits last grown_pages anew.split notice_of refl few kept.bits kept.most page (left_page is last) anew.left_at anew.left_live))

    anew_right_taken : (old : Page) → IsAt w.pages page old → takes (right_half old)
    anew_right_taken old there =
        let T : Page → Type 0 = λ old. takes (right_half old) in
        subst T (sym (one_there w.pages page old _ there is.there)) (kept.takes_all _ (formed is kept.sound splits last grown_pages anew.split notice_of refl few kept.bits kept.most last (right_page is) anew.twin_at anew.twin_live))

    anew_divisible : (old : Page) → IsAt w.pages page old → IsDivisible old
    anew_divisible old there = subst IsDivisible (sym (one_there w.pages page old _ there is.there)) is.short

    module _ (right : ℕ) (right_last : right ≡ last) (stood : Option Entry) (stood_is : stood ≡ fin.get w.table prefix) (next : ℕ) (next_is : next ≡ index_of now.table + 1) (notice : Notice)
        (notice_is : notice ≡ record { ward = w.number; index = next; prefix = prefix; number = entry_number stood + 1; kind = Split right })
        (pages : List Page) (between notices : List Notice) (table : TableMap) (failures : ℕ) (by_store : (old : Page) → IsAt w.pages page old → pages ≡ slice_set w.pages page (left_half last old) ++ right_half old ∷ []) (pushed : notices ≡ between ++ notice ∷ []) (taken : between ≡ w.notices)
        (table_is : table ≡ table_with w.table (next_notice w.number w.table prefix (Split right))) where
      pages_is : pages ≡ grown_pages
      pages_is = by_store _ is.there

      same_notice : notice ≡ notice_of
      same_notice =
          let I : WardState K → Type 0 = λ w. next ≡ index_of w.table + 1 in
          notice_made w.number w.table prefix (Split right) stood stood_is next (subst I (sym seen) next_is) notice notice_is ∙ ap (λ right. next_notice w.number w.table prefix (Split right)) right_last

      table_last : table ≡ table_with w.table notice_of
      table_last = table_is ∙ ap (λ right. table_with w.table (next_notice w.number w.table prefix (Split right))) right_last

      anew_told : notices ≡ w.notices ++ notice_of ∷ []
      anew_told = told_more w.notices between notices notice notice_of pushed same_notice taken

      anew_step : failures ≡ w.failures → IsSplitStep now page notice (record w { pages = pages; notices = notices; table = table; failures = failures })
      anew_step same =
          let after : WardState K = record w { pages = pages; notices = notices; table = table; failures = failures } in
          step_seen seen page notice_of notice same_notice after (split_step is kept.sound splits last grown_pages anew.split notice_of refl after (told_seen w notice_of grown_pages pages notices table failures pages_is anew_told table_last same))

      anew_kept : (takes_now : Page → Type 0) (same_takes : (page : Page) → takes page ↔ takes_now page) (grown index_now : IndexMap) → (fin.get index low ≡ None → grown ≡ fin.insert index low right) → index_now ≡ grown
          → IsKeptWard pseudo takes_now own index_now told (record w { pages = pages; notices = notices; table = table; failures = failures })
      anew_kept takes_now same_takes grown index_now grows index_is =
          let changed = split_changed is kept.sound splits last grown_pages anew.split notice_of refl in
          let indexed = index_grown index w.pages (slice_set w.pages page (left_page is last)) (right_page is) kept.indexed changed.places (length-set w.pages page (left_page is last)) (some_within (at_within is)) none in
          let same_index = index_is ∙ grows (sym found_is ∙ absent) ∙ ap (λ low. fin.insert index low right) right_low ∙ ap (fin.insert index (low_of (prefix ++ true ∷ []))) right_last in
          let X : IndexMap → Type 0 = λ index. IsIndexOf index (bare grown_pages) in
          kept_told kept takes_now same_takes notice_of grown_pages refl changed pages notices table failures index_now (subst X (sym same_index) indexed) pages_is anew_told table_last

pub change_two-requires : goal.change_two-requires
change_two-requires g c =
    may_split c.self.invariant c.self.view_is c.args.page c.args.prefix c.requires c.splits_keep_legal.ensures c.live_pages_split.ensures c.pages_are_few.ensures c.unwrap.result c.child.result c.low-low.result c.in_ok-at.field-0 c.unwrap.ensures c.child.ensures c.low-low.ensures c.in_ok-at.ensures.stood c.in-Some.at c.in-Some.is

pub returns-in-Some-clause-ok : goal.returns-in-Some-clause-ok
returns-in-Some-clause-ok g c =
    let notice = next_notice c.self.inside.number c.self.inside.table c.args.prefix (Split c.in-Some.at) in
    told_as c.change_two.result notice (λ notice. IsSplitStep c.args.self.now c.args.page notice c.change_two.new.self) _ c.change_two.ensures.notice c.change_two.ensures.ok
    (again_step c.self.invariant c.self.view_is c.args.page c.args.prefix c.requires c.splits_keep_legal.ensures c.live_pages_split.ensures c.pages_are_few.ensures c.unwrap.result c.child.result c.low-low.result c.in_ok-at.field-0 c.unwrap.ensures c.child.ensures c.low-low.ensures c.in_ok-at.ensures.stood c.in-Some.at c.in-Some.is c.change_two.new.self)

pub returns-in-Some-clause-fault : goal.returns-in-Some-clause-fault
returns-in-Some-clause-fault g c =
    let is = halved_before c.self.view_is c.requires in
    let sound = c.self.invariant.sound in
    let w = state_of c.self.view_is in
    refused_so c.change_two.result (IsTellingFault w c.args.prefix) IsStoreFault c.change_two.ensures.fault (λ fault told. telling_stores w c.args.prefix (not_greatest is sound c.live_pages_split.ensures) fault told)

pub invariant_of-self-in_err-stood : goal.invariant_of-self-in_err-stood
invariant_of-self-in_err-stood g c =
    kept_undone c.self.invariant (g.P.Pages.takes c.self.inside.store) (λ page. (λ takes. takes, λ takes. takes)) (g.P.Pages.pages c.self.inside.store) c.take_or_forget.new.notices.items c.take_or_forget.new.table (g.P.Pages.failures c.self.inside.store) c.take_or_forget.new.index refl c.take_or_forget.ensures.items c.in_err-stood.ensures.err
    (index_forgotten c.self.inside.index c.get_or_insert.new.self c.take_or_forget.new.index c.low-low.result c.count-count.result c.in_ok-at.field-0 c.in_ok-at.ensures.stood c.in_default.is c.in_ok-at.ensures.added c.in_err-stood.ensures.index_err)

pub returns-in_err-stood-clause-fault : goal.returns-in_err-stood-clause-fault
returns-in_err-stood-clause-fault g c =
    let is = halved_before c.self.view_is c.requires in
    let sound = c.self.invariant.sound in
    failed_with c.from_residual-in_err-stood.result c.in_err-stood.field-0.0 IsStoreFault c.from_residual-in_err-stood.ensures.1
    (taking_stores c.self.inside.table c.args.prefix (not_greatest is sound c.live_pages_split.ensures) c.in_err-stood.field-0.0 c.in_err-stood.ensures.fault)

pub split_off-requires-clause-there : goal.split_off-requires-clause-there
split_off-requires-clause-there g c = at_within (halved_before c.self.view_is c.requires)

pub split_off-requires-clause-room : goal.split_off-requires-clause-room
split_off-requires-clause-room g c = few_pages c.pages_are_few.ensures c.self.invariant

pub split_off-requires-clause-divisible : goal.split_off-requires-clause-divisible
split_off-requires-clause-divisible g c =
    anew_divisible c.self.invariant c.self.view_is c.args.page c.args.prefix c.requires c.splits_keep_legal.ensures c.live_pages_split.ensures c.pages_are_few.ensures c.unwrap.result c.child.result c.low-low.result c.in_ok-at.field-0 c.unwrap.ensures c.child.ensures c.low-low.ensures c.in_ok-at.ensures.stood c.in_default.is

pub split_off-requires-clause-taken : goal.split_off-requires-clause-taken
split_off-requires-clause-taken g c =
    anew_taken c.self.invariant c.self.view_is c.args.page c.args.prefix c.requires c.splits_keep_legal.ensures c.live_pages_split.ensures c.pages_are_few.ensures c.unwrap.result c.child.result c.low-low.result c.in_ok-at.field-0 c.unwrap.ensures c.child.ensures c.low-low.ensures c.in_ok-at.ensures.stood c.in_default.is

pub split_off-requires-clause-right_taken : goal.split_off-requires-clause-right_taken
split_off-requires-clause-right_taken g c =
    anew_right_taken c.self.invariant c.self.view_is c.args.page c.args.prefix c.requires c.splits_keep_legal.ensures c.live_pages_split.ensures c.pages_are_few.ensures c.unwrap.result c.child.result c.low-low.result c.in_ok-at.field-0 c.unwrap.ensures c.child.ensures c.low-low.ensures c.in_ok-at.ensures.stood c.in_default.is

pub put_back-requires : goal.put_back-requires
put_back-requires g c =
    let table = c.self.inside.table in
    let notice = next_notice c.self.inside.number table c.args.prefix (Split c.count-count.result) in
    let P : TableMap → Type 0 = λ t. IsSome (fin.get t c.args.prefix) in
    subst P (sym c.in_ok-stood.ensures.ok) (stands table notice)

pub invariant_of-self-in-Err : goal.invariant_of-self-in-Err
invariant_of-self-in-Err g c =
    kept_undone c.self.invariant (g.P.Pages.takes c.split_off.new.self) c.split_off.ensures.takes (g.P.Pages.pages c.split_off.new.self) c.take_or_forget.new.notices.items c.put_back.new.self (g.P.Pages.failures c.split_off.new.self) c.remove.new.self c.in-Err.ensures.err c.take_or_forget.ensures.items
    (raised_back c.self.inside.table c.take_or_forget.new.table c.put_back.new.self c.args.prefix (Split c.count-count.result) c.in_ok-stood.stood c.in_ok-stood.ensures.stood c.in_ok-stood.ensures.ok c.put_back.ensures)
    (index_forgotten c.self.inside.index c.get_or_insert.new.self c.remove.new.self c.low-low.result c.count-count.result c.in_ok-at.field-0 c.in_ok-at.ensures.stood c.in_default.is c.in_ok-at.ensures.added (removed_same c.get_or_insert.new.self c.take_or_forget.new.index c.remove.new.self c.low-low.result c.remove.ensures c.in_ok-stood.ensures.index_ok))

pub returns-in-Err-clause-err : goal.returns-in-Err-clause-err
returns-in-Err-clause-err g c =
    unchanged_seen c.self.view_is (g.P.Pages.pages c.split_off.new.self) c.take_or_forget.new.notices.items c.put_back.new.self (g.P.Pages.failures c.split_off.new.self) c.in-Err.ensures.err c.take_or_forget.ensures.items
    (raised_back c.self.inside.table c.take_or_forget.new.table c.put_back.new.self c.args.prefix (Split c.count-count.result) c.in_ok-stood.stood c.in_ok-stood.ensures.stood c.in_ok-stood.ensures.ok c.put_back.ensures)

pub returns-in-Err-clause-sound : goal.returns-in-Err-clause-sound
returns-in-Err-clause-sound g c =
    (invariant_of-self-in-Err g c).sound

pub invariant_of-self-2 : goal.invariant_of-self-2
invariant_of-self-2 g c =
    anew_kept c.self.invariant c.self.view_is c.args.page c.args.prefix c.requires c.splits_keep_legal.ensures c.live_pages_split.ensures c.pages_are_few.ensures c.unwrap.result c.child.result c.low-low.result c.in_ok-at.field-0 c.unwrap.ensures c.child.ensures c.low-low.ensures c.in_ok-at.ensures.stood c.in_default.is c.count-count.result c.count-count.ensures
    c.in_ok-stood.stood c.in_ok-stood.ensures.stood c.next_index-index.result c.next_index-index.ensures c.notice_after.result c.notice_after.ensures
    (g.P.Pages.pages c.split_off.new.self) c.take_or_forget.new.notices.items c.push_reserved.new.self.items c.take_or_forget.new.table (g.P.Pages.failures c.split_off.new.self) c.in_default-split_off.ensures.ok c.push_reserved.ensures.items c.take_or_forget.ensures.items c.in_ok-stood.ensures.ok
    (g.P.Pages.takes c.split_off.new.self) c.split_off.ensures.takes c.get_or_insert.new.self c.take_or_forget.new.index c.in_ok-at.ensures.added c.in_ok-stood.ensures.index_ok

pub returns-clause-ok : goal.returns-clause-ok
returns-clause-ok g c =
    anew_step c.self.invariant c.self.view_is c.args.page c.args.prefix c.requires c.splits_keep_legal.ensures c.live_pages_split.ensures c.pages_are_few.ensures c.unwrap.result c.child.result c.low-low.result c.in_ok-at.field-0 c.unwrap.ensures c.child.ensures c.low-low.ensures c.in_ok-at.ensures.stood c.in_default.is c.count-count.result c.count-count.ensures
    c.in_ok-stood.stood c.in_ok-stood.ensures.stood c.next_index-index.result c.next_index-index.ensures c.notice_after.result c.notice_after.ensures
    (g.P.Pages.pages c.split_off.new.self) c.take_or_forget.new.notices.items c.push_reserved.new.self.items c.take_or_forget.new.table (g.P.Pages.failures c.split_off.new.self) c.in_default-split_off.ensures.ok c.push_reserved.ensures.items c.take_or_forget.ensures.items c.in_ok-stood.ensures.ok
    c.in_default-split_off.ensures.failures

pub returns-clause-sound : goal.returns-clause-sound
returns-clause-sound g c =
    (invariant_of-self-2 g c).sound

pub invariant_of-self : goal.invariant_of-self
invariant_of-self g c = kept_undone c.self.invariant (g.P.Pages.takes c.self.inside.store) (λ page. (λ takes. takes, λ takes. takes)) (g.P.Pages.pages c.self.inside.store) c.self.inside.notices.items c.self.inside.table (g.P.Pages.failures c.self.inside.store) c.get_or_insert.new.self refl refl refl c.in_err-at.ensures.err

pub returns-in_err-at-clause-ok : goal.returns-in_err-at-clause-ok
returns-in_err-at-clause-ok g c = IfOk-from_err c.from_residual.result _ c.from_residual.ensures.0

pub returns-in_err-at-clause-err : goal.returns-in_err-at-clause-err
returns-in_err-at-clause-err g c = on_err c.from_residual.result (unchanged_read c.self.view_is (g.P.Pages.pages c.self.inside.store) (g.P.Pages.failures c.self.inside.store) refl)

pub returns-in_err-at-clause-fault : goal.returns-in_err-at-clause-fault
returns-in_err-at-clause-fault g c = failed_with c.from_residual.result Memory IsStoreFault c.from_residual.ensures.1 tt

pub returns-in_err-at-clause-failures : goal.returns-in_err-at-clause-failures
returns-in_err-at-clause-failures g c = memory_counted c.self.view_is c.from_residual.result (g.P.Pages.failures c.self.inside.store) refl c.from_residual.ensures.1

pub returns-in_err-at-clause-sound : goal.returns-in_err-at-clause-sound
returns-in_err-at-clause-sound g c = (invariant_of-self g c).sound

pub invariant_of-self-in-Some : goal.invariant_of-self-in-Some
invariant_of-self-in-Some g c =
    let S : Option ℕ → Type 0 = λ found. IsSome found in
    kept_undone c.self.invariant (g.P.Pages.takes c.self.inside.store) (λ page. (λ takes. takes, λ takes. takes)) (g.P.Pages.pages c.self.inside.store) c.self.inside.notices.items c.self.inside.table (g.P.Pages.failures c.self.inside.store) c.get_or_insert.new.self refl refl refl (c.in_ok-at.ensures.there (subst S (sym c.in-Some.is ∙ c.in_ok-at.ensures.stood) refl))

pub returns-in-Some-clause-err : goal.returns-in-Some-clause-err
returns-in-Some-clause-err g c =
    let P : WardState g.row.K.Denot → Type 0 = λ w. OnErr c.change_two.result (IsUnchanged w c.change_two.new.self) in
    subst P c.self.view_is c.change_two.ensures.err

pub returns-in-Some-clause-failures : goal.returns-in-Some-clause-failures
returns-in-Some-clause-failures g c =
    let P : WardState g.row.K.Denot → Type 0 = λ w. CountsFailures c.change_two.result w.failures c.change_two.new.self.failures in
    subst P c.self.view_is c.change_two.ensures.failures

pub returns-in-Some-clause-sound : goal.returns-in-Some-clause-sound
returns-in-Some-clause-sound g c = c.change_two.ensures.sound

pub returns-in_err-stood-clause-ok : goal.returns-in_err-stood-clause-ok
returns-in_err-stood-clause-ok g c = IfOk-from_err c.from_residual-in_err-stood.result _ c.from_residual-in_err-stood.ensures.0

pub returns-in_err-stood-clause-err : goal.returns-in_err-stood-clause-err
returns-in_err-stood-clause-err g c = on_err c.from_residual-in_err-stood.result (unchanged_seen c.self.view_is (g.P.Pages.pages c.self.inside.store) c.take_or_forget.new.notices.items c.take_or_forget.new.table (g.P.Pages.failures c.self.inside.store) refl c.take_or_forget.ensures.items c.in_err-stood.ensures.err)

pub returns-in_err-stood-clause-failures : goal.returns-in_err-stood-clause-failures
returns-in_err-stood-clause-failures g c =
    taking_counted c.self.view_is c.from_residual-in_err-stood.result c.self.inside.table c.args.prefix c.in_err-stood.field-0.0 (g.P.Pages.failures c.self.inside.store) refl c.from_residual-in_err-stood.ensures.1 c.in_err-stood.ensures.fault

pub returns-in_err-stood-clause-sound : goal.returns-in_err-stood-clause-sound
returns-in_err-stood-clause-sound g c = (invariant_of-self-in_err-stood g c).sound

pub returns-in-Err-clause-ok : goal.returns-in-Err-clause-ok
returns-in-Err-clause-ok g c = tt

pub returns-in-Err-clause-fault : goal.returns-in-Err-clause-fault
returns-in-Err-clause-fault g c = subst IsStoreFault (sym c.into.ensures) (store_fault c.in-Err.fault)

pub returns-in-Err-clause-failures : goal.returns-in-Err-clause-failures
returns-in-Err-clause-failures g c = made_counted c.self.view_is Notice c.into.result c.in-Err.fault (g.P.Pages.failures c.split_off.new.self) c.into.ensures c.in-Err.ensures.failures

pub notice_after-requires : goal.notice_after-requires
notice_after-requires g c = λ most. c.in_ok-stood.ensures.more (sym (ap entry_number c.in_ok-stood.ensures.stood) ∙ most)

pub push_reserved-requires : goal.push_reserved-requires
push_reserved-requires g c = c.in_ok-stood.ensures.room

pub returns-clause-err : goal.returns-clause-err
returns-clause-err g c = tt

pub returns-clause-fault : goal.returns-clause-fault
returns-clause-fault g c = tt

pub returns-clause-failures : goal.returns-clause-failures
returns-clause-failures g c = same_failures c.self.view_is (g.P.Pages.failures c.split_off.new.self) c.in_default-split_off.ensures.failures
