-- What the exits of a ward's steps return: a refusal that a call gave, and the ward as it was.
use Rattle.std.proofs.Common.{◌≡◌, ℕ, ◌≤◌, Bool, List, length, Option, Result, Ok, Err, IsErrAnd, OnErr, refl, ap, ◌∙◌, sym, subst}
use Rattle.std.specs.Prelude.{slice_set}
use Rattle.exh_page.specs.declared.page.Page.{Page as PageType}
use Rattle.exh_page.specs.declared.page.Page.TheVariants.{Live}
use Rattle.exh_page.specs.declared.record.Record.{Record}
use Rattle.exh_page.specs.Page.{IsLive}
use Rattle.exh_stores.specs.PageStore.{CountsFaults}
use Rattle.exh_stores.specs.declared.pages_fault.PagesFault.{PagesFault}
use Rattle.exh_stores.specs.declared.pages_fault.PagesFault.TheVariants.{Memory as StoreMemory, Page as StorePage}
use Rattle.exh_prefix.specs.PrefixListLemmas.{one_there}
use Rattle.exh_notice.specs.declared.entry.Kind.{Kind}
use Rattle.exh_legal.specs.Table.{TableMap}
use Rattle.exh_legal.specs.Pages.{IsAt}
use Rattle.exh_legal.specs.ChangeNumbers.{next_notice}
use Rattle.exh_calls.specs.declared.journal_entry.JournalEntry.{JournalEntry}
use Rattle.exh_legal.specs.declared.halves_fault.HalvesFault.{HalvesFault}
use Rattle.exh_legal.specs.declared.halves_fault.HalvesFault.TheVariants.{NotLive as SendsOn, NotFull as HasRoom, AtLimit as TooDeep, NoBuddy as NoLeftHalf, BuddySplit as NotBeside, TooMany as Together}
use Rattle.exh_ward.specs.Told.{IsTold}
use Rattle.exh_ward.specs.WardFault.{CountsFailures, IsStoreFault, IsTakingFault, IsTellingFault, MergeRefused, PageRefused, fault_of, fault_of_halves}
use Rattle.exh_ward.specs.WardState.{WardState}
use Rattle.exh_ward.specs.declared.ward_fault.WardFault.{WardFault}
use Rattle.exh_ward.specs.declared.ward_fault.WardFault.TheVariants.{NoPage, NotLive, NotFull, AtLimit, NoBuddy, BuddySplit, TooMany, Worn, Memory, Page}

pub on_err : {T E P : Type 0} (r : Result T E) → P → OnErr r P
on_err (Ok value) holds = tt
on_err (Err fault) holds = holds

pub counted_as : {T : Type 0} (r : Result T WardFault) (fault : WardFault) (old new : ℕ) → IsErrAnd r (λ other. other ≡ fault) → CountsFailures {T = T} (Err fault) old new → CountsFailures r old new
counted_as (Ok value) fault old new is counts = absurd is
counted_as {T = T} (Err other) fault old new is counts = subst (λ fault. CountsFailures {T = T} (Err fault) old new) (sym is) counts

-- ---- what a store refuses

pub store_fault : (fault : PagesFault) → IsStoreFault (fault_of fault)
store_fault StoreMemory = tt
store_fault StorePage = tt

pub storing_refuses : {K : Type 0} (w : WardState K) (at : ℕ) (fault : WardFault) → IsStoreFault fault → MergeRefused w at fault
storing_refuses w at NoPage is = absurd is
storing_refuses w at NotLive is = absurd is
storing_refuses w at NotFull is = absurd is
storing_refuses w at AtLimit is = absurd is
storing_refuses w at NoBuddy is = absurd is
storing_refuses w at BuddySplit is = absurd is
storing_refuses w at (TooMany sum) is = absurd is
storing_refuses w at Worn is = absurd is
storing_refuses w at Memory is = tt
storing_refuses w at Page is = tt

pub fault_counted : (T : Type 0) (fault : PagesFault) (old new : ℕ) → CountsFaults {T = T} (Err fault) old new → CountsFailures {T = T} (Err (fault_of fault)) old new
fault_counted T StoreMemory old new counts = counts
fault_counted T StorePage old new counts = counts

none_counted : (T : Type 0) (fault : HalvesFault) (old new : ℕ) → new ≡ old → CountsFailures {T = T} (Err (fault_of_halves fault)) old new
none_counted T SendsOn old new same = same
none_counted T HasRoom old new same = same
none_counted T TooDeep old new same = same
none_counted T NoLeftHalf old new same = same
none_counted T NotBeside old new same = same
none_counted T (Together sum) old new same = same

-- ---- what a table that is told refuses

pub taking_tells : {K : Type 0} (w : WardState K) (prefix : List Bool) (fault : WardFault) → IsTakingFault w.table prefix fault → IsTellingFault w prefix fault
taking_tells w prefix NoPage is = is
taking_tells w prefix NotLive is = is
taking_tells w prefix NotFull is = is
taking_tells w prefix AtLimit is = is
taking_tells w prefix NoBuddy is = is
taking_tells w prefix BuddySplit is = is
taking_tells w prefix (TooMany sum) is = is
taking_tells w prefix Worn is = is
taking_tells w prefix Memory is = is
taking_tells w prefix Page is = tt

pub storing_tells : {K : Type 0} (w : WardState K) (prefix : List Bool) (fault : PagesFault) → IsTellingFault w prefix (fault_of fault)
storing_tells w prefix StoreMemory = tt
storing_tells w prefix StorePage = tt

taking_none : (T : Type 0) (table : TableMap) (prefix : List Bool) (fault : WardFault) (old new : ℕ) → new ≡ old → IsTakingFault table prefix fault → CountsFailures {T = T} (Err fault) old new
taking_none T table prefix NoPage old new same is = same
taking_none T table prefix NotLive old new same is = same
taking_none T table prefix NotFull old new same is = same
taking_none T table prefix AtLimit old new same is = same
taking_none T table prefix NoBuddy old new same is = same
taking_none T table prefix BuddySplit old new same is = same
taking_none T table prefix (TooMany sum) old new same is = same
taking_none T table prefix Worn old new same is = same
taking_none T table prefix Memory old new same is = same
taking_none T table prefix Page old new same is = absurd is

pub page_refused : (pages : List PageType) (number : ℕ) (fault : PagesFault) → PageRefused pages number (fault_of fault)
page_refused pages number StoreMemory = tt
page_refused pages number StorePage = tt

-- ---- the ward as it was

module _ {K : Type 0} {w now : WardState K} (seen : w ≡ now) where
  pub counted_from : {T : Type 0} (r : Result T WardFault) (fault : WardFault) (old new : ℕ) → old ≡ w.failures → IsErrAnd r (λ other. other ≡ fault) → CountsFailures {T = T} (Err fault) old new → CountsFailures r now.failures new
  counted_from {T = T} r fault old new same is counts =
      let P : ℕ → Type 0 = λ old. CountsFailures {T = T} (Err fault) old new in
      counted_as r fault now.failures new is (subst P (same ∙ ap (λ (w : WardState K). w.failures) seen) counts)

  pub store_counted : {T : Type 0} (r : Result T WardFault) (fault : PagesFault) (old new : ℕ) → old ≡ w.failures → IsErrAnd r (λ other. other ≡ fault_of fault) → CountsFaults {T = T} (Err fault) old new → CountsFailures r now.failures new
  store_counted {T = T} r fault old new same is counts = counted_from r (fault_of fault) old new same is (fault_counted T fault old new counts)

  pub memory_counted : {T : Type 0} (r : Result T WardFault) (new : ℕ) → new ≡ w.failures → IsErrAnd r (λ other. other ≡ Memory) → CountsFailures r now.failures new
  memory_counted r new same is = counted_as r Memory now.failures new is (same ∙ ap (λ (w : WardState K). w.failures) seen)

  pub halves_counted : {T : Type 0} (r : Result T WardFault) (fault : HalvesFault) (new : ℕ) → new ≡ w.failures → IsErrAnd r (λ other. other ≡ fault_of_halves fault) → CountsFailures r now.failures new
  halves_counted {T = T} r fault new same is = counted_as r (fault_of_halves fault) now.failures new is (none_counted T fault now.failures new (same ∙ ap (λ (w : WardState K). w.failures) seen))

  pub taking_counted : {T : Type 0} (r : Result T WardFault) (table : TableMap) (prefix : List Bool) (fault : WardFault) (new : ℕ) → new ≡ w.failures → IsErrAnd r (λ other. other ≡ fault) → IsTakingFault table prefix fault → CountsFailures r now.failures new
  taking_counted {T = T} r table prefix fault new same is taking = counted_as r fault now.failures new is (taking_none T table prefix fault now.failures new (same ∙ ap (λ (w : WardState K). w.failures) seen) taking)

  -- a store's refusal that was made the ward's
  pub made_counted : (T : Type 0) (made : WardFault) (fault : PagesFault) (new : ℕ) → made ≡ fault_of fault → CountsFaults {T = T} (Err fault) w.failures new → CountsFailures {T = T} (Err made) now.failures new
  made_counted T made fault new is counts = store_counted {T = T} (Err made) fault w.failures new refl is counts

  pub same_failures : (new : ℕ) → new ≡ w.failures → new ≡ now.failures
  same_failures new same = same ∙ ap (λ (w : WardState K). w.failures) seen

  pub is_past : {count at : ℕ} → count ≡ length w.pages → count ≤ at → length now.pages ≤ at
  is_past {at = at} same past = subst (λ n. n ≤ at) (same ∙ ap (λ (w : WardState K). length w.pages) seen) past

  module _ (pages : List PageType) (failures : ℕ) (same_pages : pages ≡ w.pages) where
    pub unchanged_read : (let after : WardState K = record w { pages = pages; failures = failures } in after) ≡ record now { failures = failures }
    unchanged_read =
        ap (λ pages. let after : WardState K = record w { pages = pages; failures = failures } in after) same_pages
        ∙ ap (λ (w : WardState K). let after : WardState K = record w { failures = failures } in after) seen

    pub unchanged_written : (journal : List JournalEntry) → journal ≡ w.journal → (let after : WardState K = record w { pages = pages; journal = journal; failures = failures } in after) ≡ record now { failures = failures }
    unchanged_written journal same_journal =
        ap (λ journal. let after : WardState K = record w { pages = pages; journal = journal; failures = failures } in after) same_journal
        ∙ unchanged_read

    pub same_read : failures ≡ w.failures → (let after : WardState K = record w { pages = pages; failures = failures } in after) ≡ now
    same_read same_failures =
        ap (λ pages. let after : WardState K = record w { pages = pages; failures = failures } in after) same_pages
        ∙ ap (λ failures. let after : WardState K = record w { failures = failures } in after) same_failures
        ∙ seen

  pub told_here : (prefix : List Bool) (kind : Kind) (number : ℕ) (page : PageType) (other : ℕ) (twin : PageType) (after : WardState K)
      → IsTold w (next_notice w.number w.table prefix kind) (slice_set (slice_set w.pages number page) other twin) after
      → IsTold now (next_notice now.number now.table prefix kind) (slice_set (slice_set now.pages number page) other twin) after
  told_here prefix kind number page other twin after told =
      let P : WardState K → Type 0 = λ w. IsTold w (next_notice w.number w.table prefix kind) (slice_set (slice_set w.pages number page) other twin) after in
      subst P seen told

pub live_there : (pages : List PageType) (number : ℕ) (page : PageType) (prefix : List Bool) (link : Option ℕ) (records : List Record) → IsAt pages number page → IsAt pages number (Live prefix link records) → IsLive page
live_there pages number page prefix link records is there = subst IsLive (one_there pages number (Live prefix link records) page there is) tt
