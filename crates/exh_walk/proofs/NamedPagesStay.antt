-- The page numbers that a run names are pages' from then on.
use Rattle.std.proofs.Common.{◌≡◌, ℕ, Bool, List, [], ◌∷◌, Some, Ok, Err, sym, ap, ◌∙◌, subst}
use Rattle.std.specs.Prelude.{All}
use Rattle.std.specs.List.{AllByRecursion}
use Rattle.std.proofs.lemmas.List.Elements.{All-cons, All-nil, All-weaker, All-from_recursion}
use Rattle.exh_notice.specs.declared.entry.Kind.TheVariants.{Split}
use Rattle.exh_notice.specs.declared.notice.Notice.{Notice}
use Rattle.exh_page.specs.declared.page.Page.{Page}
use Rattle.exh_page.specs.declared.page.Page.TheVariants.{Live, Forward}
use Rattle.exh_page.specs.PageLaws.{AreOfWords}
use Rattle.exh_legal.specs.LegalLaws.{KeepsPlaces, SplitsKeepLegal, MergesKeepLegal}
use Rattle.exh_legal.specs.Pages.{IsAt, AreLinked, bare}
use Rattle.exh_ward.specs.HopTable.{HopOf, LeadsTo}
use Rattle.exh_calls.specs.CallLaws.{HistoriesGoOn}
use Rattle.exh_ward.specs.WardLaws.{AnswersKeepLegal}
use Rattle.exh_ward.specs.WardState.{WardState, LeavesAfter, own_prefix}
use Rattle.exh_calls.specs.declared.call.Call.{Call}
use Rattle.exh_ward.specs.declared.hop.Hop.{Hop}
use Rattle.exh_ward.specs.declared.hop.Hop.TheVariants.{Done, Moved, MustSplit, Stray}
use Rattle.exh_walk.specs.RouteLaws.{IsLegalWard, IsKeptPage}
use Rattle.exh_walk.specs.WardRun.{WardEvent, HopAt, SplitAt, MergeAt, WardStep, WardMoment, IsWardRun, named_by, right_page}
use Rattle.exh_ward.specs.LinkLemmas.{target_below, next_live}
use Rattle.exh_walk.proofs.PagesStay.{run_places}
use Rattle.exh_walk.proofs.StepOneMap.{stepped}

abbrev IsPage : List Page → ℕ → Type 0
IsPage pages number = (page : Page) × IsAt pages number page

led_to : (ward : List Bool) (pages : List Page) → AreLinked ward (bare pages) → (number : ℕ) (page : Page) (pseudokey next : ℕ) → IsAt pages number page → LeadsTo page pseudokey next → IsPage pages next
led_to ward pages linked number (Live prefix right records) pseudokey next is leads =
    let found = next_live ward pages linked number prefix next records (is ∙ ap (λ link. Some (Live prefix link records)) leads.1) in
    (found.0, found.1.there)
led_to ward pages linked number (Forward low target) pseudokey next is leads =
    let found = target_below ward pages linked number low target is in
    subst (IsPage pages) leads (found.0, found.1)

one_named : (P : ℕ → Type 0) (number : ℕ) → P number → All P (number ∷ [])
one_named P number is = All-cons P number [] is (All-nil P)

module _ {K : Type 0} (pseudokey_of : K → List ℕ → ℕ) where
  named_by_hop : (old new : WardState K) → IsLegalWard pseudokey_of old → (at client : ℕ) (call : Call) (hop : Hop) → HopOf old.cap (pseudokey_of old.keyer) old.pages at call hop → LeavesAfter pseudokey_of old at client call hop new → All (IsPage new.pages) (named_by (HopAt at client call (Ok hop)))
  named_by_hop old new legal at client call (Done reply) hop left = All-nil (IsPage new.pages)
  named_by_hop old new legal at client call (Moved next) hop left =
      one_named (IsPage new.pages) next (subst (λ (w : WardState K). IsPage w.pages next) (sym left) (led_to (own_prefix old) old.pages legal.legal.legal.linked at hop.0 _ next hop.1.there hop.2))
  named_by_hop old new legal at client call MustSplit hop left = All-nil (IsPage new.pages)
  named_by_hop old new legal at client call Stray hop left = All-nil (IsPage new.pages)

  -- each is a page's after the event
  named_after : (old new : WardState K) → IsLegalWard pseudokey_of old → (event : WardEvent) → WardStep pseudokey_of old event new → All (IsPage new.pages) (named_by event)
  named_after old new legal (HopAt at client call (Ok hop)) step = named_by_hop old new legal at client call hop step.0 step.1
  named_after old new legal (HopAt at client call (Err fault)) step = All-nil (IsPage new.pages)
  named_after old new legal (SplitAt at (Ok notice)) step =
      let kind_is : notice.kind ≡ Split step.right = ap (λ (n : Notice). n.kind) step.notice_is in
      subst (λ kind. All (IsPage new.pages) (right_page kind)) (sym kind_is) (one_named (IsPage new.pages) step.right (_, step.split.right_half))
  named_after old new legal (SplitAt at (Err fault)) step = All-nil (IsPage new.pages)
  named_after old new legal (MergeAt at (Ok notice)) step = All-nil (IsPage new.pages)
  named_after old new legal (MergeAt at (Err fault)) step = All-nil (IsPage new.pages)

  kept_from : (pages end : List Page) → KeepsPlaces pages end → (numbers : List ℕ) → All (IsPage pages) numbers → All (IsKeptPage pages end) numbers
  kept_from pages end places numbers are = All-weaker (IsPage pages) (IsKeptPage pages end) (λ number is. (is.0, is.1, places number is.0 is.1)) numbers are

  module _ (words : (keyer : K) → AreOfWords (pseudokey_of keyer)) (splits : SplitsKeepLegal) (merges : MergesKeepLegal) (answers : AnswersKeepLegal) (goes_on : HistoriesGoOn) where
    abbrev AllNamed : List (WardMoment K) → WardState K → Type 0
    AllNamed moments end = AllByRecursion (λ (moment : WardMoment K). All (IsKeptPage moment.after.pages end.pages) (named_by moment.event)) moments

    named_kept : (start : WardState K) (moments : List (WardMoment K)) (end : WardState K) → IsLegalWard pseudokey_of start → IsWardRun pseudokey_of start moments end → AllNamed moments end
    named_kept start [] end legal run = tt
    named_kept start (moment ∷ moments) end legal run =
        let step = stepped pseudokey_of words splits merges answers goes_on start moment.after moment.event run.1 in (
          kept_from moment.after.pages end.pages (run_places pseudokey_of moment.after moments end run.2) (named_by moment.event) (named_after start moment.after legal moment.event run.1),
          named_kept moment.after moments end (step.legal legal) run.2,
        )

    pub named_stay : (start : WardState K) (moments : List (WardMoment K)) (end : WardState K) → IsLegalWard pseudokey_of start → IsWardRun pseudokey_of start moments end
        → All (λ (moment : WardMoment K). All (IsKeptPage moment.after.pages end.pages) (named_by moment.event)) moments
    named_stay start moments end legal run = All-from_recursion _ moments (named_kept start moments end legal run)
