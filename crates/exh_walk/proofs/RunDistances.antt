-- What steps and runs of a ward make of a distance.
use Rattle.std.proofs.Common.{◌≡◌, ℕ, suc, ◌+◌, ◌<◌, ◌^◌, List, [], ◌∷◌, length, Ok, Err, inl, inr, refl, sym, ap, ◌∙◌, subst, arith}
use Rattle.std.proofs.lemmas.List.{length-append, length-map}
use Rattle.std.proofs.lemmas.Option.{slice_get_within}
use Rattle.exh_prefix.specs.Prefix.{Begins}
use Rattle.exh_notice.specs.declared.notice.Notice.{Notice}
use Rattle.exh_page.specs.declared.page.Page.{Page}
use Rattle.exh_page.specs.declared.page.Page.TheVariants.{Forward}
use Rattle.exh_page.specs.PageLaws.{AreOfWords}
use Rattle.exh_page.specs.Page.{IsLive, low_bound, with_records}
use Rattle.exh_legal.specs.BareLemmas.{bare_at, at_bare, bare_low}
use Rattle.exh_legal.specs.LegalLaws.{IsBelow, SplitsKeepLegal, MergesKeepLegal, RightLinksLeadOn}
use Rattle.exh_legal.specs.Pages.{IsAt, AreLinked, bare}
use Rattle.exh_calls.specs.Call.{key_of}
use Rattle.exh_calls.specs.CallLaws.{HistoriesGoOn}
use Rattle.exh_calls.specs.declared.call.Call.{Call}
use Rattle.exh_ward.specs.WardLaws.{AnswersKeepLegal}
use Rattle.exh_ward.specs.WardState.{WardState, LeavesAfter, IsUnchanged, own_prefix}
use Rattle.exh_ward.specs.declared.hop.Hop.{Hop}
use Rattle.exh_ward.specs.declared.hop.Hop.TheVariants.{Done, Moved, MustSplit, Stray}
use Rattle.exh_ward.specs.Distance.{IsDistance}
use Rattle.exh_walk.specs.DistanceLaws.{IsDistanceUpTo, Goes, HasGone}
use Rattle.exh_walk.specs.RouteLaws.{IsLegalWard, CanGoOn, MovesComeNearer}
use Rattle.exh_walk.specs.WardRun.{WardEvent, HopAt, SplitAt, MergeAt, WardStep, WardMoment, IsWardRun, changes_by, changes_over}
use Rattle.exh_ward.specs.AnswerLemmas.{bare_answered}
use Rattle.exh_walk.proofs.ChangedDistances.{AreKeptBut, cut_or_kept, none_more_counted, stayed, split_adds_one, merge_adds_one}
use Rattle.exh_walk.proofs.GoHome.{moved_below}
use Rattle.exh_walk.proofs.StepPlaces.{step_places}
use Rattle.exh_legal.specs.LegalPlaceLemmas.{bare_live, below_kept, forward_of_bare, live_of_bare}
use Rattle.exh_walk.proofs.StepOneMap.{stepped}

-- ---- records don't matter

module _ (pages new : List Page) (same : bare pages ≡ bare new) where
  forward_at : (number low target : ℕ) → IsAt pages number (Forward low target) → IsAt new number (Forward low target)
  forward_at number low target is =
      let there = subst (λ pages. IsAt pages number (Forward low target)) same (bare_at pages number (Forward low target) is) in
      let full = at_bare new number (Forward low target) there in
      subst (IsAt new number) (forward_of_bare full.0 low target full.2) full.1

  live_at : (number : ℕ) (page : Page) → IsAt pages number page → IsLive page → (after : Page) × IsAt new number after × IsLive after × (low_bound after ≡ low_bound page)
  live_at number page is live =
      let there = subst (λ pages. IsAt pages number (with_records [] page)) same (bare_at pages number page is) in
      let full = at_bare new number (with_records [] page) there in
      (full.0, full.1, live_of_bare full.0 (subst IsLive full.2 (bare_live page live)), sym (bare_low full.0) ∙ sym (ap low_bound full.2) ∙ bare_low page)

module _ (pages new : List Page) (same : bare pages ≡ bare new) where
  -- no page is beyond the last
  abbrev beyond : ℕ
  beyond = length pages

  same_length : length new ≡ length pages
  same_length = sym (length-map new (with_records [])) ∙ sym (ap length same) ∙ length-map pages (with_records [])

  all_kept : AreKeptBut pages new beyond
  all_kept = record {
    forwards = λ number low target else is. forward_at pages new same number low target is;
    lives = λ number page else is live. live_at pages new same number page is live;
    lived = λ number after else is live. live_at new pages (sym same) number after is live;
  }

  pub bare_adds_none : (from pseudokey distance : ℕ) → IsDistance pages from pseudokey distance → IsDistanceUpTo new from pseudokey (distance + 0)
  bare_adds_none from pseudokey distance is = elim (cut_or_kept pages new beyond all_kept from is.over is.live is.forwarded) [
    | inl chain ↦
        stayed pages new beyond all_kept from pseudokey distance is chain (λ same. omega (arith, same, slice_get_within pages is.live is.page is.there)) 0
        (omega (arith, none_more_counted pages new beyond all_kept (low_bound is.page) (low_bound is.page) pseudokey (omega arith) (λ after is_after live. omega (arith, slice_get_within new beyond after is_after, same_length))))
    | inr cut ↦ absurd (omega (arith, slice_get_within pages beyond (Forward cut.low cut.target) cut.there))
  ]

pub same_adds_none : (pages new : List Page) → new ≡ pages → (from pseudokey distance : ℕ) → IsDistance pages from pseudokey distance → IsDistanceUpTo new from pseudokey (distance + 0)
same_adds_none pages new same from pseudokey distance is = (distance, subst (λ pages. IsDistance pages from pseudokey distance) (sym same) is, omega arith)

-- ---- a step

module _ {K : Type 0} (pseudokey_of : K → List ℕ → ℕ) (old new : WardState K) (from pseudokey distance : ℕ) (is : IsDistance old.pages from pseudokey distance) where
  hop_adds : (at client : ℕ) (call : Call) (hop : Hop) → LeavesAfter pseudokey_of old at client call hop new → IsDistanceUpTo new.pages from pseudokey (distance + 0)
  hop_adds at client call (Done reply) left =
      let same : bare old.pages ≡ bare new.pages = sym (ap bare left.pages ∙ bare_answered old.cap (pseudokey_of old.keyer) old.pages at call) in
      bare_adds_none old.pages new.pages same from pseudokey distance is
  hop_adds at client call (Moved next) left = same_adds_none old.pages new.pages (ap (λ (w : WardState K). w.pages) left) from pseudokey distance is
  hop_adds at client call MustSplit left = same_adds_none old.pages new.pages (ap (λ (w : WardState K). w.pages) left) from pseudokey distance is
  hop_adds at client call Stray left = same_adds_none old.pages new.pages (ap (λ (w : WardState K). w.pages) left) from pseudokey distance is

  unchanged_adds : IsUnchanged old new → IsDistanceUpTo new.pages from pseudokey (distance + 0)
  unchanged_adds same = same_adds_none old.pages new.pages (ap (λ (w : WardState K). w.pages) same) from pseudokey distance is

  pub step_adds : AreLinked (own_prefix old) (bare old.pages) → (event : WardEvent) → WardStep pseudokey_of old event new → IsDistanceUpTo new.pages from pseudokey (distance + length (changes_by event))
  step_adds linked (HopAt at client call (Ok hop)) step = hop_adds at client call hop step.1
  step_adds linked (HopAt at client call (Err fault)) step = unchanged_adds step
  step_adds linked (SplitAt at (Ok notice)) step = split_adds_one (own_prefix old) old.pages linked old.cap at notice.prefix step.right new.pages step.split from pseudokey distance is
  step_adds linked (SplitAt at (Err fault)) step = unchanged_adds step
  step_adds linked (MergeAt at (Ok notice)) step = merge_adds_one (own_prefix old) old.pages linked old.cap at notice.prefix new.pages step.merge from pseudokey distance is
  step_adds linked (MergeAt at (Err fault)) step = unchanged_adds step

-- ---- a run

abbrev IsReady : {K : Type 0} → (K → List ℕ → ℕ) → WardState K → ℕ → Type 0
IsReady pseudokey_of ward pseudokey = IsLegalWard pseudokey_of ward × (pseudokey < 2 ^ 64) × Begins (own_prefix ward) pseudokey

module _ {K : Type 0} (pseudokey_of : K → List ℕ → ℕ) (nearer : MovesComeNearer) (links : RightLinksLeadOn) where
  -- after a move of its own the ward is the same, and the request one nearer
  record IsMoved (start next : WardState K) (to pseudokey distance : ℕ) (changes : List Notice) : Type 0 where
    pages : next.pages ≡ start.pages
    none : changes ≡ []
    below : IsBelow next.pages to pseudokey
    left : ℕ
    less : distance ≡ suc left
    is_left : IsDistance next.pages to pseudokey left

  move_of : (start next : WardState K) (from to client : ℕ) (call : Call) (distance : ℕ) → IsReady pseudokey_of start (pseudokey_of start.keyer (key_of call)) → IsBelow start.pages from (pseudokey_of start.keyer (key_of call))
      → IsDistance start.pages from (pseudokey_of start.keyer (key_of call)) distance → WardStep pseudokey_of start (HopAt from client call (Ok (Moved to))) next
      → IsMoved start next to (pseudokey_of start.keyer (key_of call)) distance []
  move_of start next from to client call distance ready below is step =
      let linked = ready.0.legal.legal.linked in
      let on : CanGoOn (own_prefix start) start.pages from (pseudokey_of start.keyer (key_of call)) = record { linked = linked; word = ready.1; covered = ready.2; below = below } in
      let on_from_there = nearer start.cap (pseudokey_of start.keyer) (own_prefix start) start.pages from call to distance on is step.0 in
      let same : next.pages ≡ start.pages = ap (λ (w : WardState K). w.pages) step.1 in
      let k = pseudokey_of start.keyer (key_of call) in
      record {
        pages = same;
        none = refl;
        below = subst (λ pages. IsBelow pages to k) (sym same) (moved_below start.cap (pseudokey_of start.keyer) start.pages call (own_prefix start) linked links ready.1 ready.2 from to step.0);
        left = on_from_there.0;
        less = on_from_there.1;
        is_left = subst (λ pages. IsDistance pages to k on_from_there.0) (sym same) on_from_there.2;
      }

  move_by : (start next : WardState K) (event : WardEvent) (from to client : ℕ) (call : Call) (pseudokey distance : ℕ) → event ≡ HopAt from client call (Ok (Moved to)) → pseudokey_of start.keyer (key_of call) ≡ pseudokey
      → IsReady pseudokey_of start pseudokey → IsBelow start.pages from pseudokey → IsDistance start.pages from pseudokey distance → WardStep pseudokey_of start event next → IsMoved start next to pseudokey distance (changes_by event)
  move_by start next event from to client call pseudokey distance event_is same ready below is step =
      let P : ℕ → Type 0 = λ k. IsReady pseudokey_of start k → IsBelow start.pages from k → IsDistance start.pages from k distance → WardStep pseudokey_of start (HopAt from client call (Ok (Moved to))) next → IsMoved start next to k distance [] in
      let moved = subst P same (move_of start next from to client call distance) ready below is (subst (λ event. WardStep pseudokey_of start event next) event_is step) in
      subst (λ event. IsMoved start next to pseudokey distance (changes_by event)) (sym event_is) moved

  module _ (words : (keyer : K) → AreOfWords (pseudokey_of keyer)) (splits : SplitsKeepLegal) (merges : MergesKeepLegal) (answers : AnswersKeepLegal) (goes_on : HistoriesGoOn) where
    ready_after : (old new : WardState K) (event : WardEvent) (pseudokey : ℕ) → IsReady pseudokey_of old pseudokey → WardStep pseudokey_of old event new → IsReady pseudokey_of new pseudokey
    ready_after old new event pseudokey ready step =
        let facts = stepped pseudokey_of words splits merges answers goes_on old new event step in
        (facts.legal ready.0, ready.1, subst (λ ward. Begins ward pseudokey) (sym (ap (λ (w : WardState K). own_prefix w) facts.others)) ready.2)

    pub gone : (start : WardState K) (moments : List (WardMoment K)) (end : WardState K) (pseudokey from to moves distance : ℕ) → IsReady pseudokey_of start pseudokey → IsWardRun pseudokey_of start moments end → IsBelow start.pages from pseudokey
        → Goes pseudokey_of pseudokey from moments to moves → IsDistance start.pages from pseudokey distance → HasGone (length (changes_over moments)) end.pages pseudokey to moves distance
    gone start [] end pseudokey from to moves distance ready run below goes is =
        let pages : start.pages ≡ end.pages = sym (ap (λ (w : WardState K). w.pages) run) in
        record {
          below = subst (λ pages. IsBelow pages to pseudokey) pages (subst (λ n. IsBelow start.pages n pseudokey) (sym goes.0) below);
          left = distance;
          is_left = subst (λ pages. IsDistance pages to pseudokey distance) pages (subst (λ n. IsDistance start.pages n pseudokey distance) (sym goes.0) is);
          few = omega (arith, goes.1);
        }
    gone start (moment ∷ moments) end pseudokey from to moves distance ready run below goes is =
        let next = moment.after in
        let ready_then = ready_after start next moment.event pseudokey ready run.1 in
        let count : length (changes_over (moment ∷ moments)) ≡ length (changes_by moment.event) + length (changes_over moments) = length-append (changes_by moment.event) (changes_over moments) in
        elim goes [
          | inl stays ↦
              let after = step_adds pseudokey_of start next from pseudokey distance is ready.0.legal.legal.linked moment.event run.1 in
              let below_then = below_kept start.pages next.pages (step_places pseudokey_of start next moment.event run.1) from pseudokey below in
              let rest = gone next moments end pseudokey from to moves after.0 ready_then run.2 below_then stays after.1 in
              record { below = rest.below; left = rest.left; is_left = rest.is_left; few = omega (arith, rest.few, after.2, count) }
          | inr moves_on ↦
              let keyer_is = ap (λ (w : WardState K). pseudokey_of w.keyer (key_of moves_on.2.1)) (sym run.0) in
              let moved = move_by start next moment.event from moves_on.0 moves_on.2.0 moves_on.2.1 pseudokey distance moves_on.2.2 (keyer_is ∙ moves_on.2.3) ready below is run.1 in
              let rest = gone next moments end pseudokey moves_on.0 to moves_on.1 moved.left ready_then run.2 moved.below moves_on.4 moved.is_left in
              record { below = rest.below; left = rest.left; is_left = rest.is_left; few = omega (arith, rest.few, moved.less, moves_on.3, count) }
        ]
