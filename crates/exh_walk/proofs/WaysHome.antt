-- The walk of a call that puts nothing: its hops are the moves of the way home, so it ends after as many as the distance and one.
use Rattle.std.proofs.Common.{◌≡◌, ℕ, suc, ◌+◌, ◌≤◌, Bool, false, List, [], ◌∷◌, ◌++◌, length, Result, Ok, Err, refl, sym, ap, subst, arith}
use Rattle.std.proofs.lemmas.List.{length-append}
use Rattle.exh_page.specs.declared.page.Page.{Page}
use Rattle.exh_page.specs.declared.page.Page.TheVariants.{Live, Forward}
use Rattle.exh_page.specs.KeyMap.{KeyMap}
use Rattle.exh_legal.specs.Pages.{map_of}
use Rattle.exh_calls.specs.Effect.{sets_new}
use Rattle.exh_calls.specs.MapMachine.{reply_of}
use Rattle.exh_calls.specs.declared.call.Call.{Call}
use Rattle.exh_calls.specs.declared.reply.Reply.{Reply}
use Rattle.exh_ward.specs.HopTable.{HopOf, Overflows}
use Rattle.exh_ward.specs.WardLaws.{OneHop}
use Rattle.exh_ward.specs.WardFault.{IsStoreFault}
use Rattle.exh_ward.specs.WardState.{WardState}
use Rattle.exh_ward.specs.declared.hop.Hop.{Hop}
use Rattle.exh_ward.specs.declared.hop.Hop.TheVariants.{Done, Moved, MustSplit, Stray}
use Rattle.exh_ward.specs.declared.ward_fault.WardFault.{WardFault}
use Rattle.exh_ward.specs.declared.ward_fault.WardFault.TheVariants.{Memory, Page as PageFault, NoPage, NotLive, NotFull, AtLimit, NoBuddy, BuddySplit, TooMany, Worn}
use Rattle.exh_walk.specs.RouteLaws.{EndsAtHome}
use Rattle.exh_walk.specs.WardMoves.{AreMoves, EndsMoves}
use Rattle.exh_walk.specs.WardRun.{WardEvent, HopAt}
use Rattle.exh_walk.specs.declared.ask_fault.AskFault.{AskFault}
use Rattle.exh_walk.specs.declared.ask_fault.AskFault.TheVariants.{Held}
use Rattle.exh_walk.specs.CallerWalk.{Due, HopDue, SplitDue, Over, IsRun, AreDue, IsWhatWasDue, IsEnd, IsWalked, MayPass, MaySayNo, MaySayYes, after_fault, fault_at, due_after, due_from, hops_in}
use Rattle.exh_walk.specs.WardStep.{IsWardStep}

-- ---- moves

module _ (cap : ℕ) (pseudo : List ℕ → ℕ) (pages : List Page) (call : Call) where
  move_on : (from between to : ℕ) (moves : List ℕ) → AreMoves cap pseudo pages call from moves between → HopOf cap pseudo pages between call (Moved to) → AreMoves cap pseudo pages call from (moves ++ to ∷ []) to
  move_on from between to [] go hop = (subst (λ page. HopOf cap pseudo pages page call (Moved to)) (sym go) hop, refl)
  move_on from between to (next ∷ moves) go hop = (go.0, move_on next between to moves go.1 hop)

  -- no moves go further than those that end in no move
  no_further : OneHop → (from to home : ℕ) (moves all : List ℕ) (hop : Hop) → AreMoves cap pseudo pages call from moves to → AreMoves cap pseudo pages call from all home → HopOf cap pseudo pages home call hop → EndsMoves hop → length moves ≤ length all
  no_further one from to home [] all hop go way is ends = omega arith
  no_further one from to home (next ∷ moves) [] hop go way is ends =
      absurd (ends next (one cap pseudo pages home call hop (Moved next) is (subst (λ page. HopOf cap pseudo pages page call (Moved next)) way go.0)))
  no_further one from to home (next ∷ moves) (other ∷ all) hop go way is ends =
      let both = one cap pseudo pages from call (Moved next) (Moved other) go.0 way.0 in
      let same : next ≡ other = cc in
      omega (arith, no_further one other to home moves all hop (subst (λ page. AreMoves cap pseudo pages call page moves to) same go.1) way.1 is ends)

done_ends : (reply : Reply) → EndsMoves (Done reply)
done_ends reply next same = cc

stray_ends : EndsMoves Stray
stray_ends next same = cc

never_full : (cap : ℕ) (m : KeyMap) (page : Page) (call : Call) → sets_new call ≡ false → Overflows cap m page call → ⊥
never_full cap m (Live prefix right records) call gets over = let set = over.3 in cc
never_full cap m (Forward low target) call gets over = over

-- ---- the walk

module _ {K : Type 0} (pseudokey_of : K → List ℕ → ℕ) (one : OneHop) (old : WardState K) (at client : ℕ) (call : Call) (pseudokey : ℕ) (gets : sets_new call ≡ false) (home : EndsAtHome old.cap (pseudokey_of old.keyer) old.pages at call) where
  abbrev pseudo : List ℕ → ℕ
  pseudo = pseudokey_of old.keyer

  answered : HopOf old.cap pseudo old.pages home.way.home call (Done (reply_of old.cap pseudo (map_of old.pages) call))
  answered = home.answered (never_full old.cap (map_of old.pages) home.way.page call gets)

  record Underway (page hops : ℕ) : Type 0 where
    moves : List ℕ
    go : AreMoves old.cap pseudo old.pages call at moves page
    count : length moves ≡ hops

  -- as long as a hop is to come the ward is as it was, and the hops were moves; the answer is the hop after all moves
  abbrev Standing : Due → ℕ → WardState K → Type 0
  Standing (HopDue page) hops new = (new ≡ old) × Underway page hops
  Standing (SplitDue page) hops new = ⊥
  Standing (Over (Ok reply)) hops new = hops ≡ suc (length home.way.moves)
  Standing (Over (Err fault)) hops new = fault ≡ Held → ⊥

  refused : (page hops : ℕ) (new : WardState K) (fault : WardFault) → IsStoreFault fault → Standing (after_fault page (fault_at fault)) hops new
  refused page hops new Memory is = λ same. cc
  refused page hops new PageFault is = λ same. cc
  refused page hops new NoPage is = absurd is
  refused page hops new NotLive is = absurd is
  refused page hops new NotFull is = absurd is
  refused page hops new AtLimit is = absurd is
  refused page hops new NoBuddy is = absurd is
  refused page hops new BuddySplit is = absurd is
  refused page hops new (TooMany sum) is = absurd is
  refused page hops new Worn is = absurd is

  hop_on : (page hops : ℕ) (new : WardState K) (result : Result Hop WardFault) → Underway page hops → IsWardStep pseudokey_of old (HopAt page client call result) new → Standing (due_after pseudokey (HopAt page client call result)) (suc hops) new
  hop_on page hops new (Ok (Done reply)) so_far step =
      let there = home.way.only so_far.moves page (Done reply) so_far.go step.step.0 (done_ends reply) in
      omega (arith, so_far.count, ap length there.0)
  hop_on page hops new (Ok (Moved next)) so_far step = (
    step.step.1,
    record {
      moves = so_far.moves ++ next ∷ [];
      go = move_on old.cap pseudo old.pages call at page next so_far.moves so_far.go step.step.0;
      count = omega (arith, length-append so_far.moves (next ∷ []), so_far.count);
    },
  )
  hop_on page hops new (Ok MustSplit) so_far step = never_full old.cap (map_of old.pages) step.step.0.0 call gets step.step.0.3
  hop_on page hops new (Ok Stray) so_far step =
      let there = home.way.only so_far.moves page Stray so_far.go step.step.0 stray_ends in
      let both = one old.cap pseudo old.pages home.way.home call (Done (reply_of old.cap pseudo (map_of old.pages) call)) Stray answered (subst (λ page. HopOf old.cap pseudo old.pages page call Stray) there.1 step.step.0) in
      absurd cc
  hop_on page hops new (Err fault) so_far step = refused page (suc hops) new fault step.refused

  event_on : (due : Due) (earlier : List WardEvent) (between new : WardState K) (event : WardEvent) → Standing due (hops_in earlier) between → IsWhatWasDue client call due event → IsWardStep pseudokey_of between event new
      → Standing (due_after pseudokey event) (hops_in (event ∷ earlier)) new
  event_on (HopDue page) earlier between new event so_far was step =
      let same = subst (λ event. IsWardStep pseudokey_of between event new) was.1 step in
      let from_old = subst (λ ward. IsWardStep pseudokey_of ward (HopAt page client call was.0) new) so_far.0 same in
      subst (λ event. Standing (due_after pseudokey event) (hops_in (event ∷ earlier)) new) (sym was.1) (hop_on page (hops_in earlier) new was.0 so_far.1 from_old)
  event_on (SplitDue page) earlier between new event so_far was step = absurd so_far
  event_on (Over result) earlier between new event so_far was step = absurd was

  standing : (events : List WardEvent) (new : WardState K) → IsRun (IsWardStep pseudokey_of) old events new → AreDue at client call pseudokey events → Standing (due_from pseudokey at events) (hops_in events) new
  standing [] new run due = (run, record { moves = []; go = refl; count = refl })
  standing (event ∷ earlier) new run due = event_on (due_from pseudokey at earlier) earlier run.0 new event (standing earlier run.0 run.1 due.0) due.1 run.2

  module _ (may : ℕ → Bool → Type 0) (distance : ℕ) (distance_is : distance ≡ length home.way.moves) where
    held_at : (due : Due) (hops : ℕ) (new : WardState K) → Standing due hops new → IsEnd may due hops (Err Held) → (turn : ℕ) × (1 ≤ turn) × (turn ≤ 1 + distance) × MaySayNo may turn
    held_at (HopDue page) hops new so_far end =
        let most = no_further old.cap pseudo old.pages call one at page home.way.home so_far.1.moves home.way.moves (Done (reply_of old.cap pseudo (map_of old.pages) call)) so_far.1.go home.way.go answered (done_ends _) in
        (suc hops, omega arith, omega (arith, most, so_far.1.count, distance_is), end.1)
    held_at (SplitDue page) hops new so_far end = absurd so_far
    held_at (Over (Ok reply)) hops new so_far end = absurd cc
    held_at (Over (Err fault)) hops new so_far end = absurd (so_far (let same : fault ≡ Held = cc in same))

    answered_at : (due : Due) (hops : ℕ) (new : WardState K) (reply : Reply) → MayPass may hops → Standing due hops new → IsEnd may due hops (Ok reply) → (turn : ℕ) → 1 ≤ turn → turn ≤ 1 + distance → MaySayYes may turn
    answered_at (HopDue page) hops new reply passed so_far end turn low high = absurd (let clash = end.0 in cc)
    answered_at (SplitDue page) hops new reply passed so_far end turn low high = absurd so_far
    answered_at (Over (Ok other)) hops new reply passed so_far end turn low high = passed turn low (omega (arith, so_far, high, distance_is))
    answered_at (Over (Err fault)) hops new reply passed so_far end turn low high = absurd cc

    module _ (new : WardState K) (result : Result Reply AskFault) (walked : IsWalked (IsWardStep pseudokey_of) may old at client call pseudokey result new) where
      stands : Standing (due_from pseudokey at walked.events) (hops_in walked.events) new
      stands = standing walked.events new walked.way.run walked.way.due

      pub held_in_turn : result ≡ Err Held → (turn : ℕ) × (1 ≤ turn) × (turn ≤ 1 + distance) × MaySayNo may turn
      held_in_turn is = held_at (due_from pseudokey at walked.events) (hops_in walked.events) new stands (subst (IsEnd may (due_from pseudokey at walked.events) (hops_in walked.events)) is walked.end)

      pub passes_in_turn : (reply : Reply) → result ≡ Ok reply → (turn : ℕ) → 1 ≤ turn → turn ≤ 1 + distance → MaySayYes may turn
      passes_in_turn reply is =
          answered_at (due_from pseudokey at walked.events) (hops_in walked.events) new reply walked.way.passed stands (subst (IsEnd may (due_from pseudokey at walked.events) (hops_in walked.events)) is walked.end)
