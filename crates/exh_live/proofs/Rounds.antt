-- Rounds: why sparse pages aren't merged, and notices that are taken one by one and ward by ward.
use Rattle.std.proofs.Common.{◌≡◌, ℕ, suc, ◌+◌, ◌*◌, ◌<◌, ◌≤◌, Bool, true, false, cond, List, [], ◌∷◌, ◌++◌, append-nil, append_assoc, map, length, take, drop, get_or, Some, None, Result, Ok, Err, IfOk, inl, inr, refl, sym, ap, ◌∙◌, subst, arith}
use Rattle.std.proofs.lemmas.Bool.{false≢true}
use Rattle.std.specs.Prelude.{All, Contains, OnErr, nat_lt}
use Rattle.std.specs.declared.alloc.AllocError.{AllocError}
use Rattle.std.proofs.lemmas.List.Sums.{sum_by-append, sum_by-cons}
use Rattle.std.proofs.lemmas.List.{length-append, length-take, length-take-le, length_push, same_from_push, take_all, take_at, take_more, take-append-drop, drop_more, drop_all, map-append}
use Rattle.std.proofs.lemmas.List.Elements.{All-append, All-nil, All-contains_itself, All-filter, All-same, All-take, All-weaker}
use Rattle.std.proofs.lemmas.Option.{slice_get_read, slice_get_within}
use Rattle.exh_prefix.specs.PrefixListLemmas.{one_there}
use Rattle.exh_notice.specs.declared.notice.Notice.{Notice}
use Rattle.exh_copy.specs.Additions.{Additions}
use Rattle.exh_copy.specs.declared.addition.Addition.TheVariants.{Take}
use Rattle.exh_page.specs.declared.page.Page.{Page as PageType}
use Rattle.exh_page.specs.declared.page.Page.TheVariants.{Live, Forward}
use Rattle.exh_ward.specs.BuddySum.{HasBuddySum, IsBuddySum}
use Rattle.exh_ward.specs.MergeStep.{IsBuddy, IsMergeStep}
use Rattle.exh_ward.specs.WardFault.{CountsFailures, MergeRefused}
use Rattle.exh_ward.specs.WardState.{WardState, IsSoundWard, IsUnchanged, notices_above}
use Rattle.exh_ward.specs.declared.ward_fault.WardFault.{WardFault}
use Rattle.exh_ward.specs.declared.ward_fault.WardFault.TheVariants.{NoPage, NotLive, NotFull, AtLimit, NoBuddy, BuddySplit, TooMany, Worn, Memory, Page}
use Rattle.exh_live.specs.CursorPlaceLemmas.{one_more}
use Rattle.exh_live.specs.Rounds.{AreCarried, AreFromTo, AreKeeperTurns, AreSomeWardsNotices, IsSomeWardsNotice, Follows, IsKeeperTurn, IsRefusedRound, IsSomeKeeperTurn, MayRefuseKeeper, NoneFollows, PushesBatch, PushesFromTo, TakesAll, TakesFirst}

-- ---- keepers

-- a merge of two pages that fit into one is refused for their parent's number, for want of memory or a page out of reach alone
module _ {K : Type 0} (ward : WardState K) (at sum : ℕ) (has : HasBuddySum ward at sum) (only : (other : ℕ) → HasBuddySum ward at other → other ≡ sum) (few : sum ≤ ward.cap) where
  abbrev prefix : List Bool
  prefix = has.0

  abbrev left : PageType
  left = Live (prefix ++ false ∷ []) has.3.link has.1

  pub may_refuse : (fault : WardFault) → MergeRefused ward at fault → MayRefuseKeeper fault
  may_refuse NoPage past = absurd (omega (arith, past, slice_get_within ward.pages at left has.3.there))
  may_refuse NotLive (low, target, there) = let same : left ≡ Forward low target = one_there ward.pages at left (Forward low target) has.3.there there in cc
  may_refuse NotFull refused = absurd refused
  may_refuse AtLimit refused = absurd refused
  may_refuse NoBuddy (bits, link, records, there, why) =
      let same : left ≡ Live bits link records = one_there ward.pages at left (Live bits link records) has.3.there there in
      let whole : prefix ++ false ∷ [] ≡ bits = cc in
      elim why [
        | inl own ↦ absurd (omega (arith, has.3.inner, length_push prefix false, ap length (whole ∙ own)))
        | inr ends ↦ absurd (false≢true (same_from_push prefix ends.0 false true (whole ∙ ends.1)).1)
      ]
  may_refuse BuddySplit (bits, records, child, none) =
      let same : left ≡ Live (bits ++ false ∷ []) child.link records = one_there ward.pages at left (Live (bits ++ false ∷ []) child.link records) has.3.there child.there in
      let whole : prefix ++ false ∷ [] ≡ bits ++ false ∷ [] = cc in
      absurd (none has.2 (subst (λ p. IsBuddy ward p has.2) (same_from_push prefix bits false false whole).0 has.4))
  may_refuse (TooMany more) (bits, records, others, child, buddy, is, over) = absurd (omega (arith, few, over, only more (bits, records, others, child, buddy, is)))
  may_refuse Worn refused = tt
  may_refuse Memory refused = tt
  may_refuse Page refused = tt

module _ {K : Type 0} {ward now : WardState K} {at : ℕ} where
  pub kept_alone : now ≡ ward → IsBuddySum ward at None → IsKeeperTurn ward at false now
  kept_alone same none = (same, λ sparse. absurd (none sparse.0 sparse.1))

  module _ {sum : ℕ} (is : IsBuddySum ward at (Some sum)) where
    pub kept_full : now ≡ ward → ward.cap < 2 * sum → IsKeeperTurn ward at false now
    kept_full same many = (same, λ sparse. absurd (omega (arith, many, sparse.2, is.1 sparse.0 sparse.1)))

    pub kept_merged : (notice : Notice) (new : WardState K) → now ≡ ward → 2 * sum ≤ ward.cap → IsMergeStep now at notice new → IsKeeperTurn ward at true new
    kept_merged notice new same few merge = ((sum, is.0, few), (notice, subst (λ w. IsMergeStep w at notice new) same merge))

    kept_worn : (fault : WardFault) (new : WardState K) → fault ≡ Worn → now ≡ ward → IsUnchanged now new → CountsFailures {T = Notice} (Err fault) now.failures new.failures → MergeRefused now at fault → IsKeeperTurn ward at false new
    kept_worn fault new worn same unchanged failures refused =
        let none : new.failures ≡ now.failures = subst (λ f. CountsFailures {T = Notice} (Err f) now.failures new.failures) worn failures in
        let still : new ≡ now = unchanged ∙ ap (λ n. record now { failures = n }) none in
        let why : MergeRefused now at Worn = subst (MergeRefused now at) worn refused in
        (still ∙ same, λ sparse. subst (λ w. MergeRefused w at Worn) same why)

    pub kept_refused : (fault : WardFault) (new : WardState K) → now ≡ ward → IsUnchanged now new → CountsFailures {T = Notice} (Err fault) now.failures new.failures → MergeRefused now at fault
        → (result : Result Bool WardFault) → IfOk result (λ merged. (merged ≡ false) × (fault ≡ Worn)) → IfOk result (λ merged. IsKeeperTurn ward at merged new)
    kept_refused fault new same unchanged failures refused (Ok merged) worn = subst (λ b. IsKeeperTurn ward at b new) (sym worn.0) (kept_worn fault new worn.1 same unchanged failures refused)
    kept_refused fault new same unchanged failures refused (Err other) worn = tt

    pub refused_sparse : (fault : WardFault) → now ≡ ward → 2 * sum ≤ ward.cap → MergeRefused now at fault → MayRefuseKeeper fault
    refused_sparse fault same few refused = may_refuse ward at sum is.0 is.1 (omega (arith, few)) fault (subst (λ w. MergeRefused w at fault) same refused)

-- a keeper's turn more
pub one_turn_more : {K : Type 0} (pseudokey_of : K → List ℕ → ℕ) (number page merges now : ℕ) (merged : Bool) → AreKeeperTurns pseudokey_of number page merges → IsSomeKeeperTurn {K = K} pseudokey_of number page merged → now ≡ merges + cond merged 1 0
    → AreKeeperTurns pseudokey_of number (page + 1) now
one_turn_more {K} pseudokey_of number page merges now merged (turns, are, count) turn is = (
  turns ++ merged ∷ [],
  one_more (IsSomeKeeperTurn {K = K} pseudokey_of number) page turns merged (turns ++ merged ∷ []) are turn refl,
  omega (arith, is, count, sum_by-append (λ (m : Bool). cond m 1 0) turns (merged ∷ []), sum_by-cons (λ (m : Bool). cond m 1 0) merged []),
)

-- ---- couriers

module _ {K : Type 0} (pseudokey_of : K → List ℕ → ℕ) where
  of_ward : (ward : WardState K) → IsSoundWard pseudokey_of ward → (notice : Notice) → Contains ward.notices notice → IsSomeWardsNotice pseudokey_of notice
  of_ward ward sound notice has =
      let there = slice_get_read ward.notices (length ward.notices) has.0 notice refl has.1 (sym has.2) in
      (ward, sound, sym (sound.numbered has.0 notice there).0, has)

  -- what a ward hands out
  pub handed_out : (ward : WardState K) (cursor : ℕ) (batch : List Notice) → IsSoundWard pseudokey_of ward → batch ≡ take 256 (notices_above cursor ward.notices) → AreSomeWardsNotices pseudokey_of batch
  handed_out ward cursor batch sound is =
      let all = All-weaker (Contains ward.notices) (IsSomeWardsNotice pseudokey_of) (of_ward ward sound) ward.notices (All-contains_itself ward.notices) in
      All-same (IsSomeWardsNotice pseudokey_of) batch (take 256 (notices_above cursor ward.notices)) is
      (All-take (IsSomeWardsNotice pseudokey_of) 256 (notices_above cursor ward.notices) (All-filter (λ notice. nat_lt cursor notice.index) (IsSomeWardsNotice pseudokey_of) ward.notices all))

  -- and what stands in a cleared list that it was handed into
  pub handed_into : (ward : WardState K) (cursor : ℕ) (cleared filled batch : List Notice) → IsSoundWard pseudokey_of ward → cleared ≡ [] → filled ≡ cleared ++ take 256 (notices_above cursor ward.notices) → batch ≡ filled → AreSomeWardsNotices pseudokey_of batch
  handed_into ward cursor cleared filled batch sound empty fills is =
      handed_out ward cursor batch sound (is ∙ fills ∙ ap (λ first. first ++ take 256 (notices_above cursor ward.notices)) empty)

  -- so are those that are pushed of it
  pub batch_of_wards : (number count : ℕ) (batch old new : List Notice) (cursor last : ℕ) → AreSomeWardsNotices pseudokey_of batch → PushesBatch number (take count batch) old cursor new last → AreSomeWardsNotices pseudokey_of old → AreSomeWardsNotices pseudokey_of new
  batch_of_wards number count batch old new cursor last of_batch pushes of_old =
      let P : Notice → Type 0 = IsSomeWardsNotice pseudokey_of in
      let front : All P (pushes.0 ++ pushes.1) = All-same P (pushes.0 ++ pushes.1) (take count batch) (sym pushes.2) (All-take P count batch of_batch) in
      let pushed : All P pushes.0 = All-same P pushes.0 (take (length pushes.0) (pushes.0 ++ pushes.1)) (sym (take_at pushes.0 pushes.1 (length pushes.0) refl)) (All-take P (length pushes.0) (pushes.0 ++ pushes.1) front) in
      All-same P new (old ++ pushes.0) pushes.4 (All-append P old pushes.0 of_old pushed)

-- a notice more that follows
pub one_further : (ward cursor : ℕ) (notices : List Notice) (last : ℕ) (notice : Notice) → AreFromTo ward cursor notices last → Follows ward last notice → AreFromTo ward cursor (notices ++ notice ∷ []) notice.index
one_further ward cursor [] last notice from follows = (follows.0, follows.1 ∙ ap (λ n. n + 1) from, refl)
one_further ward cursor (first ∷ notices) last notice from follows = (from.0, from.1, one_further ward first.index notices last notice from.2 follows)

from_to_on : (ward cursor : ℕ) (notices : List Notice) (between : ℕ) (more : List Notice) (last : ℕ) → AreFromTo ward cursor notices between → AreFromTo ward between more last → AreFromTo ward cursor (notices ++ more) last
from_to_on ward cursor [] between more last one other = subst (λ n. AreFromTo ward n more last) one other
from_to_on ward cursor (first ∷ notices) between more last one other = (one.0, one.1, from_to_on ward first.index notices between more last one.2 other)

last_of : (ward cursor : ℕ) (notices : List Notice) (last : ℕ) → AreFromTo ward cursor notices last → last ≡ cursor + length notices
last_of ward cursor [] last from = omega (arith, from)
last_of ward cursor (first ∷ notices) last from =
    let further = last_of ward first.index notices last from.2 in
    omega (arith, from.1, further)

pub takes_nothing : (copy : Additions) → TakesAll copy [] copy
takes_nothing copy = ap (λ pending. record copy { pending = pending }) (sym (append-nil copy.pending))

pub takes_on : (old between new : Additions) (notices more : List Notice) → TakesAll old notices between → TakesAll between more new → TakesAll old (notices ++ more) new
takes_on old between new notices more one other =
    other
    ∙ ap (λ (copy : Additions). record copy { pending = copy.pending ++ map Take more }) one
    ∙ ap (λ pending. record old { pending = pending }) (append_assoc old.pending (map Take notices) (map Take more) ∙ ap (λ rest. old.pending ++ rest) (sym (map-append Take notices more)))

-- nothing of a ward
pub pushes_nothing : (ward : ℕ) (list : List Notice) (cursor : ℕ) → PushesFromTo ward list cursor list cursor
pushes_nothing ward list cursor = ([], refl, sym (append-nil list))

-- a batch more
pub batch_on : (ward : ℕ) (batch old between new : List Notice) (cursor far last : ℕ) → PushesFromTo ward old cursor between far → PushesBatch ward batch between far new last → PushesFromTo ward old cursor new last
batch_on ward batch old between new cursor far last so_far more =
    (so_far.0 ++ more.0, from_to_on ward cursor so_far.0 far more.0 last so_far.1 more.3, more.4 ∙ ap (λ ns. ns ++ more.0) so_far.2 ∙ append_assoc old so_far.0 more.0)

-- of so many notices of a batch at most the cursor moves by no more than these
pub turn_within : (ward count most : ℕ) (batch old new : List Notice) (cursor last : ℕ) → count ≤ most → PushesBatch ward (take count batch) old cursor new last → last ≤ cursor + most
turn_within ward count most batch old new cursor last few pushes =
    let whole : length (take count batch) ≡ length (pushes.0 ++ pushes.1) = ap length pushes.2 in
    omega (arith, few, last_of ward cursor pushes.0 last pushes.3, whole, length-append pushes.0 pushes.1, length-take count batch)

-- what was pushed of a batch so far, by how many
abbrev pub BatchSoFar : ℕ → List Notice → List Notice → ℕ → ℕ → List Notice → ℕ → Type 0
BatchSoFar ward batch old cursor count new last = AreFromTo ward cursor (take count batch) last × (new ≡ old ++ take count batch)

-- one notice more
longer : (notices : List Notice) (count : ℕ) (notice : Notice) → count < length notices → get_or notices count notice ≡ notice → take (count + 1) notices ≡ take count notices ++ notice ∷ []
longer notices count notice within here = take_more notices count notice within ∙ ap (λ n. take count notices ++ n ∷ []) here

pub one_pushed : (ward : ℕ) (batch old between new : List Notice) (cursor count last : ℕ) (notice : Notice) → count < length batch → BatchSoFar ward batch old cursor count between last → get_or batch count notice ≡ notice → Follows ward last notice
    → new ≡ between ++ notice ∷ [] → BatchSoFar ward batch old cursor (count + 1) new notice.index
one_pushed ward batch old between new cursor count last notice within so_far here follows pushed =
    let more = longer batch count notice within here in (
      subst (λ ns. AreFromTo ward cursor ns notice.index) (sym more) (one_further ward cursor (take count batch) last notice so_far.0 follows),
      pushed ∙ ap (λ ns. ns ++ notice ∷ []) so_far.1 ∙ append_assoc old (take count batch) (notice ∷ []) ∙ ap (λ ns. old ++ ns) (sym more),
    )

pub batch_pushed : (ward : ℕ) (batch old new : List Notice) (cursor count last : ℕ) → BatchSoFar ward batch old cursor count new last → NoneFollows ward last (drop count batch) → PushesBatch ward batch old cursor new last
batch_pushed ward batch old new cursor count last so_far end = (take count batch, drop count batch, sym (take-append-drop count batch), so_far.0, so_far.1, end)

pub none_follows_at : (ward last : ℕ) (batch : List Notice) (count : ℕ) (notice : Notice) → count < length batch → get_or batch count notice ≡ notice → ¬ Follows ward last notice → NoneFollows ward last (drop count batch)
none_follows_at ward last batch count notice within here not =
    subst (NoneFollows ward last) (sym (drop_more batch count notice within)) (subst (λ n. ¬ Follows ward last n) (sym here) not)

pub none_follows_end : (ward last : ℕ) (batch : List Notice) (count : ℕ) → length batch ≤ count → NoneFollows ward last (drop count batch)
none_follows_end ward last batch count past = subst (NoneFollows ward last) (sym (drop_all count batch past)) tt

pub one_ward_more : (ward : ℕ) (cursors : List ℕ) (notices : List Notice) (lasts : List ℕ) (cursor : ℕ) (more : List Notice) (last : ℕ) → AreCarried ward cursors notices lasts → AreFromTo (ward + length cursors) cursor more last
    → AreCarried ward (cursors ++ cursor ∷ []) (notices ++ more) (lasts ++ last ∷ [])
one_ward_more ward [] notices lasts cursor more last carried from =
    let here : ward + 0 ≡ ward = omega arith in
    (more, [], last, [], ap (λ ns. ns ++ more) carried.0 ∙ sym (append-nil more), ap (λ ls. ls ++ last ∷ []) carried.1, subst (λ n. AreFromTo n cursor more last) here from, (refl, refl))
one_ward_more ward (first_cursor ∷ cursors) notices lasts cursor more last (first, rest, first_last, rest_lasts, is, lasts_are, first_from, carried) from =
    let here : ward + length (first_cursor ∷ cursors) ≡ (ward + 1) + length cursors = omega arith in (
      first,
      rest ++ more,
      first_last,
      rest_lasts ++ last ∷ [],
      ap (λ ns. ns ++ more) is ∙ append_assoc first rest more,
      ap (λ ls. ls ++ last ∷ []) lasts_are,
      first_from,
      one_ward_more (ward + 1) cursors rest rest_lasts cursor more last carried (subst (λ n. AreFromTo n cursor more last) here from),
    )

-- there are as many cursors as before
pub as_many_cursors : (ward : ℕ) (cursors : List ℕ) (notices : List Notice) (lasts : List ℕ) → AreCarried ward cursors notices lasts → length lasts ≡ length cursors
as_many_cursors ward [] notices lasts carried = ap length carried.1
as_many_cursors ward (cursor ∷ cursors) notices lasts (first, rest, last, ends, is, lasts_are, from, carried) = ap length lasts_are ∙ ap suc (as_many_cursors (ward + 1) cursors rest ends carried)

-- the notices and cursors of one ward more
pub one_cursor_more : (cursors : List ℕ) (number : ℕ) (notices more all : List Notice) (lasts ends : List ℕ) (last : ℕ) → number < length cursors → AreCarried 0 (take number cursors) notices lasts → (spot : ℕ) → spot ≡ number → AreFromTo number (get_or cursors spot 0) more last
    → all ≡ notices ++ more → ends ≡ lasts ++ last ∷ [] → AreCarried 0 (take (number + 1) cursors) all ends
one_cursor_more cursors number notices more all lasts ends last within carried spot here from all_is ends_are =
    let cursor = get_or cursors number 0 in
    let count : number ≡ 0 + length (take number cursors) = omega (arith, length-take-le number cursors (omega (arith, within))) in
    let further = one_ward_more 0 (take number cursors) notices lasts cursor more last carried (subst (λ n. AreFromTo n cursor more last) count (subst (λ n. AreFromTo number (get_or cursors n 0) more last) here from)) in
    let P : List ℕ → List Notice → List ℕ → Type 0 = λ ps ns ls. AreCarried 0 ps ns ls in
    subst (λ ps. P ps all ends) (sym (take_more cursors number 0 within)) (subst (λ ns. P (take number cursors ++ cursor ∷ []) ns ends) (sym all_is) (subst (P (take number cursors ++ cursor ∷ []) (notices ++ more)) (sym ends_are) further))

-- ---- a copy takes them

pub one_taken : (notices : List Notice) (old between new : Additions) (count : ℕ) (notice : Notice) → count < length notices → TakesAll old (take count notices) between → get_or notices count notice ≡ notice → TakesAll between (notice ∷ []) new
    → TakesAll old (take (count + 1) notices) new
one_taken notices old between new count notice within so_far here takes =
    subst (λ ns. TakesAll old ns new) (sym (longer notices count notice within here)) (takes_on old between new (take count notices) (notice ∷ []) so_far takes)

pub all_taken : (notices : List Notice) (old new : Additions) (count : ℕ) → length notices ≤ count → TakesAll old (take count notices) new → TakesAll old notices new
all_taken notices old new count past so_far = subst (λ ns. TakesAll old ns new) (take_all count notices past) so_far

some_taken : (notices : List Notice) (old between new : Additions) (count : ℕ) → TakesAll old (take count notices) between → new ≡ between → TakesFirst old notices new
some_taken notices old between new count so_far same = (take count notices, drop count notices, sym (take-append-drop count notices), subst (TakesAll old (take count notices)) (sym same) so_far)

-- where memory is refused
pub take_refused : {T : Type 0} (notices : List Notice) (old between new : Additions) (count : ℕ) (result : Result T AllocError) → TakesAll old (take count notices) between → new ≡ between → OnErr result (TakesFirst old notices new)
take_refused notices old between new count (Ok value) so_far same = tt
take_refused notices old between new count (Err error) so_far same = some_taken notices old between new count so_far same

-- ---- a round

none_carried : (ward : ℕ) (cursors : List ℕ) → AreCarried ward cursors [] cursors
none_carried ward [] = (refl, refl)
none_carried ward (cursor ∷ cursors) = ([], [], cursor, cursors, refl, refl, refl, none_carried (ward + 1) cursors)

-- where no notices were copied
pub none_copied : {T : Type 0} {K : Type 0} (pseudokey_of : K → List ℕ → ℕ) (copy : Additions) (cursors after : List ℕ) (result : Result T AllocError) → after ≡ cursors → OnErr result (IsRefusedRound pseudokey_of copy cursors copy after)
none_copied pseudokey_of copy cursors after (Ok value) same = tt
none_copied pseudokey_of copy cursors after (Err error) same = (same, ([], cursors, none_carried 0 cursors, ([], [], refl, takes_nothing copy), All-nil (IsSomeWardsNotice pseudokey_of)))
