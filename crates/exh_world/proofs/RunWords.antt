-- The fields of a headline, in other words.
use Rattle.std.proofs.Common.{◌≡◌, ℕ, zero, suc, List, [], ◌∷◌, ◌++◌, length, map, fold, slice_get, Some, ◌⊎◌, inl, inr, refl, sym, ap, ◌∙◌, subst}
use Rattle.std.specs.Prelude.{◌≢◌, All, Result, Ok, Err}
use Rattle.std.specs.FinMap.{entries}
use Rattle.std.specs.List.{AllByRecursion}
use Rattle.std.specs.Option.{option_map_or}
use Rattle.std.proofs.lemmas.List.{map-append}
use Rattle.std.proofs.lemmas.List.Concat.{flat_map-append}
use Rattle.std.proofs.lemmas.List.Elements.{All-contains, All-from_recursion, recursion_from_All}
use Rattle.exh_notice.specs.declared.notice.Notice.{Notice}
use Rattle.exh_table.specs.Directory.{IsName}
use Rattle.exh_table.specs.TableLaws.{OwnEntries, OneNoticeMore, MembersDecide}
use Rattle.exh_table.specs.Leaves.{ward_leaves}
use Rattle.exh_table.specs.Table.{TableMap, told_by, IsTableOf, table_with}
use Rattle.exh_table.specs.TableLemmas.{table_laws}
use Rattle.exh_table.specs.TableOrder.{table_join}
use Rattle.exh_page.specs.declared.page.Page.{Page}
use Rattle.exh_page.specs.declared.page.Page.TheVariants.{Live, Forward}
use Rattle.exh_prefix.specs.Leading.{ward_prefix}
use Rattle.exh_legal.specs.Pages.{IsAt, IsHome}
use Rattle.exh_calls.specs.History.{IsHistory, map_left}
use Rattle.exh_page.specs.KeyMap.{KeyMap}
use Rattle.exh_calls.specs.MapMachine.{reply_of, map_after}
use Rattle.exh_calls.specs.declared.journal_entry.JournalEntry.{JournalEntry}
use Rattle.exh_calls.specs.declared.reply.Reply.{Reply}
use Rattle.exh_world.specs.StepEffectLemmas.{on_effect, on_refusal}
use Rattle.exh_world.specs.Headline.{CombinesLeast, IsNamed, DoesNotStray, AreTablesOfTaken}
use Rattle.exh_world.specs.HeadlineLaws.{AreWorldsOf, RunsGoStepByStep, LeavesToNotices, notices_taken, IsTableWithNotices, CopiesTakeNotices, SameNoticesSameTables, CombinesJoin, IsAtTheOneLeaf, Answers, AnswersComeFromTheOneLeaf, HopsLeadOn, OnlyAnswersChangeTheMap, RepliesFollowTheAnswersBefore}
use Rattle.exh_world.specs.WorldRun.{Moment, IsRun, Told, known_by, known_at_end, Answered, answered_by, answered_at, answered_in, prefix_of, prefix_at, journal_entry_of}
use Rattle.exh_world.specs.Step.{HasHopped, HasEffect, Step}
use Rattle.exh_world.specs.World.{WorldState, numbered, current_leaves, changes_in, map_in}
use Rattle.exh_walk.specs.declared.event.Event.{Event}
use Rattle.exh_walk.specs.declared.event.Event.TheVariants.{Hop as HopOn, Combine}
use Rattle.exh_walk.specs.declared.outcome.Outcome.{Outcome}
use Rattle.exh_walk.specs.declared.outcome.Outcome.TheVariants.{Hopped, Replied, Joined}
use Rattle.exh_walk.specs.EventProgress as progresses
use Rattle.exh_walk.specs.EventProgress.{Progress, hop_outcome}
use Rattle.exh_ward.specs.declared.hop.Hop.{Hop}
use Rattle.exh_ward.specs.declared.hop.Hop.TheVariants.{Done, Moved, MustSplit, Stray}
use Rattle.exh_world.specs.declared.request.Request.{Request}
use Rattle.exh_walk.specs.declared.step_fault.StepFault.{StepFault}
use Rattle.exh_walk.specs.declared.turn.Turn.{Turn}
use Rattle.exh_world.proofs.CopiesTold.{numbered_mapped, and_too, told_along, told_since, with_notices, more_told}

module _ {K : Type 0} (pseudokey_of : K → List ℕ → ℕ) where
  abbrev turns_of : List (Moment K) → List Turn
  turns_of moments = map (λ (m : Moment K). m.turn) moments

  -- ---- step by step

  abbrev worlds_after : List (Moment K) → List (WorldState K)
  worlds_after moments = map (λ (m : Moment K). m.after) moments

  many : (moments : List (Moment K)) → length (worlds_after moments) ≡ length (turns_of moments)
  many [] = refl
  many (moment ∷ moments) = ap suc (many moments)

  last_world : (now : WorldState K) (moments : List (Moment K)) (end : WorldState K) → IsRun pseudokey_of now moments end → slice_get (now ∷ worlds_after moments) (length (turns_of moments)) ≡ Some end
  last_world now [] end run = ap Some (sym run)
  last_world now (moment ∷ moments) end run = last_world moment.after moments end run.2

  each_step : (now : WorldState K) (moments : List (Moment K)) (end : WorldState K) → IsRun pseudokey_of now moments end
      → (at : ℕ) (turn : Turn) (before after : WorldState K) → slice_get (turns_of moments) at ≡ Some turn → slice_get (now ∷ worlds_after moments) at ≡ Some before → slice_get (now ∷ worlds_after moments) (suc at) ≡ Some after
      → Step pseudokey_of before turn.event turn.result after
  each_step now [] end run at turn before after is there next = cc
  each_step now (moment ∷ moments) end run zero turn before after is there next =
      let turn_is : moment.turn ≡ turn = cc in
      let before_is : now ≡ before = cc in
      let after_is : moment.after ≡ after = cc in
      let P : WorldState K → Turn → WorldState K → Type 0 = λ b t a. Step pseudokey_of b t.event t.result a in
      subst (P before turn) after_is (subst (λ t. P before t moment.after) turn_is (subst (λ b. P b moment.turn moment.after) before_is run.1))
  each_step now (moment ∷ moments) end run (suc at) turn before after is there next = each_step moment.after moments end run.2 at turn before after is there next

  pub step_by_step : RunsGoStepByStep pseudokey_of
  step_by_step start turns end headline =
      let moments = headline.moments in
      let worlds = start ∷ worlds_after moments in
      let over : AreWorldsOf pseudokey_of start (turns_of moments) end worlds = record {
        count = ap suc (many moments);
        first = refl;
        last = last_world start moments end headline.run;
        each = each_step start moments end headline.run;
      } in
      (worlds, subst (λ ts. AreWorldsOf pseudokey_of start ts end worlds) headline.turns_are over)

  -- ---- copies

  took_of : (start : WorldState K) (moments : List (Moment K)) (end : WorldState K) → IsRun pseudokey_of start moments end → (copy : ℕ) (own : TableMap) → numbered start.copies copy ≡ Some own → AllByRecursion (LeavesToNotices copy) (turns_of moments)
      → numbered (known_at_end (entries start.start) (known_by start) (turns_of moments)).copies copy ≡ Some (entries own ++ map told_by (notices_taken copy (turns_of moments)))
  took_of start moments end run copy own there leave =
      told_along pseudokey_of (entries start.start) copy (known_by start) start moments end run leave
      ∙ ap (and_too (map told_by (notices_taken copy (turns_of moments)))) (numbered_mapped entries start.copies copy own there)

  module _ (own_entries : OwnEntries) (more : OneNoticeMore) (decide : MembersDecide) where
    one_table : (taken : Told) (first : TableMap) (notices : List Notice) (table : TableMap) → taken ≡ entries first ++ map told_by notices → IsTableOf taken table → table ≡ fold table_with first notices
    one_table taken first notices table same is =
        decide (entries first ++ map told_by notices) (entries first ++ map told_by notices) table (fold table_with first notices) (λ pair. (λ among. among, λ among. among))
        (subst (λ told. IsTableOf told table) same is) (with_notices more (entries first) first notices (own_entries first))

    module _ (start : WorldState K) (moments : List (Moment K)) (end : WorldState K) (run : IsRun pseudokey_of start moments end) where
      with_own : AreTablesOfTaken start (turns_of moments) end → (copy : ℕ) (table : TableMap) → numbered end.copies copy ≡ Some table → IsTableWithNotices start (turns_of moments) end copy table
      with_own tables copy table is =
          let set = tables copy table is in
          record {
            from_start = λ own there leave.
                let all = recursion_from_All (LeavesToNotices copy) (turns_of moments) leave in
                let same : set.0 ≡ entries own ++ map told_by (notices_taken copy (turns_of moments)) = let both : Some set.0 ≡ Some (entries own ++ map told_by (notices_taken copy (turns_of moments))) = sym set.1 ∙ took_of start moments end run copy own there all in cc in
                one_table set.0 own (notices_taken copy (turns_of moments)) table same set.2;
            from_restart = λ front since are leave.
                let all = recursion_from_All (LeavesToNotices copy) since leave in
                let same = told_since pseudokey_of (entries start.start) copy (known_by start) start moments end run front since are all set.0 set.1 in
                one_table set.0 start.start (notices_taken copy since) table same set.2;
          }

    pub take_notices : CopiesTakeNotices pseudokey_of
    take_notices start turns end headline copy table is =
        let P : List Turn → Type 0 = λ ts. AreTablesOfTaken start ts end in
        subst (λ ts. IsTableWithNotices start ts end copy table) headline.turns_are
        (with_own start headline.moments end headline.run (subst P (sym headline.turns_are) headline.tables) copy table is)

  pub same_tables : SameNoticesSameTables pseudokey_of
  same_tables start turns end headline one other own table twin there there_too leave leave_too same is is_too =
      let P : ℕ → List Turn → Type 0 = λ copy ts. All (LeavesToNotices copy) ts in
      let Q : ℕ → List Turn → Type 0 = λ copy ts. numbered (known_at_end (entries start.start) (known_by start) ts).copies copy ≡ Some (entries own ++ map told_by (notices_taken copy ts)) in
      let ours : Q one turns = subst (Q one) headline.turns_are (took_of start headline.moments end headline.run one own there (recursion_from_All (LeavesToNotices one) (turns_of headline.moments) (subst (P one) (sym headline.turns_are) leave))) in
      let theirs : Q other turns = subst (Q other) headline.turns_are (took_of start headline.moments end headline.run other own there_too (recursion_from_All (LeavesToNotices other) (turns_of headline.moments) (subst (P other) (sym headline.turns_are) leave_too))) in
      headline.equal one other table twin (entries own ++ map told_by (notices_taken one turns)) (entries own ++ map told_by (notices_taken other turns)) is is_too ours theirs
      (λ prefix entry. (
        more_told (entries own) (notices_taken one turns) (notices_taken other turns) (λ notice. (same notice).0) (prefix, entry),
        more_told (entries own) (notices_taken other turns) (notices_taken one turns) (λ notice. (same notice).1) (prefix, entry),
      ))

  -- the bound of a combine is the join
  join_of : (moment : Moment K) → CombinesLeast moment → (copy number : ℕ) → moment.turn ≡ record { event = Combine copy number; result = Ok Joined } → (own sent : TableMap)
      → numbered moment.before.copies copy ≡ Some own → numbered moment.before.sent number ≡ Some sent → numbered moment.after.copies copy ≡ Some (table_join own sent)
  join_of moment least copy number is own sent there sent_there =
      let has = least copy number (ap (λ (turn : Turn). turn.event) is) (ap (λ (turn : Turn). turn.result) is) in
      let own_is : has.own ≡ own = let both : Some has.own ≡ Some own = sym has.there ∙ there in cc in
      let sent_is : has.other ≡ sent = let both : Some has.other ≡ Some sent = sym has.sent ∙ sent_there in cc in
      let join : has.joined ≡ table_join has.own has.other = table_laws.order.antisymmetric has.joined (table_join has.own has.other)
      (has.bound.least (table_join has.own has.other) (table_laws.bound.above_first has.own has.other) (table_laws.bound.above_second has.own has.other))
      (table_laws.bound.least has.own has.other has.joined has.bound.above_one has.bound.above_other) in
      has.left ∙ ap Some (join ∙ ap (λ table. table_join table has.other) own_is ∙ ap (table_join own) sent_is)

  pub combines_join : CombinesJoin pseudokey_of
  combines_join start turns end headline moment among = join_of moment (All-contains CombinesLeast headline.moments moment headline.combined among)

  -- ---- answers

  -- no step changes the start table or the ward bits
  abbrev SameSettings : WorldState K → WorldState K → Type 0
  SameSettings old new = (new.start ≡ old.start) × (new.ward_bits ≡ old.ward_bits)

  settings_kept : (old : WorldState K) (event : Event) (outcome : Outcome) (new : WorldState K) → HasEffect pseudokey_of old event outcome new → SameSettings old new
  settings_kept old = on_effect pseudokey_of old (λ event outcome new. SameSettings old new) record {
    begun = λ name client copy call ward page new has. subst (SameSettings old) (sym has.after) (refl, refl);
    hopped = λ name ward hop new has. subst (SameSettings old) (sym has.after) (refl, refl);
    split = λ ward page notice new has. subst (SameSettings old) (sym has.after) (refl, refl);
    merge = λ ward page notice new has. subst (SameSettings old) (sym has.after) (refl, refl);
    taken = λ copy ward index notice new has. subst (SameSettings old) (sym has.after) (refl, refl);
    sent = λ copy number new has. subst (SameSettings old) (sym has.after) (refl, refl);
    joined = λ copy table new has. subst (SameSettings old) (sym has.after) (refl, refl);
    restarted = λ copy new has. subst (SameSettings old) (sym has.after) (refl, refl);
  }

  settings_step : (old : WorldState K) (event : Event) (result : Result Outcome StepFault) (new : WorldState K) → Step pseudokey_of old event result new → SameSettings old new
  settings_step old event (Ok outcome) new step = settings_kept old event outcome new step
  settings_step old event (Err fault) new step = on_refusal pseudokey_of old (SameSettings old) (refl, refl) (λ number before failures found. (refl, refl)) event fault new step

  module _ (first : TableMap) (bits : ℕ) (moment : Moment K) (first_is : moment.before.start ≡ first) (bits_is : moment.before.ward_bits ≡ bits)
      (step : Step pseudokey_of moment.before moment.turn.event moment.turn.result moment.after)
      (named : AllByRecursion (IsNamed first bits) (answered_at moment.before moment.turn.event moment.turn.result)) (request : Request) (reply : Reply) (answers : Answers moment request reply) where
    abbrev hop_event : Event
    hop_event = HopOn answers.name

    abbrev hop_result : Result Outcome StepFault
    hop_result = Ok (Replied answers.ward reply answers.moves answers.bound)

    has : HasHopped pseudokey_of moment.before answers.name answers.ward (progresses.Done reply answers.moves answers.bound) moment.after
    has =
        let P : Event → Result Outcome StepFault → Type 0 = λ e r. Step pseudokey_of moment.before e r moment.after in
        subst (P hop_event) answers.result (subst (λ e. P e moment.turn.result) answers.event step)

    request_is : has.request ≡ request
    request_is = let both : Some has.request ≡ Some request = sym has.there ∙ answers.named in cc

    one_answer : answered_at moment.before hop_event hop_result ≡ answered_by moment.before reply answers.moves answers.bound request ∷ []
    one_answer = ap (λ found. option_map_or (λ request. answered_by moment.before reply answers.moves answers.bound request ∷ []) found []) answers.named

    named_here : IsNamed first bits (answered_by moment.before reply answers.moves answers.bound request)
    named_here =
        let P : List Answered → Type 0 = λ answered. AllByRecursion (IsNamed first bits) answered in
        let Q : Event → Result Outcome StepFault → Type 0 = λ e r. P (answered_at moment.before e r) in
        (subst P one_answer (subst (Q hop_event) answers.result (subst (λ e. Q e moment.turn.result) answers.event named))).0

    ward_there : slice_get moment.before.wards request.ward ≡ Some has.before
    ward_there = subst (λ (r : Request). slice_get moment.before.wards r.ward ≡ Some has.before) request_is (subst (λ n. slice_get moment.before.wards n ≡ Some has.before) has.ward_is has.found)

    named_now : IsName (current_leaves moment.before request.ward) request.pseudokey (prefix_at moment.before request.ward request.page)
    named_now =
        subst (λ start. IsName (ward_leaves start (ward_prefix moment.before.ward_bits request.ward) (changes_in moment.before request.ward)) request.pseudokey (prefix_at moment.before request.ward request.page)) (sym first_is)
        (subst (λ n. IsName (ward_leaves first (ward_prefix n request.ward) (changes_in moment.before request.ward)) request.pseudokey (prefix_at moment.before request.ward request.page)) (sym bits_is) named_here)

    at_page : (page : Page) (pseudokey : ℕ) → IsAt has.before.pages request.page page → IsHome page pseudokey → IsAtTheOneLeaf moment.before request
    at_page (Live prefix right records) pseudokey is home =
        let same : prefix_at moment.before request.ward request.page ≡ prefix =
        ap (λ w. option_map_or (λ state. option_map_or prefix_of (slice_get state.pages request.page) []) w []) ward_there ∙ ap (λ p. option_map_or prefix_of p []) is in
        let name = subst (IsName (current_leaves moment.before request.ward) request.pseudokey) same named_now in
        record { ward = has.before; there = ward_there; prefix = prefix; right = right; records = records; live = is; begins = name.begins; leaf = name.leaf; only = name.only }
    at_page (Forward low target) pseudokey is home = absurd home

    one_leaf : IsAtTheOneLeaf moment.before request
    one_leaf =
        at_page has.outcome.0 _ (subst (λ (r : Request). IsAt has.before.pages r.page has.outcome.0) request_is has.outcome.1.there) has.outcome.2

  abbrev AnswersWell : Moment K → Type 0
  AnswersWell moment = (request : Request) (reply : Reply) → Answers moment request reply → IsAtTheOneLeaf moment.before request

  parts : (P : Answered → Type 0) (front back : List Answered) → AllByRecursion P (front ++ back) → AllByRecursion P front × AllByRecursion P back
  parts P [] back all = (tt, all)
  parts P (one ∷ front) back all = let rest = parts P front back all.1 in ((all.0, rest.0), rest.1)

  all_answer : (first : TableMap) (bits : ℕ) (now : WorldState K) (moments : List (Moment K)) (end : WorldState K) → now.start ≡ first → now.ward_bits ≡ bits → IsRun pseudokey_of now moments end
      → AllByRecursion (IsNamed first bits) (answered_in moments) → AllByRecursion AnswersWell moments
  all_answer first bits now [] end first_is bits_is run named = tt
  all_answer first bits now (moment ∷ moments) end first_is bits_is run named =
      let both = parts (IsNamed first bits) (answered_at moment.before moment.turn.event moment.turn.result) (answered_in moments) named in
      let same = settings_step now moment.turn.event moment.turn.result moment.after run.1 in
      let P : WorldState K → Type 0 = λ w. Step pseudokey_of w moment.turn.event moment.turn.result moment.after in (
        one_leaf first bits moment (ap (λ (w : WorldState K). w.start) run.0 ∙ first_is) (ap (λ (w : WorldState K). w.ward_bits) run.0 ∙ bits_is) (subst P (sym run.0) run.1) both.0,
        all_answer first bits moment.after moments end (same.0 ∙ first_is) (same.1 ∙ bits_is) run.2 both.1,
      )

  pub from_one_leaf : AnswersComeFromTheOneLeaf pseudokey_of
  from_one_leaf start turns end headline moment among =
      All-contains AnswersWell headline.moments moment (All-from_recursion AnswersWell headline.moments
      (all_answer start.start start.ward_bits start headline.moments end refl refl headline.run (recursion_from_All (IsNamed start.start start.ward_bits) (answered_in headline.moments) headline.named))) among

  -- ---- hops

  -- an answer is told as one
  abbrev IsTold : WorldState K → Event → Outcome → WorldState K → Type 0
  IsTold old event outcome new = (ward : ℕ) (reply : Reply) → outcome ≢ Hopped ward (Done reply)

  hop_told : (ward other : ℕ) (reply : Reply) (hop : Progress) → hop_outcome ward hop ≢ Hopped other (Done reply)
  hop_told ward other reply (progresses.Done own moves bound) same = cc
  hop_told ward other reply (progresses.Moved next) same = cc
  hop_told ward other reply progresses.MustSplit same = cc
  hop_told ward other reply progresses.Stray same = cc

  effect_told : (old : WorldState K) (event : Event) (outcome : Outcome) (new : WorldState K) → HasEffect pseudokey_of old event outcome new → IsTold old event outcome new
  effect_told old = on_effect pseudokey_of old (IsTold old) record {
    begun = λ name client copy call ward page new has other reply same. cc;
    hopped = λ name ward hop new has other reply same. hop_told ward other reply hop same;
    split = λ ward page notice new has other reply same. cc;
    merge = λ ward page notice new has other reply same. cc;
    taken = λ copy ward index notice new has other reply same. cc;
    sent = λ copy number new has other reply same. cc;
    joined = λ copy table new has other reply same. cc;
    restarted = λ copy new has other reply same. cc;
  }

  step_told : (old : WorldState K) (event : Event) (result : Result Outcome StepFault) (new : WorldState K) → Step pseudokey_of old event result new
      → (ward : ℕ) (reply : Reply) → result ≢ Ok (Hopped ward (Done reply))
  step_told old event (Ok outcome) new step ward reply same = effect_told old event outcome new step ward reply (let is : outcome ≡ Hopped ward (Done reply) = cc in is)
  step_told old event (Err fault) new step ward reply same = cc

  abbrev LeadsOn : Hop → Type 0
  LeadsOn hop = ((next : ℕ) × (hop ≡ Moved next)) ⊎ (hop ≡ MustSplit)

  leads_on : (hop : Hop) → ((reply : Reply) → hop ≢ Done reply) → hop ≢ Stray → LeadsOn hop
  leads_on (Done reply) untold never = absurd (untold reply refl)
  leads_on (Moved next) untold never = inl (next, refl)
  leads_on MustSplit untold never = inr refl
  leads_on Stray untold never = absurd (never refl)

  abbrev TurnLeadsOn : Turn → Type 0
  TurnLeadsOn turn = (ward : ℕ) (hop : Hop) → turn.result ≡ Ok (Hopped ward hop) → LeadsOn hop

  all_lead : (now : WorldState K) (moments : List (Moment K)) (end : WorldState K) → IsRun pseudokey_of now moments end → AllByRecursion (DoesNotStray {K = K}) moments
      → AllByRecursion TurnLeadsOn (turns_of moments)
  all_lead now [] end run none = tt
  all_lead now (moment ∷ moments) end run none = (
    λ ward hop is. leads_on hop
        (λ reply done. step_told now moment.turn.event moment.turn.result moment.after run.1 ward reply (is ∙ ap (λ h. Ok (Hopped ward h)) done))
        (λ stray. none.0 ward (is ∙ ap (λ h. Ok (Hopped ward h)) stray)),
    all_lead moment.after moments end run.2 none.1,
  )

  pub hops_lead_on : HopsLeadOn pseudokey_of
  hops_lead_on start turns end headline turn among =
      All-contains TurnLeadsOn turns turn (subst (λ ts. All TurnLeadsOn ts) headline.turns_are
      (All-from_recursion TurnLeadsOn (turns_of headline.moments) (all_lead start headline.moments end headline.run (recursion_from_All (DoesNotStray {K = K}) headline.moments headline.no_stray)))) among

  -- ---- the map

  abbrev AnswersNone : Turn → Type 0
  AnswersNone turn = (ward : ℕ) (reply : Reply) (moves bound : ℕ) → turn.result ≢ Ok (Replied ward reply moves bound)

  no_answer : (world : WorldState K) (event : Event) (result : Result Outcome StepFault) → ((ward : ℕ) (reply : Reply) (moves bound : ℕ) → result ≢ Ok (Replied ward reply moves bound)) → answered_at world event result ≡ []
  no_answer world (HopOn name) (Ok (Replied ward reply moves bound)) none = absurd (none ward reply moves bound refl)
  no_answer world other came none = refl

  no_answers : (moments : List (Moment K)) → AllByRecursion AnswersNone (turns_of moments) → answered_in moments ≡ []
  no_answers [] none = refl
  no_answers (moment ∷ moments) none =
      ap (λ answered. answered ++ answered_in moments) (no_answer moment.before moment.turn.event moment.turn.result none.0) ∙ no_answers moments none.1

  pub map_kept : OnlyAnswersChangeTheMap pseudokey_of
  map_kept start turns end headline none =
      let P : List Turn → Type 0 = λ ts. All AnswersNone ts in
      headline.one_map.left
      ∙ ap (λ answered. map_left start.cap (pseudokey_of start.keyer) (map_in start) (map journal_entry_of answered))
      (no_answers headline.moments (recursion_from_All AnswersNone (turns_of headline.moments) (subst P (sym headline.turns_are) none)))

  reply_here : (cap : ℕ) (pseudo : List ℕ → ℕ) (base : KeyMap) (front : List JournalEntry) (entry : JournalEntry) (back : List JournalEntry) → IsHistory cap pseudo base (front ++ entry ∷ back)
      → entry.reply ≡ reply_of cap pseudo (map_left cap pseudo base front) entry.call
  reply_here cap pseudo base [] entry back is = is.0
  reply_here cap pseudo base (one ∷ front) entry back is = reply_here cap pseudo (map_after cap pseudo base one.call) front entry back is.1

  pub replies_follow : RepliesFollowTheAnswersBefore pseudokey_of
  replies_follow start turns end headline front back moment are request reply answers =
      let cap = start.cap in
      let pseudo = pseudokey_of start.keyer in
      let answered_by_moment : Moment K → List Answered = λ m. answered_at m.before m.turn.event m.turn.result in
      let Q : Event → Result Outcome StepFault → Type 0 = λ e r. answered_at moment.before e r ≡ answered_by moment.before reply answers.moves answers.bound request ∷ [] in
      let here : Q moment.turn.event moment.turn.result = subst (λ e. Q e moment.turn.result) (sym answers.event) (subst (Q (HopOn answers.name)) (sym answers.result)
      (ap (λ found. option_map_or (λ request. answered_by moment.before reply answers.moves answers.bound request ∷ []) found []) answers.named)) in
      let entry : JournalEntry = journal_entry_of (answered_by moment.before reply answers.moves answers.bound request) in
      let whole : map journal_entry_of (answered_in headline.moments) ≡ map journal_entry_of (answered_in front) ++ entry ∷ map journal_entry_of (answered_in back) =
      ap (λ moments. map journal_entry_of (answered_in moments)) are
      ∙ ap (map journal_entry_of) (flat_map-append answered_by_moment front (moment ∷ back))
      ∙ ap (λ answered. map journal_entry_of (answered_in front ++ (answered ++ answered_in back))) here
      ∙ map-append journal_entry_of (answered_in front) (answered_by moment.before reply answers.moves answers.bound request ∷ answered_in back) in
      reply_here cap pseudo (map_in start) (map journal_entry_of (answered_in front)) entry (map journal_entry_of (answered_in back)) (subst (IsHistory cap pseudo (map_in start)) whole headline.one_map.replies)
