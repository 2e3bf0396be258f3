-- What one step leaves of a ward.
use Rattle.std.proofs.Common.{◌≡◌, ℕ, ◌+◌, List, [], ◌∷◌, ◌++◌, length, slice_get, Some, inl, inr, Ok, Err, refl, sym, ap, ◌∙◌, subst, arith}
use Rattle.std.proofs.lemmas.Bool.{cases_lt}
use Rattle.std.proofs.lemmas.List.{append-nil, length-append}
use Rattle.std.proofs.lemmas.Option.{slice_get_within}
use Rattle.exh_prefix.specs.PrefixListLemmas.{at_front, at_last}
use Rattle.exh_notice.specs.declared.notice.Notice.{Notice}
use Rattle.exh_table.specs.SetLemmas.{IsTableSince-push}
use Rattle.exh_table.specs.Table.{TableMap, table_with}
use Rattle.exh_page.specs.declared.page.Page.{Page}
use Rattle.exh_page.specs.PageLaws.{AreOfWords}
use Rattle.exh_legal.specs.Fit.{FitsPages}
use Rattle.exh_legal.specs.Growth.{IsGrown}
use Rattle.exh_legal.specs.LegalLaws.{IsChanged, SplitsKeepLegal, MergesKeepLegal}
use Rattle.exh_legal.specs.NoticeLemmas.{one_true_more, places_by_bare, still_true}
use Rattle.exh_legal.specs.ChangeNumbers.{AreNumbered, index_of}
use Rattle.exh_legal.specs.Pages.{IsLegal, bare, map_of}
use Rattle.exh_ward.specs.HopTable.{HopOf}
use Rattle.exh_calls.specs.CallLaws.{HistoriesGoOn}
use Rattle.exh_ward.specs.WardLaws.{AnswersKeepLegal}
use Rattle.exh_calls.specs.MapMachine.{reply_of, map_after}
use Rattle.exh_ward.specs.MergeStep.{IsMergeStep}
use Rattle.exh_ward.specs.SplitStep.{IsSplitStep}
use Rattle.exh_ward.specs.WardState.{WardState, IsSoundWard, IsAnswered, LeavesAfter, IsUnchanged, own_prefix}
use Rattle.exh_calls.specs.declared.call.Call.{Call}
use Rattle.exh_ward.specs.declared.hop.Hop.{Hop}
use Rattle.exh_ward.specs.declared.hop.Hop.TheVariants.{Done, Moved, MustSplit, Stray}
use Rattle.exh_calls.specs.declared.journal_entry.JournalEntry.{JournalEntry}
use Rattle.exh_calls.specs.declared.reply.Reply.{Reply}
use Rattle.exh_calls.specs.HistoryLemmas.{MapGoes}
use Rattle.exh_ward.specs.AnswerLemmas.{bare_answered}
use Rattle.exh_walk.specs.RouteLaws.{IsLegalWard}
use Rattle.exh_walk.specs.WardRun.{WardEvent, HopAt, SplitAt, MergeAt, WardStep, answer_of, changes_by}

-- ---- one notice more

numbered_more : (ward : ℕ) (start table : TableMap) (notices : List Notice) (notice : Notice) → AreNumbered ward start notices → index_of table ≡ index_of start + length notices
    → notice.ward ≡ ward → notice.index ≡ index_of table + 1 → AreNumbered ward start (notices ++ notice ∷ [])
numbered_more ward start table notices notice numbered counted ward_is index_is place other is = elim (cases_lt place (length notices)) [
  | inl before ↦ numbered place other (sym (at_front notices (notice ∷ []) place before) ∙ is)
  | inr after ↦
      let here : place ≡ length notices = omega (arith, after, slice_get_within (notices ++ notice ∷ []) place other is, length-append notices (notice ∷ [])) in
      let both : Some notice ≡ Some other = sym (at_last notices notice) ∙ ap (slice_get (notices ++ notice ∷ [])) (sym here) ∙ is in
      let same : notice ≡ other = cc in
      (sym (ap (λ (n : Notice). n.ward) same) ∙ ward_is, omega (arith, ap (λ (n : Notice). n.index) same, index_is, counted, here))
]

-- ---- what a step leaves

pub record IsStepped {K : Type 0} (pseudokey_of : K → List ℕ → ℕ) (old : WardState K) (event : WardEvent) (new : WardState K) : Type 0 where
  pub others : new ≡ record old { pages = new.pages; journal = new.journal; notices = new.notices; table = new.table; failures = new.failures }
  pub notices : new.notices ≡ old.notices ++ changes_by event
  pub journal : new.journal ≡ old.journal ++ answer_of event
  -- the map is the map machine's after the answer, if there is one
  pub goes : MapGoes old.cap (pseudokey_of old.keyer) (map_of old.pages) (answer_of event) (map_of new.pages)
  pub legal : IsLegalWard pseudokey_of old → IsLegalWard pseudokey_of new
  pub sound : IsSoundWard pseudokey_of old → IsSoundWard pseudokey_of new

module _ {K : Type 0} (pseudokey_of : K → List ℕ → ℕ) (words : (keyer : K) → AreOfWords (pseudokey_of keyer)) (splits : SplitsKeepLegal) (merges : MergesKeepLegal) (answers : AnswersKeepLegal) (goes_on : HistoriesGoOn) (old new : WardState K) where
  -- ---- nothing but the count of failures changed

  counted_anew : (event : WardEvent) (failures : ℕ) → answer_of event ≡ [] → changes_by event ≡ [] → IsStepped pseudokey_of old event (record old { failures = failures })
  counted_anew event failures no_answer no_change = record {
    others = refl;
    notices = sym (append-nil old.notices) ∙ ap (λ more. old.notices ++ more) (sym no_change);
    journal = sym (append-nil old.journal) ∙ ap (λ more. old.journal ++ more) (sym no_answer);
    goes = subst (λ entries. MapGoes old.cap (pseudokey_of old.keyer) (map_of old.pages) entries (map_of old.pages)) (sym no_answer) refl;
    legal = λ legal. legal;
    sound = λ sound. record {
      legal = sound.legal;
      since = sound.since;
      numbered = sound.numbered;
      counted = sound.counted;
      notices = sound.notices;
      history = sound.history;
      left = sound.left;
    };
  }

  unchanged : (event : WardEvent) → answer_of event ≡ [] → changes_by event ≡ [] → IsUnchanged old new → IsStepped pseudokey_of old event new
  unchanged event no_answer no_change is = subst (IsStepped pseudokey_of old event) (sym is) (counted_anew event new.failures no_answer no_change)

  stayed : (event : WardEvent) → answer_of event ≡ [] → changes_by event ≡ [] → new ≡ old → IsStepped pseudokey_of old event new
  stayed event no_answer no_change is = subst (IsStepped pseudokey_of old event) (sym is) (counted_anew event old.failures no_answer no_change)

  -- ---- the pages were changed, with a notice

  abbrev told : Notice → List Page → WardState K
  told notice pages = record old { pages = pages; notices = old.notices ++ notice ∷ []; table = table_with old.table notice }

  module _ (notice : Notice) (pages : List Page) (event : WardEvent) (no_answer : answer_of event ≡ []) (one_change : changes_by event ≡ notice ∷ []) (ward_is : notice.ward ≡ old.number) (index_is : notice.index ≡ index_of old.table + 1) (same_map : map_of pages ≡ map_of old.pages)
      (changed : IsLegalWard pseudokey_of old → IsChanged old.cap (pseudokey_of old.keyer) (own_prefix old) old.start old.notices old.table old.pages notice pages) where
    told_sound : IsSoundWard pseudokey_of old → IsSoundWard pseudokey_of (told notice pages)
    told_sound sound =
        let is = changed sound.legal in
        record {
          legal = record { legal = is.legal; fits = is.fits };
          since = IsTableSince-push old.start old.notices old.table notice sound.since;
          numbered = numbered_more old.number old.start old.table old.notices notice sound.numbered sound.counted ward_is index_is;
          counted = omega (arith, is.index, sound.counted, length-append old.notices (notice ∷ []));
          notices = one_true_more (own_prefix old) pages old.notices notice (λ other there. still_true (own_prefix old) old.pages pages is.places other (sound.notices other there)) is.told;
          history = sound.history;
          left = same_map ∙ sound.left;
        }

    told_stepped : IsStepped pseudokey_of old event (told notice pages)
    told_stepped = record {
      others = refl;
      notices = ap (λ more. old.notices ++ more) (sym one_change);
      journal = sym (append-nil old.journal) ∙ ap (λ more. old.journal ++ more) (sym no_answer);
      goes = subst (λ entries. MapGoes old.cap (pseudokey_of old.keyer) (map_of old.pages) entries (map_of pages)) (sym no_answer) same_map;
      legal = λ legal. (let is = changed legal in record { legal = is.legal; fits = is.fits });
      sound = told_sound;
    }

  split_stepped : (at : ℕ) (notice : Notice) → IsSplitStep old at notice new → IsStepped pseudokey_of old (SplitAt at (Ok notice)) new
  split_stepped at notice step =
      subst (IsStepped pseudokey_of old (SplitAt at (Ok notice))) (sym step.others)
      (told_stepped notice new.pages (SplitAt at (Ok notice)) refl refl (ap (λ (n : Notice). n.ward) step.notice_is) (ap (λ (n : Notice). n.index) step.notice_is) step.map
      (λ legal. splits old.cap (pseudokey_of old.keyer) (own_prefix old) old.start old.notices old.table old.pages at notice.prefix step.right new.pages notice legal step.split
      refl (ap (λ (n : Notice). n.number) step.notice_is) (ap (λ (n : Notice). n.kind) step.notice_is)))

  merge_stepped : (at : ℕ) (notice : Notice) → IsMergeStep old at notice new → IsStepped pseudokey_of old (MergeAt at (Ok notice)) new
  merge_stepped at notice step =
      subst (IsStepped pseudokey_of old (MergeAt at (Ok notice))) (sym step.others)
      (told_stepped notice new.pages (MergeAt at (Ok notice)) refl refl (ap (λ (n : Notice). n.ward) step.notice_is) (ap (λ (n : Notice). n.index) step.notice_is) step.map
      (λ legal. merges old.cap (pseudokey_of old.keyer) (own_prefix old) old.start old.notices old.table old.pages at notice.prefix new.pages notice (words old.keyer) legal step.merge
      refl (ap (λ (n : Notice). n.number) step.notice_is) (ap (λ (n : Notice). n.kind) step.notice_is)))

  -- ---- a call was answered

  module _ (at client : ℕ) (call : Call) (reply : Reply) (hop : HopOf old.cap (pseudokey_of old.keyer) old.pages at call (Done reply)) (answered : IsAnswered pseudokey_of old at client call reply new) where
    abbrev entry : JournalEntry
    entry = record { client = client; call = call; reply = reply }

    abbrev left_by : List Page → WardState K
    left_by pages = record old { pages = pages; journal = old.journal ++ entry ∷ [] }

    new_is : new ≡ left_by new.pages
    new_is = answered.others ∙ ap (λ journal. let w : WardState K = record old { pages = new.pages; journal = journal } in w) answered.journal

    same_bare : bare old.pages ≡ bare new.pages
    same_bare = sym (ap bare answered.pages ∙ bare_answered old.cap (pseudokey_of old.keyer) old.pages at call)

    answered_legal : IsLegalWard pseudokey_of old → IsLegalWard pseudokey_of (left_by new.pages)
    answered_legal legal =
        let kept = answers old.cap (pseudokey_of old.keyer) (own_prefix old) old.pages at call reply (words old.keyer) legal.legal.legal hop in
        record {
          legal = record {
            legal = subst (IsLegal old.cap (pseudokey_of old.keyer) (own_prefix old)) (sym answered.pages) kept.legal;
            grown = subst (IsGrown (own_prefix old) old.start old.notices) same_bare legal.legal.grown;
          };
          fits = subst (FitsPages (own_prefix old) old.table) same_bare legal.fits;
        }

    answered_sound : IsSoundWard pseudokey_of old → IsSoundWard pseudokey_of (left_by new.pages)
    answered_sound sound =
        let replied : reply ≡ reply_of old.cap (pseudokey_of old.keyer) (map_of old.pages) call = hop.4 in
        let longer = goes_on old.cap (pseudokey_of old.keyer) old.base old.journal entry sound.history (replied ∙ ap (λ m. reply_of old.cap (pseudokey_of old.keyer) m call) sound.left) in
        record {
          legal = answered_legal sound.legal;
          since = sound.since;
          numbered = sound.numbered;
          counted = sound.counted;
          notices = λ notice there. still_true (own_prefix old) old.pages new.pages (places_by_bare old.pages new.pages same_bare) notice (sound.notices notice there);
          history = longer.history;
          left = answered.map ∙ ap (λ m. map_after old.cap (pseudokey_of old.keyer) m call) sound.left ∙ sym longer.left;
        }

    answered_stepped : IsStepped pseudokey_of old (HopAt at client call (Ok (Done reply))) new
    answered_stepped = subst (IsStepped pseudokey_of old (HopAt at client call (Ok (Done reply)))) (sym new_is) record {
      others = refl;
      notices = sym (append-nil old.notices);
      journal = refl;
      goes = (hop.4, answered.map);
      legal = answered_legal;
      sound = answered_sound;
    }

  hop_stepped : (at client : ℕ) (call : Call) (hop : Hop) → HopOf old.cap (pseudokey_of old.keyer) old.pages at call hop → LeavesAfter pseudokey_of old at client call hop new → IsStepped pseudokey_of old (HopAt at client call (Ok hop)) new
  hop_stepped at client call (Done reply) hop left = answered_stepped at client call reply hop left
  hop_stepped at client call (Moved next) hop left = stayed (HopAt at client call (Ok (Moved next))) refl refl left
  hop_stepped at client call MustSplit hop left = stayed (HopAt at client call (Ok MustSplit)) refl refl left
  hop_stepped at client call Stray hop left = stayed (HopAt at client call (Ok Stray)) refl refl left

  pub stepped : (event : WardEvent) → WardStep pseudokey_of old event new → IsStepped pseudokey_of old event new
  stepped (HopAt at client call (Ok hop)) step = hop_stepped at client call hop step.0 step.1
  stepped (HopAt at client call (Err fault)) step = unchanged (HopAt at client call (Err fault)) refl refl step
  stepped (SplitAt at (Ok notice)) step = split_stepped at notice step
  stepped (SplitAt at (Err fault)) step = unchanged (SplitAt at (Err fault)) refl refl step
  stepped (MergeAt at (Ok notice)) step = merge_stepped at notice step
  stepped (MergeAt at (Err fault)) step = unchanged (MergeAt at (Err fault)) refl refl step
