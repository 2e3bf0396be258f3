-- What every run of a ward does to its pages, its map and its journal.
use Rattle.std.proofs.Common.{◌≡◌, ℕ, List, [], ◌∷◌, ◌++◌, refl, sym, ap, ◌∙◌, subst}
use Rattle.std.proofs.lemmas.List.{append_assoc, append-nil}
use Rattle.std.proofs.lemmas.List.Elements.{All-cons, All-from_recursion}
use Rattle.exh_page.specs.PageLaws.{AreOfWords}
use Rattle.exh_legal.specs.LegalLaws.{SplitsKeepLegal, MergesKeepLegal}
use Rattle.exh_legal.specs.Pages.{map_of}
use Rattle.exh_calls.specs.History.{IsHistory, map_left}
use Rattle.exh_calls.specs.CallLaws.{HistoriesGoOn}
use Rattle.exh_ward.specs.WardLaws.{AnswersKeepLegal}
use Rattle.exh_ward.specs.WardState.{WardState, IsSoundWard}
use Rattle.exh_calls.specs.HistoryLemmas.{history_on, left_on, unmoved_by}
use Rattle.exh_walk.specs.RouteLaws.{IsLegalWard, LeavesMap, IsWardsOneMap}
use Rattle.exh_walk.specs.WardRun.{WardMoment, IsWardRun, answer_of, answers_in, changes_by, changes_over}
use Rattle.exh_walk.proofs.StepOneMap.{IsStepped, stepped}

module _ {K : Type 0} (pseudokey_of : K → List ℕ → ℕ) (words : (keyer : K) → AreOfWords (pseudokey_of keyer)) (splits : SplitsKeepLegal) (merges : MergesKeepLegal) (answers : AnswersKeepLegal) (goes_on : HistoriesGoOn) where
  -- ---- sound wards

  pub run_sound : (start : WardState K) (moments : List (WardMoment K)) (end : WardState K) → IsSoundWard pseudokey_of start → IsWardRun pseudokey_of start moments end → IsSoundWard pseudokey_of end
  run_sound start [] end sound run = subst (IsSoundWard pseudokey_of) (sym run) sound
  run_sound start (moment ∷ moments) end sound run =
      run_sound moment.after moments end ((stepped pseudokey_of words splits merges answers goes_on start moment.after moment.event run.1).sound sound) run.2

  -- ---- one map

  ended : (start end : WardState K) → IsLegalWard pseudokey_of start → end ≡ start → IsWardsOneMap pseudokey_of start [] end
  ended start end legal is = subst (IsWardsOneMap pseudokey_of start []) (sym is) record {
    legal = legal;
    notices = sym (append-nil start.notices);
    replies = tt;
    left = refl;
    journal = sym (append-nil start.journal);
    unmoved = All-from_recursion LeavesMap [] tt;
    others = refl;
  }

  goes_on_from : (start next : WardState K) (moment : WardMoment K) (moments : List (WardMoment K)) (end : WardState K) → moment.before ≡ start → moment.after ≡ next → IsStepped pseudokey_of start moment.event next → IsWardsOneMap pseudokey_of next moments end → IsWardsOneMap pseudokey_of start (moment ∷ moments) end
  goes_on_from start next moment moments end before after step rest =
      let entries = answer_of moment.event in
      let later = answers_in moments in
      let cap_is : next.cap ≡ start.cap = ap (λ (w : WardState K). w.cap) step.others in
      let keyer_is : next.keyer ≡ start.keyer = ap (λ (w : WardState K). w.keyer) step.others in
      let P : ℕ → K → Type 0 = λ cap keyer. IsHistory cap (pseudokey_of keyer) (map_of next.pages) later in
      let Q : ℕ → K → Type 0 = λ cap keyer. map_of end.pages ≡ map_left cap (pseudokey_of keyer) (map_of next.pages) later in
      let later_history : P start.cap start.keyer = subst (P start.cap) keyer_is (subst (λ cap. P cap next.keyer) cap_is rest.replies) in
      let later_left : Q start.cap start.keyer = subst (Q start.cap) keyer_is (subst (λ cap. Q cap next.keyer) cap_is rest.left) in
      let unmoved_here : LeavesMap moment = λ none. ap (λ (w : WardState K). map_of w.pages) after ∙ unmoved_by start.cap (pseudokey_of start.keyer) (map_of start.pages) (map_of next.pages) entries step.goes none ∙ sym (ap (λ (w : WardState K). map_of w.pages) before) in
      record {
        legal = rest.legal;
        notices = rest.notices ∙ ap (λ notices. notices ++ changes_over moments) step.notices ∙ append_assoc start.notices (changes_by moment.event) (changes_over moments);
        replies = history_on start.cap (pseudokey_of start.keyer) (map_of start.pages) (map_of next.pages) entries later step.goes later_history;
        left = later_left ∙ left_on start.cap (pseudokey_of start.keyer) (map_of start.pages) (map_of next.pages) entries later step.goes;
        journal = rest.journal ∙ ap (λ journal. journal ++ later) step.journal ∙ append_assoc start.journal entries later;
        unmoved = All-cons LeavesMap moment moments unmoved_here rest.unmoved;
        others = rest.others ∙ ap (λ (w : WardState K). let with_end : WardState K = record w { pages = end.pages; journal = end.journal; notices = end.notices; table = end.table; failures = end.failures } in with_end) step.others;
      }

  pub run_one_maps : (start : WardState K) (moments : List (WardMoment K)) (end : WardState K) → IsLegalWard pseudokey_of start → IsWardRun pseudokey_of start moments end → IsWardsOneMap pseudokey_of start moments end
  run_one_maps start [] end legal run = ended start end legal run
  run_one_maps start (moment ∷ moments) end legal run =
      let step = stepped pseudokey_of words splits merges answers goes_on start moment.after moment.event run.1 in
      goes_on_from start moment.after moment moments end run.0 refl step (run_one_maps moment.after moments end (step.legal legal) run.2)
