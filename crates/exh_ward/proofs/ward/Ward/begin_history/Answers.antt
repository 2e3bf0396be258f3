use Rattle.std.proofs.Common.{◌≡◌, ℕ, Bool, List, [], ◌↔◌, refl, sym, ap, ◌∙◌, subst}
use Rattle.std.proofs.lemmas.Result.{IfOk-from_err}
use Rattle.exh_page.specs.declared.page.Page.{Page}
use Rattle.exh_page.specs.KeyMap.{KeyMap}
use Rattle.exh_legal.specs.PageIndex.{IndexMap}
use Rattle.exh_legal.specs.Pages.{map_of}
use Rattle.exh_calls.specs.declared.journal_entry.JournalEntry.{JournalEntry}
use Rattle.exh_ward.specs.WardKept.{IsKeptWard}
use Rattle.exh_ward.specs.WardFault.{IsStoreFault}
use Rattle.exh_ward.specs.WardState.{WardState, history_begun}
use Rattle.exh_ward.proofs.StepsKeepSound.{kept_read}
use Rattle.exh_ward.proofs.Exits.{counted_from, on_err, same_failures, unchanged_read}
use Rattle.exh_ward.proofs.HalvesOfPages.{failed_with}
use Rattle.exh_ward.proofs.ward.Ward.begin_history.Goals as goal

-- the ward that is left, as it is seen
begun_seen : {K : Type 0} {w now : WardState K} → w ≡ now → (pages : List Page) (base : KeyMap) (journal : List JournalEntry) (failures : ℕ) → pages ≡ w.pages → base ≡ map_of w.pages → journal ≡ [] → failures ≡ w.failures
    → (let after : WardState K = record w { pages = pages; base = base; journal = journal; failures = failures } in after) ≡ history_begun now
begun_seen {K = K} {w = w} seen pages base journal failures same_pages same_base same_journal same_failures =
    ap (λ pages. let after : WardState K = record w { pages = pages; base = base; journal = journal; failures = failures } in after) same_pages
    ∙ ap (λ base. let after : WardState K = record w { base = base; journal = journal; failures = failures } in after) same_base
    ∙ ap (λ journal. let after : WardState K = record w { base = map_of w.pages; journal = journal; failures = failures } in after) same_journal
    ∙ ap (λ failures. let after : WardState K = record w { base = map_of w.pages; journal = []; failures = failures } in after) same_failures
    ∙ ap history_begun seen

module _ {K : Type 0} {pseudo : List ℕ → ℕ} {takes takes_now : Page → Type 0} {own : List Bool} {index : IndexMap} {told : ℕ} {w : WardState K} (kept : IsKeptWard pseudo takes own index told w) (same_takes : (page : Page) → takes page ↔ takes_now page) where
  anew_kept : (failures : ℕ) → IsKeptWard pseudo takes_now own index told (record w { base = map_of w.pages; journal = []; failures = failures })
  anew_kept failures = record {
    sound = record {
      legal = kept.sound.legal;
      since = kept.sound.since;
      numbered = kept.sound.numbered;
      counted = kept.sound.counted;
      notices = kept.sound.notices;
      history = tt;
      left = refl;
    };
    own_is = kept.own_is;
    bits = kept.bits;
    some = kept.some;
    most = kept.most;
    takes_all = λ page formed. (same_takes page).0 (kept.takes_all page formed);
    indexed = kept.indexed;
    told_is = kept.told_is;
    told_few = kept.told_few;
  }

  begun_kept : (pages : List Page) (base : KeyMap) (journal : List JournalEntry) (failures : ℕ) → pages ≡ w.pages → base ≡ map_of w.pages → journal ≡ []
      → IsKeptWard pseudo takes_now own index told (record w { pages = pages; base = base; journal = journal; failures = failures })
  begun_kept pages base journal failures same_pages same_base same_journal =
      let P : List Page → Type 0 = λ pages. IsKeptWard pseudo takes_now own index told (record w { pages = pages; base = base; journal = journal; failures = failures }) in
      let Q : KeyMap → Type 0 = λ base. IsKeptWard pseudo takes_now own index told (record w { base = base; journal = journal; failures = failures }) in
      let R : List JournalEntry → Type 0 = λ journal. IsKeptWard pseudo takes_now own index told (record w { base = map_of w.pages; journal = journal; failures = failures }) in
      subst P (sym same_pages) (subst Q (sym same_base) (subst R (sym same_journal) (anew_kept failures)))

pub invariant_of-self : goal.invariant_of-self
invariant_of-self g c = kept_read c.self.invariant (g.P.Pages.takes c.read_base.new.store) c.read_base.ensures.takes (g.P.Pages.pages c.read_base.new.store) c.self.inside.journal.entries (g.P.Pages.failures c.read_base.new.store) c.read_base.ensures.pages refl

pub returns-in_err-base-clause-begun : goal.returns-in_err-base-clause-begun
returns-in_err-base-clause-begun g c = IfOk-from_err c.from_residual.result _ c.from_residual.ensures.0

pub returns-in_err-base-clause-sound : goal.returns-in_err-base-clause-sound
returns-in_err-base-clause-sound g c = (invariant_of-self g c).sound

pub returns-in_err-base-clause-err : goal.returns-in_err-base-clause-err
returns-in_err-base-clause-err g c = on_err c.from_residual.result (unchanged_read c.self.view_is (g.P.Pages.pages c.read_base.new.store) (g.P.Pages.failures c.read_base.new.store) c.read_base.ensures.pages)

pub returns-in_err-base-clause-fault : goal.returns-in_err-base-clause-fault
returns-in_err-base-clause-fault g c = failed_with c.from_residual.result c.in_err-base.field-0.0 IsStoreFault c.from_residual.ensures.1 c.in_err-base.ensures.fault

pub returns-in_err-base-clause-failures : goal.returns-in_err-base-clause-failures
returns-in_err-base-clause-failures g c = counted_from c.self.view_is c.from_residual.result c.in_err-base.field-0.0 (g.P.Pages.failures c.self.inside.store) (g.P.Pages.failures c.read_base.new.store) refl c.from_residual.ensures.1 c.in_err-base.ensures.failures

pub invariant_of-self-2 : goal.invariant_of-self-2
invariant_of-self-2 g c =
    let read = c.in_ok-base.ensures in
    begun_kept c.self.invariant read.takes (g.P.Pages.pages c.read_base.new.store) c.in_ok-base.base c.clear.new.self.entries (g.P.Pages.failures c.read_base.new.store) read.pages read.base c.clear.ensures

pub returns-clause-begun : goal.returns-clause-begun
returns-clause-begun g c =
    let read = c.in_ok-base.ensures in
    begun_seen c.self.view_is (g.P.Pages.pages c.read_base.new.store) c.in_ok-base.base c.clear.new.self.entries (g.P.Pages.failures c.read_base.new.store) read.pages read.base c.clear.ensures read.failures

pub returns-clause-failures : goal.returns-clause-failures
returns-clause-failures g c = same_failures c.self.view_is (g.P.Pages.failures c.read_base.new.store) c.in_ok-base.ensures.failures

pub returns-clause-sound : goal.returns-clause-sound
returns-clause-sound g c = (invariant_of-self-2 g c).sound
