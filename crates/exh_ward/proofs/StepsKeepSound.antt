-- What a ward keeps of its fields, over its steps.
use Rattle.std.proofs.Common.{◌≡◌, ℕ, ◌-◌, ◌<◌, ◌≤◌, ◌^◌, Bool, leb, List, [], ◌∷◌, ◌++◌, length, Option, None, Some, ◌↔◌, sym, ap, ◌∙◌, subst, arith}
use Rattle.std.specs.Prelude.{slice_set}
use Rattle.std.proofs.lemmas.Option.{slice_get_within}
use Rattle.std.proofs.lemmas.List.{length-map}
use Rattle.exh_page.specs.declared.page.TheConstants.{CAP_LIMIT}
use Rattle.exh_page.specs.declared.page.Page.{Page}
use Rattle.exh_page.specs.declared.page.Page.TheVariants.{Live, Forward}
use Rattle.exh_page.specs.Lookup.{HasPseudokey}
use Rattle.exh_prefix.specs.PrefixListLemmas.{AllByRecursion-weaker}
use Rattle.exh_legal.specs.MapLemmas.{page_at}
use Rattle.exh_page.specs.declared.record.Record.{Record}
use Rattle.exh_page.specs.Page.{AreRecordsOf, IsWellFormed, with_records}
use Rattle.exh_legal.specs.Growth.{IsGrown}
use Rattle.exh_legal.specs.Fit.{FitsPages}
use Rattle.exh_legal.specs.LegalLaws.{IsWard}
use Rattle.exh_legal.specs.BareLemmas.{bare_at}
use Rattle.exh_legal.specs.NoticeLemmas.{places_by_bare, still_true}
use Rattle.exh_legal.specs.Pages.{map_of, IsAt, IsLegalPage, IsRightLink, AreLinked, bare}
use Rattle.exh_calls.specs.Call.{key_of}
use Rattle.exh_ward.specs.WardKept.{IsKeptWard}
use Rattle.exh_calls.specs.MapMachine.{reply_of, map_after}
use Rattle.exh_ward.specs.PageAnswer.{records_after}
use Rattle.exh_legal.specs.PageIndex.{IndexMap, IsIndexOf}
use Rattle.exh_ward.specs.WardState.{WardState, IsSound, own_prefix}
use Rattle.exh_calls.specs.declared.call.Call.{Call}
use Rattle.exh_calls.specs.declared.journal_entry.JournalEntry.{JournalEntry}
use Rattle.exh_calls.specs.declared.reply.Reply.{Reply}
use Rattle.exh_calls.specs.HistoryLemmas.{IsHistory-push, map_left-push}
use Rattle.exh_ward.proofs.HomeReplies.{AtHome, Fit}
use Rattle.exh_ward.proofs.AnswersKeepLegal.{new_legal, new_map, same_bare}

-- a page of a store that was only read
pub takes_both : {before between now : Page → Type 0} → ((page : Page) → before page ↔ between page) → ((page : Page) → between page ↔ now page) → (page : Page) → before page ↔ now page
takes_both first second page = (λ takes. (second page).0 ((first page).0 takes), λ takes. (first page).1 ((second page).1 takes))

pub at_read : (old new : List Page) (number : ℕ) (page : Page) → new ≡ old → IsAt new number page → IsAt old number page
at_read old new number page same is =
    let P : List Page → Type 0 = λ pages. IsAt pages number page in
    subst P same is

linked_fits : (pages : List Page) (page : Page) (link : Option ℕ) → length pages < 2 ^ 32 - 1 → IsRightLink (bare pages) page link → link ≡ Some (2 ^ 32 - 1) → ⊥
linked_fits pages page None few is so = cc
linked_fits pages page (Some right) few is so =
    let number : right ≡ 2 ^ 32 - 1 = cc in
    omega (arith, number, few, slice_get_within (bare pages) right is.0 is.1.there, length-map pages (with_records []))

-- a live page of legal pages is well formed, with whatever records it may have
pub well_formed : {cap : ℕ} {pseudo : List ℕ → ℕ} {ward : List Bool} (pages : List Page) → AreLinked ward (bare pages) → length pages < 2 ^ 32 - 1 → cap ≤ CAP_LIMIT → (at : ℕ) (prefix : List Bool) (link : Option ℕ) (records left : List Record)
    → IsAt pages at (Live prefix link records) → AreRecordsOf pseudo prefix left × (length left ≤ cap) → IsWellFormed pseudo (Live prefix link left)
well_formed pages linked few most at prefix link records left is legal =
    (legal.0, omega (arith, legal.1, most), linked_fits pages (Live prefix link []) link few (linked.links at (Live prefix link []) (bare_at pages at _ is)))

-- a page of a ward has its records under their keys' pseudokeys
pub hashed_at : {K : Type 0} {pseudo : List ℕ → ℕ} {takes : Page → Type 0} {own : List Bool} {index : IndexMap} {told : ℕ} {w : WardState K} → IsKeptWard pseudo takes own index told w → (at : ℕ) (page : Page) → IsAt w.pages at page → {pseudokey : ℕ} {key : List ℕ}
    → pseudokey ≡ pseudo key → HasPseudokey pseudokey key page
hashed_at {pseudo = pseudo} {w = w} kept at page is {pseudokey = pseudokey} {key = key} hashed = hashed_in page (page_at (IsLegalPage w.cap pseudo) w.pages at page kept.sound.legal.legal.legal.each is) where
  hashed_in : (page : Page) → IsLegalPage w.cap pseudo page → HasPseudokey pseudokey key page
  hashed_in (Live prefix link records) legal = AllByRecursion-weaker _ _ (λ r is same. is ∙ ap pseudo same ∙ sym hashed) records legal.0.hashed
  hashed_in (Forward low target) legal = tt

module _ {K : Type 0} {pseudo : List ℕ → ℕ} {takes : Page → Type 0} {own : List Bool} {index : IndexMap} {told : ℕ} {w : WardState K} (kept : IsKeptWard pseudo takes own index told w) (takes_now : Page → Type 0) (same_takes : (page : Page) → takes page ↔ takes_now page) where
  sound_counted : (failures : ℕ) → IsSound pseudo (record w { failures = failures })
  sound_counted failures = record {
    legal = kept.sound.legal;
    since = kept.sound.since;
    numbered = kept.sound.numbered;
    counted = kept.sound.counted;
    notices = kept.sound.notices;
    history = kept.sound.history;
    left = kept.sound.left;
  }

  kept_counted : (failures : ℕ) → IsKeptWard pseudo takes_now own index told (record w { failures = failures })
  kept_counted failures = record {
    sound = sound_counted failures;
    own_is = kept.own_is;
    bits = kept.bits;
    some = kept.some;
    most = kept.most;
    takes_all = λ page formed. (same_takes page).0 (kept.takes_all page formed);
    indexed = kept.indexed;
    told_is = kept.told_is;
    told_few = kept.told_few;
  }

  -- the store was read, or refused to write
  pub kept_read : (pages : List Page) (journal : List JournalEntry) (failures : ℕ) → pages ≡ w.pages → journal ≡ w.journal → IsKeptWard pseudo takes_now own index told (record w { pages = pages; journal = journal; failures = failures })
  kept_read pages journal failures same_pages same_journal =
      let P : List Page → Type 0 = λ pages. IsKeptWard pseudo takes_now own index told (record w { pages = pages; journal = journal; failures = failures }) in
      let Q : List JournalEntry → Type 0 = λ journal. IsKeptWard pseudo takes_now own index told (record w { journal = journal; failures = failures }) in
      subst P (sym same_pages) (subst Q (sym same_journal) (kept_counted failures))

  -- a call was answered at its home
  module _ (fit : Fit pseudo) {at : ℕ} {prefix : List Bool} {link : Option ℕ} {records : List Record} {call : Call} (home : AtHome w.cap pseudo (own_prefix w) w.pages at prefix link records call) (client : ℕ) where
    abbrev left : List Record
    left = records_after (leb w.cap (length records)) (pseudo (key_of call)) call records

    abbrev new : List Page
    new = slice_set w.pages at (Live prefix link left)

    answered_ward : IsWard w.cap pseudo (own_prefix w) w.start w.notices w.table new
    answered_ward = record {
      legal = record { legal = new_legal fit home; grown = subst (IsGrown (own_prefix w) w.start w.notices) (sym (same_bare fit home)) kept.sound.legal.legal.grown };
      fits = subst (FitsPages (own_prefix w) w.table) (sym (same_bare fit home)) kept.sound.legal.fits;
    }

    module _ (reply : Reply) (replied : reply ≡ reply_of w.cap pseudo (map_of w.pages) call) (failures : ℕ) where
      abbrev entry : JournalEntry
      entry = record { client = client; call = call; reply = reply }

      answered_sound : IsSound pseudo (record w { pages = new; journal = w.journal ++ entry ∷ []; failures = failures })
      answered_sound = record {
        legal = answered_ward;
        since = kept.sound.since;
        numbered = kept.sound.numbered;
        counted = kept.sound.counted;
        notices = λ notice there. still_true (own_prefix w) w.pages new (places_by_bare w.pages new (sym (same_bare fit home))) notice (kept.sound.notices notice there);
        history = IsHistory-push w.cap pseudo w.base w.journal entry kept.sound.history (replied ∙ ap (λ m. reply_of w.cap pseudo m call) kept.sound.left);
        left = new_map fit home ∙ ap (λ m. map_after w.cap pseudo m call) kept.sound.left ∙ sym (map_left-push w.cap pseudo w.base w.journal entry);
      }

      pub kept_answered : (pages : List Page) (journal : List JournalEntry) → pages ≡ new → journal ≡ w.journal ++ entry ∷ [] → IsKeptWard pseudo takes_now own index told (record w { pages = pages; journal = journal; failures = failures })
      kept_answered pages journal is_new pushed =
          let P : List Page → Type 0 = λ pages. IsKeptWard pseudo takes_now own index told (record w { pages = pages; journal = journal; failures = failures }) in
          let Q : List JournalEntry → Type 0 = λ journal. IsKeptWard pseudo takes_now own index told (record w { pages = new; journal = journal; failures = failures }) in
          subst P (sym is_new) (subst Q (sym pushed) (record {
            sound = answered_sound;
            own_is = kept.own_is;
            bits = kept.bits;
            some = kept.some;
            most = kept.most;
            takes_all = λ page formed. (same_takes page).0 (kept.takes_all page formed);
            indexed = subst (IsIndexOf index) (sym (same_bare fit home)) kept.indexed;
            told_is = kept.told_is;
            told_few = kept.told_few;
          }))
