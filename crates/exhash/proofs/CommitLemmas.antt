-- What a draft of a map's wards has, and what is left of a file over which it is saved.
use Rattle.std.proofs.Common.{◌≡◌, ℕ, Bool, List, length, take, inl, inr, refl, sym, ap, ap₂, ◌∙◌, subst}
use Rattle.std.specs.FinMap as fin
use Rattle.sqlite_disk.specs.declared.Disk.{Ghosts}
use Rattle.sqlite_disk.specs.Disk.{Only}
use Rattle.sqlite_wal.specs.Files.{seen_image}
use Rattle.sqlite_wal.specs.Recovery.{Image}
use Rattle.exh_page.specs.KeyMap.{KeyMap}
use Rattle.exh_page.specs.declared.page.Page.{Page}
use Rattle.exh_map.specs.Pages.{map_of}
use Rattle.exh_map.specs.PlacedFile.{lows_of}
use Rattle.exh_map.specs.PageFile.{pages_of}
use Rattle.exh_map.specs.FilePages.{Leaves, LeavesAlone, StandsFor}
use Rattle.exh_map.specs.Draft.{DraftState, IsDraftSaving, IsGrown, IsSaving, bytes_in}
use Rattle.exh_map.specs.FileChange.{HasMap}
use Rattle.exh_map.specs.Opened.{AreWardsOf, OpenedState}
use Rattle.exh_map.specs.Placing.{IsPlacedSaving, ordered_pages, placed_file, tables_of_all}
use Rattle.exh_map.specs.declared.Form.{Form}
use Rattle.exh_map.specs.declared.Placing.{Placing}
use Rattle.exh_map.specs.declared.Stamps.{Stamps}
use Rattle.exhash.specs.CallChange.{HasPairs, HasStamps}
use Rattle.exhash.specs.Saving.{IsOldOrSaved, IsSavedOver}
use Rattle.exhash.specs.Commit.{Drafts, DraftsPlaces, HasPlaces, IsCommitted, IsOldOrCommitted, KeepsPlaces}
use Rattle.exh_map.proofs.AgainLemmas.{all_pairs}
use Rattle.exh_map.proofs.WholeMap.{whole_is}

-- ---- the pairs of a page file

abbrev map_of_pairs : List (List ℕ × List ℕ) → KeyMap
map_of_pairs pairs = fin.from_entries pairs

has_pairs : (opened : OpenedState) (are : AreWardsOf opened) (placing : Placing) (bytes : List ℕ) (whole : KeyMap) → HasMap opened whole → IsPlacedSaving opened placing bytes → HasPairs bytes whole
has_pairs opened are placing bytes whole has saving = record {
  file = placed_file opened placing;
  tables = tables_of_all opened.wards;
  legal = saving.legal;
  is = ap (λ (wards : List (List Page)). map_of (pages_of wards)) saving.wards_are ∙ ap map_of_pairs (all_pairs opened.wards) ∙ whole_is opened are whole has;
}

has_stamps : (opened : OpenedState) (placing : Placing) (stamps : Stamps) (bytes : List ℕ) → placing.stamps ≡ stamps → IsPlacedSaving opened placing bytes → HasStamps bytes stamps.own stamps.before
has_stamps opened placing stamps bytes are saving = record {
  file = placed_file opened placing;
  tables = tables_of_all opened.wards;
  legal = saving.legal;
  own_is = ap (λ (s : Stamps). s.own) are;
  before_is = ap (λ (s : Stamps). s.before) are;
}

-- its wards in this form are the bytes
as_placed : (opened : OpenedState) (lows : List ℕ) (stamps : Stamps) (draft : DraftState) (grown : IsGrown opened lows stamps draft) (bytes : List ℕ) → IsDraftSaving draft bytes → IsPlacedSaving opened grown.2.placing bytes
as_placed opened lows stamps draft grown bytes saving =
    let so = grown.2 in
    let own = subst (λ (wards : OpenedState). IsSaving wards draft.form bytes) so.opened_is saving in
    subst (λ (form : Form). IsSaving opened form bytes) so.form_is own

pub drafts : (opened : OpenedState) (lows : List ℕ) (stamps : Stamps) (draft : DraftState) → AreWardsOf opened → IsGrown opened lows stamps draft → (whole : KeyMap) → HasMap opened whole → Drafts whole stamps draft
drafts opened lows stamps draft are grown whole has bytes saving =
    let so = grown.2 in
    let placed = as_placed opened lows stamps draft grown bytes saving in
    (has_pairs opened are so.placing bytes whole has placed, has_stamps opened so.placing stamps bytes so.stamps_are placed)

pub drafts_places : (opened : OpenedState) (lows : List ℕ) (stamps : Stamps) (draft : DraftState) → IsGrown opened lows stamps draft → DraftsPlaces lows draft
drafts_places opened lows stamps draft grown bytes saving = record {
  file = placed_file opened grown.2.placing;
  tables = tables_of_all opened.wards;
  legal = (as_placed opened lows stamps draft grown bytes saving).legal;
  begins = subst (λ order. take (length lows) (lows_of (ordered_pages opened.wards order)) ≡ lows) (sym grown.2.order_is) grown.2.begins;
}

-- ---- what is left

module _ (truthful : Bool) (draft : DraftState) (whole : KeyMap) (stamps : Stamps) (old : List ℕ) (of : Drafts whole stamps draft) where
  committed : (new : List ℕ) → IsSavedOver truthful draft old new → IsCommitted truthful whole stamps old new
  committed new saved truth =
      let both = subst (λ (bytes : List ℕ). HasPairs bytes whole × HasStamps bytes stamps.own stamps.before) (sym (saved.drafted truth)) (of (bytes_in draft) saved.legal) in
      (both.0, inr both.1)

  old_or_committed : (new : List ℕ) → IsOldOrSaved truthful draft old new → IsOldOrCommitted truthful whole stamps old new
  old_or_committed new (inl same) = inl same
  old_or_committed new (inr saved) = inr (committed new saved)

  module _ {D : Type 0} (g : Ghosts D) (files : D × D) where
    pub leaves_either : Leaves g files (IsOldOrSaved truthful draft old) → Leaves g files (IsOldOrCommitted truthful whole stamps old)
    leaves_either all left clean may =
        let (bytes, stands, holds) = all left clean may in
        (bytes, stands, old_or_committed bytes holds)

    pub leaves_committed : LeavesAlone g files (IsSavedOver truthful draft old) → LeavesAlone g files (IsCommitted truthful whole stamps old)
    leaves_committed all left clean may =
        let (bytes, stands, holds) = all left clean may in
        (bytes, stands, committed bytes holds)

module _ (truthful : Bool) (draft : DraftState) (lows : List ℕ) (old : List ℕ) (of : DraftsPlaces lows draft) where
  keeps_places : (new : List ℕ) → IsSavedOver truthful draft old new → KeepsPlaces truthful lows new
  keeps_places new saved truth = subst (λ (bytes : List ℕ). HasPlaces lows bytes) (sym (saved.drafted truth)) (of (bytes_in draft) saved.legal)

  module _ {D : Type 0} (g : Ghosts D) (files : D × D) where
    pub leaves_places : LeavesAlone g files (IsSavedOver truthful draft old) → LeavesAlone g files (KeepsPlaces truthful lows)
    leaves_places all left clean may =
        let (bytes, stands, holds) = all left clean may in
        (bytes, stands, keeps_places bytes holds)

-- files that nothing was done to
pub leaves_same : {D : Type 0} (g : Ghosts D) (log db : D) (old : List ℕ) → Only (g.seen log) (g.may_leave log) → Only (g.seen db) (g.may_leave db) → StandsFor (seen_image g log db) old
    → Leaves g (log, db) (λ bytes. bytes ≡ old)
leaves_same {D} g log db old log_synced db_synced found left clean may =
    let of_two : List ℕ → List ℕ → Image = λ log db. record { log = log; db = db } in
    let is : left ≡ seen_image g log db = ap₂ of_two (log_synced left.log may.0) (db_synced left.db may.1) in
    (old, subst (λ (image : Image). StandsFor image old) (sym is) found, refl)

pub leaves_untouched : {D : Type 0} (g : Ghosts D) (log db : D) (truthful : Bool) (whole : KeyMap) (stamps : Stamps) (old : List ℕ) → Only (g.seen log) (g.may_leave log) → Only (g.seen db) (g.may_leave db) → StandsFor (seen_image g log db) old
    → Leaves g (log, db) (IsOldOrCommitted truthful whole stamps old)
leaves_untouched {D} g log db truthful whole stamps old log_synced db_synced found left clean may =
    let (bytes, stands, same) = leaves_same g log db old log_synced db_synced found left clean may in
    (bytes, stands, inl same)
