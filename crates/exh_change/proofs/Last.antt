-- The change that all calls make.
use Rattle.std.proofs.Common.{◌≡◌, ℕ, ◌/◌, List, [], length, take_all, Option, Some, inl, inr, refl, sym, ap, ◌∙◌, subst, arith}
use Rattle.std.proofs.lemmas.List.{length-map}
use Rattle.exh_page.specs.Page.{low_bound}
use Rattle.exh_table.specs.Table.{TableMap}
use Rattle.exh_calls.specs.declared.call.Call.{Call}
use Rattle.exh_cells.specs.LegalPlaced.{IsLegalPlacedFile}
use Rattle.exh_cells.specs.PlacedFile.{PlacedFile, lows_of}
use Rattle.exh_edits.specs.declared.block_edit.BlockEdit.{BlockEdit}
use Rattle.exh_edits.specs.BlockEdits.{with_edits}
use Rattle.exh_edits.specs.EditsInTurn.{AreInTurn}
use Rattle.exh_change.specs.declared.changed_all.ChangedAll.{ChangedAll}
use Rattle.exh_change.specs.Batch.{IsChangeByAll, IsStampedAnew, map_then_all, replies_in}
use Rattle.exh_change.specs.Overlay.{shown}
use Rattle.exh_change.specs.Steps.{IsReached, IsStampedLast}
use Rattle.exh_change.proofs.Machine.{places_more}

-- without edits the bytes are the file's
pub shown_first : (known : Option (List ℕ)) (edits : List BlockEdit) (bytes : List ℕ) → edits ≡ [] → known ≡ Some bytes → shown known edits ≡ Some bytes
shown_first known edits bytes none knows = ap (shown known) none ∙ ap (λ (known : Option (List ℕ)). shown known []) knows

-- no edits are in turn, and leave as many blocks as there were
pub none_in_turn : (first : ℕ) (edits : List BlockEdit) → edits ≡ [] → (count : ℕ) × AreInTurn first edits count
none_in_turn first edits none = (first, subst (λ (edits : List BlockEdit). AreInTurn first edits first) (sym none) refl)

-- no calls change nothing
pub changed_by_none : (file : PlacedFile) (tables : List TableMap) (bytes : List ℕ) (calls : List Call) (stamp own : ℕ) (changed : ChangedAll) → calls ≡ [] → own ≡ file.header.stamp → IsLegalPlacedFile file tables bytes
    → changed.replies.items ≡ [] → changed.stamp ≡ own → changed.edits.items ≡ [] → IsChangeByAll file bytes calls stamp changed
changed_by_none file tables bytes calls stamp own changed no_calls own_is legal replies stamp_is edits = record {
  replies = replies ∙ sym (ap (replies_in file) no_calls);
  new = file;
  tables = tables;
  legal = subst (λ (edits : List BlockEdit). IsLegalPlacedFile file tables (with_edits edits bytes)) (sym edits) legal;
  map_is = sym (ap (map_then_all file) no_calls);
  settings = refl;
  places = take_all (length file.pages) (lows_of file.pages) (omega (arith, length-map file.pages low_bound));
  stamp_is = sym own_is ∙ sym stamp_is;
  stamped = inl edits;
}

module _ (file : PlacedFile) (bytes : List ℕ) (calls : List Call) (stamp own : ℕ) (known mid : Option (List ℕ)) (edits : List BlockEdit) (changed : ChangedAll) (knows : known ≡ Some bytes) (reached : IsReached file (map_then_all file calls) mid) (own_is : own ≡ file.header.stamp)
    (last : IsStampedLast reached.new own stamp (shown known edits) edits changed.stamp) (edits_are : changed.edits.items ≡ edits) where
  all_bytes : last.bytes ≡ with_edits changed.edits.items bytes
  all_bytes =
      let both : Some (with_edits edits bytes) ≡ Some last.bytes = sym (ap (λ (known : Option (List ℕ)). shown known edits) knows) ∙ last.is in
      let same : with_edits edits bytes ≡ last.bytes = cc in
      sym same ∙ ap (λ (edits : List BlockEdit). with_edits edits bytes) (sym edits_are)

  anew : IsStampedAnew file stamp changed last.new
  anew = elim last.stamped [
    | inl none ↦ inl (edits_are ∙ none)
    | inr both ↦ inr (both.0, both.1 ∙ own_is)
  ]

  pub changed_by_all : changed.replies.items ≡ replies_in file calls → IsChangeByAll file bytes calls stamp changed
  changed_by_all replies = record {
    replies = replies;
    new = last.new;
    tables = last.tables;
    legal = subst (IsLegalPlacedFile last.new last.tables) all_bytes last.legal;
    map_is = last.map_is ∙ reached.map_is;
    settings = last.settings ∙ reached.settings;
    places = places_more file reached.new last.new reached.places last.places;
    stamp_is = last.stamp_is;
    stamped = anew;
  }
