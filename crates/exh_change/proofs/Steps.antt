-- Headers that are read and put, and refusals.
use Rattle.std.proofs.Common.{◌≡◌, ℕ, List, [], ◌∷◌, length, take_all, Option, Some, Result, Ok, Err, inl, inr, refl, sym, ap, ◌∙◌, subst, arith}
use Rattle.std.specs.List.{sum}
use Rattle.std.specs.Option.{option_map}
use Rattle.std.specs.Prelude.{IsErrAnd, MatchResult}
use Rattle.std.proofs.lemmas.List.{length-map}
use Rattle.exh_page.specs.Page.{low_bound}
use Rattle.exh_table.specs.Table.{TableMap}
use Rattle.exh_format.specs.FileTests.{IsWhole}
use Rattle.exh_cells.specs.declared.stamped_header.StampedHeader.{StampedHeader}
use Rattle.exh_cells.specs.LegalPlaced.{IsLegalPlacedFile}
use Rattle.exh_cells.specs.PlacedFile.{IsPlacedFile, PlacedFile, lows_of, stamped_block}
use Rattle.exh_cells.specs.StampedHeader.{IsStampedHeader, IsStampedImage}
use Rattle.exh_direct.specs.declared.direct_fault.DirectFault.{DirectFault}
use Rattle.exh_direct.specs.declared.direct_fault.DirectFault.TheVariants.{Astray, File, Memory, Read}
use Rattle.exh_direct.specs.DirectLaws.{IsOtherFault}
use Rattle.exh_direct.specs.KnownBlocks.{IsBlockAt, IsCutOff}
use Rattle.exh_edits.specs.declared.block_edit.BlockEdit.{BlockEdit}
use Rattle.exh_edits.specs.BlockEdits.{with_block}
use Rattle.exh_edits.specs.EditLaws.{HeadersChange, HeadersStand}
use Rattle.exh_edits.specs.PlacedEdits.{with_header}
use Rattle.exh_change.specs.StepLaws.{StampsKeepLegal}
use Rattle.exh_change.specs.Steps.{IsStampedLast}

-- ---- refusals

pub other_fault : {T : Type 0} (result : Result T DirectFault) (fault : DirectFault) (P : T → Type 0) → IsErrAnd result (λ e. e ≡ fault) → IsOtherFault fault → MatchResult result P IsOtherFault
other_fault (Ok value) fault P is other = absurd is
other_fault (Err e) fault P is other = subst IsOtherFault (sym is) other

cut_off_some : (base : List ℕ) (place : ℕ) (fault : DirectFault) → IsWhole place base → IsCutOff (Some base) place fault → IsOtherFault fault
cut_off_some base place (File fault) whole cut = absurd (omega (arith, whole, cut.1))
cut_off_some base place Astray whole cut = absurd cut
cut_off_some base place Read whole cut = tt
cut_off_some base place Memory whole cut = tt

pub cut_off : (known : Option (List ℕ)) (base : List ℕ) (place : ℕ) (fault : DirectFault) → known ≡ Some base → IsWhole place base → IsCutOff known place fault → IsOtherFault fault
cut_off known base place fault knows whole cut = cut_off_some base place fault whole (subst (λ (known : Option (List ℕ)). IsCutOff known place fault) knows cut)

-- ---- headers

pub header_read : HeadersStand → (known : Option (List ℕ)) (file : PlacedFile) (base block : List ℕ) → known ≡ Some base → IsPlacedFile file base → IsBlockAt known 0 block → IsStampedImage file.header block
unfolding stamped_block
header_read stand known file base block knows is at =
    let there : IsBlockAt (Some base) 0 block = subst (λ (known : Option (List ℕ)). IsBlockAt known 0 block) knows at in
    record { valid = is.valid.header; whole = there.1 ∙ (stand file base is).is }

-- the same file with other stamps
module _ (change : HeadersChange) (keep : StampsKeepLegal) (file : PlacedFile) (tables : List TableMap) (bytes : List ℕ) (legal : IsLegalPlacedFile file tables bytes) (own stamp : ℕ) (header : StampedHeader) (is_header : IsStampedHeader header)
    (settings : header.settings ≡ file.header.settings) (counts : header.page_counts ≡ file.header.page_counts) (stamp_is : header.stamp ≡ stamp) (before_is : header.before ≡ own) where
  pub stamped_last : (old new : Option (List ℕ)) (edits : List BlockEdit) → old ≡ Some bytes → new ≡ option_map (with_block 0 (stamped_block header)) old → IsStampedLast file own stamp new edits stamp
  stamped_last old new edits knows made =
      let step = keep file tables header legal.legal settings counts in
      record {
        bytes = with_block 0 (stamped_block header) bytes;
        is = made ∙ ap (option_map (with_block 0 (stamped_block header))) knows;
        new = with_header header file;
        tables = step.tables;
        legal = record {
          is = change file bytes header legal.is is_header (ap sum counts ∙ sym legal.is.valid.count) (ap (λ (settings : _). settings.keyer) settings);
          legal = step.legal;
        };
        map_is = step.map_is;
        settings = settings;
        places = step.places;
        stamp_is = stamp_is;
        stamped = inr (stamp_is, before_is);
      }

-- the same file, where nothing was edited
none_of : (edits : List BlockEdit) → length edits ≡ 0 → edits ≡ []
none_of [] none = refl
none_of (edit ∷ edits) none = absurd (omega (arith, none))

pub same_last : (file : PlacedFile) (tables : List TableMap) (bytes : List ℕ) → IsLegalPlacedFile file tables bytes → (own stamp now : ℕ) (known : Option (List ℕ)) (edits : List BlockEdit) → known ≡ Some bytes → file.header.stamp ≡ now → length edits ≡ 0
    → IsStampedLast file own stamp known edits now
same_last file tables bytes legal own stamp now known edits knows is none = record {
  bytes = bytes;
  is = knows;
  new = file;
  tables = tables;
  legal = legal;
  map_is = refl;
  settings = refl;
  places = take_all (length file.pages) (lows_of file.pages) (omega (arith, length-map file.pages low_bound));
  stamp_is = is;
  stamped = inl (none_of edits none);
}
