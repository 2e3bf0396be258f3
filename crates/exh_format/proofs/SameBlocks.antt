-- The blocks behind a header are the same in each version that may have the entries.
use Rattle.std.proofs.Common.{◌≡◌, ℕ, zero, suc, List, [], ◌∷◌, ◌++◌, length, take, drop, refl, sym, ap, ◌∙◌, subst, take-append-drop, arith}
use Rattle.std.specs.List.{AllByRecursion, flat_map}
use Rattle.exh_prefix.specs.Version.{Version, Fits}
use Rattle.exh_legal.specs.ImageLemmas.{same_in_four}
use Rattle.exh_codec.specs.Block.{sealed}
use Rattle.exh_codec.specs.PageImage.{padded}
use Rattle.exh_format.specs.declared.file_entry.FileEntry.{FileEntry}
use Rattle.exh_format.specs.TableImage.{IsFileEntry, image_of}
use Rattle.exh_format.specs.FileLaws.{SameBlocks}
use Rattle.exh_format.specs.PageFile.{page_block, pages_of, table_block, table_blocks, table_bytes}
use Rattle.exh_prefix.specs.PrefixListLemmas.{AllByRecursion-append_left, AllByRecursion-append_right}

module _ (one other : Version) (fits : Fits 4 one) (other_fits : Fits 4 other) where
  same_image : (item : FileEntry) → IsFileEntry one item → IsFileEntry other item → image_of one item ≡ image_of other item
  same_image item first second =
      same_in_four one fits item.ward item.prefix item.entry (omega (arith, first.shorter))
      ∙ sym (same_in_four other other_fits item.ward item.prefix item.entry (omega (arith, second.shorter)))

  same_images : (items : List FileEntry) → AllByRecursion (IsFileEntry one) items → AllByRecursion (IsFileEntry other) items → flat_map (image_of one) items ≡ flat_map (image_of other) items
  same_images [] first second = refl
  same_images (item ∷ items) first second =
      let here = same_image item first.0 second.0 in
      let rest = same_images items first.1 second.1 in
      (λ i. here i ++ rest i)

  same_block : (items : List FileEntry) → AllByRecursion (IsFileEntry one) items → AllByRecursion (IsFileEntry other) items → table_block one items ≡ table_block other items
  unfolding table_block
  same_block items first second = ap (λ (images : List ℕ). sealed (padded 4064 images)) (same_images items first second)

  same_tables : (blocks : ℕ) (items : List FileEntry) → AllByRecursion (IsFileEntry one) items → AllByRecursion (IsFileEntry other) items → table_bytes one blocks items ≡ table_bytes other blocks items
  same_tables zero items first second = refl
  same_tables (suc blocks) items first second =
      let front = take 254 items in
      let back = drop 254 items in
      let parts = subst (AllByRecursion (IsFileEntry one)) (sym (take-append-drop 254 items)) first in
      let other_parts = subst (AllByRecursion (IsFileEntry other)) (sym (take-append-drop 254 items)) second in
      let here = same_block front (AllByRecursion-append_left (IsFileEntry one) front back parts) (AllByRecursion-append_left (IsFileEntry other) front back other_parts) in
      let rest = same_tables blocks back (AllByRecursion-append_right (IsFileEntry one) front back parts) (AllByRecursion-append_right (IsFileEntry other) front back other_parts) in
      (λ i. here i ++ rest i)

pub same_blocks : SameBlocks
same_blocks one other fits other_fits file first second =
    ap (λ (table : List ℕ). flat_map page_block (pages_of file.wards) ++ table) (same_tables one other fits other_fits (table_blocks (length file.entries)) file.entries first second)
