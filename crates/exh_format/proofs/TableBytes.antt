-- The images of entries, one after the other.
use Rattle.std.proofs.Common.{◌≡◌, ℕ, zero, suc, ◌+◌, ◌*◌, ◌<◌, Bool, List, [], ◌∷◌, ◌++◌, length, take, drop, replicate, slice_index, refl, sym, ap, ◌∙◌, append_assoc, append-nil, subst, arith}
use Rattle.std.specs.List.{AllByRecursion, flat_map}
use Rattle.std.proofs.lemmas.List.{take_at, drop_at, drop-drop, take-append-drop, length-append}
use Rattle.std.proofs.lemmas.List.Concat.{flat_map-append}
use Rattle.exh_prefix.specs.Version.{Version, Fits}
use Rattle.exh_legal.specs.declared.Entry.{Entry}
use Rattle.exh_legal.specs.declared.Kind.{Kind}
use Rattle.exh_legal.specs.declared.Kind.TheVariants.{Merge, Split}
use Rattle.exh_legal.specs.NoticeImages.{IsEntryImage, entry_image, kind_byte}
use Rattle.exh_legal.specs.ImageLemmas.{length-entry_image}
use Rattle.exh_legal.specs.ImageLemmas as images
use Rattle.exh_format.specs.declared.file_entry.FileEntry.{FileEntry}
use Rattle.exh_format.specs.TableImage.{IsFileEntry, image_of, AreEntries}
use Rattle.exh_prefix.specs.PrefixListLemmas.{AllByRecursion-push}

made : ℕ → List Bool → Entry → FileEntry
made ward prefix entry = record { ward = ward; prefix = prefix; entry = entry }

-- bytes that are an entry's image tell that it is one
pub entry_from_image : (version : Version) (ward : ℕ) (prefix : List Bool) (entry : Entry) (image : List ℕ) → IsEntryImage version ward prefix entry image → IsFileEntry version (record { ward = ward; prefix = prefix; entry = entry })
entry_from_image version ward prefix entry image is = record { shorter = is.shorter; change_number = is.change_number; right = is.right }

pub image_from_entry : (version : Version) (item : FileEntry) → IsFileEntry version item → IsEntryImage version item.ward item.prefix item.entry (image_of version item)
image_from_entry version item valid = record { shorter = valid.shorter; change_number = valid.change_number; right = valid.right; bytes = refl }

module _ (version : Version) (fits : Fits 4 version) where
  pub length-image_of : (item : FileEntry) → length (image_of version item) ≡ 16
  length-image_of item = length-entry_image version fits item.ward item.prefix item.entry

  pub length-images : (items : List FileEntry) → length (flat_map (image_of version) items) ≡ 16 * length items
  length-images [] = refl
  length-images (item ∷ items) = omega (arith, length-append (image_of version item) (flat_map (image_of version) items), length-image_of item, length-images items)

  -- behind some entries comes what the bytes have past their images
  pub rest_behind : (count : ℕ) (bytes : List ℕ) (items : List FileEntry) (rest : List ℕ) → AreEntries version count bytes items rest → rest ≡ drop (16 * count) bytes
  rest_behind count bytes items rest are =
      let len : length (flat_map (image_of version) items) ≡ 16 * count = length-images items ∙ ap (λ (n : ℕ). 16 * n) are.all in
      sym (ap (drop (16 * count)) are.whole ∙ drop_at (flat_map (image_of version) items) rest (16 * count) len)

  pub front_before : (count : ℕ) (bytes : List ℕ) (items : List FileEntry) (rest : List ℕ) → AreEntries version count bytes items rest → take (16 * count) bytes ≡ flat_map (image_of version) items
  front_before count bytes items rest are =
      let len : length (flat_map (image_of version) items) ≡ 16 * count = length-images items ∙ ap (λ (n : ℕ). 16 * n) are.all in
      ap (take (16 * count)) are.whole ∙ take_at (flat_map (image_of version) items) rest (16 * count) len

  -- one entry more
  pub more_entries : (i : ℕ) (bytes : List ℕ) (items : List FileEntry) (rest : List ℕ) (item : FileEntry) (after : List ℕ) → AreEntries version i bytes items rest → IsFileEntry version item
      → rest ≡ image_of version item ++ after → AreEntries version (i + 1) bytes (items ++ item ∷ []) after
  more_entries i bytes items rest item after are valid next =
      let image = image_of version item in
      record {
        all = omega (arith, are.all, length-append items (item ∷ []));
        valid = AllByRecursion-push (IsFileEntry version) items item are.valid valid;
        whole = are.whole ∙ ap (λ (bytes : List ℕ). flat_map (image_of version) items ++ bytes) next ∙ sym (append_assoc (flat_map (image_of version) items) image after)
            ∙ ap (λ (bytes : List ℕ). bytes ++ after) (ap (λ (image : List ℕ). flat_map (image_of version) items ++ image) (sym (append-nil image)) ∙ sym (flat_map-append (image_of version) items (item ∷ [])));
      }

  -- the next entry, whose image stands behind the others
  pub next_entry : (i : ℕ) (bytes : List ℕ) (items : List FileEntry) (ward : ℕ) (prefix : List Bool) (entry : Entry) (image : List ℕ) → AreEntries version i bytes items (drop (16 * i) bytes)
      → image ≡ take 16 (drop (16 * i) bytes) → IsEntryImage version ward prefix entry image
      → AreEntries version (i + 1) bytes (items ++ record { ward = ward; prefix = prefix; entry = entry } ∷ []) (drop (16 * (i + 1)) bytes)
  next_entry i bytes items ward prefix entry image are front is =
      let place : 16 * i + 16 ≡ 16 * (i + 1) = omega arith in
      let rest = drop (16 * i) bytes in
      let next : rest ≡ entry_image version ward prefix entry ++ drop (16 * (i + 1)) bytes =
      sym (take-append-drop 16 rest) ∙ ap (λ (front : List ℕ). front ++ drop 16 rest) (sym front ∙ is.bytes)
      ∙ ap (λ (back : List ℕ). entry_image version ward prefix entry ++ back) (drop-drop 16 (16 * i) bytes ∙ ap (λ (n : ℕ). drop n bytes) place) in
      more_entries i bytes items rest (record { ward = ward; prefix = prefix; entry = entry }) (drop (16 * (i + 1)) bytes) are (entry_from_image version ward prefix entry image is) next

  -- the entry at a place, whose image stands there
  pub entry_at : (number : ℕ) (bytes : List ℕ) (items : List FileEntry) (rest : List ℕ) → number < length items → AllByRecursion (IsFileEntry version) items → bytes ≡ flat_map (image_of version) items ++ rest
      → (item : FileEntry) × IsEntryImage version item.ward item.prefix item.entry (take 16 (drop (16 * number) bytes))
  entry_at number bytes [] rest within valid is = absurd (omega arith)
  entry_at zero bytes (item ∷ items) rest within valid is =
      let image = image_of version item in
      let front : take 16 bytes ≡ image = ap (take 16) (is ∙ append_assoc image (flat_map (image_of version) items) rest) ∙ take_at image (flat_map (image_of version) items ++ rest) 16 (length-image_of item) in
      (item, subst (IsEntryImage version item.ward item.prefix item.entry) (sym front) (image_from_entry version item valid.0))
  entry_at (suc number) bytes (item ∷ items) rest within valid is =
      let image = image_of version item in
      let place : 16 + 16 * number ≡ 16 * suc number = omega arith in
      let back : drop 16 bytes ≡ flat_map (image_of version) items ++ rest = ap (drop 16) (is ∙ append_assoc image (flat_map (image_of version) items) rest) ∙ drop_at image (flat_map (image_of version) items ++ rest) 16 (length-image_of item) in
      let found = entry_at number (drop 16 bytes) items rest (omega arith) valid.1 back in
      let same : take 16 (drop (16 * number) (drop 16 bytes)) ≡ take 16 (drop (16 * suc number) bytes) =
      ap (take 16) (drop-drop (16 * number) 16 bytes ∙ ap (λ (n : ℕ). drop n bytes) place) in
      (found.0, subst (IsEntryImage version found.0.ward found.0.prefix found.0.entry) same found.1)

  -- two images that are followed by something
  pub same_entry : (one other : FileEntry) (rest after : List ℕ) → IsFileEntry version one → IsFileEntry version other → image_of version one ++ rest ≡ image_of version other ++ after → (one ≡ other) × (rest ≡ after)
  unfolding made
  same_entry one other rest after first second same =
      let front : image_of version one ≡ image_of version other = sym (take_at (image_of version one) rest 16 (length-image_of one)) ∙ ap (take 16) same ∙ take_at (image_of version other) after 16 (length-image_of other) in
      let back : rest ≡ after = sym (drop_at (image_of version one) rest 16 (length-image_of one)) ∙ ap (drop 16) same ∙ drop_at (image_of version other) after 16 (length-image_of other) in
      let parts = images.one_value version fits (image_from_entry version one first) (subst (IsEntryImage version other.ward other.prefix other.entry) (sym front) (image_from_entry version other second)) in
      ((λ i. made (parts.0 i) (parts.1 i) (parts.2 i)), back)

  -- bytes begin with one list of so many entries
  pub same_entries : (one other : List FileEntry) (rest after : List ℕ) → length one ≡ length other → AllByRecursion (IsFileEntry version) one → AllByRecursion (IsFileEntry version) other
      → flat_map (image_of version) one ++ rest ≡ flat_map (image_of version) other ++ after → one ≡ other
  same_entries [] [] rest after len first second same = refl
  same_entries [] (q ∷ other) rest after len first second same = absurd (omega (arith, len))
  same_entries (p ∷ one) [] rest after len first second same = absurd (omega (arith, len))
  same_entries (p ∷ one) (q ∷ other) rest after len first second same =
      let heads = same_entry p q (flat_map (image_of version) one ++ rest) (flat_map (image_of version) other ++ after) first.0 second.0
      (sym (append_assoc (image_of version p) (flat_map (image_of version) one) rest) ∙ same ∙ append_assoc (image_of version q) (flat_map (image_of version) other) after) in
      let tails = same_entries one other rest after (omega (arith, len)) first.1 second.1 heads.1 in
      ap (λ (p : FileEntry). p ∷ one) heads.0 ∙ ap (λ (rest : List FileEntry). q ∷ rest) tails

  -- images behind which there are only zeros
  zero_at : (n i : ℕ) → slice_index (replicate n 0) i ≡ 0
  zero_at zero i = refl
  zero_at (suc n) zero = refl
  zero_at (suc n) (suc i) = zero_at n i

  has_kind : (kind : Kind) → kind_byte kind ≡ 0 → ⊥
  has_kind Merge none = omega (arith, none)
  has_kind (Split right) none = omega (arith, none)

  not_zeros : (item : FileEntry) (rest : List ℕ) (n : ℕ) → replicate n 0 ≡ image_of version item ++ rest → ⊥
  not_zeros item rest n same = has_kind item.entry.kind (sym (ap (λ (bytes : List ℕ). slice_index bytes 1) same) ∙ zero_at n 1)

  pub same_padded : (one other : List FileEntry) (m n : ℕ) → AllByRecursion (IsFileEntry version) one → AllByRecursion (IsFileEntry version) other
      → flat_map (image_of version) one ++ replicate m 0 ≡ flat_map (image_of version) other ++ replicate n 0 → one ≡ other
  same_padded [] [] m n first second same = refl
  same_padded [] (q ∷ other) m n first second same =
      absurd (not_zeros q (flat_map (image_of version) other ++ replicate n 0) m (same ∙ append_assoc (image_of version q) (flat_map (image_of version) other) (replicate n 0)))
  same_padded (p ∷ one) [] m n first second same =
      absurd (not_zeros p (flat_map (image_of version) one ++ replicate m 0) n (sym same ∙ append_assoc (image_of version p) (flat_map (image_of version) one) (replicate m 0)))
  same_padded (p ∷ one) (q ∷ other) m n first second same =
      let heads = same_entry p q (flat_map (image_of version) one ++ replicate m 0) (flat_map (image_of version) other ++ replicate n 0) first.0 second.0
      (sym (append_assoc (image_of version p) (flat_map (image_of version) one) (replicate m 0)) ∙ same ∙ append_assoc (image_of version q) (flat_map (image_of version) other) (replicate n 0)) in
      let tails = same_padded one other m n first.1 second.1 heads.1 in
      ap (λ (p : FileEntry). p ∷ one) heads.0 ∙ ap (λ (rest : List FileEntry). q ∷ rest) tails
