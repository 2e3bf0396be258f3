-- The content of a page of which records are put in place of others.
use Rattle.std.proofs.Common.{◌≡◌, ℕ, zero, suc, ◌+◌, ◌-◌, ◌*◌, ◌<◌, ◌≤◌, List, get_or, [], ◌∷◌, ◌++◌, length, map, set, take, drop, replicate, slice_index, refl, sym, ap, ◌∙◌, append_assoc, append-nil, subst, arith}
use borrow.Rule.Slice.PartMut.{put_mid}
use Rattle.std.specs.List.{AllByRecursion}
use Rattle.std.proofs.lemmas.List.{take_all, drop_at, drop_all, drop-drop, length-append, length-drop}
use Rattle.exh_page.specs.declared.page.Page.{Page}
use Rattle.exh_page.specs.declared.page.Page.TheVariants.{Live, Forward}
use Rattle.exh_page.specs.declared.record.Record.{Record}
use Rattle.exh_page.specs.KeyMap.{pair_of}
use Rattle.exh_page.specs.Page.{IsLive, records_of, with_records}
use Rattle.exh_codec.specs.BlockLemmas.{padded_front}
use Rattle.exh_codec.specs.CellLemmas.{length-pair_image}
use Rattle.exh_codec.specs.Cells.{IsSizedPair, pair_image}
use Rattle.exh_codec.specs.Head.{head_bytes, head_of}
use Rattle.exh_codec.specs.PageImage.{content_of, padded}
use Rattle.exh_frames.specs.declared.gap.Gap.{Gap}
use Rattle.exh_frames.specs.InPlace.{AreStarts, HasContent, IsEdit, bytes_of}
use Rattle.exh_frames.proofs.Edited.{bytes_of-append, counted, edited, length-head, read_count}

-- ---- lengths that are in their ranges

abbrev pub AreSized : List Record → Type 0
AreSized records = AllByRecursion IsSizedPair (map pair_of records)

pub length-bytes : (records : List Record) → AreSized records → length (bytes_of records) ≤ 194 * length records
length-bytes [] sized = omega arith
length-bytes (r ∷ records) sized = omega (arith, length-append (pair_image (pair_of r)) (bytes_of records), length-pair_image (pair_of r), sized.0.key, sized.0.value, length-bytes records sized.1)

-- the lengths of the record of an index
pub sized_at : (records : List Record) (i : ℕ) (d : Record) → AreSized records → i < length records → IsSizedPair (pair_of (get_or records i d))
sized_at [] i d sized within = absurd (omega (arith, within))
sized_at (r ∷ records) zero d sized within = sized.0
sized_at (r ∷ records) (suc i) d sized within = sized_at records i d sized.1 (omega (arith, within))

pub sized_behind : (middle back : List Record) → AreSized (middle ++ back) → AreSized back
sized_behind [] back sized = sized
sized_behind (r ∷ middle) back sized = sized_behind middle back sized.1

pub sized_front : (front back : List Record) → AreSized (front ++ back) → AreSized front
sized_front [] back sized = tt
sized_front (r ∷ front) back sized = (sized.0, sized_front front back sized.1)

pub sized_before : (put back : List Record) → AreSized put → AreSized back → AreSized (put ++ back)
sized_before [] back one other = other
sized_before (r ∷ put) back one other = (one.0, sized_before put back one.1 other)

sized_edit : (front middle back put : List Record) → AreSized (front ++ (middle ++ back)) → AreSized put → AreSized (front ++ (put ++ back))
sized_edit [] middle back put sized one = sized_before put back one (sized_behind middle back sized)
sized_edit (r ∷ front) middle back put sized one = (sized.0, sized_edit front middle back put sized.1 one)

-- ---- a live page with other records

pub records_with : (records : List Record) (page : Page) → IsLive page → records_of (with_records records page) ≡ records
records_with records (Live prefix right old) live = refl
records_with records (Forward low target) live = absurd live

live_with : (records : List Record) (page : Page) → IsLive page → IsLive (with_records records page)
live_with records (Live prefix right old) live = tt
live_with records (Forward low target) live = absurd live

-- ---- what a block with the content of a page says

pub content_is : (page : Page) → content_of page ≡ padded 4064 (head_bytes (head_of page) ++ bytes_of (records_of page))
unfolding content_of
content_is page = refl

-- behind its head it has these records, whose number the head says, and then other bytes
pub record HasRecords (block : List ℕ) (records : List Record) (rest : List ℕ) : Type 0 where
  pub count : slice_index block 2 ≡ length records
  pub bytes : drop 16 block ≡ bytes_of records ++ rest

pub has_records : (block : List ℕ) (page : Page) → HasContent block page → (rest : List ℕ) × HasRecords block (records_of page) rest
has_records block page has =
    let head : List ℕ = head_bytes (head_of page) in
    let bytes : List ℕ = bytes_of (records_of page) in
    let rest : List ℕ = replicate (4064 - length (head ++ bytes)) 0 ++ drop 4064 block in
    let whole : block ≡ head ++ (bytes ++ rest) = padded_front block (head ++ bytes) 4064 (has.content ∙ content_is page) ∙ append_assoc head bytes rest in (
      rest,
      record {
        count = ap (λ (l : List ℕ). slice_index l 2) whole ∙ read_count page (bytes ++ rest) has.live;
        bytes = ap (drop 16) whole ∙ drop_at head (bytes ++ rest) 16 (length-head page);
      },
    )

-- behind all records the last one ends
pub used_at : (records : List Record) (starts : List ℕ) (n : ℕ) → AreStarts records starts → n ≡ length records → slice_index starts n ≡ 16 + length (bytes_of records)
used_at records starts n at is =
    ap (slice_index starts) is ∙ at (length records) (omega arith) ∙ ap (λ (l : List Record). 16 + length (bytes_of l)) (take_all (length records) records (omega arith))

-- ---- the edit of a gap

bytes_of-three : (front middle back : List Record) → bytes_of (front ++ (middle ++ back)) ≡ bytes_of front ++ (bytes_of middle ++ bytes_of back)
bytes_of-three front middle back = bytes_of-append front (middle ++ back) ∙ ap (λ (l : List ℕ). bytes_of front ++ l) (bytes_of-append middle back)

-- the numbers of a gap in a block
pub record IsGapIn (block : List ℕ) (put new : List Record) (gap : Gap) (used : ℕ) : Type 0 where
  pub order : gap.start ≤ gap.end
  pub within : gap.end ≤ used
  pub short : used ≤ 3120
  pub few : slice_index block 2 ≤ 16
  pub stood : gap.count ≤ slice_index block 2
  pub counted : slice_index block 2 - gap.count + length put ≡ length new

pub gap_in : (page : Page) (put new : List Record) (gap : Gap) (block : List ℕ) (used : ℕ) → HasContent block page → IsEdit (records_of page) put new gap → used ≡ 16 + length (bytes_of (records_of page)) → IsGapIn block put new gap used
gap_in page put new gap block used has edit used_is =
    let records : List Record = records_of page in
    let front : List ℕ = bytes_of edit.front in
    let middle : List ℕ = bytes_of edit.middle in
    let back : List ℕ = bytes_of edit.back in
    let bytes : length (bytes_of records) ≡ length (front ++ (middle ++ back)) = ap (λ (l : List Record). length (bytes_of l)) edit.old_is ∙ ap length (bytes_of-three edit.front edit.middle edit.back) in
    let size : length (bytes_of records) ≡ length front + (length middle + length back) = omega (arith, bytes, length-append front (middle ++ back), length-append middle back) in
    let old_len : length records ≡ length edit.front + (length edit.middle + length edit.back) = omega (arith, ap length edit.old_is, length-append edit.front (edit.middle ++ edit.back), length-append edit.middle edit.back) in
    let new_len : length new ≡ length edit.front + (length put + length edit.back) = omega (arith, ap length edit.new_is, length-append edit.front (put ++ edit.back), length-append put edit.back) in
    let said : slice_index block 2 ≡ length records = (has_records block page has).1.count in
    record {
      order = omega (arith, edit.end);
      within = omega (arith, used_is, size, edit.start, edit.end);
      short = omega (arith, used_is, has.few, length-bytes records has.sized);
      few = omega (arith, said, has.few);
      stood = omega (arith, said, old_len, edit.count);
      counted = omega (arith, said, old_len, new_len, edit.count);
    }

-- a block of which the count was set, and then the bytes of a gap were replaced
pub edited_content : (page : Page) (put new : List Record) (gap : Gap) (block counted_block after : List ℕ) (used len : ℕ)
    → HasContent block page → IsEdit (records_of page) put new gap → AreSized put → length new ≤ 16 → used ≡ 16 + length (bytes_of (records_of page)) → len ≡ length (bytes_of put)
    → counted_block ≡ set block 2 (length new)
    → after ≡ take gap.start counted_block ++ (bytes_of put ++ (take (used - gap.end) (drop gap.end counted_block) ++ (replicate (used - (gap.start + len + (used - gap.end))) 0
    ++ drop (used + (gap.start + len + (used - gap.end) - used)) counted_block)))
    → HasContent after (with_records new page)
edited_content page put new gap block counted_block after used len has edit put_sized few used_is len_is counted_is is =
    let old : List Record = records_of page in
    let head : List ℕ = head_bytes (head_of (with_records new page)) in
    let front : List ℕ = bytes_of edit.front in
    let middle : List ℕ = bytes_of edit.middle in
    let back : List ℕ = bytes_of edit.back in
    let old_bytes : bytes_of old ≡ front ++ (middle ++ back) = ap bytes_of edit.old_is ∙ bytes_of-three edit.front edit.middle edit.back in
    let new_bytes : bytes_of new ≡ front ++ (bytes_of put ++ back) = ap bytes_of edit.new_is ∙ bytes_of-three edit.front put edit.back in
    let sized : AreSized new = subst AreSized (sym edit.new_is) (sized_edit edit.front edit.middle edit.back put (subst AreSized edit.old_is has.sized) put_sized) in
    let short = length-bytes old has.sized in
    let new_short = length-bytes new sized in
    let old_size : length (bytes_of old) ≡ length front + (length middle + length back) = omega (arith, ap length old_bytes, length-append front (middle ++ back), length-append middle back) in
    let new_size : length (bytes_of new) ≡ length front + (length (bytes_of put) + length back) = omega (arith, ap length new_bytes, length-append front (bytes_of put ++ back), length-append (bytes_of put) back) in
    let begun : take 4064 counted_block ≡ padded 4064 ((head ++ front) ++ (middle ++ back)) =
    ap (take 4064) counted_is ∙ counted block (bytes_of old) new page has.live (omega (arith, short, has.few)) (has.content ∙ content_is page)
    ∙ ap (λ (l : List ℕ). padded 4064 (head ++ l)) old_bytes ∙ ap (padded 4064) (sym (append_assoc head front (middle ++ back))) in
    let long : length (head ++ front) ≡ 16 + length front = omega (arith, length-append head front, length-head (with_records new page)) in
    let done : take 4064 after ≡ padded 4064 ((head ++ front) ++ (bytes_of put ++ back)) =
    edited counted_block (head ++ front) middle back (bytes_of put) after gap.start gap.end used len (gap.start + len + (used - gap.end)) begun
    (omega (arith, edit.start, long)) edit.end (omega (arith, used_is, old_size, edit.start, edit.end)) len_is (omega (arith, used_is, old_size, edit.start, edit.end))
    (omega (arith, used_is, short, has.few)) (omega (arith, used_is, old_size, new_size, edit.start, edit.end, len_is, new_short, few)) is in
    let stood : records_of (with_records new page) ≡ new = records_with new page has.live in
    record {
      live = live_with new page has.live;
      few = subst (λ (l : List Record). length l ≤ 16) (sym stood) few;
      sized = subst AreSized (sym stood) sized;
      content = done ∙ ap (padded 4064) (append_assoc head front (bytes_of put ++ back)) ∙ ap (λ (l : List ℕ). padded 4064 (head ++ l)) (sym new_bytes ∙ ap bytes_of (sym stood)) ∙ sym (content_is (with_records new page));
    }

-- ---- a record that is written from a byte on

pub put_tail : (block image new : List ℕ) (start k : ℕ) → start ≤ length block → k ≡ length block - start → new ≡ image ++ drop (length image) (take k (drop start block))
    → put_mid start k block new ≡ take start block ++ (image ++ drop (start + length image) block)
put_tail block image new start k within room is =
    let rest : List ℕ = drop start block in
    let size : length rest ≡ k = omega (arith, room, length-drop start block) in
    let whole : take k rest ≡ rest = take_all k rest (omega (arith, size)) in
    let none : drop k rest ≡ [] = drop_all k rest (omega (arith, size)) in
    let part : new ≡ image ++ drop (start + length image) block =
    is ∙ ap (λ (l : List ℕ). image ++ drop (length image) l) whole ∙ ap (λ (l : List ℕ). image ++ l) (drop-drop (length image) start block) in
    ap (λ (l : List ℕ). take start block ++ (new ++ l)) none ∙ ap (λ (l : List ℕ). take start block ++ l) (append-nil new ∙ part)
