-- Blocks that get a head, and the halves and unions of live pages in them.
use Rattle.std.proofs.Common.{◌≡◌, ℕ, ◌+◌, ◌-◌, ◌^◌, ◌<◌, ◌≤◌, Bool, true, false, List, [], ◌∷◌, ◌++◌, length, filter, take, drop, replicate, slice_index, Option, nat_cmp, inl, inr, refl, sym, ap, ◌∙◌, append_assoc, append-nil, subst, arith}
use borrow.Rule.Slice.PartMut.{put_mid}
use Rattle.std.specs.declared.cmp.Ordering.TheVariants.{Less, Equal, Greater}
use Rattle.std.specs.Cmp.{ranks, nat_cmp_is}
use Rattle.std.specs.Cmp.Lexicographic.{slice_cmp}
use Rattle.std.specs.List.{AllByRecursion}
use Rattle.std.specs.Ordering.{MatchOrdering, is_lt, ordering_then}
use Rattle.std.proofs.lemmas.Bool.{cases_lt}
use Rattle.std.proofs.lemmas.List.{take_at, take-append-drop, drop_at, drop-drop, length-append, length-drop, length-take-le, length_push}
use Rattle.exh_prefix.specs.Bits.{word_bits}
use Rattle.exh_prefix.specs.Prefix.{Begins, begins, low_of}
use Rattle.exh_prefix.specs.PrefixLemmas.{begins_low, child_of_begun, is_front-true, low_of-child, not_front, one_child_begins}
use Rattle.exh_prefix.specs.PrefixListLemmas.{AllByRecursion-append_left, AllByRecursion-append_right}
use Rattle.exh_page.specs.declared.page.Page.{Page}
use Rattle.exh_page.specs.declared.page.Page.TheVariants.{Live}
use Rattle.exh_page.specs.declared.page_head.PageHead.{PageHead}
use Rattle.exh_page.specs.declared.page_head.PageHead.TheVariants.{Live as LiveHead}
use Rattle.exh_page.specs.declared.record.Record.{Record}
use Rattle.exh_page.specs.Page.{begun_by, records_of}
use Rattle.exh_page.specs.Place.{place_cmp, place_of}
use Rattle.exh_page.specs.RecordsLemmas.{all_fail, all_pass, filter-append}
use Rattle.exh_page.specs.ShareLemmas.{both}
use Rattle.exh_codec.specs.BlockLemmas.{front_padded}
use Rattle.exh_codec.specs.Head.{head_bytes, head_of, head_with}
use Rattle.exh_codec.specs.PageImage.{padded}
use Rattle.exh_frames.specs.InPlace.{AreStarts, HasContent, IsPlaceIn, bytes_of}
use Rattle.exh_frames.proofs.Contents.{AreSized, content_is, length-bytes, sized_behind, sized_before, sized_front, used_at}
use Rattle.exh_frames.proofs.Edited.{appended, bytes_of-append, cleared, headed, length-head}

-- a head's bytes
pub length-head_with : (head : PageHead) → length (head_bytes (head_with head)) ≡ 16
unfolding head_bytes
length-head_with head = refl

-- a head and bytes over zeros
pub laid_run : (head : PageHead) (run block copied : List ℕ) (k : ℕ) → block ≡ head_bytes (head_with head) ++ drop 16 (replicate 4096 0) → copied ≡ run → length run ≤ 4048 → k ≡ length run
    → take 4064 (put_mid 16 k block copied) ≡ padded 4064 (head_bytes (head_with head) ++ run)
laid_run head run block copied k block_is copied_is room k_is =
    let top : List ℕ = head_bytes (head_with head) in
    let begun : take 4064 block ≡ padded 4064 top = from_zeros in
    appended block top run (put_mid 16 k block copied) begun (omega (arith, room, length-head_with head)) same
  where
    from_zeros : take 4064 block ≡ padded 4064 (head_bytes (head_with head))
    from_zeros =
        let top : List ℕ = head_bytes (head_with head) in
        ap (take 4064) (block_is ∙ ap (λ (n : ℕ). top ++ drop n (replicate 4096 0)) (sym (length-head_with head))) ∙ front_padded top 4064 4096 (omega (arith, length-head_with head)) (omega arith)

    same : put_mid 16 k block copied ≡ take (length (head_bytes (head_with head))) block ++ (run ++ drop (length (head_bytes (head_with head)) + length run) block)
    same =
        ap (λ (l : List ℕ). take 16 block ++ (l ++ drop k (drop 16 block))) copied_is ∙ ap (λ (l : List ℕ). take 16 block ++ (run ++ l)) (drop-drop k 16 block ∙ ap (λ (n : ℕ). drop (16 + n) block) k_is)
        ∙ ap (λ (n : ℕ). take n block ++ (run ++ drop (n + length run) block)) (sym (length-head_with head))

-- ---- the cut between the shares of two children

word_below : (r : Record) (bound : ℕ) → place_cmp (place_of r) (bound, []) ≡ Less → r.pseudokey < bound
word_below r bound before =
    elim (nat_cmp r.pseudokey bound) as (λ o. MatchOrdering o (r.pseudokey < bound) (r.pseudokey ≡ bound) (bound < r.pseudokey) → ordering_then o (slice_cmp nat_cmp r.key []) ≡ Less → r.pseudokey < bound) [
      | Less ↦ λ rank less. rank
      | Equal ↦ λ rank less. absurd (never r.key less)
      | Greater ↦ λ rank less. cc
    ] (ranks r.pseudokey bound) before
  where
    never : (key : List ℕ) → slice_cmp nat_cmp key [] ≡ Less → ⊥
    never [] less = cc
    never (byte ∷ key) less = cc

word_above : (r : Record) (bound : ℕ) → is_lt (place_cmp (place_of r) (bound, [])) ≡ false → bound ≤ r.pseudokey
word_above r bound later = elim (cases_lt r.pseudokey bound) [
  | inl below ↦
      let less : place_cmp (place_of r) (bound, []) ≡ Less = ap (λ o. ordering_then o (slice_cmp nat_cmp r.key [])) (sym (nat_cmp_is r.pseudokey bound Less below)) in
      let passes : is_lt (place_cmp (place_of r) (bound, [])) ≡ true = ap is_lt less in
      absurd cc
  | inr above ↦ above
]

module _ (prefix : List Bool) (short : length prefix < 20) where
  left_begins : (pseudokey : ℕ) → Begins prefix pseudokey → pseudokey < 2 ^ 64 → pseudokey < low_of (prefix ++ true ∷ []) → Begins (prefix ++ false ∷ []) pseudokey
  left_begins pseudokey begun fits below = elim (child_of_begun prefix pseudokey (omega (arith, short)) begun) [
    | inl left ↦ left
    | inr right ↦ absurd (omega (arith, below, (begins_low (prefix ++ true ∷ []) pseudokey (omega (arith, short, length_push prefix true)) fits right).0))
  ]

  right_begins : (pseudokey : ℕ) → Begins prefix pseudokey → pseudokey < 2 ^ 64 → low_of (prefix ++ true ∷ []) ≤ pseudokey → Begins (prefix ++ true ∷ []) pseudokey
  right_begins pseudokey begun fits above = elim (child_of_begun prefix pseudokey (omega (arith, short)) begun) [
    | inl left ↦
        let long : length (prefix ++ false ∷ []) ≡ length prefix + 1 = length_push prefix false in
        let same : 64 - length (prefix ++ false ∷ []) ≡ 63 - length prefix = omega (arith, long) in
        absurd (omega (
          arith,
          above,
          (begins_low (prefix ++ false ∷ []) pseudokey (omega (arith, short, long)) fits left).1,
          low_of-child prefix false (omega (arith, short)),
          low_of-child prefix true (omega (arith, short)),
          ap (λ n. 2 ^ n) same,
        ))
    | inr right ↦ right
  ]

  -- of records that the prefix begins, those before the right child's low bound are the left child's, and the others the right one's
  Begun : Record → Type 0
  Begun r = Begins prefix r.pseudokey × (r.pseudokey < 2 ^ 64)

  module _ (records : List Record) (cut : ℕ) (place : IsPlaceIn (low_of (prefix ++ true ∷ []), []) records cut) (begun : AllByRecursion (λ r. Begins prefix r.pseudokey × (r.pseudokey < 2 ^ 64)) records) where
    front : List Record
    front = take cut records

    parted : AllByRecursion (λ r. Begins prefix r.pseudokey × (r.pseudokey < 2 ^ 64)) (take cut records ++ drop cut records)
    parted = subst (AllByRecursion (λ r. Begins prefix r.pseudokey × (r.pseudokey < 2 ^ 64))) (sym (take-append-drop cut records)) begun

    fore : AllByRecursion (λ r. (Begins prefix r.pseudokey × (r.pseudokey < 2 ^ 64)) × (place_cmp (place_of r) (low_of (prefix ++ true ∷ []), []) ≡ Less)) (take cut records)
    fore = both _ _ (take cut records) (AllByRecursion-append_left _ (take cut records) (drop cut records) parted) place.before

    aft : AllByRecursion (λ r. (Begins prefix r.pseudokey × (r.pseudokey < 2 ^ 64)) × (is_lt (place_cmp (place_of r) (low_of (prefix ++ true ∷ []), [])) ≡ false)) (drop cut records)
    aft = both _ _ (drop cut records) (AllByRecursion-append_right _ (take cut records) (drop cut records) parted) place.rest

    of_left : (r : Record) → (Begins prefix r.pseudokey × (r.pseudokey < 2 ^ 64)) × (place_cmp (place_of r) (low_of (prefix ++ true ∷ []), []) ≡ Less) → Begins (prefix ++ false ∷ []) r.pseudokey
    of_left r is = left_begins r.pseudokey is.0.0 is.0.1 (word_below r _ is.1)

    of_right : (r : Record) → (Begins prefix r.pseudokey × (r.pseudokey < 2 ^ 64)) × (is_lt (place_cmp (place_of r) (low_of (prefix ++ true ∷ []), [])) ≡ false) → Begins (prefix ++ true ∷ []) r.pseudokey
    of_right r is = right_begins r.pseudokey is.0.0 is.0.1 (word_above r _ is.1)

    pub left_share : begun_by (prefix ++ false ∷ []) records ≡ take cut records
    left_share =
        let p : Record → Bool = λ r. begins (prefix ++ false ∷ []) r.pseudokey in
        ap (filter p) (sym (take-append-drop cut records)) ∙ filter-append p (take cut records) (drop cut records)
        ∙ ap (λ (l : List Record). l ++ filter p (drop cut records)) (all_pass p _ (λ r is. is_front-true (prefix ++ false ∷ []) (word_bits r.pseudokey) (of_left r is)) (take cut records) fore)
        ∙ ap (λ (l : List Record). take cut records ++ l) (all_fail p _ (λ r is. not_front (prefix ++ false ∷ []) (word_bits r.pseudokey) (λ left. one_child_begins prefix r.pseudokey left (of_right r is))) (drop cut records) aft)
        ∙ append-nil (take cut records)

    pub right_share : begun_by (prefix ++ true ∷ []) records ≡ drop cut records
    right_share =
        let p : Record → Bool = λ r. begins (prefix ++ true ∷ []) r.pseudokey in
        ap (filter p) (sym (take-append-drop cut records)) ∙ filter-append p (take cut records) (drop cut records)
        ∙ ap (λ (l : List Record). l ++ filter p (drop cut records)) (all_fail p _ (λ r is. not_front (prefix ++ true ∷ []) (word_bits r.pseudokey) (λ right. one_child_begins prefix r.pseudokey (of_left r is) right)) (take cut records) fore)
        ∙ all_pass p _ (λ r is. is_front-true (prefix ++ true ∷ []) (word_bits r.pseudokey) (of_right r is)) (drop cut records) aft

-- ---- the content of a live page, by its head and its records

pub live_content : (prefix : List Bool) (link : Option ℕ) (records : List Record) (block : List ℕ) → length records ≤ 16 → AreSized records
    → take 4064 block ≡ padded 4064 (head_bytes (head_with (LiveHead prefix link (length records))) ++ bytes_of records) → HasContent block (Live prefix link records)
live_content prefix link records block few sized is = record { live = tt; few = few; sized = sized; content = is ∙ sym (content_is (Live prefix link records)) }

-- records, cut where some begin
module _ (records : List Record) (starts : List ℕ) (at : AreStarts records starts) (cut n : ℕ) (within : cut ≤ length records) (all : n ≡ length records) where
  bytes_parted : bytes_of records ≡ bytes_of (take cut records) ++ bytes_of (drop cut records)
  bytes_parted = ap bytes_of (sym (take-append-drop cut records)) ∙ bytes_of-append (take cut records) (drop cut records)

  pub cut_start : slice_index starts cut ≡ 16 + length (bytes_of (take cut records))
  cut_start = at cut within

  pub cut_end : slice_index starts n ≡ slice_index starts cut + length (bytes_of (drop cut records))
  cut_end = omega (arith, used_at records starts n at all, cut_start, ap length bytes_parted, length-append (bytes_of (take cut records)) (bytes_of (drop cut records)))

  pub cut_size : slice_index starts n - slice_index starts cut ≡ length (bytes_of (drop cut records))
  cut_size = omega (arith, cut_end)

  -- from there on stand the bytes of the others
  pub cut_run : (block rest : List ℕ) → drop 16 block ≡ bytes_of records ++ rest → take (slice_index starts n - slice_index starts cut) (drop (slice_index starts cut) block) ≡ bytes_of (drop cut records)
  cut_run block rest is =
      let front : List ℕ = bytes_of (take cut records) in
      let back : List ℕ = bytes_of (drop cut records) in
      let behind : drop (slice_index starts cut) block ≡ back ++ rest =
      ap (λ (n : ℕ). drop n block) cut_start ∙ sym (drop-drop (length front) 16 block)
      ∙ ap (drop (length front)) (is ∙ ap (λ (l : List ℕ). l ++ rest) bytes_parted ∙ append_assoc front back rest) ∙ drop_at front (back ++ rest) (length front) refl in
      ap (take (slice_index starts n - slice_index starts cut)) behind ∙ take_at back rest (slice_index starts n - slice_index starts cut) (sym cut_size)

  -- without them, and with another head, it is the block of the page that has those before
  pub cut_block : (prefix half : List Bool) (link right : Option ℕ) (block zeros : List ℕ) (k : ℕ) → HasContent block (Live prefix link records) → k ≡ slice_index starts n - slice_index starts cut → zeros ≡ replicate k 0
      → HasContent (head_bytes (head_with (LiveHead half right cut)) ++ drop 16 (put_mid (slice_index starts cut) k block zeros)) (Live half right (take cut records))
  cut_block prefix half link right block zeros k has k_is zeros_is =
      let old : List ℕ = head_bytes (head_of (Live prefix link records)) in
      let new : List ℕ = head_bytes (head_with (LiveHead half right cut)) in
      let front : List ℕ = bytes_of (take cut records) in
      let back : List ℕ = bytes_of (drop cut records) in
      let start = slice_index starts cut in
      let short = length-bytes records has.sized in
      let size : length (bytes_of records) ≡ length front + length back = omega (arith, ap length bytes_parted, length-append front back) in
      let begun : take 4064 block ≡ padded 4064 ((old ++ front) ++ back) =
      has.content ∙ content_is (Live prefix link records) ∙ ap (λ (l : List ℕ). padded 4064 (old ++ l)) bytes_parted ∙ ap (padded 4064) (sym (append_assoc old front back)) in
      let long : length (old ++ front) ≡ start = omega (arith, length-append old front, length-head (Live prefix link records), cut_start) in
      let many : k ≡ length back = k_is ∙ cut_size in
      let was : put_mid start k block zeros ≡ take (length (old ++ front)) block ++ (replicate (length back) 0 ++ drop (length (old ++ front) + length back) block) =
      ap (λ (l : List ℕ). take start block ++ (l ++ drop k (drop start block))) zeros_is ∙ ap (λ (l : List ℕ). take start block ++ (replicate k 0 ++ l)) (drop-drop k start block)
      ∙ ap (λ (n : ℕ). take start block ++ (replicate n 0 ++ drop (start + n) block)) many ∙ ap (λ (n : ℕ). take n block ++ (replicate (length back) 0 ++ drop (n + length back) block)) (sym long) in
      let done = cleared block (old ++ front) back (put_mid start k block zeros) begun (omega (arith, long, cut_start, short, has.few, size)) was in
      let counted : cut ≡ length (take cut records) = sym (length-take-le cut records within) in
      live_content half right (take cut records) _ (omega (arith, has.few, within, counted)) (sized_front (take cut records) (drop cut records) (subst AreSized (sym (take-append-drop cut records)) has.sized))
      (headed (put_mid start k block zeros) old new front done (length-head (Live prefix link records)) (length-head_with (LiveHead half right cut)) (omega (arith, short, has.few, size))
      ∙ ap (λ (n : ℕ). padded 4064 (head_bytes (head_with (LiveHead half right n)) ++ front)) counted)

  -- the block of the others alone
  pub other_block : (prefix half : List Bool) (link right : Option ℕ) (block other run : List ℕ) (count : ℕ) → HasContent block (Live prefix link records) → count ≡ length (drop cut records) → run ≡ bytes_of (drop cut records)
      → take 4064 other ≡ padded 4064 (head_bytes (head_with (LiveHead half right count)) ++ run) → HasContent other (Live half right (drop cut records))
  other_block prefix half link right block other run count has count_is run_is is =
      live_content half right (drop cut records) other (omega (arith, has.few, length-drop cut records)) (sized_behind (take cut records) (drop cut records) (subst AreSized (sym (take-append-drop cut records)) has.sized))
      (is ∙ ap (λ (l : List ℕ). padded 4064 (head_bytes (head_with (LiveHead half right count)) ++ l)) run_is
      ∙ ap (λ (n : ℕ). padded 4064 (head_bytes (head_with (LiveHead half right n)) ++ bytes_of (drop cut records))) count_is)

-- ---- the records of two blocks, one after the other

pub united_block : (page twin : Page) (parent : List Bool) (link : Option ℕ) (block run copied : List ℕ) (start k count : ℕ) → HasContent block page → HasContent run twin → length (records_of page ++ records_of twin) ≤ 16
    → start ≡ 16 + length (bytes_of (records_of page)) → copied ≡ bytes_of (records_of twin) → k ≡ length (bytes_of (records_of twin)) → count ≡ length (records_of page) + length (records_of twin)
    → HasContent (head_bytes (head_with (LiveHead parent link count)) ++ drop 16 (put_mid start k block copied)) (Live parent link (records_of page ++ records_of twin))
united_block page twin parent link block run copied start k count has other room start_is copied_is k_is count_is =
    let old : List ℕ = head_bytes (head_of page) in
    let new : List ℕ = head_bytes (head_with (LiveHead parent link count)) in
    let front : List ℕ = bytes_of (records_of page) in
    let back : List ℕ = bytes_of (records_of twin) in
    let short = length-bytes (records_of page) has.sized in
    let more = length-bytes (records_of twin) other.sized in
    let many : length (records_of page ++ records_of twin) ≡ length (records_of page) + length (records_of twin) = length-append (records_of page) (records_of twin) in
    let long : length (old ++ front) ≡ start = omega (arith, length-append old front, length-head page, start_is) in
    let was : put_mid start k block copied ≡ take (length (old ++ front)) block ++ (back ++ drop (length (old ++ front) + length back) block) =
    ap (λ (l : List ℕ). take start block ++ (l ++ drop k (drop start block))) copied_is ∙ ap (λ (l : List ℕ). take start block ++ (back ++ l)) (drop-drop k start block ∙ ap (λ (n : ℕ). drop (start + n) block) k_is)
    ∙ ap (λ (n : ℕ). take n block ++ (back ++ drop (n + length back) block)) (sym long) in
    let done : take 4064 (put_mid start k block copied) ≡ padded 4064 (old ++ (front ++ back)) =
    appended block (old ++ front) back (put_mid start k block copied) (has.content ∙ content_is page) (omega (arith, long, start_is, short, more, room, many)) was ∙ ap (padded 4064) (append_assoc old front back) in
    live_content parent link (records_of page ++ records_of twin) _ room (sized_before (records_of page) (records_of twin) has.sized other.sized)
    (headed (put_mid start k block copied) old new (front ++ back) done (length-head page) (length-head_with (LiveHead parent link count)) (omega (arith, short, more, room, many, length-append front back))
    ∙ ap (λ (n : ℕ). padded 4064 (head_bytes (head_with (LiveHead parent link n)) ++ (front ++ back))) (count_is ∙ sym many)
    ∙ ap (λ (l : List ℕ). padded 4064 (head_bytes (head_with (LiveHead parent link (length (records_of page ++ records_of twin)))) ++ l)) (sym (bytes_of-append (records_of page) (records_of twin))))
