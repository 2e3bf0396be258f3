-- What is read of a block is the page that it was laid out for, or a test that it fails.
use Rattle.std.proofs.Common.{◌≡◌, ℕ, ◌+◌, ◌^◌, ◌-◌, ◌<◌, ◌≤◌, Bool, List, [], ◌∷◌, ◌++◌, length, map, replicate, take, drop, slice_index, slice_range, Result, Ok, Err, refl, sym, ap, ◌∙◌, subst, append_assoc, arith}
use Rattle.std.specs.List.{AllByRecursion, flat_map}
use Rattle.std.proofs.lemmas.List.{take-append-drop, take-take, drop-take, length-append, length-take-le, length-map, nil_from_length}
use Rattle.byteorder.specs.Numbers.{big_from-lt}
use Rattle.exh_page.specs.Bits.{word_bits}
use Rattle.exh_page.specs.Prefix.{Begins, HasPrefixUpTo, low_of}
use Rattle.exh_page.specs.PrefixLemmas.{low_of-up_to, length-up_to}
use Rattle.exh_page.specs.Version.{Version, Fits}
use Rattle.exh_page.specs.declared.page.Page.{Page}
use Rattle.exh_page.specs.declared.page.Page.TheVariants as pages
use Rattle.exh_page.specs.Page.{records_of}
use Rattle.exh_codec.specs.declared.head.Head.{Head}
use Rattle.exh_codec.specs.declared.image_fault.ImageFault.{ImageFault}
use Rattle.exh_codec.specs.declared.image_fault.ImageFault.TheVariants as faults
use Rattle.exh_codec.specs.declared.kind.Kind.{Kind}
use Rattle.exh_codec.specs.declared.kind.Kind.TheVariants.{Live, Forward}
use Rattle.exh_page.specs.KeyMap.{pair_of}
use Rattle.exh_codec.specs.Cells.{Pair, IsSizedPair, AreCells, pair_image}
use Rattle.exh_codec.specs.Head.{head_of, head_bytes, link_number, IsReadHead, page_kind_byte}
use Rattle.exh_codec.specs.ImageTests.{record_of, HasCells, HasPageKind, HasLengths, IsPaddedPage, HasBound, HasRisingRecords, IsOfKind, Passes, IsFirst, content_tests, prefix_len_of, low_in}
use Rattle.exh_codec.specs.PageImage.{IsLaidOut, content_of, used_of}
use Rattle.exh_codec.specs.ReadPages.{BeginsPairs, IsReadLivePage, GivesLive, HasLow, GivesForward, GivesPage}
use Rattle.exh_codec.specs.Block.{AreZero}
use Rattle.exh_codec.proofs.HeadReading.{AreBytes, AreBytes-drop, head_back}
use Rattle.exh_codec.proofs.LowBytes.{low_in-eight}
use Rattle.exh_codec.proofs.PairImages.{same_cells}
use Rattle.exh_codec.proofs.Rising.{pairs_of_records}
use Rattle.exh_codec.proofs.UsedBytes.{link_in_range}

-- what is read of a block before its page is
pub record IsReadBlock (version : Version) (block : List ℕ) (head : Head) (pairs : List Pair) (rest : List ℕ) : Type 0 where
  pub len : length block ≡ 4096
  pub fits : AreBytes block
  pub says : IsReadHead block head
  pub few : head.count ≤ 16
  pub forward : head.kind ≡ Forward → head.count ≡ 0
  pub cells : AreCells head.count (drop 16 (take 4064 block)) pairs rest
  pub fourth : slice_index block 3 ≡ 0
  pub padding : AreZero (slice_range block (8 + version.bytes) 16)
  pub zeros : AreZero rest

zeros_from : (rest : List ℕ) → AreZero rest → rest ≡ replicate (length rest) 0
zeros_from [] zeros = refl
zeros_from (byte ∷ rest) zeros = ap (λ (b : ℕ). b ∷ rest) zeros.0 ∙ ap (λ (bytes : List ℕ). 0 ∷ bytes) (zeros_from rest zeros.1)

module _ (version : Version) (fits : Fits 8 version) where
  -- the block's content is that of a page with this head and these pairs
  content_back : (block : List ℕ) (head : Head) (pairs : List Pair) (rest : List ℕ) (page : Page) → IsReadBlock version block head pairs rest → head_of page ≡ head → map pair_of (records_of page) ≡ pairs
      → take 4064 block ≡ content_of page
  unfolding content_of
  content_back block head pairs rest page read heads same =
      let front : take 16 (take 4064 block) ≡ head_bytes head = take-take 16 4064 block (omega arith) ∙ head_back block head (omega (arith, read.len)) read.fits read.says read.fourth in
      let parts : take 4064 block ≡ (head_bytes head ++ flat_map pair_image pairs) ++ rest =
      sym (take-append-drop 16 (take 4064 block)) ∙ ap (λ (bytes : List ℕ). bytes ++ drop 16 (take 4064 block)) front
      ∙ ap (λ (bytes : List ℕ). head_bytes head ++ bytes) read.cells.whole ∙ sym (append_assoc (head_bytes head) (flat_map pair_image pairs) rest) in
      let used : head_bytes head ++ flat_map pair_image pairs ≡ used_of page =
      ap (λ (h : Head). head_bytes h ++ flat_map pair_image pairs) (sym heads) ∙ ap (λ (p : List Pair). head_bytes (head_of page) ++ flat_map pair_image p) (sym same) in
      let whole : take 4064 block ≡ used_of page ++ rest = parts ∙ ap (λ (bytes : List ℕ). bytes ++ rest) used in
      let left : length rest ≡ 4064 - length (used_of page) =
      omega (arith, ap length whole, length-append (used_of page) rest, length-take-le 4064 block (omega (arith, read.len))) in
      whole ∙ ap (λ (bytes : List ℕ). used_of page ++ bytes) (zeros_from rest read.zeros ∙ ap (λ (n : ℕ). replicate n 0) left)

  link_below : (block : List ℕ) (head : Head) (pairs : List Pair) (rest : List ℕ) → IsReadBlock version block head pairs rest → head.link < 2 ^ 32
  link_below block head pairs rest read = subst (λ (n : ℕ). n < 2 ^ 32) read.says.link (big_from-lt 0 4 (drop 4 block) (AreBytes-drop 4 block read.fits))

  low_below : (block : List ℕ) (head : Head) (pairs : List Pair) (rest : List ℕ) → IsReadBlock version block head pairs rest → head.low < 2 ^ 64
  low_below block head pairs rest read = subst (λ (n : ℕ). n < 2 ^ 64) read.says.low (big_from-lt 0 8 (drop 8 block) (AreBytes-drop 8 block read.fits))

  -- the low bound that the version's bytes say is the head's
  pub low_said : (block : List ℕ) (head : Head) (pairs : List Pair) (rest : List ℕ) → IsReadBlock version block head pairs rest → low_in version block ≡ head.low
  low_said block head pairs rest read = low_in-eight version fits block (omega (arith, read.len)) read.padding ∙ read.says.low

  hashed_records : (pseudo : List ℕ → ℕ) (pairs : List Pair) → AllByRecursion (λ r. r.pseudokey ≡ pseudo r.key) (map (record_of pseudo) pairs)
  hashed_records pseudo [] = tt
  hashed_records pseudo (pair ∷ pairs) = (refl, hashed_records pseudo pairs)

  begun_records : (pseudo : List ℕ → ℕ) (prefix : List Bool) (pairs : List Pair) → AllByRecursion (λ pair. Begins prefix (pseudo pair.0)) pairs
      → AllByRecursion (λ r. Begins prefix r.pseudokey) (map (record_of pseudo) pairs)
  begun_records pseudo prefix [] begun = tt
  begun_records pseudo prefix (pair ∷ pairs) begun = (begun.0, begun_records pseudo prefix pairs begun.1)

  pub live_laid : (pseudo : List ℕ → ℕ) (block : List ℕ) (head : Head) (pairs : List Pair) (rest : List ℕ) (page : Page) → IsReadBlock version block head pairs rest → head.kind ≡ Live
      → IsReadLivePage version pseudo head pairs page → IsLaidOut version pseudo page block
  live_laid pseudo block head pairs rest page read kind live =
      let link_fits = link_below block head pairs rest read in
      let low_fits = low_below block head pairs rest read in
      let prefix = take head.prefix_len (word_bits head.low) in
      let records = map (record_of pseudo) pairs in
      let stored = live.begins.prefix in
      let word : version.limit ≤ 64 = omega (arith, fits.limit, fits.bytes) in
      let len : length prefix ≡ head.prefix_len = length-up_to version.limit head.prefix_len head.low word stored in
      let low : low_of prefix ≡ head.low = low_of-up_to version.limit head.prefix_len head.low word low_fits stored in
      let count : length records ≡ head.count = length-map pairs (record_of pseudo) ∙ read.cells.all in
      let heads : head_of (pages.Live prefix live.right records) ≡ head =
      ap (λ (n : ℕ). record { kind = Live; prefix_len = n; count = length records; link = link_number live.right; low = low_of prefix }) len
      ∙ ap (λ (n : ℕ). record { kind = Live; prefix_len = head.prefix_len; count = n; link = link_number live.right; low = low_of prefix }) count
      ∙ ap (λ (n : ℕ). record { kind = Live; prefix_len = head.prefix_len; count = head.count; link = n; low = low_of prefix }) live.link
      ∙ ap (λ (n : ℕ). record { kind = Live; prefix_len = head.prefix_len; count = head.count; link = head.link; low = n }) low
      ∙ ap (λ (k : Kind). record { kind = k; prefix_len = head.prefix_len; count = head.count; link = head.link; low = head.low }) (sym kind) in
      let same = pairs_of_records pseudo pairs in
      let laid : IsLaidOut version pseudo (pages.Live prefix live.right records) block = record {
        valid = record {
          in_range = (omega (arith, len, stored.0), link_in_range live.right (subst (λ (n : ℕ). n < 2 ^ 32) (sym live.link) link_fits), subst (AllByRecursion IsSizedPair) (sym same) read.cells.sized);
          formed = (
            record { rising = live.rising; hashed = hashed_records pseudo pairs; begun = begun_records pseudo prefix pairs live.begins.begun },
            omega (arith, count, read.few),
            live.named,
          );
        };
        content = content_back block head pairs rest (pages.Live prefix live.right records) read heads same;
      } in
      subst (λ (p : Page). IsLaidOut version pseudo p block) (sym live.is) laid

  pub forward_laid : (pseudo : List ℕ → ℕ) (block : List ℕ) (head : Head) (pairs : List Pair) (rest : List ℕ) → IsReadBlock version block head pairs rest → head.kind ≡ Forward
      → HasLow version head → IsLaidOut version pseudo (pages.Forward head.low head.link) block
  forward_laid pseudo block head pairs rest read kind low =
      let link_fits = link_below block head pairs rest read in
      let low_fits = low_below block head pairs rest read in
      let none : head.count ≡ 0 = read.forward kind in
      let heads : head_of (pages.Forward head.low head.link) ≡ head =
      ap (λ (n : ℕ). record { kind = Forward; prefix_len = n; count = 0; link = head.link; low = head.low }) (sym low.none)
      ∙ ap (λ (n : ℕ). record { kind = Forward; prefix_len = head.prefix_len; count = n; link = head.link; low = head.low }) (sym none)
      ∙ ap (λ (k : Kind). record { kind = k; prefix_len = head.prefix_len; count = head.count; link = head.link; low = head.low }) (sym kind) in
      record {
        valid = record { in_range = (low_fits, link_fits); formed = (low.some, low.limit) };
        content = content_back block head pairs rest (pages.Forward head.low head.link) read heads (sym (nil_from_length pairs (omega (arith, read.cells.all, none))));
      }

  -- ---- what was tested

  cells_in_block : (block : List ℕ) (head : Head) (pairs : List Pair) (rest : List ℕ) → IsReadBlock version block head pairs rest → HasCells block pairs rest
  cells_in_block block head pairs rest read = subst (λ (n : ℕ). AreCells n (drop 16 (take 4064 block)) pairs rest) (sym read.says.count) read.cells

  read_kind : (block : List ℕ) (head : Head) → IsReadHead block head → HasPageKind block
  read_kind block head read = (head.kind, read.kind)

  kind_said : (block : List ℕ) (head : Head) (kind : Kind) → IsReadHead block head → IsOfKind kind block → page_kind_byte head.kind ≡ page_kind_byte kind
  kind_said block head kind read is = sym read.kind ∙ is

  forward_said : (kind : Kind) → page_kind_byte kind ≡ 2 → kind ≡ Forward
  forward_said Live is = absurd (omega (arith, is))
  forward_said Forward is = refl

  read_lengths : (block : List ℕ) (head : Head) (pairs : List Pair) (rest : List ℕ) → IsReadHead block head → head.count ≤ 16 → (head.kind ≡ Forward → head.count ≡ 0) → HasCells block pairs rest → HasLengths block
  read_lengths block head pairs rest read few forward cells = record {
    few = omega (arith, read.count, few);
    forward = λ is. read.count ∙ forward (forward_said head.kind (sym read.kind ∙ is));
    cells = (pairs, rest, cells);
  }

  read_padded : (block : List ℕ) (head : Head) (pairs : List Pair) (rest : List ℕ) → IsReadBlock version block head pairs rest → IsPaddedPage version block
  read_padded block head pairs rest read = record {
    fourth = read.fourth;
    head = read.padding;
    tail = λ others after cells. subst AreZero (same_cells _ _ pairs others rest after (cells_in_block block head pairs rest read) cells).1 read.zeros;
  }

  pub kind_first : (pseudo : List ℕ → ℕ) (block : List ℕ) → ((kind : Kind) → slice_index block 0 ≡ page_kind_byte kind → ⊥) → IsFirst (Passes version pseudo block) content_tests faults.Kind
  kind_first pseudo block none = record {
    before = [];
    after = faults.Length ∷ faults.Padding ∷ faults.Prefix ∷ faults.Order ∷ [];
    stands = refl;
    passed = tt;
    fails = λ (kind, is). none kind is;
  }

  pub length_first : (pseudo : List ℕ → ℕ) (block : List ℕ) (head : Head) → IsReadHead block head
      → (head.count ≤ 16 → (head.kind ≡ Forward → head.count ≡ 0) → (pairs : List Pair) (rest : List ℕ) → AreCells head.count (take 4048 (drop 16 block)) pairs rest → ⊥)
      → IsFirst (Passes version pseudo block) content_tests faults.Length
  length_first pseudo block head read none = record {
    before = faults.Kind ∷ [];
    after = faults.Padding ∷ faults.Prefix ∷ faults.Order ∷ [];
    stands = refl;
    passed = (read_kind block head read, tt);
    fails = λ lengths.
        none (omega (arith, read.count, lengths.few)) (λ is. sym read.count ∙ lengths.forward (read.kind ∙ ap page_kind_byte is)) lengths.cells.0 lengths.cells.1
        (subst (λ (bytes : List ℕ). AreCells head.count bytes lengths.cells.0 lengths.cells.1) (drop-take 16 4048 block)
        (subst (λ (n : ℕ). AreCells n (drop 16 (take 4064 block)) lengths.cells.0 lengths.cells.1) read.count lengths.cells.2));
  }

  pub body_cells : (block : List ℕ) (head : Head) (pairs : List Pair) (rest : List ℕ) → IsReadHead block head → AreCells head.count (take 4048 (drop 16 block)) pairs rest → HasCells block pairs rest
  body_cells block head pairs rest read cells =
      subst (λ (n : ℕ). AreCells n (drop 16 (take 4064 block)) pairs rest) (sym read.count) (subst (λ (bytes : List ℕ). AreCells head.count bytes pairs rest) (sym (drop-take 16 4048 block)) cells)

  pub padding_first : (pseudo : List ℕ → ℕ) (block : List ℕ) (head : Head) (pairs : List Pair) (rest : List ℕ) → IsReadHead block head → head.count ≤ 16 → (head.kind ≡ Forward → head.count ≡ 0)
      → AreCells head.count (take 4048 (drop 16 block)) pairs rest → (IsPaddedPage version block → ⊥) → IsFirst (Passes version pseudo block) content_tests faults.Padding
  padding_first pseudo block head pairs rest read few forward cells fails = record {
    before = faults.Kind ∷ faults.Length ∷ [];
    after = faults.Prefix ∷ faults.Order ∷ [];
    stands = refl;
    passed = (read_kind block head read, (read_lengths block head pairs rest read few forward (body_cells block head pairs rest read cells), tt));
    fails = fails;
  }

  passed_so_far : (pseudo : List ℕ → ℕ) (block : List ℕ) (head : Head) (pairs : List Pair) (rest : List ℕ) → IsReadBlock version block head pairs rest
      → AllByRecursion (Passes version pseudo block) (faults.Kind ∷ faults.Length ∷ faults.Padding ∷ [])
  passed_so_far pseudo block head pairs rest read =
      (read_kind block head read.says, (read_lengths block head pairs rest read.says read.few read.forward (cells_in_block block head pairs rest read), (read_padded block head pairs rest read, tt)))

  prefix_first : (pseudo : List ℕ → ℕ) (block : List ℕ) (head : Head) (pairs : List Pair) (rest : List ℕ) → IsReadBlock version block head pairs rest → (HasBound version pseudo block → ⊥)
      → IsFirst (Passes version pseudo block) content_tests faults.Prefix
  prefix_first pseudo block head pairs rest read fails = record {
    before = faults.Kind ∷ faults.Length ∷ faults.Padding ∷ [];
    after = faults.Order ∷ [];
    stands = refl;
    passed = passed_so_far pseudo block head pairs rest read;
    fails = fails;
  }

  order_first : (pseudo : List ℕ → ℕ) (block : List ℕ) (head : Head) (pairs : List Pair) (rest : List ℕ) → IsReadBlock version block head pairs rest → HasBound version pseudo block → (HasRisingRecords pseudo block → ⊥)
      → IsFirst (Passes version pseudo block) content_tests faults.Order
  order_first pseudo block head pairs rest read bound fails =
      let passed = passed_so_far pseudo block head pairs rest read in
      record {
        before = faults.Kind ∷ faults.Length ∷ faults.Padding ∷ faults.Prefix ∷ [];
        after = [];
        stands = refl;
        passed = (passed.0, (passed.1.0, (passed.1.1.0, (bound, tt))));
        fails = fails;
      }

  -- the pairs that the head's prefix begins are those of the block, and the other way round
  begins_block : (pseudo : List ℕ → ℕ) (block : List ℕ) (head : Head) (pairs : List Pair) (rest : List ℕ) → IsReadBlock version block head pairs rest → head.kind ≡ Live → BeginsPairs version pseudo head pairs → HasBound version pseudo block
  begins_block pseudo block head pairs rest read kind begins =
      let len = sym read.says.prefix_len in
      let low = sym (low_said block head pairs rest read) in
      let bits : take head.prefix_len (word_bits head.low) ≡ take (prefix_len_of block) (word_bits (low_in version block)) =
      ap (λ (n : ℕ). take n (word_bits head.low)) len ∙ ap (λ (n : ℕ). take (prefix_len_of block) (word_bits n)) low in
      let Begun : List Bool → List Pair → Type 0 = λ p others. AllByRecursion (λ (pair : Pair). Begins p (pseudo pair.0)) others in (
        λ _. record {
          prefix = subst (λ (n : ℕ). HasPrefixUpTo version.limit (prefix_len_of block) n) low (subst (λ (n : ℕ). HasPrefixUpTo version.limit n head.low) len begins.prefix);
          begun = λ others after cells. subst (Begun (take (prefix_len_of block) (word_bits (low_in version block))))
              (same_cells _ _ pairs others rest after (cells_in_block block head pairs rest read) cells).0 (subst (λ (p : List Bool). Begun p pairs) bits begins.begun);
        },
        λ forward. absurd (omega (arith, read.says.kind, forward, ap page_kind_byte kind)),
      )

  pub begins_back : (pseudo : List ℕ → ℕ) (block : List ℕ) (head : Head) (pairs : List Pair) (rest : List ℕ) → IsReadBlock version block head pairs rest → head.kind ≡ Live → HasBound version pseudo block → BeginsPairs version pseudo head pairs
  begins_back pseudo block head pairs rest read kind bound =
      let len = read.says.prefix_len in
      let low = low_said block head pairs rest read in
      let begun = bound.0 (read.says.kind ∙ ap page_kind_byte kind) in
      let bits : take (prefix_len_of block) (word_bits (low_in version block)) ≡ take head.prefix_len (word_bits head.low) =
      ap (λ (n : ℕ). take n (word_bits (low_in version block))) len ∙ ap (λ (n : ℕ). take head.prefix_len (word_bits n)) low in
      record {
        prefix = subst (λ (n : ℕ). HasPrefixUpTo version.limit head.prefix_len n) low (subst (λ (n : ℕ). HasPrefixUpTo version.limit n (low_in version block)) len begun.prefix);
        begun = subst (λ (p : List Bool). AllByRecursion (λ (pair : Pair). Begins p (pseudo pair.0)) pairs) bits (begun.begun pairs rest (cells_in_block block head pairs rest read));
      }

  pub live_gives : (pseudo : List ℕ → ℕ) (block : List ℕ) (head : Head) (pairs : List Pair) (rest : List ℕ) (result : Result Page ImageFault) → IsReadBlock version block head pairs rest → head.kind ≡ Live
      → GivesLive version pseudo head pairs result → GivesPage version pseudo block result
  live_gives pseudo block head pairs rest (Ok page) read kind gives = live_laid pseudo block head pairs rest page read kind gives
  live_gives pseudo block head pairs rest (Err faults.Memory) read kind gives = tt
  live_gives pseudo block head pairs rest (Err faults.Prefix) read kind gives =
      prefix_first pseudo block head pairs rest read (λ bound. gives (begins_back pseudo block head pairs rest read kind bound))
  live_gives pseudo block head pairs rest (Err faults.Order) read kind gives =
      order_first pseudo block head pairs rest read (begins_block pseudo block head pairs rest read kind gives.0)
      (λ ordered. gives.1 (ordered pairs rest (cells_in_block block head pairs rest read)))
  live_gives pseudo block head pairs rest (Err faults.Kind) read kind gives = absurd gives
  live_gives pseudo block head pairs rest (Err faults.Length) read kind gives = absurd gives
  live_gives pseudo block head pairs rest (Err faults.Padding) read kind gives = absurd gives
  live_gives pseudo block head pairs rest (Err faults.Digest) read kind gives = absurd gives

  pub forward_gives : (pseudo : List ℕ → ℕ) (block : List ℕ) (head : Head) (pairs : List Pair) (rest : List ℕ) (result : Result Page ImageFault) → IsReadBlock version block head pairs rest → head.kind ≡ Forward
      → GivesForward version head result → GivesPage version pseudo block result
  forward_gives pseudo block head pairs rest (Ok page) read kind gives = subst (λ (p : Page). IsLaidOut version pseudo p block) (sym gives.1) (forward_laid pseudo block head pairs rest read kind gives.0)
  forward_gives pseudo block head pairs rest (Err faults.Prefix) read kind gives =
      prefix_first pseudo block head pairs rest read (λ bound.
      let low = bound.1 (read.says.kind ∙ ap page_kind_byte kind) in
      gives (record { none = sym read.says.prefix_len ∙ low.none; some = λ none. low.some (low_said block head pairs rest read ∙ none); limit = subst (HasPrefixUpTo version.limit version.limit) (low_said block head pairs rest read) low.limit }))
  forward_gives pseudo block head pairs rest (Err faults.Memory) read kind gives = absurd gives
  forward_gives pseudo block head pairs rest (Err faults.Order) read kind gives = absurd gives
  forward_gives pseudo block head pairs rest (Err faults.Kind) read kind gives = absurd gives
  forward_gives pseudo block head pairs rest (Err faults.Length) read kind gives = absurd gives
  forward_gives pseudo block head pairs rest (Err faults.Padding) read kind gives = absurd gives
  forward_gives pseudo block head pairs rest (Err faults.Digest) read kind gives = absurd gives

  -- what is known of a block whose padding was tested
  pub padding_read : (block : List ℕ) (head : Head) (pairs : List Pair) (rest : List ℕ) → length block ≡ 4096 → AreBytes block → IsReadHead block head → head.count ≤ 16 → (head.kind ≡ Forward → head.count ≡ 0)
      → AreCells head.count (take 4048 (drop 16 block)) pairs rest → slice_index block 3 ≡ 0 → AreZero (slice_range block (8 + version.bytes) 16) → AreZero rest → IsReadBlock version block head pairs rest
  padding_read block head pairs rest len small says few forward cells fourth padding zeros = record {
    len = len;
    fits = small;
    says = says;
    few = few;
    forward = forward;
    cells = cells_of_body block head.count pairs rest cells;
    fourth = fourth;
    padding = padding;
    zeros = zeros;
  }
    where
      cells_of_body : (block : List ℕ) (count : ℕ) (pairs : List Pair) (rest : List ℕ) → AreCells count (take 4048 (drop 16 block)) pairs rest → AreCells count (drop 16 (take 4064 block)) pairs rest
      cells_of_body block count pairs rest cells = subst (λ (bytes : List ℕ). AreCells count bytes pairs rest) (sym (drop-take 16 4048 block)) cells
