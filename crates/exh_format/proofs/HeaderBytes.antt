-- The bytes of a header, from its fields and back.
use Rattle.std.proofs.Common.{◌≡◌, ℕ, zero, suc, ◌+◌, ◌*◌, ◌-◌, ◌^◌, ◌<◌, ◌≤◌, List, [], ◌∷◌, ◌++◌, length, take, drop, slice_index, refl, sym, ap, ◌∙◌, append_assoc, codes, arith}
use borrow.Rule.Slice.PartMut.{put_mid}
use Rattle.std.proofs.Math.Seq.{take-add}
use Rattle.std.proofs.lemmas.List.{take_at, drop_at, drop-drop, length-append, length-drop, length-take-le, get_or-take}
use Rattle.std.proofs.lemmas.Nat.{pow_below}
use Rattle.std.specs.List.{AllByRecursion, flat_map}
use Rattle.byteorder.specs.Endian.{big_bytes, big_from}
use Rattle.byteorder.specs.Numbers.{big_from-take, big_number-reads_back}
use Rattle.exh_keyer.specs.declared.any_keyer.AnyKeyer.{AnyKeyer}
use Rattle.exh_keyer.specs.declared.any_keyer.AnyKeyer.TheVariants.{Plain, Sha}
use Rattle.exh_legal.specs.NoticeByteLemmas.{items_all, items-drop, items-add, items-agree, bytes_of_number, big_from-drop}
use Rattle.exh_legal.specs.NoticeImages.{items}
use Rattle.exh_codec.specs.Block.{AreZero}
use Rattle.exh_format.specs.declared.header.Header.{Header}
use Rattle.exh_format.specs.FileVersion.{FileVersion, FitsFile}
use Rattle.exh_legal.specs.Keyers.{keyer_byte}
use Rattle.exh_format.specs.HeaderImage.{IsHeader, IsPageCount, front_bytes, header_bytes}
use Rattle.exh_format.specs.HeaderTests.{HasMagic, IsOfVersion, IsReadHeader}
use Rattle.exh_prefix.specs.PrefixListLemmas.{AllByRecursion-weaker}
use Rattle.exh_format.proofs.BlockElements.{all_parts, same_items}

-- bytes are put in front, and then others behind them
pub put_behind : (front block back : List ℕ) (n k : ℕ) → length front ≡ n → put_mid n k (front ++ drop n block) back ≡ (front ++ back) ++ drop (n + k) block
put_behind front block back n k len =
    let rest = drop n block in
    ap (λ (taken : List ℕ). taken ++ (back ++ drop k (drop n (front ++ rest)))) (take_at front rest n len)
    ∙ ap (λ (dropped : List ℕ). front ++ (back ++ drop k dropped)) (drop_at front rest n len)
    ∙ ap (λ (rest : List ℕ). front ++ (back ++ rest)) (drop-drop k n block)
    ∙ sym (append_assoc front back (drop (n + k) block))

-- and the next behind what stands there
pub put_next : (front back block written : List ℕ) (n e k : ℕ) → e ≡ n → k ≡ 16 → length front ≡ n → written ≡ front ++ drop n block → put_mid e k written back ≡ (front ++ back) ++ drop (n + 16) block
put_next front back block written n e k end size len is = (λ i. put_mid (end i) (size i) (is i) back) ∙ put_behind front block back n 16 len

-- ---- lengths

pub length-front_bytes : (version : FileVersion) (header : Header) → length (front_bytes version header) ≡ 20
unfolding front_bytes
length-front_bytes version header = refl

length-counts : (counts : List ℕ) → length (flat_map (big_bytes 4) counts) ≡ 4 * length counts
length-counts [] = refl
length-counts (count ∷ counts) = omega (arith, length-append (big_bytes 4 count) (flat_map (big_bytes 4) counts), length-counts counts)

pub length-header_bytes : (version : FileVersion) (header : Header) → length header.page_counts ≡ 16 → length (header_bytes version header) ≡ 84
length-header_bytes version header counts =
    omega (arith, length-append (front_bytes version header) (flat_map (big_bytes 4) header.page_counts), length-front_bytes version header, length-counts header.page_counts, counts)

-- ---- from the fields to the bytes

counts_read : (counts tail : List ℕ) → AllByRecursion (λ count. count < 2 ^ 32) counts → (ward : ℕ) → ward < length counts
    → big_from (4 * ward) 4 (flat_map (big_bytes 4) counts ++ tail) ≡ slice_index counts ward
counts_read [] tail small ward within = absurd (omega arith)
counts_read (count ∷ counts) tail small zero within = big_number-reads_back 4 count (flat_map (big_bytes 4) counts ++ tail) small.0
counts_read (count ∷ counts) tail small (suc ward) within =
    let place : 4 * suc ward ≡ 4 + 4 * ward = omega arith in
    let bytes = flat_map (big_bytes 4) (count ∷ counts) ++ tail in
    ap (λ (place : ℕ). big_from place 4 bytes) place ∙ sym (big_from-drop 4 (4 * ward) 4 bytes) ∙ counts_read counts tail small.1 ward (omega arith)

pub magic_said : (version : FileVersion) (header : Header) (tail : List ℕ) → HasMagic (front_bytes version header ++ tail)
unfolding front_bytes
magic_said version header tail = refl

pub version_said : (version : FileVersion) (header : Header) (tail : List ℕ) → version.number < 2 ^ 16 → IsOfVersion version (front_bytes version header ++ tail)
unfolding front_bytes
version_said version header tail small =
    sym (big_from-drop 8 0 2 (front_bytes version header ++ tail))
    ∙ big_number-reads_back 2 version.number (header.settings.cap ∷ header.settings.ward_bits ∷ keyer_byte header.settings.keyer ∷ 0 ∷ 0 ∷ 0 ∷ (big_bytes 4 header.entry_count ++ tail)) small

pub zeros_said : (version : FileVersion) (header : Header) (tail : List ℕ) → AreZero (items 13 3 (front_bytes version header ++ tail))
unfolding front_bytes
zeros_said version header tail = (refl, (refl, (refl, tt)))

entries_said : (version : FileVersion) (header : Header) (tail : List ℕ) → header.entry_count < 2 ^ 32 → big_from 16 4 (front_bytes version header ++ tail) ≡ header.entry_count
unfolding front_bytes
entries_said version header tail small = sym (big_from-drop 16 0 4 (front_bytes version header ++ tail)) ∙ big_number-reads_back 4 header.entry_count tail small

cap_said : (version : FileVersion) (header : Header) (tail : List ℕ) → slice_index (front_bytes version header ++ tail) 10 ≡ header.settings.cap
unfolding front_bytes
cap_said version header tail = refl

ward_bits_said : (version : FileVersion) (header : Header) (tail : List ℕ) → slice_index (front_bytes version header ++ tail) 11 ≡ header.settings.ward_bits
unfolding front_bytes
ward_bits_said version header tail = refl

keyer_said : (version : FileVersion) (header : Header) (tail : List ℕ) → slice_index (front_bytes version header ++ tail) 12 ≡ keyer_byte header.settings.keyer
unfolding front_bytes
keyer_said version header tail = refl

small_counts : (version : FileVersion) (header : Header) → FitsFile version → IsHeader version header → AllByRecursion (λ count. count < 2 ^ 32) header.page_counts
small_counts version header fits valid =
    let power : 2 ^ (version.images.limit - header.settings.ward_bits) < 2 ^ 32 = pow_below (version.images.limit - header.settings.ward_bits) 32 (omega (arith, fits.limit)) in
    all_parts (λ (count : ℕ). count < 2 ^ 32) (2 ^ header.settings.ward_bits) header.page_counts
    (AllByRecursion-weaker (IsPageCount version.images.limit header.settings.ward_bits) (λ (count : ℕ). count < 2 ^ 32) (λ count is. omega (arith, is.1, power)) (take (2 ^ header.settings.ward_bits) header.page_counts) valid.pages)
    (AllByRecursion-weaker (λ (count : ℕ). count ≡ 0) (λ (count : ℕ). count < 2 ^ 32) (λ count is. omega (arith, is)) (drop (2 ^ header.settings.ward_bits) header.page_counts) valid.others)

-- what a block says that begins with a header's bytes
pub header_said : (version : FileVersion) (header : Header) (tail : List ℕ) → FitsFile version → IsHeader version header
    → IsReadHeader (front_bytes version header ++ (flat_map (big_bytes 4) header.page_counts ++ tail)) header
header_said version header tail fits valid =
    let counts = flat_map (big_bytes 4) header.page_counts in
    let block = front_bytes version header ++ (counts ++ tail) in
    let rest : drop 20 block ≡ counts ++ tail = drop_at (front_bytes version header) (counts ++ tail) 20 (length-front_bytes version header) in
    let small : header.entry_count < 2 ^ 32 = omega (arith, valid.entries, pow_below version.images.limit 32 fits.limit) in
    record {
      cap = cap_said version header (counts ++ tail);
      ward_bits = ward_bits_said version header (counts ++ tail);
      keyer = keyer_said version header (counts ++ tail);
      entries = entries_said version header (counts ++ tail) small;
      counts = λ ward within. sym (big_from-drop 20 (4 * ward) 4 block) ∙ ap (big_from (4 * ward) 4) rest
          ∙ counts_read header.page_counts tail (small_counts version header fits valid) ward (omega (arith, within, valid.counts));
    }

-- ---- from the bytes to the fields

-- a number that is read from a part of a block
pub number_in : (i m n : ℕ) (block : List ℕ) → n ≤ m → big_from 0 n (take m (drop i block)) ≡ big_from i n block
number_in i m n block within =
    let place : i + 0 ≡ i = omega arith in
    big_from-take 0 n m (drop i block) (omega (arith, within)) ∙ big_from-drop i 0 n block ∙ ap (λ (place : ℕ). big_from place n block) place

-- a count that is read from the bytes of all counts
pub count_read : (block : List ℕ) (ward : ℕ) → ward < 16 → big_from 0 4 (drop (4 * ward) (take 64 (drop 20 block))) ≡ big_from (20 + 4 * ward) 4 block
count_read block ward within =
    let place : 20 + (4 * ward + 0) ≡ 20 + 4 * ward = omega arith in
    big_from-drop (4 * ward) 0 4 (take 64 (drop 20 block)) ∙ big_from-take (4 * ward + 0) 4 64 (drop 20 block) (omega (arith, within))
    ∙ big_from-drop 20 (4 * ward + 0) 4 block ∙ ap (λ (place : ℕ). big_from place 4 block) place

front_items : (n : ℕ) (bytes : List ℕ) → n ≤ length bytes → take n bytes ≡ items 0 n bytes
front_items n bytes long =
    sym (items_all n (take n bytes) (length-take-le n bytes long)) ∙ items-agree 0 n n (take n bytes) bytes (omega arith) (λ k within. get_or-take n bytes k 0 within)

part_items : (m n : ℕ) (bytes : List ℕ) → m + n ≤ length bytes → take n (drop m bytes) ≡ items m n bytes
part_items m n bytes long =
    let place : m + 0 ≡ m = omega arith in
    front_items n (drop m bytes) (omega (arith, length-drop m bytes, long)) ∙ items-drop m 0 n bytes ∙ ap (λ (place : ℕ). items place n bytes) place

front_back : (version : FileVersion) (header : Header) (block : List ℕ) → 20 ≤ length block → ((k : ℕ) → slice_index block k < 256)
    → HasMagic block → IsOfVersion version block → IsReadHeader block header → AreZero (items 13 3 block) → take 20 block ≡ front_bytes version header
unfolding front_bytes
front_back version header block long small magic is_of_version read zeros =
    let number : items 8 2 block ≡ big_bytes 2 version.number = sym (bytes_of_number 8 2 block small) ∙ ap (big_bytes 2) is_of_version in
    let entries : items 16 4 block ≡ big_bytes 4 header.entry_count = sym (bytes_of_number 16 4 block small) ∙ ap (big_bytes 4) read.entries in
    take-add 8 12 block ∙ (λ i. magic i ++ part_items 8 12 block long i)
    ∙ (λ i. codes "EXHASHPF" ++ (number i ++ read.cap i ∷ read.ward_bits i ∷ read.keyer i ∷ zeros.0 i ∷ zeros.1.0 i ∷ zeros.1.1.0 i ∷ entries i))

counts_back : (counts : List ℕ) (i : ℕ) (block : List ℕ) → ((k : ℕ) → slice_index block k < 256)
    → ((ward : ℕ) → ward < length counts → big_from (i + 4 * ward) 4 block ≡ slice_index counts ward) → items i (4 * length counts) block ≡ flat_map (big_bytes 4) counts
counts_back [] i block small read = refl
counts_back (count ∷ counts) i block small read =
    let many : 4 * suc (length counts) ≡ 4 + 4 * length counts = omega arith in
    let here : i ≡ i + 4 * 0 = omega arith in
    let number : big_from i 4 block ≡ count = ap (λ (place : ℕ). big_from place 4 block) here ∙ read 0 (omega arith) in
    let first : items i 4 block ≡ big_bytes 4 count = sym (bytes_of_number i 4 block small) ∙ ap (big_bytes 4) number in
    let others = counts_back counts (i + 4) block small (λ ward within.
    let place : i + 4 + 4 * ward ≡ i + 4 * suc ward = omega arith in
    ap (λ (place : ℕ). big_from place 4 block) place ∙ read (suc ward) (omega (arith, within))) in
    ap (λ (n : ℕ). items i n block) many ∙ items-add i 4 (4 * length counts) block ∙ (λ j. first j ++ others j)

-- the first bytes of a block that says a header are the header's
pub header_back : (version : FileVersion) (header : Header) (block : List ℕ) → 84 ≤ length block → ((k : ℕ) → slice_index block k < 256) → length header.page_counts ≡ 16
    → HasMagic block → IsOfVersion version block → IsReadHeader block header → AreZero (items 13 3 block) → take 84 block ≡ header_bytes version header
header_back version header block long small sixteen magic is_of_version read zeros =
    let many : 84 ≡ 20 + 4 * length header.page_counts = omega (arith, sixteen) in
    let front = front_back version header block (omega (arith, long)) small magic is_of_version read zeros in
    let counts = counts_back header.page_counts 20 block small (λ ward within. read.counts ward (omega (arith, within, sixteen))) in
    ap (λ (n : ℕ). take n block) many ∙ take-add 20 (4 * length header.page_counts) block
    ∙ (λ i. front i ++ (part_items 20 (4 * length header.page_counts) block (omega (arith, long, sixteen)) ∙ counts) i)

-- ---- one header

same_keyer : (one other : AnyKeyer) → keyer_byte one ≡ keyer_byte other → one ≡ other
same_keyer Plain Plain same = refl
same_keyer Plain Sha same = absurd (omega (arith, same))
same_keyer Sha Plain same = absurd (omega (arith, same))
same_keyer Sha Sha same = refl

made : ℕ → ℕ → AnyKeyer → ℕ → List ℕ → Header
made cap ward_bits keyer entry_count page_counts = record { settings = record { cap = cap; ward_bits = ward_bits; keyer = keyer }; entry_count = entry_count; page_counts = page_counts }

-- a block says one header
pub same_headers : (block : List ℕ) (one other : Header) → length one.page_counts ≡ 16 → length other.page_counts ≡ 16 → IsReadHeader block one → IsReadHeader block other → one ≡ other
unfolding made
same_headers block one other sixteen again first second =
    let cap = sym first.cap ∙ second.cap in
    let ward_bits = sym first.ward_bits ∙ second.ward_bits in
    let keyer = same_keyer one.settings.keyer other.settings.keyer (sym first.keyer ∙ second.keyer) in
    let entries = sym first.entries ∙ second.entries in
    let counts = same_items one.page_counts other.page_counts (sixteen ∙ sym again) (λ ward within. sym (first.counts ward (omega (arith, within, sixteen))) ∙ second.counts ward (omega (arith, within, sixteen))) in
    λ i. made (cap i) (ward_bits i) (keyer i) (entries i) (counts i)
