-- The bytes of a low bound in an image, in every version whose bytes fit.
use Rattle.std.proofs.Common.{◌≡◌, ℕ, zero, suc, ◌+◌, ◌-◌, ◌*◌, ◌^◌, ◌≤◌, List, [], ◌∷◌, ◌++◌, length, replicate, take, drop, slice_range, refl, sym, ap, ◌∙◌, subst, arith}
use Rattle.std.proofs.Math.Nat.{add-mul, mul_assoc}
use Rattle.std.proofs.lemmas.List.{length-drop, length-replicate, drop-drop, drop-append-le, take_at}
use Rattle.std.proofs.lemmas.Nat.{pow-add}
use Rattle.byteorder.specs.Endian.{big_bytes, big_from, big_number}
use Rattle.byteorder.specs.Numbers.{big_from-cons, length-bytes_high_first}
use Rattle.exh_page.specs.PrefixByteLemmas.{power_of_bytes, drop-high_bytes, bytes_of_multiple}
use Rattle.exh_page.specs.declared.Version.{Version as KnownVersion}
use Rattle.exh_page.specs.Version.{Version, Fits}
use Rattle.exh_page.specs.Layout.{layout}
use Rattle.exh_page.specs.LayoutLemmas.{layout_fits, fits_wider}
use Rattle.exh_codec.specs.declared.head.Head.{Head}
use Rattle.exh_codec.specs.Block.{AreZero}
use Rattle.exh_codec.specs.Head.{head_bytes}
use Rattle.exh_codec.specs.ImageTests.{low_in}

pub zeros_are : (n : ℕ) → AreZero (replicate n 0)
zeros_are zero = tt
zeros_are (suc n) = (refl, zeros_are n)

-- the number in some bytes, and in the others behind them
number_split : (m n : ℕ) (bytes : List ℕ) → m ≤ length bytes → big_from 0 (m + n) bytes ≡ big_from 0 m bytes * 256 ^ n + big_from 0 n (drop m bytes)
number_split zero n bytes long =
    let count : 0 + n ≡ n = omega arith in
    let none : 0 * 256 ^ n ≡ 0 = omega arith in
    omega (arith, ap (λ n. big_from 0 n bytes) count, none)
number_split (suc m) n [] long = absurd (omega (arith, long))
number_split (suc m) n (byte ∷ bytes) long =
    let count : suc m + n ≡ suc (m + n) = omega arith in
    let place : byte * 256 ^ (m + n) ≡ byte * 256 ^ m * 256 ^ n = ap (λ p. byte * p) (pow-add 256 m n) ∙ sym (mul_assoc byte (256 ^ m) (256 ^ n)) in
    let rest : big_from 1 (m + n) (byte ∷ bytes) ≡ big_from 0 m bytes * 256 ^ n + big_from 0 n (drop m bytes) =
    big_from-cons 0 (m + n) byte bytes ∙ number_split m n bytes (omega (arith, long)) in
    let front : big_from 1 m (byte ∷ bytes) ≡ big_from 0 m bytes = big_from-cons 0 m byte bytes in
    let parted : (byte * 256 ^ m + big_from 0 m bytes) * 256 ^ n ≡ byte * 256 ^ m * 256 ^ n + big_from 0 m bytes * 256 ^ n = add-mul (byte * 256 ^ m) (big_from 0 m bytes) (256 ^ n) in
    ap (λ n. big_from 0 n (byte ∷ bytes)) count
    ∙ (omega (arith, place, rest, parted))
    ∙ ap (λ f. (byte * 256 ^ m + f) * 256 ^ n + big_from 0 n (drop m bytes)) (sym front)

zero_number : (n : ℕ) (bytes : List ℕ) → n ≤ length bytes → AreZero (take n bytes) → big_from 0 n bytes ≡ 0
zero_number zero bytes long zeros = refl
zero_number (suc n) [] long zeros = absurd (omega (arith, long))
zero_number (suc n) (byte ∷ bytes) long zeros =
    let rest : big_from 1 n (byte ∷ bytes) ≡ 0 = big_from-cons 0 n byte bytes ∙ zero_number n bytes (omega (arith, long)) zeros.1 in
    let first : byte * 256 ^ n ≡ 0 = ap (λ b. b * 256 ^ n) zeros.0 ∙ (omega arith) in
    omega (arith, first, rest)

-- a page's image has room for the prefixes of each version that the code knows
pub known_fits : (version : KnownVersion) → Fits 8 (layout version)
known_fits version = fits_wider 8 (layout version) (omega arith) (layout_fits version)

module _ (version : Version) (fits : Fits 8 version) where
  abbrev left : ℕ
  left = 8 - version.bytes

  eight : version.bytes + left ≡ 8
  eight = omega (arith, fits.bytes)

  -- the bytes that a low bound leaves to zeros
  places : 256 ^ left ≡ 2 ^ (64 - 8 * version.bytes)
  places = let same : 8 * left ≡ 64 - 8 * version.bytes = omega (arith, fits.bytes) in power_of_bytes left ∙ ap (λ n. 2 ^ n) same

  -- past the version's bytes a low bound's are zero
  pub past_low_is_zero : (head : Head) (tail : List ℕ) (m : ℕ) → head.low ≡ m * 2 ^ (64 - 8 * version.bytes) → AreZero (slice_range (head_bytes head ++ tail) (8 + version.bytes) 16)
  unfolding head_bytes
  past_low_is_zero head tail m is =
      let low : head.low ≡ m * 256 ^ left = is ∙ ap (λ n. m * n) (sym places) in
      let count : 16 - (8 + version.bytes) ≡ left = omega (arith, fits.bytes) in
      let bytes_len : length (big_bytes 8 head.low) ≡ 8 = length-bytes_high_first 8 head.low in
      let rest : drop version.bytes (big_bytes 8 head.low) ≡ replicate left 0 =
      ap (λ n. drop version.bytes (big_bytes n head.low)) (sym eight) ∙ drop-high_bytes version.bytes left head.low ∙ ap (big_bytes left) low ∙ bytes_of_multiple left m in
      let behind : drop (8 + version.bytes) (head_bytes head ++ tail) ≡ replicate left 0 ++ tail =
      sym (drop-drop version.bytes 8 (head_bytes head ++ tail)) ∙ drop-append-le version.bytes (big_bytes 8 head.low) tail (omega (arith, fits.bytes, bytes_len))
      ∙ ap (λ (zeros : List ℕ). zeros ++ tail) rest in
      let range : slice_range (head_bytes head ++ tail) (8 + version.bytes) 16 ≡ replicate left 0 =
      ap (λ n. take n (drop (8 + version.bytes) (head_bytes head ++ tail))) count ∙ ap (take left) behind
      ∙ take_at (replicate left 0) tail left (length-replicate {A = ℕ} left 0) in
      subst AreZero (sym range) (zeros_are left)

  -- where the bytes past them are zero, all eight bytes say the same low bound
  pub low_in-eight : (block : List ℕ) → 16 ≤ length block → AreZero (slice_range block (8 + version.bytes) 16) → low_in version block ≡ big_number 8 (drop 8 block)
  low_in-eight block long zeros =
      let eighth = drop 8 block in
      let len : 8 ≤ length eighth = omega (arith, long, length-drop 8 block) in
      let rest = drop version.bytes eighth in
      let rest_len : left ≤ length rest = omega (arith, fits.bytes, len, length-drop version.bytes eighth) in
      let count : 16 - (8 + version.bytes) ≡ left = omega (arith, fits.bytes) in
      let none : AreZero (take left rest) =
      subst AreZero (ap (λ n. take n (drop (8 + version.bytes) block)) count ∙ ap (take left) (sym (drop-drop version.bytes 8 block))) zeros in
      let split : big_from 0 8 eighth ≡ big_from 0 version.bytes eighth * 256 ^ left + big_from 0 left rest =
      ap (λ n. big_from 0 n eighth) (sym eight) ∙ number_split version.bytes left eighth (omega (arith, fits.bytes, len)) in
      ap (λ n. big_from 0 version.bytes eighth * n) (sym places) ∙ (omega (arith, split, zero_number left rest rest_len none))
