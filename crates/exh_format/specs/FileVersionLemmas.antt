-- Each version of the page file that the code knows fits, and is the one that its files say.
use Rattle.std.proofs.Common.{◌≡◌, ℕ, ◌^◌, ◌<◌, ◌≤◌, List, ◌++◌, take, refl, ap, ◌∙◌, arith}
use Rattle.std.proofs.lemmas.List.{get_or-take}
use Rattle.std.specs.Prelude.{cond, nat_eq}
use Rattle.exh_legal.specs.NoticeByteLemmas.{big_from-agree}
use Rattle.exh_codec.specs.Block.{sealed}
use Rattle.exh_codec.specs.PageImage.{padded}
use Rattle.exh_codec.specs.declared.block.TheConstants.{CONTENT_LEN}
use Rattle.exh_prefix.specs.declared.version.Version.{Version as KnownVersion}
use Rattle.exh_prefix.specs.declared.version.Version.TheVariants.{First, Second}
use Rattle.exh_prefix.specs.LayoutLemmas.{layout_fits, layout_short}
use Rattle.exh_format.specs.declared.header.Header.{Header}
use Rattle.exh_format.specs.FileVersion.{FitsFile, number_of_version, file_version, version_of}
use Rattle.exh_format.specs.HeaderImage.{IsHeaderImage, front_bytes, header_bytes}

small_number : (version : KnownVersion) → number_of_version version < 2 ^ 16
small_number First = omega arith
small_number Second = omega arith

pub known_file_fits : (version : KnownVersion) → FitsFile (file_version version)
known_file_fits version = record { number = small_number version; limit = omega (arith, layout_short version); images = layout_fits version }

-- the first ten bytes say the version
pub version_from_front : (one other : List ℕ) (n : ℕ) → 10 ≤ n → one ≡ take n other → version_of one ≡ version_of other
version_from_front one other n long is =
    let same = big_from-agree 8 2 n (take n other) other (omega (arith, long)) (λ k within. get_or-take n other k 0 within) in
    ap version_of is ∙ ap (λ (number : ℕ). cond (nat_eq number 1) First Second) same

header_says : (version : KnownVersion) (header : Header) (rest : List ℕ) → version_of (sealed (padded CONTENT_LEN (header_bytes (file_version version) header)) ++ rest) ≡ version
unfolding front_bytes
header_says First header rest = refl
header_says Second header rest = refl

-- bytes that begin with a header's image in a version say this one
pub image_says : (version : KnownVersion) (header : Header) (block rest bytes : List ℕ) → IsHeaderImage (file_version version) header block → bytes ≡ block ++ rest → version_of bytes ≡ version
image_says version header block rest bytes image is = ap version_of (is ∙ ap (λ (block : List ℕ). block ++ rest) image.whole) ∙ header_says version header rest
