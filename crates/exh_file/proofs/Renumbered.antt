-- A file of the first version, in the version that is written: the same bytes with another number, and with the header's digest made anew.
use Rattle.std.proofs.Common.{◌≡◌, ℕ, List, ◌++◌, length, take, drop, refl, sym, ap, ◌∙◌, append_assoc, length-append, arith}
use Rattle.std.proofs.lemmas.List.{drop_at, take_at, take-append-le}
use Rattle.byteorder.specs.Endian.{big_bytes}
use Rattle.sha2.specs.Sha256.{sha256}
use Rattle.sha2.proofs.Facts256.{length-sha256}
use Rattle.exh_prefix.specs.Layout.{layout, written_version}
use Rattle.exh_prefix.specs.LayoutLemmas.{layout_fits}
use Rattle.exh_prefix.specs.PrefixListLemmas.{AllByRecursion-weaker}
use Rattle.exh_prefix.specs.declared.version.Version.TheVariants.{First}
use Rattle.exh_prefix.specs.declared.version.TheConstants.{WRITTEN}
use Rattle.exh_codec.specs.Block.{sealed}
use Rattle.exh_codec.specs.PageImage.{padded}
use Rattle.exh_format.specs.FileVersion.{FileVersion, file_version, number_of_version, written_format}
use Rattle.exh_format.specs.HeaderImage.{IsHeader, front_bytes, header_bytes}
use Rattle.exh_format.specs.BlockLaws.{HeadersAreBlocks}
use Rattle.exh_format.specs.TableImage.{IsFileEntry}
use Rattle.exh_format.specs.declared.file_entry.FileEntry.{FileEntry}
use Rattle.exh_format.specs.declared.header.Header.{Header}
use Rattle.exh_format.specs.FileLaws.{SameBlocks, blocks_behind}
use Rattle.exh_format.specs.PageFile.{IsFile, PageFile, file_bytes, header_block}
use Rattle.exh_file.specs.Reopened.{renumbered}

abbrev content : FileVersion → Header → List ℕ
content format header = padded 4064 (header_bytes format header)

-- ---- the header's block

number_alone : (header : Header) → content written_format header ≡ take 8 (content (file_version First) header) ++ big_bytes 2 (number_of_version WRITTEN) ++ drop 10 (content (file_version First) header)
unfolding front_bytes
number_alone header = refl

content_len : HeadersAreBlocks → (format : FileVersion) (header : Header) → IsHeader format header → length (content format header) ≡ 4064
content_len blocks format header valid =
    let inside = content format header in
    omega (arith, blocks format header (sealed inside) (record { valid = valid; whole = refl }), length-append inside (sha256 inside), length-sha256 inside)

-- ---- all bytes

-- bytes that begin with a sealed content
module _ (inside behind : List ℕ) (len : length inside ≡ 4064) where
  begun : take 4064 (sealed inside ++ behind) ≡ inside
  begun = ap (take 4064) (append_assoc inside (sha256 inside) behind) ∙ take_at inside (sha256 inside ++ behind) 4064 len

  begun_magic : take 8 (sealed inside ++ behind) ≡ take 8 inside
  begun_magic = ap (take 8) (append_assoc inside (sha256 inside) behind) ∙ take-append-le 8 inside (sha256 inside ++ behind) (omega (arith, len))

  left : drop 4096 (sealed inside ++ behind) ≡ behind
  left = drop_at (sealed inside) behind 4096 (omega (arith, length-append inside (sha256 inside), length-sha256 inside, len))

  renumbered_block : (number : ℕ) → renumbered number (sealed inside ++ behind) ≡ sealed (take 8 inside ++ big_bytes 2 number ++ drop 10 inside) ++ behind
  renumbered_block number =
      let made : List ℕ → List ℕ → List ℕ → List ℕ = λ front back rest. sealed (front ++ big_bytes 2 number ++ drop 10 back) ++ rest in
      (λ i. made (begun_magic i) (begun i) (left i))

longer : (item : FileEntry) → IsFileEntry (layout First) item → IsFileEntry written_version item
longer item valid = record { shorter = omega (arith, valid.shorter); change_number = valid.change_number; right = valid.right }

pub renumbered_file : HeadersAreBlocks → SameBlocks → (file : PageFile) → IsFile (file_version First) file → file_bytes written_format file ≡ renumbered (number_of_version WRITTEN) (file_bytes (file_version First) file)
unfolding header_block
renumbered_file blocks same file valid =
    let first = file_version First in
    let header = file.header in
    let inside = content first header in
    let behind = blocks_behind first.images file in
    let entries = AllByRecursion-weaker (IsFileEntry first.images) (IsFileEntry written_version) longer file.entries valid.entries in
    let rest : blocks_behind written_version file ≡ behind = sym (same first.images written_version (layout_fits First) (layout_fits WRITTEN) file valid.entries entries) in
    ap (λ (rest : List ℕ). header_block written_format header ++ rest) rest
    ∙ ap (λ (inside : List ℕ). sealed inside ++ behind) (number_alone header)
    ∙ sym (renumbered_block inside behind (content_len blocks first header valid.header) (number_of_version WRITTEN))
