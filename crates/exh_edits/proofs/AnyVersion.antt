-- Which version bytes say, by their header's block, and what a legal file of it says; a header's block that isn't there.
use Rattle.std.proofs.Common.{◌≡◌, ℕ, ◌≤◌, List, ◌++◌, length, take, Option, None, Some, Result, Ok, Err, refl, sym, ap, ◌∙◌, subst, arith}
use Rattle.std.specs.Prelude.{IsErrAnd}
use Rattle.std.specs.List.{flat_map}
use Rattle.std.proofs.lemmas.List.{get_or-take, length-append}
use Rattle.byteorder.specs.Endian.{big_bytes, big_from}
use Rattle.exh_cells.specs.NoticeByteLemmas.{big_from-agree}
use Rattle.exh_prefix.specs.declared.version.Version.{Version as KnownVersion}
use Rattle.exh_prefix.specs.declared.version.Version.TheVariants.{First, Second}
use Rattle.exh_codec.specs.BlockLemmas.{length-padded, length-sealed}
use Rattle.exh_codec.specs.PageImage.{padded}
use Rattle.exh_format.specs.declared.header.Header.{Header}
use Rattle.exh_format.specs.FileTests.{block_at}
use Rattle.exh_format.specs.FileVersion.{FileVersion, file_version, number_of_version}
use Rattle.exh_format.specs.HeaderImage.{IsHeader, front_bytes, header_bytes}
use Rattle.exh_format.specs.HeaderTests.{IsOfVersion}
use Rattle.exh_format.specs.PageFile.{IsPageFile, PageFile, file_bytes, header_block, page_block, pages_of, table_blocks, table_bytes}
use Rattle.exh_cells.specs.PlacedFile.{IsPlacedFile, PlacedFile, group_bytes, placed_bytes, stamped_block}
use Rattle.exh_cells.specs.Places.{groups_of}
use Rattle.exh_cells.specs.StampedHeader.{placed_format}
use Rattle.exh_direct.specs.declared.direct_fault.DirectFault.{DirectFault}
use Rattle.exh_direct.specs.declared.direct_fault.DirectFault.TheVariants.{File, Astray, Read, Memory}
use Rattle.exh_direct.specs.DirectLaws.{IsOtherFault}
use Rattle.exh_direct.specs.KnownBlocks.{IsBlockAt, IsCutOff, MayRead, ReadsOnce}
use Rattle.exh_edits.specs.AnyAnswer.{IsOfLegal, SaysPlaced, SaysPlain}
use Rattle.exh_edits.proofs.Few.{zero_few}
use Rattle.exh_edits.proofs.PlacedBlocks.{length-counts, length-front, length-header}

-- ---- by the header's block

same_number : (bytes block : List ℕ) → block ≡ block_at 0 bytes → big_from 8 2 block ≡ big_from 8 2 bytes
same_number bytes block is = ap (big_from 8 2) is ∙ big_from-agree 8 2 4096 (take 4096 bytes) bytes (omega arith) (λ k within. get_or-take 4096 bytes k 0 within)

pub block_says_placed : (known : Option (List ℕ)) (block : List ℕ) → IsBlockAt known 0 block → IsOfVersion placed_format block → SaysPlaced known
block_says_placed None block there says = tt
block_says_placed (Some bytes) block there says = sym (same_number bytes block there.1) ∙ says

pub block_says_plain : (known : Option (List ℕ)) (block : List ℕ) → IsBlockAt known 0 block → (IsOfVersion placed_format block → ⊥) → SaysPlain known
block_says_plain None block there not = tt
block_says_plain (Some bytes) block there not = λ says. not (same_number bytes block there.1 ∙ says)

-- ---- files and what they say

placed_number : (file : PlacedFile) → big_from 8 2 (placed_bytes file) ≡ 3
unfolding stamped_block front_bytes
placed_number file = refl

pub placed_says : (file : PlacedFile) (bytes : List ℕ) → IsPlacedFile file bytes → IsOfVersion placed_format bytes
placed_says file bytes is = ap (big_from 8 2) is.whole ∙ placed_number file

plain_number : (version : KnownVersion) (file : PageFile) → big_from 8 2 (file_bytes (file_version version) file) ≡ number_of_version version
unfolding header_block front_bytes
plain_number First file = refl
plain_number Second file = refl

other_number : (version : KnownVersion) → number_of_version version ≡ 3 → ⊥
other_number First is = cc
other_number Second is = cc

pub plain_says : (version : KnownVersion) (file : PageFile) (bytes : List ℕ) → IsPageFile (file_version version) file bytes → IsOfVersion placed_format bytes → ⊥
plain_says version file bytes is says = other_number version (sym (plain_number version file) ∙ ap (big_from 8 2) (sym is.whole) ∙ says)

-- ---- a header's block that isn't there

length-plain : (version : FileVersion) (header : Header) → IsHeader version header → length (header_bytes version header) ≤ 4064
length-plain version header valid = omega (arith, length-append (front_bytes version header) (flat_map (big_bytes 4) header.page_counts), length-front version header, length-counts header.page_counts, valid.counts)

header_len : (version : FileVersion) (header : Header) → IsHeader version header → length (header_block version header) ≡ 4096
unfolding header_block
header_len version header valid = length-sealed (header_block version header) (padded 4064 (header_bytes version header)) (length-padded 4064 (header_bytes version header) (length-plain version header valid)) refl

plain_whole : (version : KnownVersion) (file : PageFile) (bytes : List ℕ) → IsPageFile (file_version version) file bytes → 4096 ≤ length bytes
plain_whole version file bytes is =
    omega (arith, ap length is.whole, length-append (header_block (file_version version) file.header) (flat_map page_block (pages_of file.wards) ++ table_bytes (file_version version).images (table_blocks (length file.entries)) file.entries), header_len (file_version version) file.header is.valid.header)

placed_whole : (file : PlacedFile) (bytes : List ℕ) → IsPlacedFile file bytes → 4096 ≤ length bytes
placed_whole file bytes is = omega (arith, ap length is.whole, length-append (stamped_block file.header) (group_bytes (groups_of (length file.pages)) file.pages file.cells), length-header file.header is.valid.header)

no_cut : (bytes : List ℕ) (fault : DirectFault) → 4096 ≤ length bytes → IsCutOff (Some bytes) 0 fault → IsOtherFault fault
no_cut bytes (File fault) whole cut = absurd (omega (arith, whole, cut.1))
no_cut bytes Astray whole cut = cut
no_cut bytes Read whole cut = tt
no_cut bytes Memory whole cut = tt

cut_of_legal : (known : Option (List ℕ)) (key : List ℕ) (old new : Option (List ℕ)) (fault : DirectFault) → IsCutOff known 0 fault → IsOfLegal known key old new (Err fault)
cut_of_legal known key old new fault cut = record {
  plain = λ file bytes knows small legal. no_cut bytes fault (plain_whole _ file bytes legal.is) (subst (λ known. IsCutOff known 0 fault) knows cut);
  placed = λ file tables bytes knows small legal. no_cut bytes fault (placed_whole file bytes legal.is) (subst (λ known. IsCutOff known 0 fault) knows cut);
}

pub cut_legal : (known : Option (List ℕ)) (key : List ℕ) (old new : Option (List ℕ)) (fault : DirectFault) (result : Result (Option (List ℕ)) DirectFault) → IsErrAnd result (λ e. e ≡ fault) → IsCutOff known 0 fault → IsOfLegal known key old new result
cut_legal known key old new fault (Ok value) is cut = absurd is
cut_legal known key old new fault (Err e) is cut = cut_of_legal known key old new e (subst (IsCutOff known 0) (sym is) cut)

pub zero_once : (old new : Option (List ℕ)) → MayRead old new 0 → ReadsOnce old new
zero_once old new read =
    let few = zero_few old new read in
    record { places = few.places; are = few.are; once = few.once }
