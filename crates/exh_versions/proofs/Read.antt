-- What is read of a file of version 3, and of the first bytes of a file with those behind them.
use Rattle.std.proofs.Common.{◌≡◌, ℕ, ◌<◌, ◌≤◌, List, [], ◌++◌, length, map, Vec, Option, Some, None, append-nil, inl, inr, refl, sym, ap, ◌∙◌, subst, arith}
use Rattle.std.specs.Prelude.{IfSome}
use Rattle.std.specs.Fmt.{option_append}
use Rattle.std.specs.Io.KnownBytes.{Consumes, IsAtEnd}
use Rattle.std.specs.declared.alloc.Global.{Global}
use Rattle.std.proofs.lemmas.Bool.{cases_lt}
use Rattle.std.proofs.lemmas.List.{get_or_append_left}
use Rattle.byteorder.specs.Endian.{big_from}
use Rattle.exh_table.specs.Table.{TableMap}
use Rattle.exh_page.specs.declared.page.Page.{Page}
use Rattle.exh_notice.specs.NoticeByteLemmas.{big_from-agree}
use Rattle.exh_format.specs.FileParts.{file_read}
use Rattle.exh_format.specs.FileVersion.{format_of}
use Rattle.exh_format.specs.LegalFile.{IsLegalFileFault, IsLegalFileFaultOf}
use Rattle.exh_format.specs.PageFile.{PageFile}
use Rattle.exh_format.specs.declared.file_entry.FileEntry.{FileEntry}
use Rattle.exh_format.specs.declared.file_parts.FileParts.{FileParts}
use Rattle.exh_format.specs.declared.header.Header.{Header}
use Rattle.exh_format.specs.declared.legal_file_fault.LegalFileFault.{LegalFileFault}
use Rattle.exh_format.specs.declared.legal_file_fault.LegalFileFault.TheVariants.{File, Illegal, Memory, Read}
use Rattle.exh_versions.specs.LegalPlaced.{wards_of}
use Rattle.exh_versions.specs.PlacedFile.{PlacedFile}
use Rattle.exh_cells.specs.declared.stamped_header.StampedHeader.{StampedHeader}
use Rattle.exh_versions.specs.PlacedParts.{ArePartsOf}
use Rattle.exh_versions.specs.declared.placed_parts.PlacedParts.{PlacedParts}
use Rattle.exh_versions.specs.FirstFault.{IsFirstFault, IsFirstFaultOf}
use Rattle.exh_versions.specs.LegalBytes.{SaysPlaced}
use Rattle.exh_versions.specs.PlainFile.{counted_header, entries_of_tables, plain_file}
use Rattle.exh_versions.specs.LegalReading.{IsLegalPlacedFault, IsLegalPlacedFaultOf}

-- ---- parts that say what a file of version 3 says

pub parts_say : {W : Type 0} (own : W → List Page) (file : PlacedFile) (parts : PlacedParts W) (found : FileParts W) (tables : List TableMap) → ArePartsOf own file parts
    → found.header ≡ counted_header parts.header (length (entries_of_tables tables)) → found.wards ≡ parts.wards → found.entries.items ≡ entries_of_tables tables → file_read own found ≡ plain_file file tables
parts_say {W = W} own file parts found tables are header wards items =
    let made : Header → List (List Page) → List FileEntry → PageFile = λ header wards entries. record { header = header; wards = wards; entries = entries } in
    let own_header = counted_header file.header (length (entries_of_tables tables)) in
    ap (λ (header : Header). made header (map own found.wards.items) found.entries.items) (header ∙ ap (λ (header : StampedHeader). counted_header header (length (entries_of_tables tables))) are.header)
    ∙ ap (λ (wards : Vec W Global). made own_header (map own wards.items) found.entries.items) wards
    ∙ ap (λ (wards : List (List Page)). made own_header wards found.entries.items) are.wards
    ∙ ap (made own_header (wards_of file)) items

-- ---- the first bytes, and those behind them

-- together they are all
pub known_again : (known rest : Option (List ℕ)) (front : List ℕ) → Consumes known rest front → (all : List ℕ) → known ≡ Some all → option_append (Some front) rest ≡ Some all
known_again None rest front consumes all is = cc
known_again (Some known) None front consumes all is = absurd consumes
known_again (Some known) (Some rest) front consumes all is = let same : known ≡ all = cc in ap (λ (bytes : List ℕ). Some bytes) (sym consumes ∙ same)

-- they say the version that all say: there are ten, or none follows
pub says_same : (known rest : Option (List ℕ)) (front : List ℕ) (count : ℕ) → Consumes known rest front → length front ≡ count → count ≤ 10 → (count < 10 → IsAtEnd rest) → (all : List ℕ) → known ≡ Some all → big_from 8 2 front ≡ big_from 8 2 all
says_same None rest front count consumes long few end all is = cc
says_same (Some known) None front count consumes long few end all is = absurd consumes
says_same (Some known) (Some rest) front count consumes long few end all is =
    let whole : all ≡ front ++ rest = let same : all ≡ known = cc in same ∙ consumes in
    elim (cases_lt count 10) [
      | inl less ↦ let none : rest ≡ [] = end less in ap (big_from 8 2) (sym (whole ∙ ap (λ (more : List ℕ). front ++ more) none ∙ append-nil front))
      | inr full ↦
          big_from-agree 8 2 10 front (front ++ rest) (omega arith) (λ k within. let there : k < length front = omega (arith, within, long, full) in sym (get_or_append_left front rest 0 k there)) ∙ ap (big_from 8 2) (sym whole)
    ]

-- ---- faults

at_known : (known : Option (List ℕ)) (Holds : List ℕ → Type 0) → ((all : List ℕ) → known ≡ Some all → Holds all) → IfSome known Holds
at_known None Holds each = tt
at_known (Some all) Holds each = each all refl

module _ (known whole : Option (List ℕ)) (front : List ℕ) (again : (all : List ℕ) → known ≡ Some all → whole ≡ Some all) (same : (all : List ℕ) → known ≡ Some all → big_from 8 2 front ≡ big_from 8 2 all) where
  placed_first : (all : List ℕ) (fault : LegalFileFault) → known ≡ Some all → SaysPlaced front → IsLegalPlacedFault all fault → IsFirstFault all fault
  placed_first all fault is says told = record { placed = λ _. told; plain = λ other. absurd (other (sym (same all is) ∙ says)) }

  plain_first : (all : List ℕ) (fault : LegalFileFault) → known ≡ Some all → (SaysPlaced front → ⊥) → IsLegalFileFault (format_of all) all fault → IsFirstFault all fault
  plain_first all fault is other told = record { placed = λ says. absurd (other (same all is ∙ says)); plain = λ _. told }

  pub placed_fault : (fault : LegalFileFault) → SaysPlaced front → IsLegalPlacedFaultOf whole fault → IsFirstFaultOf known fault
  placed_fault (File fault) says told = at_known known (λ all. IsFirstFault all (File fault)) (λ all is. placed_first all (File fault) is says (subst (λ (whole : Option (List ℕ)). IsLegalPlacedFaultOf whole (File fault)) (again all is) told))
  placed_fault (Illegal reason) says told = at_known known (λ all. IsFirstFault all (Illegal reason)) (λ all is. placed_first all (Illegal reason) is says (subst (λ (whole : Option (List ℕ)). IsLegalPlacedFaultOf whole (Illegal reason)) (again all is) told))
  placed_fault Memory says told = tt
  placed_fault Read says told = tt

  pub plain_fault : (fault : LegalFileFault) → (SaysPlaced front → ⊥) → IsLegalFileFaultOf whole fault → IsFirstFaultOf known fault
  plain_fault (File fault) other told = at_known known (λ all. IsFirstFault all (File fault)) (λ all is. plain_first all (File fault) is other (subst (λ (whole : Option (List ℕ)). IsLegalFileFaultOf whole (File fault)) (again all is) told))
  plain_fault (Illegal reason) other told = at_known known (λ all. IsFirstFault all (Illegal reason)) (λ all is. plain_first all (Illegal reason) is other (subst (λ (whole : Option (List ℕ)). IsLegalFileFaultOf whole (Illegal reason)) (again all is) told))
  plain_fault Memory other told = tt
  plain_fault Read other told = tt
