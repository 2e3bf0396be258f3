-- What refusals tell of a legal page file.
use Rattle.std.proofs.Common.{ℕ, List, inl, inr, subst}
use Rattle.std.specs.List.{AllByRecursion}
use Rattle.exh_paged.specs.FileTests.{block_at}
use Rattle.exh_paged.specs.FirstFailingLemmas.{none_first}
use Rattle.exh_paged.specs.HeaderTests.{header_tests}
use Rattle.exh_paged.specs.BlockLaws.{StampedPass}
use Rattle.exh_paged.specs.PlacedFile.{IsPlacedFile, PlacedFile, stamped_block}
use Rattle.exh_paged.specs.StampedHeader.{IsStampedImage, PassesStamped}
use Rattle.exh_system.specs.declared.DirectFault.TheVariants.{Astray, File, Memory, Read}
use Rattle.exh_paged.specs.EditLaws.{HeadersStand}
use Rattle.exh_paged.specs.FilesFault.{ChangeFails, IsCause, IsOfDisk}
use Rattle.exh_paged.specs.declared.expected.Expected.TheVariants.{Stamp}
use Rattle.exh_paged.specs.declared.files_fault.FilesFault.{FilesFault}
use Rattle.exh_in_place.specs.Refusals.{HasContentOf, LegalFilesAreWhole, TellsOfContent}
use Rattle.exh_in_place.specs.declared.refused.Refused.{Refused}
use Rattle.exh_in_place.specs.declared.refused.Refused.TheVariants.{Change, Damaged, Uncompared, Unfit, Unrecovered, Unwritten}

header_is : HeadersStand → (file : PlacedFile) (bytes : List ℕ) → IsPlacedFile file bytes → IsStampedImage file.header (block_at 0 bytes)
unfolding stamped_block
header_is stand file bytes is = record { valid = is.valid.header; whole = (stand file bytes is).is }

module _ (stamp : ℕ) (bytes : List ℕ) (passed : AllByRecursion (PassesStamped (block_at 0 bytes)) header_tests) where
  not_wrong : (fault : FilesFault) (refused : Refused) → HasContentOf fault refused → IsCause (Stamp stamp) bytes fault → ChangeFails IsOfDisk fault → TellsOfContent refused → ⊥
  not_wrong fault (Damaged (File test)) (inl header) cause disk wrong = none_first _ _ test (subst (IsCause (Stamp stamp) bytes) header cause).1 passed
  not_wrong fault (Damaged (File test)) (inr change) cause disk wrong = subst (ChangeFails IsOfDisk) change disk
  not_wrong fault (Damaged Astray) change cause disk wrong = subst (ChangeFails IsOfDisk) change disk
  not_wrong fault (Damaged Read) change cause disk wrong = wrong tt
  not_wrong fault (Damaged Memory) change cause disk wrong = wrong tt
  not_wrong fault (Unfit why) is cause disk wrong = wrong
  not_wrong fault (Unwritten why) is cause disk wrong = wrong
  not_wrong fault (Uncompared why) is cause disk wrong = wrong
  not_wrong fault (Change why) is cause disk wrong = wrong
  not_wrong fault (Unrecovered why) is cause disk wrong = wrong

pub whole_for : HeadersStand → StampedPass → LegalFilesAreWhole
whole_for stand pass stamp file tables bytes legal fault refused of cause disk wrong =
    not_wrong stamp bytes (pass file.header (block_at 0 bytes) (header_is stand file bytes legal.is)) fault refused of.content cause disk wrong
