-- The fault of wards that can't be written in a form.
use Rattle.exh_file.specs.declared.draft_fault.DraftFault.{DraftFault}
use Rattle.exh_file.specs.declared.draft_fault.DraftFault.TheVariants.{Memory, Page}
use Rattle.exh_file.specs.declared.save_fault.SaveFault.{SaveFault}
use Rattle.exh_file.specs.declared.save_fault.SaveFault.TheVariants.{Write, Page as OutOfReach, Memory as OutOfMemory}

-- the fault that one of reading pages becomes, which is never the writer's
abbrev pub draft_fault_of : SaveFault → DraftFault
draft_fault_of OutOfMemory = Memory
draft_fault_of OutOfReach = Page
draft_fault_of Write = Page
