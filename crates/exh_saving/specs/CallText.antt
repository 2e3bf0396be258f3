-- The words in which a call of a save is printed.
use Rattle.std.specs.Prelude.{ℕ, List, codes}
use Rattle.exh_saving.specs.declared.fault.Call.{Call}
use Rattle.exh_saving.specs.declared.fault.Call.TheVariants.{Ask, Open, Hold, Make, Lock, Empty, Permit, Write, Synchronize, Rename, Link}

abbrev pub call_text : Call → List ℕ
call_text Ask = codes "asking what is there"
call_text Open = codes "opening it"
call_text Hold = codes "locking it"
call_text Make = codes "making a file beside it"
call_text Lock = codes "locking the file beside it"
call_text Empty = codes "emptying the file beside it"
call_text Permit = codes "giving the file beside it the permissions of the old one"
call_text Write = codes "writing"
call_text Synchronize = codes "synchronizing"
call_text Rename = codes "renaming the file beside it"
call_text Link = codes "linking the file beside it"
