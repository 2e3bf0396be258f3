use Rattle.std.proofs.Common.{◌≡◌, ℕ, List, Option, Result, Ok, Err, IsErrAnd, sym, subst}
use Rattle.std.specs.Prelude.{IsErr, MatchResult}
use Rattle.exh_format.specs.PageFile.{PageFile}
use Rattle.exh_format.specs.LegalFile.{IsOtherFault}
use Rattle.exh_format.specs.declared.legal_file_fault.LegalFileFault.{LegalFileFault}
use Rattle.exh_format.specs.declared.legal_file_fault.LegalFileFault.TheVariants.{File as Unread, Illegal, Memory, Read}
use Rattle.exh_file.specs.declared.open_fault.OpenFault.{OpenFault}
use Rattle.exh_file.specs.declared.open_fault.OpenFault.TheVariants.{File, Page}
use Rattle.exh_file.specs.OpenFault.{IsOtherOpening}
use Rattle.exh_file.specs.Opening.{IsOpenFaultOf, IsOpenedFile}
use Rattle.exh_file.proofs.opening.open_form_over.Goals as goal

other_fault : (known : Option (List ℕ)) (fault : OpenFault) → IsOtherOpening fault → IsOpenFaultOf known fault
other_fault known (File (Unread fault)) other = absurd other
other_fault known (File (Illegal reason)) other = absurd other
other_fault known (File Read) other = tt
other_fault known (File Memory) other = tt
other_fault known Page other = tt

pub open_legal-requires-clause-file : goal.open_legal-requires-clause-file
open_legal-requires-clause-file g c = let read = c.in_ok-file.ensures.legal in (c.legal_bytes_are_files.ensures _ read.bytes read.legal).is_known

pub open_legal-requires-clause-legal : goal.open_legal-requires-clause-legal
open_legal-requires-clause-legal g c = let read = c.in_ok-file.ensures.legal in (c.legal_bytes_are_files.ensures _ read.bytes read.legal).legal

-- a file that wasn't read isn't opened, by the same fault
err_other : {T : Type 0} (P : T → Type 0) (result : Result T OpenFault) (fault : LegalFileFault) → IsErr result × IsErrAnd result (λ other. other ≡ File fault) → IsOtherFault fault → MatchResult result P IsOtherOpening
err_other {T = T} P (Ok value) fault is other = let never : IsErr {T = T} {E = OpenFault} (Ok value) = is.0 in cc
err_other P (Err told) fault is other = subst IsOtherOpening (sym is.1) other

pub returns-in_err-file-clause-every : goal.returns-in_err-file-clause-every
returns-in_err-file-clause-every g c file bytes knows small legal = err_other (λ found. IsOpenedFile file found.0) c.from_residual.result c.in_err-file.field-0.0 c.from_residual.ensures (c.in_err-file.ensures.every file bytes knows small legal)

pub returns-in-Ok-clause-every : goal.returns-in-Ok-clause-every
returns-in-Ok-clause-every g c file bytes knows small legal =
    subst (λ (file : PageFile). IsOpenedFile file c.in-Ok.opened) (c.in_ok-file.ensures.every file bytes knows small legal) c.in-Ok.ensures.opened
