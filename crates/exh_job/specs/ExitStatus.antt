-- The program's exit status.
use Rattle.std.specs.Prelude.{ℕ, Result, Ok, Err}
use Rattle.exh_report.specs.declared.report_fault.ReportFault.{ReportFault}
use Rattle.exh_report.specs.declared.verdict.Verdict.{Verdict}
use Rattle.exh_report.specs.declared.verdict.Verdict.TheVariants as verdict
use Rattle.exh_command.specs.declared.fault.CliFault.{CliFault}
use Rattle.exh_command.specs.declared.fault.CliFault.TheVariants as fault
use Rattle.exh_job.specs.declared.status.Status.{Status}
use Rattle.exh_job.specs.declared.status.Status.TheVariants.{Busy, Done, Missing, Partly, Refused, WrongWords}

-- after a run about a file: it is legal, or refused, or the run was cut off
abbrev pub file_status : Result Verdict ReportFault → Status
file_status (Ok verdict.Legal) = Done
file_status (Ok verdict.Refused) = Refused
file_status (Err stopped) = Refused

-- where the command line gives no job
abbrev pub fault_status : CliFault → Status
fault_status (fault.Wrong error) = WrongWords
fault_status fault.Memory = Refused

abbrev pub code_of : Status → ℕ
code_of Done = 0
code_of Refused = 1
code_of WrongWords = 2
code_of Missing = 3
code_of Busy = 4
code_of Partly = 5
