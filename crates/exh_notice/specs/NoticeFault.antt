-- The numbers of the faults of an image.
use Rattle.std.specs.Prelude.{ℕ}
use Rattle.exh_notice.specs.declared.notice_fault.NoticeFault.{NoticeFault}
use Rattle.exh_notice.specs.declared.notice_fault.NoticeFault.TheVariants.{Kind, Padding, Prefix}

-- each fault's number among all refusals
abbrev pub notice_fault_number : NoticeFault → ℕ
notice_fault_number Kind = 30
notice_fault_number Padding = 33
notice_fault_number Prefix = 35
