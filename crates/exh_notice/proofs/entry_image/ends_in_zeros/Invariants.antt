use Rattle.std.proofs.Common.{◌≡◌, ◌+◌, ◌-◌, ℕ}
use Rattle.std.specs.List.{AllByRecursion}
use Rattle.exh_prefix.specs.Layout.{layout}
use Rattle.exh_notice.specs.NoticeImages.{items}
use Rattle.exh_notice.proofs.entry_image.ends_in_zeros.Given as goal

abbrev pub invariant-loop-i : goal.invariant-loop-i
invariant-loop-i l = AllByRecursion (λ (byte : ℕ). byte ≡ 0) (items (4 + (layout l.fn.version).bytes) (l.i - (4 + (layout l.fn.version).bytes)) l.image)
