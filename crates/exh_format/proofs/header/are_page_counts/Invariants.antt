use Rattle.std.proofs.Common.{◌≡◌, ◌-◌, ◌^◌, take}
use Rattle.std.specs.List.{AllByRecursion}
use Rattle.exh_prefix.specs.Layout.{layout}
use Rattle.exh_format.specs.HeaderImage.{IsPageCount}
use Rattle.exh_format.proofs.header.are_page_counts.Given as goal

abbrev pub invariant-loop-count : goal.invariant-loop-count
invariant-loop-count l = record {
  most : l.most ≡ 2 ^ ((layout l.fn.version).limit - l.ward_bits);
  all : AllByRecursion (IsPageCount (layout l.fn.version).limit l.ward_bits) (take l.count-index l.counts);
}
