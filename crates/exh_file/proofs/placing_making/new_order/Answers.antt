use Rattle.std.proofs.Common.{ℕ, ◌<◌, ◌≤◌, List, length, get_or, sym, ap, subst, arith}
use Rattle.exh_file.specs.Opened.{in_file}
use Rattle.exh_file.proofs.Counts.{counts_front, counts_len, some_each}
use Rattle.exh_file.proofs.placing_making.new_order.Goals as goal

pub first_order-requires-clause-some : goal.first_order-requires-clause-some
first_order-requires-clause-some g c =
    let wards = c.args.wards.now in
    let front = counts_front wards c.header_of-header.result.page_counts (ap (λ header. header.page_counts) c.header_of-header.ensures.header) in
    λ ward less.
    let within : ward < length wards = omega (arith, less, ap length front, counts_len wards) in
    subst (λ (counts : List ℕ). 1 ≤ get_or counts ward 0) (sym front)
    (some_each (in_file c.args.settings wards) c.requires c.header_of-header.ensures.sound c.fitting_tables_begin_wards.ensures c.pages_are_few.ensures ward within)
