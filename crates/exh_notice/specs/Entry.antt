-- Entries and their order.
use Rattle.std.specs.declared.cmp.Ordering.{Ordering}
use Rattle.std.specs.declared.cmp.Ordering.TheVariants.{Less, Equal, Greater}
use Rattle.std.specs.Ordering.{nat_cmp, on, then_cmp}
use Rattle.exh_join.specs.Greater.{greater}
use Rattle.exh_notice.specs.declared.entry.Entry.{Entry}
use Rattle.exh_notice.specs.declared.entry.Kind.{Kind}
use Rattle.exh_notice.specs.declared.entry.Kind.TheVariants.{Merge, Split}
use Rattle.exh_notice.specs.declared.notice.Notice.{Notice}

-- a merge before a split, splits by right page
abbrev pub kind_cmp : Kind → Kind → Ordering
kind_cmp Merge Merge = Equal
kind_cmp Merge (Split right) = Less
kind_cmp (Split right) Merge = Greater
kind_cmp (Split one) (Split other) = nat_cmp one other

-- by number, then by kind
abbrev pub entry_cmp : Entry → Entry → Ordering
entry_cmp = then_cmp (on (λ (e : Entry). e.number) nat_cmp) (on (λ (e : Entry). e.kind) kind_cmp)

-- the greater of two entries
abbrev pub greater_entry : Entry → Entry → Entry
greater_entry = greater entry_cmp

-- the entry that a notice leaves at its prefix
abbrev pub entry_of : Notice → Entry
entry_of notice = record { number = notice.number; kind = notice.kind }
