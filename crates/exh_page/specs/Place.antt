-- Where a record stands among others.
use Rattle.std.specs.Prelude.{ℕ, List}
use Rattle.std.specs.declared.cmp.Ordering.{Ordering}
use Rattle.std.specs.Ordering.{nat_cmp, then_cmp, on}
use Rattle.std.specs.Cmp.Lexicographic.{slice_cmp}
use Rattle.exh_page.specs.declared.record.Record.{Record}

-- a pseudokey and a key
abbrev pub Place : Type 0
Place = ℕ × List ℕ

-- by pseudokey, then by key
abbrev pub place_cmp : Place → Place → Ordering
place_cmp = then_cmp (on (λ (place : Place). place.0) nat_cmp) (on (λ (place : Place). place.1) (slice_cmp nat_cmp))

abbrev pub place_of : Record → Place
place_of r = (r.pseudokey, r.key)
