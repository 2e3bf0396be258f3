-- How many lines of each kind there were.
use Rattle.std.specs.Prelude.{ℕ, ◌+◌, ◌-◌, ◌^◌, min}
use Rattle.exh_text.specs.declared.kind.Kind.{Kind}
use Rattle.exh_text.specs.declared.kind.Kind.TheVariants.{Syntax, Range, Full}
use Rattle.exh_text.specs.declared.tally.Tally.{Tally}

abbrev pub counted : Tally → Kind → ℕ
counted tally Syntax = tally.syntax
counted tally Range = tally.range
counted tally Full = tally.full

-- one more, where there is one more number
abbrev pub one_more : ℕ → ℕ
one_more count = min (count + 1) (2 ^ 64 - 1)

abbrev pub tallied : Tally → Kind → Tally
tallied tally Syntax = record tally { syntax = one_more tally.syntax }
tallied tally Range = record tally { range = one_more tally.range }
tallied tally Full = record tally { full = one_more tally.full }
