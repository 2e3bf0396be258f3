use Rattle.exh_compact.specs.Text.{bar_line}
use Rattle.exh_compact.proofs.Told.{IsTold}
use Rattle.exh_compact.proofs.text.push_bars.Given as goal

-- the counts so far are told
abbrev pub invariant-loop-what : goal.invariant-loop-what
invariant-loop-what l = IsTold (bar_line l.words l.most) l.counts l.fn.out.items l.out.items l.what
