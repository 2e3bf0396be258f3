use Rattle.std.proofs.Common.{◌≡◌, ◌≢◌, [], IsTrue, inl, inr, sym, subst, arith, rules}
use Rattle.std.specs.Prelude.{◌⊎◌}
use Rattle.exh_load.specs.LineSource.{waiting}
use Rattle.exh_load.specs.declared.line_source.LineSource.{LineSource}
use Rattle.exh_load.proofs.TextLines.{drop_some, end_over}
use Rattle.exh_load.proofs.line_source.LineSource.next_byte.Goals as goal
use Rattle.exh_load.proofs.line_source.LineSource.next_byte.Goals.{then-self-len+then-not-self+in_ok-refill, else-self-len, else-self-len-via-then-self-len+else-not-self, else-self-len-via-else-self-len}

pub returns-clause-end : goal.returns-clause-end
returns-clause-end g c =
    end_over g.R.Read.remaining c.if-self-len.self c.take_byte.new.self c.take_byte.result c.take_byte.ensures.same c.take_byte.ensures.taken c.take_byte.ensures.none
    (elim c.if-self-len.branch [
      | then-self-len+then-not-self+in_ok-refill w ↦ subst (λ (s : LineSource g.row.R.Denot). IsTrue s.ended ⊎ (waiting s ≢ [])) (sym w.self-is) w.in_ok-refill.ensures.some
      | else-self-len w ↦ subst (λ (s : LineSource g.row.R.Denot). IsTrue s.ended ⊎ (waiting s ≢ [])) (sym w.self-is) (elim w.else-self-len.branch [
        | else-self-len-via-then-self-len+else-not-self w' ↦ inl (search rules)
        | else-self-len-via-else-self-len w' ↦ inr (drop_some c.args.self.now.at c.args.self.now.block.items (omega (arith, w'.if-self-len.false, c.len.ensures, c.args.self.now.block.ok.0)))
      ])
    ])
