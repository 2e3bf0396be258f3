use Rattle.std.proofs.Common.{◌++◌, ℕ, get_or, refl, ap, ◌∙◌}
use Rattle.exh_compact.specs.Text.{bar_line, each_from}
use Rattle.exh_compact.proofs.Told.{drop_at, told_all, told_next}
use Rattle.exh_compact.proofs.text.push_bars.Goals as goal

pub loop-what-init : goal.loop-what-init
loop-what-init c = record { whole = refl }

pub loop-what-preserved : goal.loop-what-preserved
loop-what-preserved c =
    let counts = c.args.counts.now in
    let at = c.loop-what.what in
    told_next (bar_line c.args.words.now c.most_of-most.result) counts c.args.out.now.items c.loop-what.out.items c.push_bar.new.out.items at (get_or counts at 0) c.loop-what.invariant
    (drop_at counts at 0 c.loop-what-test.true) c.in_ok-push_bar.ensures

pub returns : goal.returns
returns c =
    told_all (bar_line c.args.words.now c.most_of-most.result) c.args.counts.now c.args.out.now.items c.loop-what.out.items c.loop-what.what c.loop-what.invariant c.loop-what-test.false
    ∙ ap (λ (most : ℕ). c.args.out.now.items ++ each_from (bar_line c.args.words.now most) 0 c.args.counts.now) c.most_of-most.ensures
