use Rattle.std.proofs.Common.{◌/◌, ◌%◌, ◌<◌, length, get_or, vec_len, sym, ap, ◌∙◌, subst, arith}
use Rattle.std.specs.Global.{Vec}
use Rattle.exh_frames.specs.Runs.{RunList}
use Rattle.exh_frames.proofs.InRuns.{item_at, length-items, run_has, run_there}
use Rattle.exh_frames.proofs.runs.RunsIndexUsize.index.Goals as goal

pub index-requires : goal.index-requires
index-requires g c =
    let runs = c.self.inside.runs.items in
    let n = c.args.number in
    let within = subst (λ (l : RunList g.row.T.Denot). n < length l.items) (sym c.self.view_is) c.requires in
    let few = length-items runs c.self.inside.len c.self.invariant in
    omega (arith, c.self.inside.runs.ok.0, run_there runs c.self.inside.len (n / 512) (n % 512) c.self.invariant (omega arith) (omega (arith, within, few)))

pub index-requires-2 : goal.index-requires-2
index-requires-2 g c =
    let runs = c.self.inside.runs.items in
    let n = c.args.number in
    let run = c.index.result.now in
    let within = subst (λ (l : RunList g.row.T.Denot). n < length l.items) (sym c.self.view_is) c.requires in
    let few = length-items runs c.self.inside.len c.self.invariant in
    let has = run_has runs c.self.inside.len (n / 512) (n % 512) run c.self.invariant (omega arith) (omega (arith, within, few)) in
    subst (λ (v : Vec g.row.T.Denot). n % 512 < vec_len v) (sym c.index.ensures) has

pub returns : goal.returns
returns g c =
    let runs = c.self.inside.runs.items in
    let n = c.args.number in
    let item = c.index-2.result.now in
    let within = subst (λ (l : RunList g.row.T.Denot). n < length l.items) (sym c.self.view_is) c.requires in
    let few = length-items runs c.self.inside.len c.self.invariant in
    c.index-2.ensures ∙ item_at runs c.self.inside.len n c.index.result.now item c.self.invariant (omega (arith, within, few)) c.index.ensures ∙ ap (λ (l : RunList g.row.T.Denot). get_or l.items n item) c.self.view_is
