use Rattle.std.proofs.Common.{◌/◌, ◌%◌, vec_len, ap, ◌∙◌, arith}
use Rattle.std.specs.Global.{Vec}
use Rattle.std.proofs.Math.Nat.{div-add-mod}
use Rattle.std.proofs.lemmas.Result.{on_ok_weaker}
use Rattle.exh_frames.specs.Runs.{RunList}
use Rattle.exh_frames.proofs.InRuns.{are_set, items_same, reached, room_set}
use Rattle.exh_frames.proofs.runs.Runs.reserve.Goals as goal

pub reach_run-requires : goal.reach_run-requires
reach_run-requires g c =
    let n = c.self.inside.len in
    omega (arith, c.self.inside.runs.ok.0, reached c.self.inside.runs.items n (n / 512) (n % 512) c.self.invariant (div-add-mod n 512))

pub invariant_of-self-2 : goal.invariant_of-self-2
invariant_of-self-2 g c =
    let n = c.self.inside.len in
    let runs = c.reach_run.new.runs.items in
    let same = c.reserve.ensures.len ∙ ap (λ (v : Vec g.row.T.Denot). vec_len v) c.index_mut-run.ensures.value in
    are_set runs n (n / 512) c.index_mut-run.result.now c.reserve.new.self (c.reach_run.ensures.runs n c.self.invariant) same

pub returns-clause-items : goal.returns-clause-items
returns-clause-items g c =
    let n = c.self.inside.len in
    let runs = c.reach_run.new.runs.items in
    let same = c.reserve.ensures.items ∙ ap (λ (v : Vec g.row.T.Denot). v.items) c.index_mut-run.ensures.value in
    items_same runs (n / 512) c.index_mut-run.result.now c.reserve.new.self same ∙ c.reach_run.ensures.items ∙ ap (λ (l : RunList g.row.T.Denot). l.items) c.self.view_is

pub returns-clause-ok : goal.returns-clause-ok
returns-clause-ok g c =
    let i = c.self.inside.len / 512 in
    let runs = c.reach_run.new.runs in
    let new = c.reserve.new.self in
    let within = c.in_ok-reach_run.ensures.ok in
    let room = room_set runs.items i new (omega (arith, runs.ok.0, within)) in
    on_ok_weaker c.reserve.result (λ fits. omega (arith, fits, room)) c.reserve.ensures.ok
