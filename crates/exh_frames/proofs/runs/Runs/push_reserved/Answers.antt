use Rattle.std.proofs.Common.{◌+◌, ◌/◌, ◌%◌, ◌<◌, ◌^◌, [], ◌∷◌, ◌++◌, length, vec_capacity, vec_len, sym, ap, ◌∙◌, subst, arith}
use Rattle.std.specs.Global.{Vec}
use Rattle.std.proofs.Math.Nat.{div-add-mod}
use Rattle.exh_frames.specs.Runs.{RunList}
use Rattle.exh_frames.proofs.InRuns.{are_pushed, items_pushed, length-items, open_has, open_there}
use Rattle.exh_frames.proofs.runs.Runs.push_reserved.Goals as goal

pub index_mut-run-requires : goal.index_mut-run-requires
index_mut-run-requires g c =
    let room = subst (λ (l : RunList g.row.T.Denot). 0 < l.room) (sym c.self.view_is) c.requires.room in
    omega (arith, c.self.inside.runs.ok.0, open_there c.self.inside.runs.items (c.self.inside.len / 512) room)

pub push_reserved-requires : goal.push_reserved-requires
push_reserved-requires g c =
    let run = c.index_mut-run.result.now in
    let room = subst (λ (l : RunList g.row.T.Denot). 0 < l.room) (sym c.self.view_is) c.requires.room in
    subst (λ (v : Vec g.row.T.Denot). vec_len v < vec_capacity v) (sym c.index_mut-run.ensures.value) (open_has c.self.inside.runs.items (c.self.inside.len / 512) run room)

pub overflow_add-self : goal.overflow_add-self
overflow_add-self g c =
    let few = subst (λ (l : RunList g.row.T.Denot). length l.items < 2 ^ 63) (sym c.self.view_is) c.requires.few in
    omega (arith, few, length-items c.self.inside.runs.items c.self.inside.len c.self.invariant)

pub invariant_of-self : goal.invariant_of-self
invariant_of-self g c =
    let n = c.self.inside.len in
    let runs = c.self.inside.runs.items in
    let room = subst (λ (l : RunList g.row.T.Denot). 0 < l.room) (sym c.self.view_is) c.requires.room in
    let more = c.push_reserved.ensures.len ∙ ap (λ (v : Vec g.row.T.Denot). vec_len v + 1) c.index_mut-run.ensures.value in
    are_pushed runs n (n / 512) (n % 512) c.index_mut-run.result.now c.push_reserved.new.self c.self.invariant (omega arith) (div-add-mod n 512) (open_there runs (n / 512) room) more

pub returns : goal.returns
returns g c =
    let n = c.self.inside.len in
    let runs = c.self.inside.runs.items in
    let item = c.args.item in
    let room = subst (λ (l : RunList g.row.T.Denot). 0 < l.room) (sym c.self.view_is) c.requires.room in
    let more = c.push_reserved.ensures.items ∙ ap (λ (v : Vec g.row.T.Denot). v.items ++ item ∷ []) c.index_mut-run.ensures.value in
    items_pushed runs n (n / 512) (n % 512) c.index_mut-run.result.now c.push_reserved.new.self item c.self.invariant (omega arith) (div-add-mod n 512) (open_there runs (n / 512) room) more
    ∙ ap (λ (l : RunList g.row.T.Denot). l.items ++ item ∷ []) c.self.view_is
