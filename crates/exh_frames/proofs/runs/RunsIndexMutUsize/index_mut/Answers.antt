use Rattle.std.proofs.Common.{◌≡◌, ◌/◌, ◌%◌, ◌<◌, ℕ, List, length, set, get_or, vec_len, refl, sym, ap, ◌∙◌, subst, arith}
use Rattle.std.specs.Global.{Vec}
use Rattle.std.specs.Vec.{with_item}
use Rattle.exh_frames.specs.Runs.{RunList, items_in, room_in}
use Rattle.exh_frames.specs.LentItem.{with_item as with_item_of}
use Rattle.exh_frames.proofs.InRuns.{are_set, item_at, length-items, lent_items, lent_room, run_has, run_there}
use Rattle.exh_frames.proofs.runs.RunsIndexMutUsize.index_mut.Goals as goal

pub index_mut-run-requires : goal.index_mut-run-requires
index_mut-run-requires g c =
    let runs = c.self.inside.runs.items in
    let n = c.args.number in
    let within = subst (λ (l : RunList g.row.T.Denot). n < length l.items) (sym c.self.view_is) c.requires in
    let few = length-items runs c.self.inside.len c.self.invariant in
    omega (arith, c.self.inside.runs.ok.0, run_there runs c.self.inside.len (n / 512) (n % 512) c.self.invariant (omega arith) (omega (arith, within, few)))

pub index_mut-requires : goal.index_mut-requires
index_mut-requires g c =
    let runs = c.self.inside.runs.items in
    let n = c.args.number in
    let run = c.index_mut-run.result.now in
    let within = subst (λ (l : RunList g.row.T.Denot). n < length l.items) (sym c.self.view_is) c.requires in
    let few = length-items runs c.self.inside.len c.self.invariant in
    let has = run_has runs c.self.inside.len (n / 512) (n % 512) run c.self.invariant (omega arith) (omega (arith, within, few)) in
    subst (λ (v : Vec g.row.T.Denot). n % 512 < vec_len v) (sym c.index_mut-run.ensures.value) has

pub invariant_of-self-lent : goal.invariant_of-self-lent
invariant_of-self-lent g c w =
    let n = c.args.number in
    let run = c.index_mut-run.result.now in
    let same : vec_len run ≡ vec_len (get_or c.self.inside.runs.items (n / 512) run) = ap (λ (v : Vec g.row.T.Denot). vec_len v) c.index_mut-run.ensures.value in
    are_set c.self.inside.runs.items c.self.inside.len (n / 512) run (with_item run (n % 512) w) c.self.invariant same

pub returns : goal.returns
returns g c =
    let runs = c.self.inside.runs.items in
    let n = c.args.number in
    let run = c.index_mut-run.result.now in
    let item = c.index_mut.result.now in
    let within = subst (λ (l : RunList g.row.T.Denot). n < length l.items) (sym c.self.view_is) c.requires in
    let few = length-items runs c.self.inside.len c.self.invariant in
    let under : n < c.self.inside.len = omega (arith, within, few) in
    let is = c.index_mut-run.ensures.value in
    let list : List g.row.T.Denot → ℕ → RunList g.row.T.Denot = λ items room. record { items = items; room = room } in
    let at : ℕ = c.self.inside.len / 512 in (
      (
        refl,
        λ w.
            ap (λ l. list l (room_in (set runs (n / 512) (with_item run (n % 512) w)) at)) (lent_items runs c.self.inside.len n run w c.self.invariant under is)
            ∙ ap (list (set (items_in runs) n w)) (lent_room runs n at run w is) ∙ ap (λ (l : RunList g.row.T.Denot). with_item_of l n w) c.self.view_is,
      ),
      record {
        writes_back = tt;
        value = c.index_mut.ensures.value ∙ item_at runs c.self.inside.len n run item c.self.invariant under is ∙ ap (λ (l : RunList g.row.T.Denot). get_or l.items n item) c.self.view_is;
      },
    )
