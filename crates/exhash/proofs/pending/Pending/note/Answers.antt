use Rattle.std.proofs.Common.{rules, ◌≡◌, [], ◌∷◌, ◌++◌}
use Rattle.exh_map.specs.Batch.{map_after_all}
use Rattle.exhash.proofs.NoteLemmas.{leads_more}
use Rattle.exhash.proofs.pending.Pending.note.Goals as goal

pub returns-then-is_ok : goal.returns-then-is_ok
returns-then-is_ok c cap pseudo was whole lead =
    let pushed : c.push_call.new.calls.items ≡ c.in-Some.calls.items ++ c.args.call ∷ [] = search rules in
    let led : map_after_all cap pseudo was c.in-Some.calls.items ≡ whole = search rules in
    leads_more cap pseudo was whole c.in-Some.calls.items c.push_call.new.calls.items c.args.call pushed led
