use Rattle.std.proofs.Common.{◌≡◌, ◌∙◌, Some, None, sym, ap, arith, rules}
use Rattle.std.specs.FinMap.{get, insert, from_entries}
use Rattle.std.specs.BTreeMap as tree
use Rattle.std.below.std_collections.specs.declared.btree_map.entry.Entry.TheVariants.{Vacant, Occupied}
use Rattle.std.specs.BTreeMap.Entry.{MatchEntry, entry_key, entry_value, map_with_value}
use Rattle.exh_prefix.specs.Prefix.{prefix_cmp}
use Rattle.exh_table.specs.Table.{TableMap, entry_number, entry_after}
use Rattle.exh_table.proofs.Seen.{get_seen, insert_seen, insert_stood, on_err}
use Rattle.exh_table.specs.TableLemmas.{later_wins}
use Rattle.exh_table.proofs.table.Table.put_next.Goals as goal

pub returns-in_err-place-clause-absent : goal.returns-in_err-place-clause-absent
returns-in_err-place-clause-absent c =
    on_err c.from_residual.result (ap (λ (table : TableMap). get table c.args.prefix) (sym c.self.view_is) ∙ get_seen c.self.inside.entries.entries c.args.prefix ∙ c.in_err-place.ensures.absent)

pub returns-clause-stood : goal.returns-clause-stood
returns-clause-stood c =
    let stood = c.stood_at-stood.result in
    let map = c.self.inside.entries in
    let found = tree.get prefix_cmp map c.args.prefix in
    let same = elim c.in_ok-place.place as (λ e.
    MatchEntry e (tree.ContainsKey prefix_cmp map c.args.prefix × (tree.get_key prefix_cmp map c.args.prefix ≡ Some (entry_key e))) (found ≡ None)
    → MatchEntry e (entry_value e ≡ stood) (stood ≡ None) → entry_value e ≡ found → stood ≡ found) [
      | Vacant v ↦ λ absent none value. none ∙ sym absent
      | Occupied o ↦ λ there is value. sym is ∙ value
    ] in
    same c.in_ok-place.ensures.found c.stood_at-stood.ensures c.in_ok-place.ensures.value
    ∙ sym (get_seen c.self.inside.entries.entries c.args.prefix) ∙ ap (λ (table : TableMap). get table c.args.prefix) c.self.view_is

pub returns-clause-ok : goal.returns-clause-ok
returns-clause-ok c more =
    let now = c.args.self.now in
    let prefix = c.args.prefix in
    let next = c.next_after-next.result in
    let was : c.stood_at-stood.result ≡ get now prefix = returns-clause-stood c in
    let put : from_entries (map_with_value c.in_ok-place.place next).entries ≡ insert now prefix next =
    insert_seen c.self.inside.entries (map_with_value c.in_ok-place.place next) prefix next (c.in_ok-place.ensures.update.0 next)
    ∙ ap (λ (table : TableMap). insert table prefix next) c.self.view_is in
    let is : next ≡ entry_after (get now prefix) c.args.kind =
    c.next_after-next.ensures.next (λ worn. more (ap entry_number (sym was) ∙ worn)) ∙ ap (λ stood. entry_after stood c.args.kind) was in
    let seen = put ∙ ap (insert now prefix) (is ∙ sym (later_wins (get now prefix) (entry_after (get now prefix) c.args.kind) (omega arith))) in
    search rules

pub returns-clause-worn : goal.returns-clause-worn
returns-clause-worn c worn =
    let now = c.args.self.now in
    let prefix = c.args.prefix in
    let next = c.next_after-next.result in
    let was : c.stood_at-stood.result ≡ get now prefix = returns-clause-stood c in
    let put : from_entries (map_with_value c.in_ok-place.place next).entries ≡ insert now prefix next =
    insert_seen c.self.inside.entries (map_with_value c.in_ok-place.place next) prefix next (c.in_ok-place.ensures.update.0 next)
    ∙ ap (λ (table : TableMap). insert table prefix next) c.self.view_is in
    let seen = put ∙ insert_stood now prefix next (sym was ∙ c.next_after-next.ensures.worn (ap entry_number was ∙ worn)) in
    search rules
