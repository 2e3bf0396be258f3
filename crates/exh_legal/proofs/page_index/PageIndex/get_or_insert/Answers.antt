use Rattle.std.proofs.Common.{◌≡◌, Some, None, nat_cmp, sym, ap, ◌∙◌, rules}
use Rattle.std.specs.FinMap.{get, insert, from_entries}
use Rattle.std.specs.BTreeMap as tree
use Rattle.std.specs.Option.{unwrap_or}
use Rattle.std.below.std_collections.specs.declared.btree_map.entry.Entry.TheVariants.{Vacant, Occupied}
use Rattle.std.specs.BTreeMap.Entry.{MatchEntry, entry_key, entry_value, map_with_value}
use Rattle.exh_legal.specs.PageIndex.{IndexMap}
use Rattle.exh_legal.proofs.IndexSeen.{get_seen, insert_seen, insert_or_stood, on_err}
use Rattle.exh_legal.proofs.page_index.PageIndex.get_or_insert.Goals as goal

pub returns-in_err-place-clause-absent : goal.returns-in_err-place-clause-absent
returns-in_err-place-clause-absent c =
    on_err c.from_residual.result (ap (λ (index : IndexMap). get index c.args.low) (sym c.self.view_is) ∙ get_seen c.self.inside.numbers.entries c.args.low ∙ c.in_err-place.ensures.absent)

pub returns-clause-stood : goal.returns-clause-stood
returns-clause-stood c =
    let stood = c.stood_at-stood.result in
    let map = c.self.inside.numbers in
    let found = tree.get nat_cmp map c.args.low in
    let same = elim c.in_ok-place.place as (λ e.
    MatchEntry e (tree.ContainsKey nat_cmp map c.args.low × (tree.get_key nat_cmp map c.args.low ≡ Some (entry_key e))) (found ≡ None)
    → MatchEntry e (entry_value e ≡ stood) (stood ≡ None) → entry_value e ≡ found → stood ≡ found) [
      | Vacant v ↦ λ absent none value. none ∙ sym absent
      | Occupied o ↦ λ there is value. sym is ∙ value
    ] in
    same c.in_ok-place.ensures.found c.stood_at-stood.ensures c.in_ok-place.ensures.value
    ∙ sym (get_seen c.self.inside.numbers.entries c.args.low) ∙ ap (λ (index : IndexMap). get index c.args.low) c.self.view_is

pub returns-clause-there : goal.returns-clause-there
returns-clause-there c stands =
    let now = c.args.self.now in
    let low = c.args.low in
    let value = c.or_insert.result.now in
    let stood = c.in_ok-place.ensures.value ∙ sym (get_seen c.self.inside.numbers.entries low) ∙ ap (λ (index : IndexMap). get index low) c.self.view_is in
    let value_is : value ≡ unwrap_or (get now low) c.args.number = c.or_insert.ensures.value ∙ ap (λ found. unwrap_or found c.args.number) stood in
    let put : from_entries (map_with_value c.in_ok-place.place value).entries ≡ insert now low value =
    insert_seen c.self.inside.numbers (map_with_value c.in_ok-place.place value) low value (c.in_ok-place.ensures.update.0 value)
    ∙ ap (λ (index : IndexMap). insert index low value) c.self.view_is in
    let seen = put ∙ ap (insert now low) value_is ∙ insert_or_stood now low c.args.number stands in
    search rules

pub returns-clause-added : goal.returns-clause-added
returns-clause-added c none =
    let now = c.args.self.now in
    let low = c.args.low in
    let value = c.or_insert.result.now in
    let stood = c.in_ok-place.ensures.value ∙ sym (get_seen c.self.inside.numbers.entries low) ∙ ap (λ (index : IndexMap). get index low) c.self.view_is in
    let value_is : value ≡ unwrap_or (get now low) c.args.number = c.or_insert.ensures.value ∙ ap (λ found. unwrap_or found c.args.number) stood in
    let put : from_entries (map_with_value c.in_ok-place.place value).entries ≡ insert now low value =
    insert_seen c.self.inside.numbers (map_with_value c.in_ok-place.place value) low value (c.in_ok-place.ensures.update.0 value)
    ∙ ap (λ (index : IndexMap). insert index low value) c.self.view_is in
    let seen = put ∙ ap (insert now low) (value_is ∙ ap (λ found. unwrap_or found c.args.number) none) in
    search rules
