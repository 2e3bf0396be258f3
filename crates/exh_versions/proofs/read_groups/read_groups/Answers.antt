use Rattle.std.proofs.Common.{◌≡◌, ◌+◌, ◌-◌, ◌*◌, ◌/◌, ◌<◌, ◌≤◌, ◌++◌, [], ℕ, List, min, length, sym, ap, ◌∙◌, subst, arith}
use Rattle.std.proofs.lemmas.List.{length-append}
use Rattle.exh_keyer.specs.Pseudokey.{any_pseudokey}
use Rattle.exh_format.specs.Reading.{IsOf}
use Rattle.exh_cells.specs.declared.cell.Cell.{Cell}
use Rattle.exh_versions.specs.Reading.{FailsInGroup, FailsInGroups, GivesGroups, ReadsGroups}
use Rattle.exh_versions.proofs.Groups.{fails_in_groups, more_groups, no_groups}
use Rattle.exh_versions.proofs.Pages.{err_is, of_later, still_open}
use Rattle.exh_versions.proofs.read_groups.read_groups.Goals as goal

inside : (group count : ℕ) → group < (count + 23) / 24 → 24 * group < count
inside group count turn = omega (arith, turn)

full_before : (group count : ℕ) {many : ℕ} → many ≡ min (24 * group) count → 24 * group < count → many ≡ 24 * group
full_before group count some inside = omega (arith, some, inside)

next_some : (group count : ℕ) {some more : ℕ} → some ≡ 24 * group → more ≡ min 24 (count - 24 * group) → 24 * group < count → some + more ≡ min (24 * (group + 1)) count
next_some group count full more inside = omega (arith, full, more, inside)

next_place : (start group count : ℕ) {place next some : ℕ} → place ≡ start + (group + min (24 * group) count) → some ≡ min 24 (count - 24 * group) → next ≡ place + 1 + some → 24 * group < count → next ≡ start + (group + 1 + min (24 * (group + 1)) count)
next_place start group count was some_is is inside = omega (arith, was, some_is, is, inside)

place_now : (start group count : ℕ) {place : ℕ} → place ≡ start + (group + min (24 * group) count) → 24 * group < count → place ≡ start + 25 * group
place_now start group count was inside = omega (arith, was, inside)

few_more : (group count : ℕ) {some : ℕ} → some ≡ min 24 (count - 24 * group) → some ≤ 24
few_more group count is = omega (arith, is)

all_pages : (group count : ℕ) → group ≡ (count + 23) / 24 → min (24 * group) count ≡ count
all_pages group count is = omega (arith, is)

pub loop-group-init : goal.loop-group-init
loop-group-init g c = record {
  unfailed = c.requires.open;
  place = omega arith;
  read = record {
    pages = [];
    all = omega arith;
    count_is = omega (arith, ap length c.new-cells.ensures.items);
    given = subst (GivesGroups (any_pseudokey c.args.settings.keyer) _ _ 0 []) (sym c.new-cells.ensures.items) (no_groups (any_pseudokey c.args.settings.keyer) _);
    placed = c.requires.none;
  };
}

pub loop-group-preserved : goal.loop-group-preserved
loop-group-preserved g c =
    let pseudo = any_pseudokey c.args.settings.keyer in
    let group = c.loop-group.group in
    let count = c.args.count in
    let was = c.loop-group.invariant in
    let cells = c.loop-group.cells.items in
    let more = c.in_ok-more.ensures.ok in
    let next = c.in_ok-more.more.items in
    let within = inside group count c.loop-group-test.true in
    let full = full_before group count was.read.all within in
    let cells_full = full_before group count was.read.count_is within in
    let some = c.min-some.ensures in
    let few = few_more group count some in
    let pushed : c.append.new.cells.items ≡ cells ++ next = c.in_ok-append.ensures ∙ ap (λ (more : List Cell). cells ++ more) c.deref.ensures.value in
    let now = subst (λ (cells : List Cell). ReadsGroups g.W.PageList.pages g.W.ReadPages.takes c.args.settings (g.R.Read.remaining c.args.blocks.now.source.reader.now) (g.R.Read.remaining c.read_group.new.blocks.source.reader.now) (group + 1) (min (24 * (group + 1)) count) c.read_group.new.pages cells)
    (sym pushed)
    (record {
      pages = was.read.pages ++ more.pages;
      all = length-append was.read.pages more.pages ∙ next_some group count full (more.all ∙ some) within;
      count_is = length-append cells next ∙ next_some group count cells_full (more.count_is ∙ some) within;
      given = more_groups pseudo _ _ _ group (group + 1) was.read.pages more.pages cells next was.read.given more.given full cells_full (omega (arith, more.all, few)) (omega (arith, more.count_is, few)) (omega arith);
      placed = more.adds was.read.pages was.read.placed;
    }) in
    record {
      unfailed = still_open c.in_ok-more.more _ c.in_ok-more.ensures.failed.1;
      place = next_place c.args.blocks.now.place group count was.place some c.in_ok-more.ensures.place within;
      read = now;
    }

pub read_group-requires-clause-placed : goal.read_group-requires-clause-placed
read_group-requires-clause-placed g c = let read = c.loop-group.invariant.read in (read.pages, read.placed)

pub returns-clause-ok : goal.returns-clause-ok
returns-clause-ok g c =
    let count = c.args.count in
    let end : c.loop-group.group ≡ (count + 23) / 24 = omega arith in
    let all = all_pages c.loop-group.group count end in
    let Reads = λ (groups many : ℕ). ReadsGroups g.W.PageList.pages g.W.ReadPages.takes c.args.settings (g.R.Read.remaining c.args.blocks.now.source.reader.now) (g.R.Read.remaining c.loop-group.blocks.source.reader.now) groups many c.loop-group.pages c.loop-group.cells.items in
    subst (λ (groups : ℕ). Reads groups count) end (subst (λ (many : ℕ). Reads c.loop-group.group many) all c.loop-group.invariant.read)

pub returns-in_err-more-clause-err : goal.returns-in_err-more-clause-err
returns-in_err-more-clause-err g c =
    let pseudo = any_pseudokey c.args.settings.keyer in
    let known = g.R.Read.remaining c.args.blocks.now.source.reader.now in
    let later = g.R.Read.remaining c.loop-group.blocks.source.reader.now in
    let place = c.args.blocks.now.place in
    let next = c.loop-group.blocks.place in
    let group = c.loop-group.group in
    let count = c.args.count in
    let was = c.loop-group.invariant in
    let within = inside group count c.loop-group-test.true in
    let fault = c.in_err-more.field-0.0 in
    err_is c.from_residual.result fault (IsOf (FailsInGroups pseudo place count) known) c.from_residual.ensures.1
    (of_later (FailsInGroup pseudo next c.min-some.result) (FailsInGroups pseudo place count) known later fault
    (λ fault. fails_in_groups pseudo known later place next group count c.min-some.result was.read.pages c.loop-group.cells.items fault was.read.given within
    (full_before group count was.read.all within) (full_before group count was.read.count_is within) (place_now place group count was.place within) c.min-some.ensures)
    c.in_err-more.ensures.err)
