use Rattle.std.proofs.Common.{◌≡◌, ℕ, ◌+◌, ◌^◌, ◌<◌, ◌≤◌, List, [], ◌∷◌, ◌++◌, length, map, take, get_or, sym, ap, ◌∙◌, subst, append-nil, arith}
use Rattle.std.proofs.lemmas.List.{length-append, map_push, take_all, take_more}
use Rattle.std.proofs.lemmas.List.Concat.{flat_map-append}
use Rattle.std.proofs.lemmas.List.Sums.{sum_by_more}
use Rattle.std.specs.List.{AllByRecursion, sum}
use Rattle.exh_prefix.specs.Layout.{layout}
use Rattle.exh_prefix.specs.PrefixListLemmas.{AllByRecursion-push}
use Rattle.exh_keyer.specs.Pseudokey.{any_pseudokey}
use Rattle.exh_format.specs.FileParts.{TakesFormed, pages_read}
use Rattle.exh_legal.specs.declared.Page.{Page}
use Rattle.exh_format.specs.Reading.{FailsInPages, GivesPages, IsOf}
use Rattle.exh_format.proofs.Pages.{fails_later, more_pages, of_later, err_is, failed_so, still_open, sum_more_le}
use Rattle.exh_format.proofs.read_pages.read_wards.Goals as goal

pages_push : {W : Type 0} (own : W → List Page) (wards : List W) (ward : W) → pages_read own (wards ++ ward ∷ []) ≡ pages_read own wards ++ own ward
pages_push own wards ward = flat_map-append own wards (ward ∷ []) ∙ ap (λ (more : List Page). pages_read own wards ++ more) (append-nil (own ward))

module _ (counts : List ℕ) (at : ℕ) (within : at < length counts) where
  next_sum : sum (take (at + 1) counts) ≡ sum (take at counts) + get_or counts at 0
  next_sum = sum_by_more (λ (count : ℕ). count) counts at 0 within

  next_place : (start : ℕ) {place next : ℕ} → place ≡ start + sum (take at counts) → next ≡ place + get_or counts at 0 → next ≡ start + sum (take (at + 1) counts)
  next_place start was is = omega (arith, was, is, next_sum)

  next_count : {so_far more : ℕ} → so_far ≡ sum (take at counts) → more ≡ get_or counts at 0 → so_far + more ≡ sum (take (at + 1) counts)
  next_count was is = omega (arith, was, is, next_sum)

  place_within : (start : ℕ) {place : ℕ} → place ≡ start + sum (take at counts) → start + sum counts < 2 ^ 32 → place + get_or counts at 0 < 2 ^ 32
  place_within start was small = omega (arith, was, small, sum_more_le counts at within)

pub read_pages-requires-clause-place : goal.read_pages-requires-clause-place
read_pages-requires-clause-place g c = place_within c.args.counts.now c.loop-count.count-index c.loop-count-test.true c.args.blocks.now.place c.loop-count.invariant.place c.requires.place

pub loop-count-preserved : goal.loop-count-preserved
loop-count-preserved g c =
    let pseudo = any_pseudokey c.args.keyer in
    let own = g.W.PageList.pages in
    let was = c.loop-count.invariant in
    let read = c.in_ok-pages.ensures in
    let counts = c.args.counts.now in
    let at = c.loop-count.count-index in
    let wards = c.loop-count.wards.items in
    let ward = c.in_ok-pages.pages in
    let within = c.loop-count-test.true in
    let now = c.push_item.new.items.items in
    let Takes = TakesFormed g.W.ReadPages.takes pseudo in
    let pushed : now ≡ wards ++ ward ∷ [] = c.in_ok-push_item.ensures.ok in
    let back : wards ++ ward ∷ [] ≡ now = sym pushed in
    let joined : pages_read own now ≡ pages_read own wards ++ own ward = ap (pages_read own) pushed ∙ pages_push own wards ward in
    record {
      unfailed = still_open ward _ read.failed.1;
      place = next_place counts at within c.args.blocks.now.place was.place read.place;
      some = ap length joined ∙ length-append (pages_read own wards) (own ward) ∙ next_count counts at within was.some read.count;
      counts = ap (map (λ ward. length (own ward))) pushed ∙ map_push (λ ward. length (own ward)) wards ward ∙ ap (λ (front : List ℕ). front ++ length (own ward) ∷ []) was.counts
          ∙ ap (λ (last : ℕ). take at counts ++ last ∷ []) read.count ∙ sym (take_more counts at 0 within);
      takes = subst (AllByRecursion Takes) back (AllByRecursion-push Takes wards ward was.takes read.takes);
      given = subst (GivesPages (layout c.args.version) pseudo _ _) (sym joined) (more_pages (layout c.args.version) pseudo _ _ _ (pages_read own wards) (own ward) was.given read.given);
    }

pub returns-clause-place : goal.returns-clause-place
returns-clause-place g c = c.loop-count.invariant.place ∙ ap (λ (all : List ℕ). c.args.blocks.now.place + sum all) (take_all c.loop-count.count-index c.args.counts.now c.loop-count-test.false)

pub returns-clause-counts : goal.returns-clause-counts
returns-clause-counts g c = c.loop-count.invariant.counts ∙ take_all c.loop-count.count-index c.args.counts.now c.loop-count-test.false

pub returns-in_err-pages-clause-failed : goal.returns-in_err-pages-clause-failed
returns-in_err-pages-clause-failed g c = failed_so c.from_residual.result c.in_err-pages.field-0.0 _ c.from_residual.ensures.1 c.in_err-pages.ensures.failed

pub returns-in_err-pages-clause-err : goal.returns-in_err-pages-clause-err
returns-in_err-pages-clause-err g c =
    let pseudo = any_pseudokey c.args.keyer in
    let known = g.R.Read.remaining c.args.blocks.now.source.reader.now in
    let place = c.args.blocks.now.place in
    let counts = c.args.counts.now in
    let pages = pages_read g.W.PageList.pages c.loop-count.wards.items in
    let i = c.loop-count.count-index in
    let within : sum (take i counts) + get_or counts i 0 ≤ sum counts = sum_more_le counts i (omega arith) in
    let there : c.loop-count.blocks.place ≡ place + length pages = omega (arith, c.loop-count.invariant.place, c.loop-count.invariant.some) in
    err_is c.from_residual.result c.in_err-pages.field-0.0 (IsOf (FailsInPages (layout c.args.version) pseudo place (sum counts)) known) c.from_residual.ensures.1
    (of_later (FailsInPages (layout c.args.version) pseudo c.loop-count.blocks.place (get_or counts i 0)) (FailsInPages (layout c.args.version) pseudo place (sum counts)) known _ c.in_err-pages.field-0.0
    (λ fault. fails_later (layout c.args.version) pseudo known _ place (sum counts) c.loop-count.blocks.place (get_or counts i 0) pages fault c.loop-count.invariant.given there (omega (arith, within, c.loop-count.invariant.some)))
    c.in_err-pages.ensures.err)
