use Rattle.std.proofs.Common.{◌≡◌, ◌∙◌, ◌<◌, ◌^◌, ◌++◌, List, ℕ, Vec, Global, Result, Ok, Err, OnOk, length, ap, sym, subst, arith}
use Rattle.exh_page.specs.declared.page.Page.{Page}
use Rattle.exh_format.specs.FileParts.{pages_in}
use Rattle.exh_report.specs.Counts.{forward_count, live_count, record_count}
use Rattle.exh_report.proofs.Sizes.{check_line_is, few_pages, few_records_in_all}
use Rattle.exh_report.proofs.check.push_check.Goals as goal

-- what is added, by another name
added : {T E : Type 0} (result : Result T E) (old new text other : List ℕ) → text ≡ other → OnOk result (new ≡ old ++ text) → OnOk result (new ≡ old ++ other)
added (Ok done) old new text other same told = told ∙ ap (λ l. old ++ l) same
added (Err fault) old new text other same told = tt

pub of_wards-counts-requires-clause-pages : goal.of_wards-counts-requires-clause-pages
of_wards-counts-requires-clause-pages c =
    let small : length (pages_in c.args.parts.now.wards.items) < 2 ^ 64 = omega (arith, few_pages c.args.parts.now c.requires) in
    subst (λ (wards : List (Vec Page Global)). length (pages_in wards) < 2 ^ 64) (sym c.deref.ensures.value) small

pub of_wards-counts-requires-clause-records : goal.of_wards-counts-requires-clause-records
of_wards-counts-requires-clause-records c =
    subst (λ (wards : List (Vec Page Global)). record_count (pages_in wards) < 2 ^ 64) (sym c.deref.ensures.value) (few_records_in_all c.args.parts.now c.requires)

pub returns : goal.returns
returns c =
    let own = c.deref.ensures.value in
    let counts = c.of_wards-counts.ensures in
    added c.push_legal.result _ _ _ _
    (check_line_is c.args.parts.now c.len.result c.of_wards-counts.result.pages c.of_wards-counts.result.live c.of_wards-counts.result.forward c.of_wards-counts.result.records c.len-2.result
    (omega (arith, c.args.parts.now.wards.ok.0, c.len.ensures)) (counts.pages ∙ ap (λ (wards : List (Vec Page Global)). length (pages_in wards)) own) (counts.live ∙ ap (λ (wards : List (Vec Page Global)). live_count (pages_in wards)) own)
    (counts.forward ∙ ap (λ (wards : List (Vec Page Global)). forward_count (pages_in wards)) own) (counts.records ∙ ap (λ (wards : List (Vec Page Global)). record_count (pages_in wards)) own) (omega (arith, c.args.parts.now.entries.ok.0, c.len-2.ensures))) c.push_legal.ensures
