use Rattle.std.proofs.Common.{List, ℕ, ◌++◌, codes, ap, ◌∙◌}
use Rattle.exh_text.specs.Contents.{entry_text}
use Rattle.exh_text.specs.Printing.{place_text}
use Rattle.exh_text.specs.TextLemmas.{added_behind}
use Rattle.exh_line.proofs.answer_text.push_notice.Goals as goal

pub returns-clause-ok : goal.returns-clause-ok
returns-clause-ok c =
    let result = c.push_entry.result in
    let notice = c.args.notice.now in
    let new : List ℕ = c.push_entry.new.out.items in
    let entry : List ℕ = entry_text notice.prefix notice.number notice.kind in
    let prefixed : List ℕ = codes " prefix " ++ entry in
    let place : List ℕ = place_text notice.ward notice.index in
    let placed = c.in_ok-push_place.ensures.ok ∙ ap (λ ward. c.push_text.new.out.items ++ place_text ward notice.index) c.from.ensures in
    added_behind result c.args.out.now.items c.push_text.new.out.items new (codes "notice ") (place ++ prefixed) c.in_ok-push_text.ensures.ok
    (added_behind result c.push_text.new.out.items c.push_place.new.out.items new place prefixed placed
    (added_behind result c.push_place.new.out.items c.push_text-2.new.out.items new (codes " prefix ") entry c.in_ok-push_text-2.ensures.ok c.push_entry.ensures.ok))
