use Rattle.std.proofs.Common.{List, ℕ, ◌++◌, codes, decimal}
use Rattle.exh_text.specs.TextLemmas.{added_behind}
use Rattle.exh_line.proofs.answer_text.push_moves.Goals as goal

pub returns-clause-ok : goal.returns-clause-ok
returns-clause-ok c =
    let result = c.push_number-2.result in
    let new : List ℕ = c.push_number-2.new.out.items in
    let bound : List ℕ = decimal c.in-Some.moves.bound in
    let of_bound : List ℕ = codes " of " ++ bound in
    let made : List ℕ = decimal c.in-Some.moves.made in
    rw c.in-Some.is
    (added_behind result c.args.out.now.items c.push_text.new.out.items new (codes " moves ") (made ++ of_bound) c.in_ok-push_text.ensures.ok
    (added_behind result c.push_text.new.out.items c.push_number.new.out.items new made of_bound c.in_ok-push_number.ensures.ok
    (added_behind result c.push_number.new.out.items c.push_text-2.new.out.items new (codes " of ") bound c.in_ok-push_text-2.ensures.ok c.push_number-2.ensures.ok)))
