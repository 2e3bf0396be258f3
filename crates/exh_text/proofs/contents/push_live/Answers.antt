use Rattle.std.proofs.Common.{List, ℕ, ◌++◌, codes, decimal}
use Rattle.exh_prefix.specs.Prefix.{prefix_text}
use Rattle.std.proofs.lemmas.Result.{IfOk-from_err}
use Rattle.exh_text.specs.Contents.{right_text}
use Rattle.exh_text.specs.TextLemmas.{added_behind, keeps_more}
use Rattle.exh_text.proofs.contents.push_live.Goals as goal

pub returns-in_err-push_text-3-clause-kept : goal.returns-in_err-push_text-3-clause-kept
returns-in_err-push_text-3-clause-kept c =
    keeps_more _ _ _ (keeps_more _ _ _ (keeps_more _ _ _ (keeps_more _ _ _ c.push_text.ensures.kept c.push_prefix.ensures.kept) c.push_text-2.ensures.kept) c.push_right.ensures.kept) c.push_text-3.ensures.kept

pub returns-clause-ok : goal.returns-clause-ok
returns-clause-ok c =
    let result = c.push_number.result in
    let new : List ℕ = c.push_number.new.out.items in
    let records : List ℕ = codes " records " ++ decimal c.args.count in
    let linked : List ℕ = right_text c.args.right ++ records in
    let right : List ℕ = codes " right " ++ linked in
    let prefixed : List ℕ = prefix_text c.args.prefix.now ++ right in
    added_behind result c.args.out.now.items c.push_text.new.out.items new (codes " live prefix ") prefixed c.in_ok-push_text.ensures.ok
    (added_behind result c.push_text.new.out.items c.push_prefix.new.out.items new (prefix_text c.args.prefix.now) right c.in_ok-push_prefix.ensures.ok
    (added_behind result c.push_prefix.new.out.items c.push_text-2.new.out.items new (codes " right ") linked c.in_ok-push_text-2.ensures.ok
    (added_behind result c.push_text-2.new.out.items c.push_right.new.out.items new (right_text c.args.right) records c.in_ok-push_right.ensures.ok
    (added_behind result c.push_right.new.out.items c.push_text-3.new.out.items new (codes " records ") (decimal c.args.count) c.in_ok-push_text-3.ensures.ok c.push_number.ensures.ok))))

pub returns-clause-kept : goal.returns-clause-kept
returns-clause-kept c =
    keeps_more _ _ _ (keeps_more _ _ _ (keeps_more _ _ _ (keeps_more _ _ _ (keeps_more _ _ _ c.push_text.ensures.kept c.push_prefix.ensures.kept) c.push_text-2.ensures.kept) c.push_right.ensures.kept) c.push_text-3.ensures.kept) c.push_number.ensures.kept

pub returns-in_err-push_text-clause-ok : goal.returns-in_err-push_text-clause-ok
returns-in_err-push_text-clause-ok c = IfOk-from_err c.from_residual.result _ c.from_residual.ensures.0

pub returns-in_err-push_text-clause-kept : goal.returns-in_err-push_text-clause-kept
returns-in_err-push_text-clause-kept c = c.push_text.ensures.kept

pub returns-in_err-push_prefix-clause-ok : goal.returns-in_err-push_prefix-clause-ok
returns-in_err-push_prefix-clause-ok c =
    IfOk-from_err c.from_residual-in_err-push_prefix.result _ c.from_residual-in_err-push_prefix.ensures.0

pub returns-in_err-push_prefix-clause-kept : goal.returns-in_err-push_prefix-clause-kept
returns-in_err-push_prefix-clause-kept c = keeps_more _ _ _ c.push_text.ensures.kept c.push_prefix.ensures.kept

pub returns-in_err-push_text-2-clause-ok : goal.returns-in_err-push_text-2-clause-ok
returns-in_err-push_text-2-clause-ok c =
    IfOk-from_err c.from_residual-in_err-push_text-2.result _ c.from_residual-in_err-push_text-2.ensures.0

pub returns-in_err-push_text-2-clause-kept : goal.returns-in_err-push_text-2-clause-kept
returns-in_err-push_text-2-clause-kept c =
    keeps_more _ _ _ (keeps_more _ _ _ c.push_text.ensures.kept c.push_prefix.ensures.kept) c.push_text-2.ensures.kept

pub returns-in_err-push_right-clause-ok : goal.returns-in_err-push_right-clause-ok
returns-in_err-push_right-clause-ok c =
    IfOk-from_err c.from_residual-in_err-push_right.result _ c.from_residual-in_err-push_right.ensures.0

pub returns-in_err-push_right-clause-kept : goal.returns-in_err-push_right-clause-kept
returns-in_err-push_right-clause-kept c =
    keeps_more _ _ _ (keeps_more _ _ _ (keeps_more _ _ _ c.push_text.ensures.kept c.push_prefix.ensures.kept) c.push_text-2.ensures.kept) c.push_right.ensures.kept

pub returns-in_err-push_text-3-clause-ok : goal.returns-in_err-push_text-3-clause-ok
returns-in_err-push_text-3-clause-ok c =
    IfOk-from_err c.from_residual-in_err-push_text-3.result _ c.from_residual-in_err-push_text-3.ensures.0
