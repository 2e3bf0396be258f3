use Rattle.std.proofs.Common.{◌≡◌, List, ℕ, [], ◌∷◌, ◌++◌, Result, Ok, Err, OnOk, codes, decimal, flat_map, append_assoc, arith, rules, ap, subst, ◌∙◌}
use Rattle.std.specs.FinMap.{entries}
use Rattle.std.proofs.lemmas.Result.{IfOk-from_err}
use Rattle.exh_table.specs.Below.{depth_of, leaves_listed}
use Rattle.exh_text.specs.TextLines.{newline}
use Rattle.exh_text.specs.TextLemmas.{keeps_more}
use Rattle.exh_line.specs.LineAnswer.{copy_text}
use Rattle.exh_line.specs.Shown.{entry_line, leaf_line}
use Rattle.exh_line.proofs.view_text.push_shown.Goals as goal

-- a copy, its depth at the end of its line, entries and leaves
shown : {A E : Type 0} (result : Result A E) (old a b c d e new copy depth number end entries leaves : List ℕ)
    → a ≡ old ++ copy → b ≡ a ++ depth → c ≡ b ++ number → d ≡ c ++ end → e ≡ d ++ entries
    → OnOk result (new ≡ e ++ leaves) → OnOk result (new ≡ old ++ (copy ++ (((depth ++ number) ++ end) ++ (entries ++ leaves))))
shown (Ok made) old a b c d e new copy depth number end entries leaves is_a is_b is_c is_d is_e last =
    last ∙ ap (λ l. l ++ leaves) (is_e ∙ ap (λ l. l ++ entries) (is_d ∙ ap (λ l. l ++ end) (is_c ∙ ap (λ l. l ++ number) (is_b ∙ ap (λ l. l ++ depth) is_a)))) ∙ simp append_assoc
shown (Err fault) old a b c d e new copy depth number end entries leaves is_a is_b is_c is_d is_e last = tt

pub returns-in_err-push_copy-clause-ok : goal.returns-in_err-push_copy-clause-ok
returns-in_err-push_copy-clause-ok c = IfOk-from_err c.from_residual.result _ c.from_residual.ensures.0

pub returns-in_err-push_copy-clause-kept : goal.returns-in_err-push_copy-clause-kept
returns-in_err-push_copy-clause-kept c = c.push_copy.ensures.kept

pub returns-in_err-push_text-clause-ok : goal.returns-in_err-push_text-clause-ok
returns-in_err-push_text-clause-ok c = IfOk-from_err c.from_residual-in_err-push_text.result _ c.from_residual-in_err-push_text.ensures.0

pub returns-in_err-push_text-clause-kept : goal.returns-in_err-push_text-clause-kept
returns-in_err-push_text-clause-kept c = keeps_more _ _ _ c.push_copy.ensures.kept c.push_text.ensures.kept

pub returns-in_err-push_number-clause-ok : goal.returns-in_err-push_number-clause-ok
returns-in_err-push_number-clause-ok c = IfOk-from_err c.from_residual-in_err-push_number.result _ c.from_residual-in_err-push_number.ensures.0

pub returns-in_err-push_number-clause-kept : goal.returns-in_err-push_number-clause-kept
returns-in_err-push_number-clause-kept c =
    keeps_more _ _ _ (keeps_more _ _ _ c.push_copy.ensures.kept c.push_text.ensures.kept) c.push_number.ensures.kept

pub returns-in_err-push_text-2-clause-ok : goal.returns-in_err-push_text-2-clause-ok
returns-in_err-push_text-2-clause-ok c = IfOk-from_err c.from_residual-in_err-push_text-2.result _ c.from_residual-in_err-push_text-2.ensures.0

pub returns-in_err-push_text-2-clause-kept : goal.returns-in_err-push_text-2-clause-kept
returns-in_err-push_text-2-clause-kept c =
    keeps_more _ _ _ (keeps_more _ _ _ (keeps_more _ _ _ c.push_copy.ensures.kept c.push_text.ensures.kept) c.push_number.ensures.kept) c.push_text-2.ensures.kept

pub returns-in_err-push_entries-clause-ok : goal.returns-in_err-push_entries-clause-ok
returns-in_err-push_entries-clause-ok c = IfOk-from_err c.from_residual-in_err-push_entries.result _ c.from_residual-in_err-push_entries.ensures.0

pub returns-in_err-push_entries-clause-kept : goal.returns-in_err-push_entries-clause-kept
returns-in_err-push_entries-clause-kept c =
    keeps_more _ _ _ (keeps_more _ _ _ (keeps_more _ _ _ (keeps_more _ _ _ c.push_copy.ensures.kept c.push_text.ensures.kept) c.push_number.ensures.kept) c.push_text-2.ensures.kept) c.push_entries.ensures.kept

pub returns-clause-ok : goal.returns-clause-ok
returns-clause-ok c =
    let table = c.args.directory.now.table in
    let bits = c.args.ward_bits in
    let depth : c.from.result ≡ depth_of table bits = first_of (search rules, grind arith) in
    let last = subst (λ its. OnOk c.push_leaves.result (c.push_leaves.new.out.items ≡ c.push_entries.new.out.items ++ flat_map (leaf_line bits) (leaves_listed its bits))) c.table-2.ensures c.push_leaves.ensures.ok in
    shown c.push_leaves.result c.args.out.now.items c.push_copy.new.out.items c.push_text.new.out.items c.push_number.new.out.items c.push_text-2.new.out.items c.push_entries.new.out.items c.push_leaves.new.out.items
    (copy_text c.args.copy) (codes " depth ") (decimal (depth_of table bits)) (newline ∷ []) (flat_map entry_line (entries table)) (flat_map (leaf_line bits) (leaves_listed table bits))
    c.in_ok-push_copy.ensures.ok c.in_ok-push_text.ensures.ok (c.in_ok-push_number.ensures.ok ∙ ap (λ n. c.push_text.new.out.items ++ decimal n) depth) c.in_ok-push_text-2.ensures.ok
    (c.in_ok-push_entries.ensures.ok ∙ ap (λ its. c.push_text-2.new.out.items ++ flat_map entry_line (entries its)) c.table.ensures) last

pub returns-clause-kept : goal.returns-clause-kept
returns-clause-kept c =
    keeps_more _ _ _ (keeps_more _ _ _ (keeps_more _ _ _ (keeps_more _ _ _ (keeps_more _ _ _ c.push_copy.ensures.kept c.push_text.ensures.kept) c.push_number.ensures.kept) c.push_text-2.ensures.kept) c.push_entries.ensures.kept) c.push_leaves.ensures.kept

pub push_leaves-requires : goal.push_leaves-requires
push_leaves-requires c = c.requires.most
