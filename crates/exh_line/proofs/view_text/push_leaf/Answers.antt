use Rattle.std.proofs.Common.{◌≡◌, List, ℕ, [], ◌∷◌, ◌++◌, Result, Ok, Err, OnOk, codes, append_assoc, ap, ◌∙◌}
use Rattle.std.proofs.lemmas.Result.{IfOk-from_err}
use Rattle.exh_prefix.specs.Leading.{ward_of}
use Rattle.exh_prefix.specs.Prefix.{low_of, prefix_text}
use Rattle.exh_text.specs.TextLines.{newline}
use Rattle.exh_text.specs.Printing.{place_text}
use Rattle.exh_text.specs.TextLemmas.{keeps_more}
use Rattle.exh_line.proofs.view_text.push_leaf.Goals as goal

-- a word, a prefix, a space and a place on a line
listed : {A E : Type 0} (result : Result A E) (old a b c d new word prefix space place end : List ℕ)
    → a ≡ old ++ word → b ≡ a ++ prefix → c ≡ b ++ space → d ≡ c ++ place
    → OnOk result (new ≡ d ++ end) → OnOk result (new ≡ old ++ ((word ++ (prefix ++ (space ++ place))) ++ end))
listed (Ok made) old a b c d new word prefix space place end is_a is_b is_c is_d last =
    last ∙ ap (λ l. l ++ end) (is_d ∙ ap (λ l. l ++ place) (is_c ∙ ap (λ l. l ++ space) (is_b ∙ ap (λ l. l ++ prefix) is_a))) ∙ simp append_assoc
listed (Err fault) old a b c d new word prefix space place end is_a is_b is_c is_d last = tt

pub returns-in_err-push_text-clause-ok : goal.returns-in_err-push_text-clause-ok
returns-in_err-push_text-clause-ok c = IfOk-from_err c.from_residual.result _ c.from_residual.ensures.0

pub returns-in_err-push_text-clause-kept : goal.returns-in_err-push_text-clause-kept
returns-in_err-push_text-clause-kept c = c.push_text.ensures.kept

pub returns-in_err-push_prefix-clause-ok : goal.returns-in_err-push_prefix-clause-ok
returns-in_err-push_prefix-clause-ok c = IfOk-from_err c.from_residual-in_err-push_prefix.result _ c.from_residual-in_err-push_prefix.ensures.0

pub returns-in_err-push_prefix-clause-kept : goal.returns-in_err-push_prefix-clause-kept
returns-in_err-push_prefix-clause-kept c = keeps_more _ _ _ c.push_text.ensures.kept c.push_prefix.ensures.kept

pub returns-in_err-push_text-2-clause-ok : goal.returns-in_err-push_text-2-clause-ok
returns-in_err-push_text-2-clause-ok c = IfOk-from_err c.from_residual-in_err-push_text-2.result _ c.from_residual-in_err-push_text-2.ensures.0

pub returns-in_err-push_text-2-clause-kept : goal.returns-in_err-push_text-2-clause-kept
returns-in_err-push_text-2-clause-kept c =
    keeps_more _ _ _ (keeps_more _ _ _ c.push_text.ensures.kept c.push_prefix.ensures.kept) c.push_text-2.ensures.kept

pub returns-in_err-push_place-clause-ok : goal.returns-in_err-push_place-clause-ok
returns-in_err-push_place-clause-ok c = IfOk-from_err c.from_residual-in_err-push_place.result _ c.from_residual-in_err-push_place.ensures.0

pub returns-in_err-push_place-clause-kept : goal.returns-in_err-push_place-clause-kept
returns-in_err-push_place-clause-kept c =
    keeps_more _ _ _ (keeps_more _ _ _ (keeps_more _ _ _ c.push_text.ensures.kept c.push_prefix.ensures.kept) c.push_text-2.ensures.kept) c.push_place.ensures.kept

pub returns-clause-ok : goal.returns-clause-ok
returns-clause-ok c =
    let bits = c.args.ward_bits in
    let leaf = c.args.leaf.now in
    let ward : c.from.result ≡ ward_of bits (low_of leaf.prefix) = c.from.ensures ∙ c.ward_number-ward.ensures ∙ ap (ward_of bits) c.low.ensures in
    let placed = c.in_ok-push_place.ensures.ok ∙ ap (λ n. c.push_text-2.new.out.items ++ place_text n c.from-2.result) ward ∙ ap (λ n. c.push_text-2.new.out.items ++ place_text (ward_of bits (low_of leaf.prefix)) n) c.from-2.ensures in
    listed c.push_text-3.result c.args.out.now.items c.push_text.new.out.items c.push_prefix.new.out.items c.push_text-2.new.out.items c.push_place.new.out.items c.push_text-3.new.out.items
    (codes "leaf ") (prefix_text leaf.prefix) (codes " ") (place_text (ward_of bits (low_of leaf.prefix)) leaf.page) (newline ∷ [])
    c.in_ok-push_text.ensures.ok c.in_ok-push_prefix.ensures.ok c.in_ok-push_text-2.ensures.ok placed c.push_text-3.ensures.ok

pub returns-clause-kept : goal.returns-clause-kept
returns-clause-kept c = keeps_more _ _ _ (keeps_more _ _ _ (keeps_more _ _ _ (keeps_more _ _ _ c.push_text.ensures.kept c.push_prefix.ensures.kept) c.push_text-2.ensures.kept) c.push_place.ensures.kept) c.push_text-3.ensures.kept

pub ward_number-ward-requires : goal.ward_number-ward-requires
ward_number-ward-requires c = c.requires
