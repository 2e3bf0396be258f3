use Rattle.std.proofs.Common.{◌≡◌, List, ℕ, [], ◌∷◌, ◌++◌, length, flat_map, Result, Ok, Err, OnOk, codes, decimal, append_assoc, arith, rules, ap, ◌∙◌}
use Rattle.std.proofs.lemmas.Grind.{common_steps}
use Rattle.std.proofs.lemmas.Result.{IfOk-from_err}
use Rattle.exh_text.specs.TextLines.{newline}
use Rattle.exh_text.specs.TextLemmas.{keeps_more}
use Rattle.exh_script.specs.View.{request_line}
use Rattle.exh_script.proofs.in_flight_text.push_in_flight.Goals as goal

-- a line of two texts, and what follows it
begun : {A E : Type 0} (result : Result A E) (old a b c new w x y z : List ℕ) → a ≡ old ++ w → b ≡ a ++ x → c ≡ b ++ y
    → OnOk result (new ≡ c ++ z) → OnOk result (new ≡ old ++ (((w ++ x) ++ y) ++ z))
begun (Ok made) old a b c new w x y z is_a is_b is_c last = last ∙ ap (λ l. l ++ z) (is_c ∙ ap (λ l. l ++ y) (is_b ∙ ap (λ l. l ++ x) is_a)) ∙ simp append_assoc
begun (Err fault) old a b c new w x y z is_a is_b is_c last = tt

pub returns-clause-text : goal.returns-clause-text
returns-clause-text g c =
    let requests = c.args.world.now.in_flight in
    let count : c.len.result ≡ length requests = first_of (search rules, grind (arith, common_steps)) in
    begun c.push_requests.result c.args.out.now.items c.push_text.new.out.items c.push_number.new.out.items c.push_text-2.new.out.items c.push_requests.new.out.items
    (codes "inflight ") (decimal (length requests)) (newline ∷ []) (flat_map request_line requests)
    c.in_ok-push_text.ensures.ok (c.in_ok-push_number.ensures.ok ∙ ap (λ n. c.push_text.new.out.items ++ decimal n) count) c.in_ok-push_text-2.ensures.ok c.push_requests.ensures.text

pub returns-clause-kept : goal.returns-clause-kept
returns-clause-kept g c = keeps_more _ _ _ (keeps_more _ _ _ (keeps_more _ _ _ c.push_text.ensures.kept c.push_number.ensures.kept) c.push_text-2.ensures.kept) c.push_requests.ensures.kept

pub returns-in_err-push_text-clause-text : goal.returns-in_err-push_text-clause-text
returns-in_err-push_text-clause-text g c = IfOk-from_err c.from_residual.result _ c.from_residual.ensures.0

pub returns-in_err-push_text-clause-kept : goal.returns-in_err-push_text-clause-kept
returns-in_err-push_text-clause-kept g c = c.push_text.ensures.kept

pub returns-in_err-push_number-clause-text : goal.returns-in_err-push_number-clause-text
returns-in_err-push_number-clause-text g c = IfOk-from_err c.from_residual-in_err-push_number.result _ c.from_residual-in_err-push_number.ensures.0

pub returns-in_err-push_number-clause-kept : goal.returns-in_err-push_number-clause-kept
returns-in_err-push_number-clause-kept g c = keeps_more _ _ _ c.push_text.ensures.kept c.push_number.ensures.kept

pub returns-in_err-push_text-2-clause-text : goal.returns-in_err-push_text-2-clause-text
returns-in_err-push_text-2-clause-text g c = IfOk-from_err c.from_residual-in_err-push_text-2.result _ c.from_residual-in_err-push_text-2.ensures.0

pub returns-in_err-push_text-2-clause-kept : goal.returns-in_err-push_text-2-clause-kept
returns-in_err-push_text-2-clause-kept g c = keeps_more _ _ _ (keeps_more _ _ _ c.push_text.ensures.kept c.push_number.ensures.kept) c.push_text-2.ensures.kept
