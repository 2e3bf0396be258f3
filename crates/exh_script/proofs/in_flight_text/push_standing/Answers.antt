use Rattle.std.proofs.Common.{◌≡◌, List, ℕ, [], ◌∷◌, ◌++◌, Result, Ok, Err, OnOk, codes, append_assoc, ap, ap₂, ◌∙◌}
use Rattle.std.proofs.lemmas.Result.{IfOk-from_err}
use Rattle.exh_text.specs.TextLines.{newline}
use Rattle.exh_text.specs.Printing.{place_text}
use Rattle.exh_text.specs.TextLemmas.{keeps_more}
use Rattle.exh_line.specs.LineAnswer.{request_text}
use Rattle.exh_script.proofs.in_flight_text.push_standing.Goals as goal

-- three texts, and the end of their line
line : {A E : Type 0} (result : Result A E) (old a b c new w x y z : List ℕ) → a ≡ old ++ w → b ≡ a ++ x → c ≡ b ++ y
    → OnOk result (new ≡ c ++ z) → OnOk result (new ≡ old ++ ((w ++ (x ++ y)) ++ z))
line (Ok made) old a b c new w x y z is_a is_b is_c last = last ∙ ap (λ l. l ++ z) (is_c ∙ ap (λ l. l ++ y) (is_b ∙ ap (λ l. l ++ x) is_a)) ∙ simp append_assoc
line (Err fault) old a b c new w x y z is_a is_b is_c last = tt

pub returns-clause-text : goal.returns-clause-text
returns-clause-text c =
    let request = c.args.request.now in
    let placed = c.in_ok-push_place.ensures.ok ∙ ap (λ text. c.push_text.new.out.items ++ text) (ap₂ place_text c.from.ensures c.from-2.ensures) in
    line c.push_text-2.result c.args.out.now.items c.push_request.new.out.items c.push_text.new.out.items c.push_place.new.out.items c.push_text-2.new.out.items
    (request_text c.args.name) (codes " at ") (place_text request.ward request.page) (newline ∷ [])
    c.in_ok-push_request.ensures.ok c.in_ok-push_text.ensures.ok placed c.push_text-2.ensures.ok

pub returns-in_err-push_request-clause-text : goal.returns-in_err-push_request-clause-text
returns-in_err-push_request-clause-text c = IfOk-from_err c.from_residual.result _ c.from_residual.ensures.0

pub returns-in_err-push_request-clause-kept : goal.returns-in_err-push_request-clause-kept
returns-in_err-push_request-clause-kept c = c.push_request.ensures.kept

pub returns-in_err-push_text-clause-text : goal.returns-in_err-push_text-clause-text
returns-in_err-push_text-clause-text c = IfOk-from_err c.from_residual-in_err-push_text.result _ c.from_residual-in_err-push_text.ensures.0

pub returns-in_err-push_text-clause-kept : goal.returns-in_err-push_text-clause-kept
returns-in_err-push_text-clause-kept c = keeps_more _ _ _ c.push_request.ensures.kept c.push_text.ensures.kept

pub returns-in_err-push_place-clause-text : goal.returns-in_err-push_place-clause-text
returns-in_err-push_place-clause-text c = IfOk-from_err c.from_residual-in_err-push_place.result _ c.from_residual-in_err-push_place.ensures.0

pub returns-in_err-push_place-clause-kept : goal.returns-in_err-push_place-clause-kept
returns-in_err-push_place-clause-kept c = keeps_more _ _ _ (keeps_more _ _ _ c.push_request.ensures.kept c.push_text.ensures.kept) c.push_place.ensures.kept

pub returns-clause-kept : goal.returns-clause-kept
returns-clause-kept c =
    keeps_more _ _ _ (keeps_more _ _ _ (keeps_more _ _ _ c.push_request.ensures.kept c.push_text.ensures.kept) c.push_place.ensures.kept) c.push_text-2.ensures.kept
