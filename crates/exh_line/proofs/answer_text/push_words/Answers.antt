use Rattle.std.proofs.Common.{◌≡◌, ℕ, List, ◌++◌, Result, Ok, Err, OnOk, codes, decimal, append_assoc, refl, sym, ap, ◌∙◌, subst}
use Rattle.std.proofs.lemmas.List.{append-nil}
use Rattle.std.proofs.lemmas.Result.{IfOk-from_err}
use Rattle.exh_text.specs.Printing.{place_text, refused_text}
use Rattle.exh_text.specs.TextLemmas.{keeps_more}
use Rattle.exh_line.specs.LineAnswer.{answer_words}
use Rattle.exh_line.proofs.answer_text.push_words.Goals as goal

-- a text behind a name and what it did
behind_name : {T E : Type 0} (result : Result T E) (old named new kind name did text : List ℕ)
    → named ≡ old ++ (kind ++ (name ++ did)) → OnOk result (new ≡ named ++ text) → OnOk result (new ≡ old ++ ((kind ++ name) ++ (did ++ text)))
behind_name (Ok made) old named new kind name did text first second =
    second ∙ ap (λ front. front ++ text) (first ∙ ap (λ front. old ++ front) (sym (append_assoc kind name did))) ∙ append_assoc old ((kind ++ name) ++ did) text
    ∙ ap (λ end. old ++ end) (append_assoc (kind ++ name) did text)
behind_name (Err fault) old named new kind name did text first second = tt

-- a place behind them
place_behind : {T E : Type 0} (result : Result T E) (old named new kind name did : List ℕ) {ward number of_ward of_number : ℕ} → ward ≡ of_ward → number ≡ of_number
    → named ≡ old ++ (kind ++ (name ++ did)) → OnOk result (new ≡ named ++ place_text ward number) → OnOk result (new ≡ old ++ ((kind ++ name) ++ (did ++ place_text of_ward of_number)))
place_behind result old named new kind name did {ward} {number} {of_ward} {of_number} is_ward is_number first second =
    let placed = subst (λ n. OnOk result (new ≡ named ++ place_text n number)) is_ward second in
    behind_name result old named new kind name did (place_text of_ward of_number) first (subst (λ n. OnOk result (new ≡ named ++ place_text of_ward n)) is_number placed)

pub returns-in_err-push_named-in-Begun-clause-ok : goal.returns-in_err-push_named-in-Begun-clause-ok
returns-in_err-push_named-in-Begun-clause-ok c = IfOk-from_err c.from_residual.result _ c.from_residual.ensures.0

pub returns-in_err-push_named-in-Begun-clause-kept : goal.returns-in_err-push_named-in-Begun-clause-kept
returns-in_err-push_named-in-Begun-clause-kept c = c.push_named.ensures.kept

pub returns-in_ok-push_named-in-Begun-clause-ok : goal.returns-in_ok-push_named-in-Begun-clause-ok
returns-in_ok-push_named-in-Begun-clause-ok c =
    subst (λ answer. OnOk c.push_place.result (c.push_place.new.out.items ≡ c.args.out.now.items ++ answer_words answer)) (sym c.in-Begun.is)
    (place_behind c.push_place.result c.args.out.now.items c.push_named.new.out.items c.push_place.new.out.items (codes "r") (decimal c.in-Begun.name) (codes " at ") c.from.ensures c.from-in-Begun.ensures c.in_ok-push_named-in-Begun.ensures.ok c.push_place.ensures.ok)

pub returns-in_ok-push_named-in-Begun-clause-kept : goal.returns-in_ok-push_named-in-Begun-clause-kept
returns-in_ok-push_named-in-Begun-clause-kept c = keeps_more _ _ _ c.push_named.ensures.kept c.push_place.ensures.kept

pub returns-in_err-push_named-in-Moved-clause-ok : goal.returns-in_err-push_named-in-Moved-clause-ok
returns-in_err-push_named-in-Moved-clause-ok c = IfOk-from_err c.from_residual-in_err-push_named-in-Moved.result _ c.from_residual-in_err-push_named-in-Moved.ensures.0

pub returns-in_err-push_named-in-Moved-clause-kept : goal.returns-in_err-push_named-in-Moved-clause-kept
returns-in_err-push_named-in-Moved-clause-kept c = c.push_named-in-Moved.ensures.kept

pub returns-in_ok-push_named-in-Moved-clause-ok : goal.returns-in_ok-push_named-in-Moved-clause-ok
returns-in_ok-push_named-in-Moved-clause-ok c =
    subst (λ answer. OnOk c.push_place-in-Moved.result (c.push_place-in-Moved.new.out.items ≡ c.args.out.now.items ++ answer_words answer)) (sym c.in-Moved.is)
    (place_behind c.push_place-in-Moved.result c.args.out.now.items c.push_named-in-Moved.new.out.items c.push_place-in-Moved.new.out.items (codes "r") (decimal c.in-Moved.name) (codes " moved ") c.from-in-Moved.ensures c.from-in-Moved-2.ensures c.in_ok-push_named-in-Moved.ensures.ok c.push_place-in-Moved.ensures.ok)

pub returns-in_ok-push_named-in-Moved-clause-kept : goal.returns-in_ok-push_named-in-Moved-clause-kept
returns-in_ok-push_named-in-Moved-clause-kept c = keeps_more _ _ _ c.push_named-in-Moved.ensures.kept c.push_place-in-Moved.ensures.kept

pub returns-in_err-push_named-in-Taken-clause-ok : goal.returns-in_err-push_named-in-Taken-clause-ok
returns-in_err-push_named-in-Taken-clause-ok c = IfOk-from_err c.from_residual-in_err-push_named-in-Taken.result _ c.from_residual-in_err-push_named-in-Taken.ensures.0

pub returns-in_err-push_named-in-Taken-clause-kept : goal.returns-in_err-push_named-in-Taken-clause-kept
returns-in_err-push_named-in-Taken-clause-kept c = c.push_named-in-Taken.ensures.kept

pub returns-in_ok-push_named-in-Taken-clause-ok : goal.returns-in_ok-push_named-in-Taken-clause-ok
returns-in_ok-push_named-in-Taken-clause-ok c =
    subst (λ answer. OnOk c.push_place-in-Taken.result (c.push_place-in-Taken.new.out.items ≡ c.args.out.now.items ++ answer_words answer)) (sym c.in-Taken.is)
    (place_behind c.push_place-in-Taken.result c.args.out.now.items c.push_named-in-Taken.new.out.items c.push_place-in-Taken.new.out.items (codes "copy ") (decimal c.in-Taken.copy) (codes " took ") c.from-in-Taken.ensures refl c.in_ok-push_named-in-Taken.ensures.ok c.push_place-in-Taken.ensures.ok)

pub returns-in_ok-push_named-in-Taken-clause-kept : goal.returns-in_ok-push_named-in-Taken-clause-kept
returns-in_ok-push_named-in-Taken-clause-kept c = keeps_more _ _ _ c.push_named-in-Taken.ensures.kept c.push_place-in-Taken.ensures.kept

pub returns-in_err-push_named-in-Joined-clause-ok : goal.returns-in_err-push_named-in-Joined-clause-ok
returns-in_err-push_named-in-Joined-clause-ok c = IfOk-from_err c.from_residual-in_err-push_named-in-Joined.result _ c.from_residual-in_err-push_named-in-Joined.ensures.0

pub returns-in_err-push_named-in-Joined-clause-kept : goal.returns-in_err-push_named-in-Joined-clause-kept
returns-in_err-push_named-in-Joined-clause-kept c = c.push_named-in-Joined.ensures.kept

pub returns-in_ok-push_named-in-Joined-clause-ok : goal.returns-in_ok-push_named-in-Joined-clause-ok
returns-in_ok-push_named-in-Joined-clause-ok c =
    subst (λ answer. OnOk c.push_number.result (c.push_number.new.out.items ≡ c.args.out.now.items ++ answer_words answer)) (sym c.in-Joined.is)
    (behind_name c.push_number.result c.args.out.now.items c.push_named-in-Joined.new.out.items c.push_number.new.out.items (codes "copy ") (decimal c.in-Joined.copy) (codes " joined ") (decimal c.in-Joined.table) c.in_ok-push_named-in-Joined.ensures.ok (subst (λ n. OnOk c.push_number.result (c.push_number.new.out.items ≡ c.push_named-in-Joined.new.out.items ++ decimal n)) c.from-in-Joined.ensures c.push_number.ensures.ok))

pub returns-in_ok-push_named-in-Joined-clause-kept : goal.returns-in_ok-push_named-in-Joined-clause-kept
returns-in_ok-push_named-in-Joined-clause-kept c = keeps_more _ _ _ c.push_named-in-Joined.ensures.kept c.push_number.ensures.kept

pub returns-in-MustSplit-clause-ok : goal.returns-in-MustSplit-clause-ok
returns-in-MustSplit-clause-ok c =
    subst (λ answer. OnOk c.push_named-in-MustSplit.result (c.push_named-in-MustSplit.new.out.items ≡ c.args.out.now.items ++ answer_words answer)) (sym c.in-MustSplit.is) c.push_named-in-MustSplit.ensures.ok

pub returns-in-MustSplit-clause-kept : goal.returns-in-MustSplit-clause-kept
returns-in-MustSplit-clause-kept c = c.push_named-in-MustSplit.ensures.kept

pub returns-in-Stray-clause-ok : goal.returns-in-Stray-clause-ok
returns-in-Stray-clause-ok c =
    subst (λ answer. OnOk c.push_named-in-Stray.result (c.push_named-in-Stray.new.out.items ≡ c.args.out.now.items ++ answer_words answer)) (sym c.in-Stray.is) c.push_named-in-Stray.ensures.ok

pub returns-in-Stray-clause-kept : goal.returns-in-Stray-clause-kept
returns-in-Stray-clause-kept c = c.push_named-in-Stray.ensures.kept

pub returns-in-Restarted-clause-ok : goal.returns-in-Restarted-clause-ok
returns-in-Restarted-clause-ok c =
    subst (λ answer. OnOk c.push_named-in-Restarted.result (c.push_named-in-Restarted.new.out.items ≡ c.args.out.now.items ++ answer_words answer)) (sym c.in-Restarted.is) c.push_named-in-Restarted.ensures.ok

pub returns-in-Restarted-clause-kept : goal.returns-in-Restarted-clause-kept
returns-in-Restarted-clause-kept c = c.push_named-in-Restarted.ensures.kept

pub returns-in-Sent-clause-ok : goal.returns-in-Sent-clause-ok
returns-in-Sent-clause-ok c =
    subst (λ answer. OnOk c.push_named-in-Sent.result (c.push_named-in-Sent.new.out.items ≡ c.args.out.now.items ++ answer_words answer)) (sym c.in-Sent.is)
    (subst (λ text. OnOk c.push_named-in-Sent.result (c.push_named-in-Sent.new.out.items ≡ c.args.out.now.items ++ (codes "table " ++ text))) (append-nil (decimal c.in-Sent.table)) c.push_named-in-Sent.ensures.ok)

pub returns-in-Sent-clause-kept : goal.returns-in-Sent-clause-kept
returns-in-Sent-clause-kept c = c.push_named-in-Sent.ensures.kept

pub returns-in-Replied-clause-ok : goal.returns-in-Replied-clause-ok
returns-in-Replied-clause-ok c =
    subst (λ answer. OnOk c.push_replied.result (c.push_replied.new.out.items ≡ c.args.out.now.items ++ answer_words answer)) (sym c.in-Replied.is) c.push_replied.ensures.ok

pub returns-in-Replied-clause-kept : goal.returns-in-Replied-clause-kept
returns-in-Replied-clause-kept c = c.push_replied.ensures.kept

pub returns-in-Changed-clause-ok : goal.returns-in-Changed-clause-ok
returns-in-Changed-clause-ok c =
    subst (λ answer. OnOk c.push_notice.result (c.push_notice.new.out.items ≡ c.args.out.now.items ++ answer_words answer)) (sym c.in-Changed.is) c.push_notice.ensures.ok

pub returns-in-Changed-clause-kept : goal.returns-in-Changed-clause-kept
returns-in-Changed-clause-kept c = c.push_notice.ensures.kept

pub returns-in-Refused-clause-ok : goal.returns-in-Refused-clause-ok
returns-in-Refused-clause-ok c =
    subst (λ answer. OnOk c.push_refused.result (c.push_refused.new.out.items ≡ c.args.out.now.items ++ answer_words answer)) (sym c.in-Refused.is)
    (subst (λ n. OnOk c.push_refused.result (c.push_refused.new.out.items ≡ c.args.out.now.items ++ refused_text n)) c.number.ensures c.push_refused.ensures.ok)

pub returns-in-Refused-clause-kept : goal.returns-in-Refused-clause-kept
returns-in-Refused-clause-kept c = c.push_refused.ensures.kept
