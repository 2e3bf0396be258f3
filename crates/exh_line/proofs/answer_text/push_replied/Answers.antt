use Rattle.std.proofs.Common.{◌≡◌, List, ℕ, ◌++◌, Result, Ok, Err, OnOk, codes, decimal, append_assoc, ap, ◌∙◌}
use Rattle.exh_text.specs.ReplyText.{reply_text}
use Rattle.exh_line.specs.LineAnswer.{moves_text}
use Rattle.exh_line.proofs.answer_text.push_replied.Goals as goal

-- a name and a word behind it, a reply and its moves
replied : {A E : Type 0} (result : Result A E) (old named told new r name space reply moves : List ℕ) → named ≡ old ++ (r ++ (name ++ space)) → told ≡ named ++ reply
    → OnOk result (new ≡ told ++ moves) → OnOk result (new ≡ old ++ ((r ++ name) ++ (space ++ (reply ++ moves))))
replied (Ok a) old named told new r name space reply moves first second third = third ∙ ap (λ l. l ++ moves) (second ∙ ap (λ l. l ++ reply) first) ∙ simp append_assoc
replied (Err e) old named told new r name space reply moves first second third = tt

pub returns-clause-ok : goal.returns-clause-ok
returns-clause-ok c =
    replied c.push_moves.result c.args.out.now.items c.push_named.new.out.items c.push_reply.new.out.items c.push_moves.new.out.items (codes "r") (decimal c.args.name) (codes " ")
    (reply_text c.args.reply.now) (moves_text c.args.told) c.in_ok-push_named.ensures.ok c.in_ok-push_reply.ensures.ok c.push_moves.ensures.ok
