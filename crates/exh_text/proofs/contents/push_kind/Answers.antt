use Rattle.std.proofs.Common.{◌≡◌, ℕ, List, ◌++◌, Result, Ok, Err, OnOk, decimal, append_assoc}
use Rattle.exh_text.proofs.contents.push_kind.Goals as goal

-- a number behind a text
behind : {A E : Type 0} (result : Result A E) (old middle new text : List ℕ) (number right : ℕ) → middle ≡ old ++ text → number ≡ right
    → OnOk result (new ≡ middle ++ decimal number) → OnOk result (new ≡ old ++ (text ++ decimal right))
behind (Ok a) old middle new text number right first same second = rw (second, first, same, append_assoc)
behind (Err e) old middle new text number right first same second = second

pub returns-in_ok-push_text-in-Split-clause-ok : goal.returns-in_ok-push_text-in-Split-clause-ok
returns-in_ok-push_text-in-Split-clause-ok c =
    rw c.in-Split.is (behind c.push_number.result _ _ _ _ c.from.result c.in-Split.right c.in_ok-push_text-in-Split.ensures.ok c.from.ensures c.push_number.ensures.ok)
