use Rattle.std.proofs.Common.{◌≡◌, ◌∙◌, List, ℕ, Bool, true, false, cond, Some, None, is_some, refl, rules, tests, arith}
use Rattle.std.specs.Char.{is_ascii_graphic}
use Rattle.std.proofs.lemmas.Iterator.{YieldsList-from_slice}
use Rattle.std.proofs.lemmas.Iterator.Search.{all_from_yields_List}
use Rattle.exh_text.proofs.ByteWords.{word_own}
use Rattle.exh_text.proofs.byte_word.stands_for_bytes.Goals as goal

is_some-cond : (b : Bool) (word : List ℕ) → b ≡ is_some (cond b (Some word) None)
is_some-cond true word = refl
is_some-cond false word = refl

pub returns-in_default : goal.returns-in_default
returns-in_default c =
    let found = all_from_yields_List is_ascii_graphic _ _ c.all.result c.all.ensures.ran (YieldsList-from_slice c.args.word.now cc) (λ x b q k. search (rules, tests)) in
    rw (word_own c.args.word.now (omega arith) (omega arith)) (found ∙ is_some-cond _ c.args.word.now)
