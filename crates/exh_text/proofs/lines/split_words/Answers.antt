use Rattle.std.proofs.Common.{refl, rules, tests}
use Rattle.std.proofs.lemmas.Iterator.Consumers.{YieldsList-from_first}
use Rattle.std.proofs.lemmas.Iterator.Search.{any_from_yields_List}
use Rattle.exh_text.specs.TextLines.{is_empty, words_of}
use Rattle.exh_text.proofs.lines.split_words.Goals as goal

pub returns-then-any : goal.returns-then-any
unfolding words_of
returns-then-any c =
    let found = any_from_yields_List is_empty _ _ c.any.result c.any.ensures.ran (YieldsList-from_first (λ x. x.now) (λ parts. parts) c.new.result refl) (λ x b q k. search (rules, tests)) in
    rw (← c.new.ensures, ← found, c.if-any.true) refl

pub returns : goal.returns
unfolding words_of
returns c =
    let found = any_from_yields_List is_empty _ _ c.any.result c.any.ensures.ran (YieldsList-from_first (λ x. x.now) (λ parts. parts) c.new.result refl) (λ x b q k. search (rules, tests)) in
    rw (c.new-2.ensures, ← c.new.ensures, ← found, c.if-any.false) refl
