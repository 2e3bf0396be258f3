use Rattle.std.proofs.Common.{◌≡◌, ◌-◌, Bool, true, cond, codes, drop, length, nat_eq, sym, ap, ◌∙◌, arith}
use Rattle.std.proofs.lemmas.List.{length-drop, take_all}
use Rattle.std.specs.List.{starts_with}
use Rattle.exh_file.specs.Numbers.{index_spelled}
use Rattle.exh_system.specs.SizeLimit.{first_word, number_behind}
use Rattle.exh_system.proofs.size_limit.limit_told.Goals as goal

pub returns-then-starts_with : goal.returns-then-starts_with
returns-then-starts_with c =
    let line = c.in-Some.line.now in
    let rest = c.next.new.self in
    let words = codes "Max file size " in
    let begins : starts_with nat_eq line words ≡ true = sym c.starts_with.ensures.value ∙ c.if-starts_with.true in
    let behind = take_all (length line - 14) (drop 14 line) (omega (arith, length-drop 14 line)) in
    c.parse_u64.ensures
    ∙ ap index_spelled (c.first_word.ensures ∙ ap first_word behind)
    ∙ sym (ap (λ (is : Bool). cond is (index_spelled (first_word (drop 14 line))) (number_behind words rest)) begins)
    ∙ ap (number_behind words) (sym c.in-Some.ensures.steps)
    ∙ sym c.loop-line.invariant
