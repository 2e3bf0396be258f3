use Rattle.std.proofs.Common.{rules, ◌≡◌, ◌+◌, List, Option, Some, sym, subst, take, map, arith, ◌∙◌, ap}
use Rattle.std.specs.Option.{option_cmp}
use Rattle.std.specs.Ordering.{ord_max}
use Rattle.std.proofs.lemmas.Bool.{true≢false}
use Rattle.std.proofs.lemmas.List.{take_all}
use Rattle.exh_prefix.specs.PrefixLemmas.{prefix_eq-exact}
use Rattle.exh_notice.specs.declared.entry.Entry.{Entry}
use Rattle.exh_notice.specs.declared.notice.Notice.{Notice}
use Rattle.exh_notice.specs.Entry.{entry_cmp}
use Rattle.exh_table.specs.Table.{IsEntryOf, told_by}
use Rattle.exh_model.proofs.GreatestEntries.{IsEntryOf-at_other, IsEntryOf-at_prefix}
use Rattle.exh_model.proofs.greatest.greatest_of.Goals as goal
use Rattle.exh_model.proofs.greatest.greatest_of.Goals.{then-eq, else-eq}

pub loop-notice-preserved : goal.loop-notice-preserved
loop-notice-preserved c =
    let notices = c.args.notices.now in
    let i = c.loop-notice.notice-index in
    let notice = c.notice-item.result in
    let prefix = c.args.prefix in
    let old = c.loop-notice.greatest in
    let exact = prefix_eq-exact notice.prefix prefix in
    let P : Option Entry → Type 0 = λ greatest. IsEntryOf (map told_by (take (i + 1) notices)) prefix greatest in
    elim c.if-eq.branch [
      | then-eq w ↦
          let max : w.max-greatest.result ≡ ord_max (option_cmp entry_cmp) old (Some w.entry.result) = search rules in
          let new = w.greatest-is ∙ max ∙ ap (λ entry. ord_max (option_cmp entry_cmp) old (Some entry)) w.entry.ensures in
          subst P (sym new) (IsEntryOf-at_prefix notices i notice prefix old (omega arith) c.notice-item.is (exact.0 (sym c.eq.ensures ∙ w.if-eq.true)) c.loop-notice.invariant)
      | else-eq w ↦
          subst P (sym w.greatest-is)
          (IsEntryOf-at_other notices i notice prefix old (omega arith) c.notice-item.is (λ same. true≢false (sym (exact.1 same) ∙ sym c.eq.ensures ∙ w.if-eq.false)) c.loop-notice.invariant)
    ]

pub returns : goal.returns
returns c =
    let P : List Notice → Type 0 = λ notices. IsEntryOf (map told_by notices) c.args.prefix c.loop-notice.greatest in
    subst P (take_all _ c.args.notices.now (omega arith)) c.loop-notice.invariant
