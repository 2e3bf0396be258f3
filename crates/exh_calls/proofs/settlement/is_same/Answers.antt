use Rattle.std.proofs.Common.{◌≡◌, ◌+◌, ◌*◌, ◌/◌, ◌%◌, ◌<◌, length, inl, inr, refl, sym, ◌∙◌, subst, arith}
use Rattle.std.proofs.lemmas.Bool.{cases_lt, false≢true}
use Rattle.exh_calls.specs.Beside.{IsSameFrom}
use Rattle.exh_calls.specs.Settled.{IsSameIn}
use Rattle.exh_calls.proofs.Wards.{none_beyond, all_within}
use Rattle.exh_calls.proofs.settlement.is_same.Goals as goal

pub returns-then-not-is_same_from : goal.returns-then-not-is_same_from
returns-then-not-is_same_from g c =
    let ward_of = g.J.Journals.ward_of c.args.journals.now in
    let journals = g.J.Journals.journals_of c.args.journals.now in (
      λ is. absurd (false≢true is),
      λ same. absurd (false≢true (sym c.if-not-is_same_from.true ∙ c.is_same_from.ensures.1 (all_within ward_of journals c.args.diary.now same, λ slot less. same _))),
    )

pub loop-row-preserved : goal.loop-row-preserved
loop-row-preserved g c k less =
    let ward_of = g.J.Journals.ward_of c.args.journals.now in
    let journals = g.J.Journals.journals_of c.args.journals.now in
    elim (cases_lt k c.loop-row.row) [
      | inl before ↦ c.loop-row.invariant k before
      | inr not_before ↦
          let here : c.loop-row.row ≡ k = omega (arith, less, not_before) in
          subst (λ n. IsSameFrom ward_of journals c.args.diary.now (n * 16)) here (c.is_same_from.ensures.0 c.if-not-is_same_from.false)
    ]

pub returns : goal.returns
returns g c =
    let ward_of = g.J.Journals.ward_of c.args.journals.now in
    let journals = g.J.Journals.journals_of c.args.journals.now in
    let diary = c.args.diary.now in
    let some : 0 < c.loop-row.row = omega (arith, c.loop-row-test.false) in (
      λ _ number. elim (cases_lt number (length journals)) [
        | inl less ↦
            let row : number / 16 < c.loop-row.row = omega (arith, less, c.loop-row-test.false, c.count.ensures) in
            let slot : number % 16 < 16 = omega arith in
            let is : number / 16 * 16 + number % 16 ≡ number = omega arith in
            subst (λ n. IsSameIn ward_of journals diary n) is ((c.loop-row.invariant (number / 16) row).1 (number % 16) slot)
        | inr beyond ↦ none_beyond ward_of journals diary number beyond (c.loop-row.invariant 0 some).0
      ],
      λ _. refl,
    )
