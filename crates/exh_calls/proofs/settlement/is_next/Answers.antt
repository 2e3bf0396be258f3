use Rattle.std.proofs.Common.{◌≡◌, ◌+◌, ◌-◌, ◌<◌, [], length, sym, ap, ◌∙◌, arith}
use Rattle.std.proofs.lemmas.Bool.{false≢true}
use Rattle.std.proofs.lemmas.Option.{get_or_from_slice_get}
use Rattle.exh_calls.specs.Call.{key_of}
use Rattle.exh_calls.specs.Beside.{of_caller_from}
use Rattle.exh_calls.specs.Settled.{journal_at}
use Rattle.exh_calls.proofs.Beside.{told_none, told_other, told_same}
use Rattle.exh_calls.proofs.settlement.is_next.Goals as goal

pub returns-in-Some-clause-goes_on : goal.returns-in-Some-clause-goes_on
returns-in-Some-clause-goes_on g c =
    let ward_of = g.J.Journals.ward_of c.args.journals.now in
    let journals = g.J.Journals.journals_of c.args.journals.now in
    let client = c.args.client in
    let first = c.args.first in
    let entry = c.args.entry.now in
    let number = c.ward-number.result in
    let at = number - first in
    let journal = c.journal.result.now.entries in
    let place : number ≡ first + at = omega arith in
    let ward : ward_of (key_of entry.call) ≡ first + at = ap ward_of (sym c.key.ensures) ∙ sym c.ward-number.ensures ∙ place in
    let there : journal_at journals (first + at) ≡ journal = ap (journal_at journals) (sym place) ∙ get_or_from_slice_get journals number journal [] c.journal.ensures in
    let within : ward_of (key_of entry.call) < length journals = omega (arith, ward, place, c.if-number-count.false, c.count.ensures) in
    λ is. told_same ward_of journals client first entry c.args.places.now at c.next_of.new.place journal ward (omega arith) there c.in-Some.told c.in-Some.ensures (c.is_equal.ensures.0 is) (omega arith) within

pub returns-in-Some-clause-differs : goal.returns-in-Some-clause-differs
returns-in-Some-clause-differs g c =
    let ward_of = g.J.Journals.ward_of c.args.journals.now in
    let journals = g.J.Journals.journals_of c.args.journals.now in
    let client = c.args.client in
    let first = c.args.first in
    let entry = c.args.entry.now in
    let number = c.ward-number.result in
    let at = number - first in
    let journal = c.journal.result.now.entries in
    let place : number ≡ first + at = omega arith in
    let ward : ward_of (key_of entry.call) ≡ first + at = ap ward_of (sym c.key.ensures) ∙ sym c.ward-number.ensures ∙ place in
    let there : journal_at journals (first + at) ≡ journal = ap (journal_at journals) (sym place) ∙ get_or_from_slice_get journals number journal [] c.journal.ensures in
    λ no. told_other ward_of journals client first entry c.args.places.now at c.next_of.new.place journal ward (omega arith) there c.in-Some.told (of_caller_from client journal c.next_of.new.place) c.in-Some.ensures (λ same. false≢true (sym no ∙ c.is_equal.ensures.1 same))

pub returns-in-None-clause-differs : goal.returns-in-None-clause-differs
returns-in-None-clause-differs g c =
    let ward_of = g.J.Journals.ward_of c.args.journals.now in
    let journals = g.J.Journals.journals_of c.args.journals.now in
    let client = c.args.client in
    let first = c.args.first in
    let entry = c.args.entry.now in
    let number = c.ward-number.result in
    let at = number - first in
    let journal = c.journal.result.now.entries in
    let place : number ≡ first + at = omega arith in
    let ward : ward_of (key_of entry.call) ≡ first + at = ap ward_of (sym c.key.ensures) ∙ sym c.ward-number.ensures ∙ place in
    let there : journal_at journals (first + at) ≡ journal = ap (journal_at journals) (sym place) ∙ get_or_from_slice_get journals number journal [] c.journal.ensures in
    λ _. told_none ward_of journals client first entry c.args.places.now at 0 journal ward (omega arith) there c.in-None.ensures.0
