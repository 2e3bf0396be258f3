use Rattle.std.proofs.Common.{◌≡◌, ◌≢◌, ℕ, ◌+◌, List, drop, get_or, Ok, sym, ap, ◌∙◌}
use Rattle.exh_pair_text.specs.declared.part.Part.{Part}
use Rattle.exh_pair_text.specs.declared.part.Part.TheVariants.{Stray}
use Rattle.exh_pair_text.specs.declared.place.Place.{Place}
use Rattle.exh_pair_text.specs.Fields.{fields_from}
use Rattle.exh_pair_text.specs.Places.{part_at, place_after}
use Rattle.exh_pair_text.specs.CsvReads.{so_far, taken_by}
use Rattle.exh_pair_text.proofs.Taking.{joined, more, stray, unclosed, whole}
use Rattle.exh_pair_text.proofs.fields.fields_of.Goals as goal

pub returns-in-Stray : goal.returns-in-Stray
returns-in-Stray c = stray c.loop-at.place c.loop-at.at c.args.text.now (so_far c.loop-at.taken) c.loop-at-test.true c.loop-at.invariant.left (sym c.part-part.ensures ∙ c.in-Stray.is)

pub loop-at-preserved : goal.loop-at-preserved
loop-at-preserved c =
    let at = c.loop-at.at in
    let place = c.loop-at.place in
    let text = c.args.text.now in
    let old = so_far c.loop-at.taken in
    let here : ℕ = get_or text at 0 in
    let some : part_at place here ≢ Stray = λ is. c.in_default.not-Stray (c.part-part.ensures ∙ is) in
    let taken : so_far c.take.new.self ≡ taken_by (part_at place here) here old = c.in_ok-take.ensures ∙ ap (λ (p : Part). taken_by p here old) c.part-part.ensures in
    record {
      left =
          ap (λ (t : List (List ℕ) × List ℕ). joined t (fields_from c.after-place.result (at + 1 + 1) (drop (at + 1) text))) taken
          ∙ ap (λ (p : Place). joined (taken_by (part_at place here) here old) (fields_from p (at + 1 + 1) (drop (at + 1) text))) c.after-place.ensures
          ∙ more place at text old c.loop-at-test.true c.loop-at.invariant.left some;
    }

pub returns-in-Quoted : goal.returns-in-Quoted
returns-in-Quoted c = unclosed c.loop-at.place c.loop-at.at c.args.text.now (so_far c.loop-at.taken) c.loop-at-test.false c.loop-at.invariant.left c.in-Quoted.is

pub returns : goal.returns
returns c = ap Ok c.in_ok-all.ensures ∙ whole c.loop-at.place c.loop-at.at c.args.text.now (so_far c.loop-at.taken) c.loop-at-test.false c.loop-at.invariant.left c.in_default-place.not-Quoted
