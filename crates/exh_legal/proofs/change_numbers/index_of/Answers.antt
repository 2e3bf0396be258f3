use Rattle.std.proofs.Common.{◌≡◌, ℕ, ◌+◌, Bool, List, ◌∷◌, length, ap, arith}
use Rattle.std.specs.List.{sum_by}
use Rattle.std.proofs.lemmas.List.Sums.{sum_by-cons}
use Rattle.exh_table.specs.declared.Entry.{Entry}
use Rattle.exh_legal.proofs.TableSteps.{weight}
use Rattle.exh_legal.proofs.change_numbers.index_of.Goals as goal

one_more : (told version : ℕ) (entry : List Bool × Entry) {entries : List (List Bool × Entry)} (left : List (List Bool × Entry)) {whole : ℕ} → entries ≡ entry ∷ left → version ≡ entry.1.number → told + sum_by weight entries ≡ whole
    → told + version + sum_by weight left ≡ whole
one_more told version entry left is same was = omega (arith, ap (sum_by weight) is, sum_by-cons weight entry left, same, was)

pub loop-entry-preserved : goal.loop-entry-preserved
loop-entry-preserved c =
    let steps = c.in-Some.ensures.steps in
    record {
      rest = one_more c.loop-entry.told c.from-told.result (c.in-Some.field-0-0.now, c.in-Some.entry.now) c.next.new.self steps c.from-told.ensures c.loop-entry.invariant.rest;
      few = omega (arith, ap length steps);
    }
