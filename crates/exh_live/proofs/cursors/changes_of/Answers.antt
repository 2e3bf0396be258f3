use Rattle.std.proofs.Common.{◌≡◌, ℕ, ◌+◌, Bool, true, false, List, ◌∷◌, Option, Some, None, if◌then◌else◌, sym, ap, ◌∙◌, arith}
use Rattle.std.specs.List.{sum_by}
use Rattle.std.specs.Option.{SomeIff}
use Rattle.std.proofs.lemmas.List.Sums.{sum_by-cons}
use Rattle.exh_notice.specs.declared.entry.Entry.{Entry}
use Rattle.exh_live.specs.Rounds.{is_of_ward, told_of}
use Rattle.exh_live.proofs.cursors.changes_of.Goals as goal

fitted : (sum : Option ℕ) (P : Type 0) (value new : ℕ) → SomeIff sum P value → sum ≡ Some new → new ≡ value
fitted None P value new fits is = cc
fitted (Some found) P value new fits is = let same : found ≡ new = cc in sym same ∙ fits.1

module _ (ward_bits number total told : ℕ) (prefix : List Bool) (entry : Entry) (left fewer : List (List Bool × Entry)) (short : left ≡ (prefix, entry) ∷ fewer) (was : told + sum_by (told_of ward_bits number) left ≡ total) where
  one_added : is_of_ward ward_bits number prefix ≡ true → (new : ℕ) → new ≡ told + entry.number → new + sum_by (told_of ward_bits number) fewer ≡ total
  one_added is new sum =
      let first : told_of ward_bits number (prefix, entry) ≡ entry.number = ap (λ of_ward. if of_ward then entry.number else 0) is in
      let all = ap (sum_by (told_of ward_bits number)) short ∙ sum_by-cons (told_of ward_bits number) (prefix, entry) fewer in
      omega (arith, all, first, was, sum)

  passed_by : is_of_ward ward_bits number prefix ≡ false → told + sum_by (told_of ward_bits number) fewer ≡ total
  passed_by is =
      let first : told_of ward_bits number (prefix, entry) ≡ 0 = ap (λ of_ward. if of_ward then entry.number else 0) is in
      let all = ap (sum_by (told_of ward_bits number)) short ∙ sum_by-cons (told_of ward_bits number) (prefix, entry) fewer in
      omega (arith, all, first, was)

pub loop-prefix-preserved-then-is_of : goal.loop-prefix-preserved-then-is_of
loop-prefix-preserved-then-is_of g =
    one_added g.args.ward_bits g.args.number _ g.loop-prefix.told g.in-Some.prefix.now g.in-Some.entry.now _ _ g.in-Some.ensures.steps g.loop-prefix.invariant (sym g.is_of.ensures ∙ g.if-is_of.true) g.in_ok-told.told
    (fitted g.checked_add.result _ _ g.in_ok-told.told g.checked_add.ensures g.in_ok-told.ensures.ok_part ∙ ap (λ version. g.loop-prefix.told + version) g.from.ensures)

pub loop-prefix-preserved : goal.loop-prefix-preserved
loop-prefix-preserved g =
    passed_by g.args.ward_bits g.args.number _ g.loop-prefix.told g.in-Some.prefix.now g.in-Some.entry.now _ _ g.in-Some.ensures.steps g.loop-prefix.invariant (sym g.is_of.ensures ∙ g.if-is_of.false)
