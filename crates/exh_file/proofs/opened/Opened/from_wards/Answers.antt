use Rattle.std.proofs.Common.{refl, sym, ◌∙◌, subst}
use Rattle.std.proofs.lemmas.Bool.{false≢true}
use Rattle.exh_file.specs.Opened.{AreWardsOf, in_file}
use Rattle.exh_file.proofs.opened.Opened.from_wards.Goals as goal

pub new-requires : goal.new-requires
new-requires g c = subst (λ items. AreWardsOf (in_file c.args.settings items)) c.deref.ensures.value (c.are_wards_of.ensures.0 c.if-are_wards_of.true)

pub returns-then-are_wards_of-clause-opened : goal.returns-then-are_wards_of-clause-opened
returns-then-are_wards_of-clause-opened g c = c.new.ensures

pub returns-then-are_wards_of-clause-each : goal.returns-then-are_wards_of-clause-each
returns-then-are_wards_of-clause-each g c =
    let each = subst (λ items. AreWardsOf (in_file c.args.settings items)) c.deref.ensures.value (c.are_wards_of.ensures.0 c.if-are_wards_of.true) in
    subst AreWardsOf (sym c.new.ensures) each

pub returns-then-are_wards_of-clause-back : goal.returns-then-are_wards_of-clause-back
returns-then-are_wards_of-clause-back g c = tt

pub returns-then-are_wards_of-clause-refused : goal.returns-then-are_wards_of-clause-refused
returns-then-are_wards_of-clause-refused g c = tt

pub returns-else-are_wards_of-clause-opened : goal.returns-else-are_wards_of-clause-opened
returns-else-are_wards_of-clause-opened g c = tt

pub returns-else-are_wards_of-clause-each : goal.returns-else-are_wards_of-clause-each
returns-else-are_wards_of-clause-each g c = tt

pub returns-else-are_wards_of-clause-back : goal.returns-else-are_wards_of-clause-back
returns-else-are_wards_of-clause-back g c = refl

pub returns-else-are_wards_of-clause-refused : goal.returns-else-are_wards_of-clause-refused
returns-else-are_wards_of-clause-refused g c are =
    let seen = c.are_wards_of.ensures.1 (subst (λ items. AreWardsOf (in_file c.args.settings items)) (sym c.deref.ensures.value) are) in
    absurd (false≢true (sym c.if-are_wards_of.false ∙ seen))
