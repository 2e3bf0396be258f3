use Rattle.std.proofs.Common.{length, ap, map, subst, arith}
use Rattle.std.specs.Prelude.{IfOk}
use Rattle.exh_legal.specs.LegalParts.{parts_of}
use Rattle.exh_legal.specs.Reasons.{IsFirstReason}
use Rattle.exh_versions.proofs.Legal.{some_bits, some_wards}
use Rattle.exh_versions.proofs.legal_reading.reason_of.Goals as goal

pub first_reason-requires-clause-bits : goal.first_reason-requires-clause-bits
first_reason-requires-clause-bits g c = omega (arith, some_bits g.W.PageList.pages c.args.parts.now c.requires.file)

pub first_reason-requires-clause-wards : goal.first_reason-requires-clause-wards
first_reason-requires-clause-wards g c = omega (arith, ap length c.deref.ensures.value, some_wards g.W.PageList.pages c.args.parts.now c.requires.file)

pub returns : goal.returns
returns g c =
    let header = c.args.parts.now.header in
    subst (λ wards. IfOk c.first_reason.result (IsFirstReason (parts_of header.settings.cap header.settings.ward_bits (map g.W.PageList.pages wards) c.args.tables.now))) c.deref.ensures.value c.first_reason.ensures
