use Rattle.std.proofs.Common.{◌≡◌, ◌+◌, ◌<◌, ◌≤◌, length, map, inl, inr, refl, sym, ap, ◌∙◌, subst, arith}
use Rattle.std.specs.FinMap.{empty}
use Rattle.std.specs.Option.{option_map}
use Rattle.std.proofs.lemmas.Bool.{cases_eq, false≢true}
use Rattle.std.proofs.lemmas.Bool.Decides.{leb_tells}
use Rattle.std.proofs.lemmas.List.{get_or_past, length-map}
use Rattle.std.proofs.lemmas.Option.{get_or_from_slice_get, slice_get-map, slice_get_read}
use Rattle.exh_legal.specs.LegalParts.{HasNoStrays, parts_of, table_of}
use Rattle.exh_legal.specs.Reasons.{IsFirstUnpassed, IsFirstReason, WardPasses}
use Rattle.exh_legal.proofs.Whole.{PassedBelow, one_more, with_strays, without_strays}
use Rattle.exh_legal.proofs.file_tests.first_reason.Goals as goal

pub loop-number-preserved : goal.loop-number-preserved
loop-number-preserved g c =
    let pages_of = g.P.PageList.pages in
    let parts = parts_of c.args.cap c.args.ward_bits (map pages_of c.args.wards.now) c.args.tables.now in
    let less : c.loop-number.number < length c.args.wards.now = omega (arith, c.loop-number-test.true) in
    let within : c.loop-number.number < length c.args.tables.now = omega (arith, less, c.requires.tables) in
    let at = slice_get-map pages_of c.args.wards.now c.loop-number.number ∙ ap (option_map pages_of) (slice_get_read c.args.wards.now (length c.args.wards.now) c.loop-number.number c.index-wards-number.result refl less c.index-wards-number.is) in
    let table : table_of parts c.loop-number.number ≡ c.index-tables-number.result = get_or_from_slice_get c.args.tables.now c.loop-number.number c.index-tables-number.result empty (slice_get_read c.args.tables.now (length c.args.tables.now) c.loop-number.number c.index-tables-number.result refl within c.index-tables-number.is) in
    let found = subst (λ ward. IsFirstUnpassed (WardPasses c.args.cap ward (table_of parts c.loop-number.number) (pages_of c.index-wards-number.result)) c.in_ok-found.found) c.own_prefix-ward.ensures
    (subst (λ table. IsFirstUnpassed (WardPasses c.args.cap c.own_prefix-ward.result table (pages_of c.index-wards-number.result)) c.in_ok-found.found) (sym table) c.in_ok-found.ensures) in
    subst (IsFirstUnpassed (PassedBelow parts (c.loop-number.number + 1))) (sym c.lesser-first.ensures) (one_more parts c.loop-number.number (pages_of c.index-wards-number.result) at c.loop-number.first c.in_ok-found.found c.loop-number.invariant found)

pub returns-then-not-is_bare : goal.returns-then-not-is_bare
returns-then-not-is_bare g c =
    let pages_of = g.P.PageList.pages in
    let parts = parts_of c.args.cap c.args.ward_bits (map pages_of c.args.wards.now) c.args.tables.now in
    let all : c.loop-number.number ≡ length (map pages_of c.args.wards.now) = omega (arith, c.loop-number-test.false, c.loop-number.auto.number-end, length-map c.args.wards.now pages_of) in
    let within : c.loop-number-2.number < length c.args.tables.now = omega (arith, c.loop-number-2-test.true) in
    let past : length (map pages_of c.args.wards.now) ≤ c.loop-number-2.number = omega (arith, c.loop-number-2.auto.number, length-map c.args.wards.now pages_of) in
    let table : table_of parts c.loop-number-2.number ≡ c.index-tables-number-in-loop-number-2.result = get_or_from_slice_get c.args.tables.now c.loop-number-2.number c.index-tables-number-in-loop-number-2.result empty (slice_get_read c.args.tables.now (length c.args.tables.now) c.loop-number-2.number c.index-tables-number-in-loop-number-2.result refl within c.index-tables-number-in-loop-number-2.is) in
    subst (IsFirstReason parts) (sym c.lesser.ensures)
    (with_strays parts c.loop-number.first (λ strays. absurd (false≢true (sym c.if-not-is_bare.true ∙ c.is_bare.ensures.1 (sym table ∙ strays c.loop-number-2.number past)))) (subst (λ n. IsFirstUnpassed (PassedBelow parts n) c.loop-number.first) all c.loop-number.invariant))

pub loop-number-2-preserved : goal.loop-number-2-preserved
loop-number-2-preserved g c number past less =
    let parts = parts_of c.args.cap c.args.ward_bits (map g.P.PageList.pages c.args.wards.now) c.args.tables.now in
    let within : c.loop-number-2.number < length c.args.tables.now = omega (arith, c.loop-number-2-test.true) in
    let table : table_of parts c.loop-number-2.number ≡ c.index-tables-number-in-loop-number-2.result = get_or_from_slice_get c.args.tables.now c.loop-number-2.number c.index-tables-number-in-loop-number-2.result empty (slice_get_read c.args.tables.now (length c.args.tables.now) c.loop-number-2.number c.index-tables-number-in-loop-number-2.result refl within c.index-tables-number-in-loop-number-2.is) in
    elim (cases_eq number c.loop-number-2.number) [
      | inl last ↦ subst (λ n. table_of parts n ≡ empty) (sym last) (table ∙ c.is_bare.ensures.0 c.if-not-is_bare.false)
      | inr before ↦ c.loop-number-2.invariant number past (omega (arith, less, before))
    ]

pub returns : goal.returns
returns g c =
    let pages_of = g.P.PageList.pages in
    let parts = parts_of c.args.cap c.args.ward_bits (map pages_of c.args.wards.now) c.args.tables.now in
    let all : c.loop-number.number ≡ length (map pages_of c.args.wards.now) = omega (arith, c.loop-number-test.false, c.loop-number.auto.number-end, length-map c.args.wards.now pages_of) in
    let strays : HasNoStrays parts = λ number past. elim (leb_tells (length c.args.tables.now) number) [
      | inl beyond ↦ get_or_past c.args.tables.now number empty beyond.1
      | inr within ↦ c.loop-number-2.invariant number (omega (arith, past, length-map c.args.wards.now pages_of)) (omega (arith, within.1, c.loop-number-2-test.false))
    ] in
    without_strays parts c.loop-number.first strays (subst (λ n. IsFirstUnpassed (PassedBelow parts n) c.loop-number.first) all c.loop-number.invariant)
