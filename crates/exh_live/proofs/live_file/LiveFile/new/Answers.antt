use Rattle.std.proofs.Common.{◌≡◌, ℕ, ◌^◌, ◌<◌, ◌≤◌, vec_len, ap, sym, ◌∙◌, arith}
use Rattle.exh_calls.specs.declared.diary.TheConstants.{CALLER_LIMIT}
use Rattle.exh_page.specs.declared.file_settings.FileSettings.{FileSettings}
use Rattle.exh_live.specs.WardParts.{parts_of_first}
use Rattle.exh_live.proofs.FirstWard.{new_file, settings_of_first}
use Rattle.exh_live.proofs.Parts.{entries_for_wards, room_for_wards}
use Rattle.exh_live.proofs.ToBeTallied.{to_be_tallied, wards_are_few}
use Rattle.exh_live.proofs.live_file.LiveFile.new.Goals as goal

few_locks : (locks wards : ℕ) → locks ≡ wards → wards < 17 → locks ≤ 16
few_locks locks wards is few = omega (arith, is, few)

no_seats : 0 ≤ CALLER_LIMIT
no_seats = omega arith

-- as many as there are
counted : {K : Type 0} (own settings : FileSettings K) (count : ℕ) → own ≡ settings → count ≡ 2 ^ settings.ward_bits → count ≡ 2 ^ own.ward_bits
counted own settings count same is = is ∙ ap (λ (one : FileSettings _). 2 ^ one.ward_bits) (sym same)

pub locked-requires-clause-wards : goal.locked-requires-clause-wards
locked-requires-clause-wards g c =
    let settings = c.requires.wards.0 in
    let new = c.requires.wards.1 in
    to_be_tallied g.K.Keyer.pseudokey_of g.F.Identity.hashing settings.keyer c.requires.wards.2 0 c.args.wards.items (λ place ward at. let is = new.each place ward at in (is.empty, is.keyer_is, omega (arith, is.number_is)))

pub locked-requires-clause-count : goal.locked-requires-clause-count
locked-requires-clause-count g c =
    let same = c.settings-settings.ensures.settings ∙ settings_of_first c.requires.wards.0 c.args.wards.items c.index.result.now c.requires.wards.1 c.index.ensures in
    few_locks _ _ (c.args.wards.ok.0 ∙ counted _ _ _ same c.requires.wards.1.count) (wards_are_few c.settings-settings.result.ward_bits c.settings-settings.ensures.range.bits)

pub locked-requires-clause-answers : goal.locked-requires-clause-answers
locked-requires-clause-answers g c =
    let same = c.settings-settings.ensures.settings ∙ settings_of_first c.requires.wards.0 c.args.wards.items c.index.result.now c.requires.wards.1 c.index.ensures in
    let few = few_locks _ _ (c.args.wards.ok.0 ∙ counted _ _ _ same c.requires.wards.1.count) (wards_are_few c.settings-settings.result.ward_bits c.settings-settings.ensures.range.bits) in
    (omega (arith, room_for_wards (vec_len c.args.wards) few, c.open-given.ensures.parts), c.open-given.ensures.amount)

pub locked-requires-clause-entries : goal.locked-requires-clause-entries
locked-requires-clause-entries g c =
    let same = c.settings-settings.ensures.settings ∙ settings_of_first c.requires.wards.0 c.args.wards.items c.index.result.now c.requires.wards.1 c.index.ensures in
    let few = few_locks _ _ (c.args.wards.ok.0 ∙ counted _ _ _ same c.requires.wards.1.count) (wards_are_few c.settings-settings.result.ward_bits c.settings-settings.ensures.range.bits) in
    (omega (arith, entries_for_wards (vec_len c.args.wards) few, c.open-made.ensures.parts), c.open-made.ensures.amount)

pub invariant_of-result : goal.invariant_of-result
invariant_of-result g c =
    let made = c.in_ok-wards.ensures in
    let same = c.settings-settings.ensures.settings ∙ settings_of_first c.requires.wards.0 c.args.wards.items c.index.result.now c.requires.wards.1 c.index.ensures in
    let few = wards_are_few c.settings-settings.result.ward_bits c.settings-settings.ensures.range.bits in
    let count : vec_len c.in_ok-wards.wards ≡ 2 ^ c.settings-settings.result.ward_bits = made.count ∙ c.args.wards.ok.0 ∙ counted _ _ _ same c.requires.wards.1.count in (
      c.settings-settings.ensures.range.bits,
      count,
      ap (λ (one : FileSettings g.row.K.Denot). g.K.Keyer.pseudokey_of one.keyer) same ∙ sym c.requires.wards.2,
      few_locks _ _ count few,
      no_seats,
      omega (arith, made.answers, made.count, ap parts_of_first made.count, c.open-given.ensures.parts),
      omega (arith, c.locked.ensures.none.0),
      omega (arith, made.entries, ap parts_of_first made.count, c.open-made.ensures.parts),
      omega (arith, c.locked.ensures.none.1),
    )

pub returns : goal.returns
returns g c = λ settings new. new_file c.settings-settings.result settings c.args.wards.items c.index.result.now c.settings-settings.ensures.settings new c.index.ensures
