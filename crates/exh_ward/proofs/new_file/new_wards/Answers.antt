use Rattle.std.proofs.Common.{◌≡◌, ◌^◌, map, ap, ◌∙◌, arith, ◌∷◌, []}
use Rattle.std.proofs.Math.Nat.{pow-le-pow_right}
use Rattle.std.specs.List.{range_with_len}
use Rattle.std.proofs.lemmas.Result.{IfOk-from_err}
use Rattle.exh_page.specs.declared.page.Page.{Page}
use Rattle.exh_ward.specs.NewWards.{new_ward}
use Rattle.exh_ward.proofs.WardsOfNewFile.{no_ward_yet, one_ward_more}
use Rattle.exh_ward.proofs.new_file.new_wards.Goals as goal

pub first-requires : goal.first-requires
first-requires g c = record { formed = c.first_page-first.ensures.formed (g.K.Keyer.pseudokey_of c.args.settings.keyer) }

pub loop-number-init : goal.loop-number-init
loop-number-init g c = no_ward_yet g.K.Keyer.pseudokey_of c.args.settings c.new-wards.result.items c.new-wards.ensures.items

pub loop-number-preserved : goal.loop-number-preserved
loop-number-preserved g c =
    let ward = c.new-ward in
    one_ward_more g.K.Keyer.pseudokey_of c.args.settings c.loop-number.number (g.P.Pages.failures c.in_ok-store.store) c.loop-number.wards.items c.push.new.self.items ward.result c.loop-number.invariant
    ward.ensures.empty c.in_ok-store.ensures.failures ward.ensures.sound c.in_ok-push.ensures.items

pub returns-clause-wards : goal.returns-clause-wards
returns-clause-wards g c =
    let all : c.loop-number.number ≡ 2 ^ c.args.settings.ward_bits =
    omega (arith, pow-le-pow_right {n = 2} (omega arith) c.requires.bits, c.loop-number.auto.number-end, c.loop-number-test.false) in
    c.loop-number.invariant.made ∙ ap (λ n. map (new_ward c.args.settings) (range_with_len 0 n)) all

pub first_page-first-requires-clause-bits : goal.first_page-first-requires-clause-bits
first_page-first-requires-clause-bits g c = c.requires.bits

pub returns-in_err-store-clause-wards : goal.returns-in_err-store-clause-wards
returns-in_err-store-clause-wards g c = IfOk-from_err c.from_residual.result _ c.from_residual.ensures.0

pub returns-in_err-store-clause-sound : goal.returns-in_err-store-clause-sound
returns-in_err-store-clause-sound g c = IfOk-from_err c.from_residual.result _ c.from_residual.ensures.0

pub new-ward-requires-clause-first : goal.new-ward-requires-clause-first
new-ward-requires-clause-first g c = c.in_ok-store.ensures.pages ∙ ap (λ (page : Page). page ∷ []) c.first_page-first.ensures.page

pub new-ward-requires-clause-takes : goal.new-ward-requires-clause-takes
new-ward-requires-clause-takes g c = c.in_ok-store.ensures.takes

pub new-ward-requires-clause-some : goal.new-ward-requires-clause-some
new-ward-requires-clause-some g c = c.requires.some

pub new-ward-requires-clause-most : goal.new-ward-requires-clause-most
new-ward-requires-clause-most g c = c.requires.most

pub new-ward-requires-clause-bits : goal.new-ward-requires-clause-bits
new-ward-requires-clause-bits g c = c.requires.bits

pub returns-in_err-push-clause-wards : goal.returns-in_err-push-clause-wards
returns-in_err-push-clause-wards g c = IfOk-from_err c.from_residual-in_err-push.result _ c.from_residual-in_err-push.ensures.0

pub returns-in_err-push-clause-sound : goal.returns-in_err-push-clause-sound
returns-in_err-push-clause-sound g c = IfOk-from_err c.from_residual-in_err-push.result _ c.from_residual-in_err-push.ensures.0

pub returns-clause-sound : goal.returns-clause-sound
returns-clause-sound g c = c.loop-number.invariant.sound
