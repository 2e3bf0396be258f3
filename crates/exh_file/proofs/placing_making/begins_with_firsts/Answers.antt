use Rattle.std.proofs.Common.{◌≡◌, ℕ, ◌+◌, ◌<◌, List, length, slice_get, Some, inl, inr, ap, ◌∙◌, subst, arith}
use Rattle.std.proofs.lemmas.Bool.{cases_lt}
use Rattle.std.proofs.lemmas.Option.{slice_get-get_or}
use Rattle.exh_placing.specs.declared.page_at.PageAt.{PageAt}
use Rattle.exh_placing.specs.Order.{page_at}
use Rattle.exh_file.proofs.placing_making.begins_with_firsts.Goals as goal

abbrev nowhere : PageAt
nowhere = record { ward = 0; number = 0 }

one_more : (order : List PageAt) (at : ℕ) → ((ward : ℕ) → ward < at → slice_get order ward ≡ Some (page_at ward 0)) → slice_get order at ≡ Some (page_at at 0) → (ward : ℕ) → ward < at + 1 → slice_get order ward ≡ Some (page_at ward 0)
one_more order at before here ward less = elim (cases_lt ward at) [
  | inl under ↦ before ward under
  | inr past ↦ let same : at ≡ ward = omega (arith, less, past) in subst (λ (w : ℕ). slice_get order w ≡ Some (page_at w 0)) same here
]

pub loop-ward-preserved : goal.loop-ward-preserved
loop-ward-preserved c =
    let order = c.args.order.now in
    let at = c.loop-ward.ward in
    let room = c.loop-ward.invariant.room in
    let less : at < length order = omega (arith, c.loop-ward-test.true, room) in
    record {
      room = room;
      firsts = one_more order at c.loop-ward.invariant.firsts (slice_get-get_or order at nowhere less ∙ ap (λ (page : PageAt). Some page) (c.is_first.ensures.0 c.if-not-is_first.false));
    }
