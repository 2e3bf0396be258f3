use Rattle.std.proofs.Common.{◌≡◌, ℕ, ◌+◌, ◌<◌, ◌++◌, ◌∷◌, [], List, length, map, take, get_or, sym, ap, ◌∙◌, subst, inl, inr, arith}
use Rattle.std.specs.Prelude.{slice_set}
use Rattle.std.proofs.lemmas.Bool.{cases_eq}
use Rattle.std.proofs.lemmas.List.{get_or-set_other, get_or-set_same, length-set, map-append, take_all, take_more}
use Rattle.exh_prefix.specs.Leading.{ward_of}
use Rattle.exh_placing.specs.declared.page_at.PageAt.{PageAt}
use Rattle.exh_placing.specs.Order.{IsNumbered, IsOrderOfLows, own_in, page_at}
use Rattle.exh_placing.proofs.Orders.{lows_begin, numbered_push, own_else, own_more}
use Rattle.exh_placing.proofs.order.order_of_lows.Goals as goal

pub loop-place-preserved : goal.loop-place-preserved
loop-place-preserved c =
    let lows = c.args.lows.now in
    let bits = c.args.ward_bits in
    let place = c.loop-place.place in
    let at = c.ward_at-ward.result in
    let found = c.loop-place.found in
    let order = c.loop-place.order.items in
    let number = get_or found at 0 in
    let page = page_at at number in
    let few : at < 16 = c.ward_at-ward.ensures.few in
    let room : at < length found = omega (arith, few, c.loop-place.invariant.long) in
    let here : number ≡ own_in order at = c.loop-place.invariant.found_are at few in
    let grown : c.push.new.self.items ≡ order ++ page ∷ [] = c.in_ok-push.ensures.items in
    record {
      long = length-set found at (number + 1) ∙ c.loop-place.invariant.long;
      found_are = λ ward ward_few. elim (cases_eq ward at) [
        | inl same ↦
            ap (λ (ward : ℕ). get_or (slice_set found at (number + 1)) ward 0) same ∙ get_or-set_same found at (number + 1) 0 room ∙ ap (λ (n : ℕ). n + 1) here
            ∙ sym (ap (λ (order : List PageAt). own_in order ward) grown ∙ own_more order page ward (sym same) ∙ ap (λ (ward : ℕ). own_in order ward + 1) same)
        | inr differ ↦
            get_or-set_other found at ward (number + 1) 0 differ ∙ c.loop-place.invariant.found_are ward ward_few
            ∙ sym (ap (λ (order : List PageAt). own_in order ward) grown ∙ own_else order page ward (λ same. differ (sym same)))
      ];
      numbered = subst IsNumbered (sym grown) (numbered_push order page c.loop-place.invariant.numbered here);
      wards = ap (map (λ page. page.ward)) grown ∙ map-append (λ (page : PageAt). page.ward) order (page ∷ [])
          ∙ (λ i. c.loop-place.invariant.wards i ++ c.ward_at-ward.ensures.ward i ∷ [])
          ∙ sym (ap (map (ward_of bits)) (take_more lows place 0 c.loop-place-test.true) ∙ map-append (ward_of bits) (take place lows) (get_or lows place 0 ∷ []));
    }

pub returns : goal.returns
returns c =
    let order : IsOrderOfLows c.args.ward_bits c.args.lows.now c.loop-place.order.items = record {
      numbered = c.loop-place.invariant.numbered;
      wards = c.loop-place.invariant.wards ∙ ap (map (ward_of c.args.ward_bits)) (take_all c.loop-place.place c.args.lows.now (omega arith));
    } in
    record { order = order; firsts = lows_begin c.args.ward_bits c.args.lows.now c.loop-place.order.items order }
