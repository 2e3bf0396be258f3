use Rattle.std.proofs.Common.{◌≡◌, ℕ, ◌+◌, List, Some, length, ap, sym, ◌∙◌, subst, inl, inr, arith}
use Rattle.std.specs.Prelude.{slice_get}
use Rattle.std.proofs.lemmas.List.{length_push}
use Rattle.exh_prefix.specs.PrefixListLemmas.{push_is}
use Rattle.exh_keyer.specs.Pseudokey.{any_pseudokey}
use Rattle.exh_format.specs.FileParts.{TakesFormed}
use Rattle.exh_versions.proofs.placed_pages.PlacedPages.empty.Goals as goal

pub loop-number-init : goal.loop-number-init
loop-number-init g c = record {
  count = ap length c.new-wards.ensures.items;
  each = λ number ward is. let none = subst (λ (wards : List _). slice_get wards number ≡ Some ward) c.new-wards.ensures.items is in cc;
  taking = λ number ward is. let none = subst (λ (wards : List _). slice_get wards number ≡ Some ward) c.new-wards.ensures.items is in cc;
}

pub loop-number-preserved : goal.loop-number-preserved
loop-number-preserved g c =
    let wards = c.loop-number.wards.items in
    let was = c.loop-number.invariant in
    let pushed = c.in_ok-push.ensures.items in
    record {
      count = ap length pushed ∙ length_push wards c.empty.result ∙ ap (λ (count : ℕ). count + 1) was.count;
      each = λ number ward is. elim (push_is wards c.empty.result ward number (subst (λ (wards : List g.row.W.Denot). slice_get wards number ≡ Some ward) pushed is)) [
        | inl there ↦ was.each number ward there
        | inr here ↦ ap g.W.PageList.pages here ∙ c.empty.ensures.none
      ];
      taking = λ number ward is. elim (push_is wards c.empty.result ward number (subst (λ (wards : List g.row.W.Denot). slice_get wards number ≡ Some ward) pushed is)) [
        | inl there ↦ was.taking number ward there
        | inr here ↦ subst (TakesFormed g.W.ReadPages.takes (any_pseudokey c.args.settings.keyer)) (sym here) c.empty.ensures.takes
      ];
    }

pub returns : goal.returns
returns g c = record {
  count = omega (arith, c.loop-number.invariant.count, c.ward_count-number-end.ensures);
  each = c.loop-number.invariant.each;
  taking = c.loop-number.invariant.taking;
  lows = c.new.ensures.items;
}
