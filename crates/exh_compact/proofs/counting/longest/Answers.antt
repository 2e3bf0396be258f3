use Rattle.std.proofs.Common.{◌≡◌, ◌⊎◌, [], length, slice_get, Some, inl, inr, refl, sym, ap, ◌∙◌, subst, map, List, Bool, arith}
use Rattle.std.specs.Prelude.{Contains}
use Rattle.std.proofs.lemmas.Option.{slice_get-get_or, slice_get_read}
use Rattle.exh_prefix.specs.PrefixListLemmas.{Contains-map}
use Rattle.exh_compact.specs.declared.page_shape.PageShape.{PageShape}
use Rattle.exh_compact.proofs.Longest.{none_bits, shorter_on}
use Rattle.exh_compact.proofs.counting.longest.Goals as goal
use Rattle.exh_compact.proofs.counting.longest.Goals.{then-len, else-len}

pub loop-shape-init : goal.loop-shape-init
loop-shape-init c = record {
  most = λ k shape less there. absurd (omega (arith, less));
  there = inl (c.of_number-longest.ensures ∙ none_bits);
}

pub loop-shape-preserved : goal.loop-shape-preserved
loop-shape-preserved c =
    let shapes = c.args.shapes.now in
    let at = c.loop-shape.shape-index in
    let item = c.shape-item.result in
    let was = c.loop-shape.invariant in
    let there : slice_get shapes at ≡ Some item = slice_get_read shapes (length shapes) at item refl c.loop-shape-test.true c.shape-item.is in
    elim c.if-len.branch [
      | then-len w ↦
          let is : length c.if-len.longest ≡ length item.prefix = ap length w.longest-is in
          record {
            most = shorter_on shapes at item c.loop-shape.longest c.if-len.longest there (omega (arith, is, w.if-len.true, c.len.ensures.length, c.len-in-loop-shape.ensures.length)) (omega (arith, is)) was.most;
            there = inr (subst (Contains (map (λ (s : PageShape). s.prefix) shapes)) (sym w.longest-is) (Contains-map (λ (s : PageShape). s.prefix) shapes item (at, c.loop-shape-test.true, sym c.shape-item.is)));
          }
      | else-len w ↦
          let is : length c.if-len.longest ≡ length c.loop-shape.longest = ap length w.longest-is in
          record {
            most = shorter_on shapes at item c.loop-shape.longest c.if-len.longest there (omega (arith, is)) (omega (arith, is, w.if-len.false, c.len.ensures.length, c.len-in-loop-shape.ensures.length)) was.most;
            there = subst (λ (p : List Bool). (p ≡ []) ⊎ Contains (map (λ (s : PageShape). s.prefix) shapes) p) (sym w.longest-is) was.there;
          }
    ]

pub returns-clause-longest : goal.returns-clause-longest
returns-clause-longest c k d less = c.loop-shape.invariant.most k _ (omega (arith, less, c.loop-shape-test.false)) (slice_get-get_or c.args.shapes.now k d less)
