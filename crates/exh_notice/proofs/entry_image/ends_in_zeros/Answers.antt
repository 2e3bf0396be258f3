use Rattle.std.proofs.Common.{◌≡◌, ℕ, suc, ◌+◌, ◌-◌, ◌≤◌, List, slice_index, refl, subst, arith}
use Rattle.std.proofs.lemmas.Bool.{false≢true}
use Rattle.std.specs.List.{AllByRecursion}
use Rattle.exh_prefix.specs.Layout.{layout}
use Rattle.exh_notice.specs.NoticeImages.{items}
use Rattle.exh_notice.specs.NoticeByteLemmas.{zeros-push, zeros-at}
use Rattle.exh_notice.proofs.entry_image.ends_in_zeros.Goals as goal

-- n items from place i on are zero
abbrev Zeros : ℕ → List ℕ → ℕ → Type 0
Zeros i image n = AllByRecursion (λ (byte : ℕ). byte ≡ 0) (items i n image)

pub loop-i-init : goal.loop-i-init
loop-i-init c =
    let start = 4 + (layout c.args.version).bytes in
    let none : 0 ≡ 4 + c.bytes-i.result - start = omega (arith, c.bytes-i.ensures.bytes) in
    subst (Zeros start c.args.image.now) none tt

pub returns-then-image-i-ne0 : goal.returns-then-image-i-ne0
returns-then-image-i-ne0 c =
    let start = 4 + (layout c.args.version).bytes in
    let count = 4 - (layout c.args.version).bytes in
    let from : start ≤ c.loop-i.i = omega (arith, c.bytes-i.ensures.bytes, c.loop-i.auto.i) in
    let place : start + (c.loop-i.i - start) ≡ c.loop-i.i = omega (arith, from) in (
      λ no. absurd (false≢true no),
      λ zeros. absurd (c.if-image-i-ne0.true
          (subst (λ (i : ℕ). slice_index c.args.image.now i ≡ 0) place (zeros-at start count (c.loop-i.i - start) c.args.image.now zeros (omega (arith, from, c.loop-i-test.true))))),
    )

pub loop-i-preserved : goal.loop-i-preserved
loop-i-preserved c =
    let start = 4 + (layout c.args.version).bytes in
    let from : start ≤ c.loop-i.i = omega (arith, c.bytes-i.ensures.bytes, c.loop-i.auto.i) in
    let place : c.loop-i.i ≡ start + (c.loop-i.i - start) = omega (arith, from) in
    let next : suc (c.loop-i.i - start) ≡ c.loop-i.i + 1 - start = omega (arith, from) in
    subst (Zeros start c.args.image.now) next
    (zeros-push start (c.loop-i.i - start) c.args.image.now c.loop-i.invariant (subst (λ (i : ℕ). slice_index c.args.image.now i ≡ 0) place c.if-image-i-ne0.false))

pub returns : goal.returns
returns c =
    let start = 4 + (layout c.args.version).bytes in
    let last : c.loop-i.i ≤ 8 = c.loop-i.auto.i-end (omega (arith, c.bytes-i.ensures.few)) in
    let all : c.loop-i.i - start ≡ 4 - (layout c.args.version).bytes = omega (arith, last, c.loop-i-test.false) in
    let zeros = subst (Zeros start c.args.image.now) all c.loop-i.invariant in
    (λ yes. zeros, λ _. refl)
