use Rattle.std.proofs.Common.{◌≡◌, ◌-◌, ◌++◌, ℕ, List, length, take, drop, replicate, sym, ap, ◌∙◌, arith, append_assoc}
use Rattle.std.proofs.lemmas.List.{take_at, length-append, length-drop, length-take-le}
use Rattle.exh_codec.specs.PageImage.{content_of, used_of}
use Rattle.exh_codec.proofs.UsedBytes.{length-used_of, widest}
use Rattle.exh_codec.proofs.encode.lay_over.Goals as goal

pub returns-clause-content : goal.returns-clause-content
unfolding content_of
returns-clause-content c =
    let used = used_of c.args.page.now in
    let end = c.put_page-end.result in
    let block = c.put_page-end.new.block in
    let zeros = c.fill.new.self in
    let tail = drop (4064 - end) (drop end block) in
    let short = length-used_of widest c.args.page.now c.put_page-end.ensures.in_range c.requires in
    let len : length used ≡ end = sym c.put_page-end.ensures.end in
    let front : take end block ≡ used = ap (take end) c.put_page-end.ensures.used ∙ take_at used (drop (length used) c.args.block.now) end len in
    let whole : length block ≡ 4096 = ap length c.put_page-end.ensures.used ∙ omega (arith, length-append used (drop (length used) c.args.block.now), length-drop (length used) c.args.block.now, c.told-block, short) in
    let mid : length (take (4064 - end) (drop end block)) ≡ 4064 - end = length-take-le (4064 - end) (drop end block) (omega (arith, length-drop end block, whole, short, len)) in
    let zeros_len : length zeros ≡ 4064 - end = c.fill.ensures.len ∙ mid in
    let zeros_are : zeros ≡ replicate (4064 - length used) 0 = c.fill.ensures.after (λ y is. is) ∙ ap (λ (n : ℕ). replicate n 0) (mid ∙ ap (λ (n : ℕ). 4064 - n) (sym len)) in
    let count : length (used ++ zeros) ≡ 4064 = omega (arith, length-append used zeros, zeros_len, len, short) in
    ap (λ (bytes : List ℕ). take 4064 (bytes ++ (zeros ++ tail))) front ∙ ap (take 4064) (sym (append_assoc used zeros tail)) ∙ take_at (used ++ zeros) tail 4064 count
    ∙ ap (λ (bytes : List ℕ). used ++ bytes) zeros_are

pub slice_bounds-fill-count : goal.slice_bounds-fill-count
slice_bounds-fill-count c = omega (arith, length-used_of widest c.args.page.now c.put_page-end.ensures.in_range c.requires, c.put_page-end.ensures.end)

pub slice_bounds-fill-start : goal.slice_bounds-fill-start
slice_bounds-fill-start c = slice_bounds-fill-count c
