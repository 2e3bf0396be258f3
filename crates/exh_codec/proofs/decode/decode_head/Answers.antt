use Rattle.std.proofs.Common.{◌≡◌, ℕ, Bool, List, Some, take, ap, ◌∙◌}
use Rattle.exh_page.specs.Bits.{word_bits}
use Rattle.exh_page.specs.declared.page_head.PageHead.TheVariants.{Live}
use Rattle.exh_page.specs.Layout.{layout}
use Rattle.exh_page.specs.LayoutLemmas.{layout_short}
use Rattle.exh_codec.proofs.LowBytes.{known_fits}
use Rattle.exh_codec.proofs.PageOf.{kind_said, live_head, forward_head}
use Rattle.exh_codec.proofs.decode.decode_head.Goals as goal

pub returns-in_err-head : goal.returns-in_err-head
returns-in_err-head c version pseudo page laid = let said = kind_said (layout version) (known_fits version) (layout_short version) pseudo page c.args.block.now laid in absurd (c.in_err-head.ensures.none said.0 said.1)

pub returns-in_err-new-in-Live : goal.returns-in_err-new-in-Live
returns-in_err-new-in-Live c version pseudo page laid =
    let live = live_head (layout version) (known_fits version) (layout_short version) pseudo page c.args.block.now c.in_ok-head.head c.in_ok-head.ensures.some laid c.in-Live.is in absurd (c.in_err-new-in-Live.ensures live.0)

pub returns-in_ok-new-in-Live : goal.returns-in_ok-new-in-Live
returns-in_ok-new-in-Live c version pseudo page laid =
    let head = c.in_ok-head.head in
    let right = c.right_link.result in
    let live = live_head (layout version) (known_fits version) (layout_short version) pseudo page c.args.block.now head c.in_ok-head.ensures.some laid c.in-Live.is in
    let prefix = take head.prefix_len (word_bits head.low) in
    let made : Live c.in_ok-new-in-Live.field-0 right c.from.result ≡ Live prefix right head.count =
    ap (λ (p : List Bool). Live p right c.from.result) c.in_ok-new-in-Live.ensures.1 ∙ ap (λ (n : ℕ). Live prefix right n) c.from.ensures in
    ap Some (made ∙ live.1 right c.right_link.ensures.number c.right_link.ensures.other)

pub returns-in-Forward : goal.returns-in-Forward
returns-in-Forward c version pseudo page laid = ap Some (forward_head (layout version) (known_fits version) (layout_short version) pseudo page c.args.block.now c.in_ok-head.head c.in_ok-head.ensures.some laid c.in-Forward.is)
