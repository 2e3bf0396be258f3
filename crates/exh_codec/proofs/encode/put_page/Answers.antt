use Rattle.exh_codec.proofs.UsedBytes.{widest}
use Rattle.std.proofs.Common.{◌≡◌, ◌++◌, length, map, drop, ℕ, List, sym, ap, ◌∙◌, subst, refl}
use Rattle.std.specs.List.{flat_map}
use Rattle.exh_page.specs.declared.record.Record.{Record}
use Rattle.exh_page.specs.Page.{records_of}
use Rattle.exh_page.specs.KeyMap.{pair_of}
use Rattle.exh_codec.specs.Cells.{pair_image}
use Rattle.exh_codec.specs.Head.{head_of, head_bytes}
use Rattle.exh_codec.specs.PageImage.{used_of, IsHeld}
use Rattle.exh_codec.proofs.PutPairs.{put_behind}
use Rattle.exh_codec.proofs.UsedBytes.{length-head_bytes, live_in_range}
use Rattle.exh_codec.proofs.encode.put_page.Goals as goal

pub returns-in-Live-clause-used : goal.returns-in-Live-clause-used
returns-in-Live-clause-used c =
    let block = c.args.block.now in
    let head = c.copy_from_slice.new.self in
    let image = flat_map pair_image (map pair_of c.in-Live.records) in
    let head_is : head ≡ head_bytes (head_of c.args.page.now) = c.copy_from_slice.ensures.after ∙ c.to_bytes-head.ensures ∙ ap head_bytes c.of.ensures.head in
    let records_are : c.in-Live.records ≡ records_of c.args.page.now = sym (ap records_of c.in-Live.is) in
    let used_is : head ++ image ≡ used_of c.args.page.now =
    ap (λ (bytes : List ℕ). bytes ++ image) head_is ∙ ap (λ (records : List Record). head_bytes (head_of c.args.page.now) ++ flat_map pair_image (map pair_of records)) records_are in
    let len : length head ≡ 16 = ap length head_is ∙ length-head_bytes (head_of c.args.page.now) in
    put_behind block head image c.put_records.new.out 16 _ len refl c.put_records.ensures.bytes ∙ ap (λ (used : List ℕ). used ++ drop (length used) block) used_is

pub returns-in-Live-clause-in_range : goal.returns-in-Live-clause-in_range
returns-in-Live-clause-in_range c =
    subst (IsHeld) (sym c.in-Live.is)
    (live_in_range widest c.in-Live.prefix c.in-Live.right c.in-Live.records c.of.result (c.of.ensures.head ∙ ap head_of c.in-Live.is) c.of.ensures.prefix c.of.ensures.link
    c.put_records.ensures.sized)
