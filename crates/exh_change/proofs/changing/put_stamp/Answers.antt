use Rattle.std.proofs.Common.{◌≡◌, ℕ, ◌*◌, List, refl, sym, ap, ◌∙◌, subst, arith}
use Rattle.exh_cells.specs.PlacedFile.{IsPlacedFile, stamped_block}
use Rattle.exh_edits.specs.BlockEdits.{with_block, with_edits}
use Rattle.exh_edits.specs.PlacedEdits.{with_header}
use Rattle.exh_change.specs.ChangeLaws.{stamped_anew}
use Rattle.exh_change.proofs.Counts.{few_pages}
use Rattle.exh_change.proofs.changing.put_stamp.Goals as goal

pub put_block-requires-clause-room : goal.put_block-requires-clause-room
put_block-requires-clause-room c = omega (arith, c.requires.sound.count, few_pages c.args.draft.now.header c.requires.sound.header)

pub returns-clause-is : goal.returns-clause-is
returns-clause-is c base file is =
    let draft = c.args.draft.now in
    let old = with_edits draft.edits.items.items base in
    let header = stamped_anew c.args.stamp file.header in
    let same : stamped_anew c.args.stamp draft.header ≡ header = ap (stamped_anew c.args.stamp) is.header in
    let bytes = c.in_ok-put_block.ensures.made base is.len ∙ ap (λ (block : List ℕ). with_block 0 block old) (c.header_image.ensures ∙ ap stamped_block same) in
    let valid = is.is.valid.header in
    record {
      len = is.len ∙ ap (λ (n : ℕ). 4096 * n) (sym c.in_ok-put_block.ensures.first);
      header = same;
      is = subst (IsPlacedFile (with_header header file)) (sym bytes) (c.headers_change.ensures file old header is.is (record { plain = valid.plain; stamp = c.ranges.stamp.fits; before = valid.stamp }) (sym is.is.valid.count) refl);
    }
