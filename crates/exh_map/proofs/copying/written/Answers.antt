use Rattle.std.proofs.Common.{◌≡◌, ℕ, List, ◌++◌, sym, ap, ◌∙◌, subst}
use Rattle.exh_format.specs.FileVersion.{written_format}
use Rattle.exh_format.specs.PageFile.{file_bytes}
use Rattle.exh_in_place.specs.Opened.{in_file}
use Rattle.exh_in_place.specs.Reopened.{IsKept}
use Rattle.exh_in_place.specs.Saved.{written_file}
use Rattle.exh_map.proofs.copying.written.Goals as goal

pub returns-in-Ok-clause-kept : goal.returns-in-Ok-clause-kept
returns-in-Ok-clause-kept g c =
    let old = in_file c.args.settings c.args.wards.now in
    let bytes = file_bytes written_format (written_file old) in
    let whole : c.write_to.new.writer.items ≡ bytes = c.in-Ok.ensures.ok ∙ ap (λ (xs : List ℕ). xs ++ bytes) c.new-bytes.ensures.items in
    subst (IsKept old) (sym whole) c.in-Ok.ensures.kept
