use Rattle.std.proofs.Common.{◌≡◌, ℕ, List, Option, OnOk, sym, subst, rules}
use Rattle.std.specs.Io.KnownBytes.{Appends}
use Rattle.exh_format.specs.FileVersion.{written_format}
use Rattle.exh_format.specs.PageFile.{file_bytes}
use Rattle.exh_in_place.specs.Opened.{in_file}
use Rattle.exh_in_place.specs.Saved.{written_file}
use Rattle.exh_map.proofs.copying.write_to.Goals as goal

-- what a writer gets, by its values before and after
moved : {W : Type 0} (contents : W → Option (List ℕ)) (Gets : Option (List ℕ) → Option (List ℕ) → Type 0) (old was new left : W) → was ≡ old → left ≡ new → Gets (contents was) (contents new) → Gets (contents old) (contents left)
moved contents Gets old was new left before after gets = subst (λ w. Gets (contents w) (contents left)) before (subst (λ w. Gets (contents was) (contents w)) (sym after) gets)

pub returns-clause-ok : goal.returns-clause-ok
returns-clause-ok g c =
    let bytes = file_bytes written_format (written_file (in_file c.args.settings c.args.wards.now)) in
    moved g.W.Write.contents (λ old new. OnOk c.write_wards.result (Appends old new bytes)) _ _ c.write_wards.new.output.writer.now _ c.new.ensures.writes_to.1 (search rules) c.write_wards.ensures.ok
