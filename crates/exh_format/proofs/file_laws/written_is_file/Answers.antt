use Rattle.std.proofs.Common.{length, drop, refl, ap, ◌∙◌}
use Rattle.std.proofs.lemmas.List.{drop_at}
use Rattle.exh_format.specs.PageFile.{file_bytes}
use Rattle.exh_format.proofs.file_laws.written_is_file.Goals as goal

pub returns : goal.returns
returns c version file valid old new grown = record { valid = valid; whole = ap (drop (length old)) grown ∙ drop_at old (file_bytes version file) (length old) refl }
