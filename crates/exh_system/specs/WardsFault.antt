-- Why wards weren't written whole.
use Rattle.std.specs.Prelude.{◌≡◌, ◌<◌}
use Rattle.exh_file.specs.Draft.{DraftState}
use Rattle.exh_file.specs.Saved.{failures_in}
use Rattle.exh_saving.specs.declared.source.SourceFault.{SourceFault}
use Rattle.exh_saving.specs.declared.source.SourceFault.TheVariants.{Memory, Source, Writer}

-- a page is out of reach only where the wards count it, and no other fault is counted
abbrev pub IsWardsFault : DraftState → DraftState → SourceFault → Type 0
IsWardsFault old new Source = failures_in old.opened.wards < failures_in new.opened.wards
IsWardsFault old new Writer = failures_in new.opened.wards ≡ failures_in old.opened.wards
IsWardsFault old new Memory = failures_in new.opened.wards ≡ failures_in old.opened.wards
