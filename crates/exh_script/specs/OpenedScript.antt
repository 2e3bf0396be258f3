-- The world that a script's first line begins, over the wards of an opened file or over none.
use Rattle.std.specs.Prelude.{Bool, if◌then◌else◌, Option, None, Some, Ok, Err}
use Rattle.exh_keyer.specs.declared.any_keyer.AnyKeyer.{AnyKeyer}
use Rattle.exh_page.specs.FileSettings.{are_same}
use Rattle.exh_load.specs.Opened.{OpenedState, settings_in}
use Rattle.exh_world.specs.NewWorld.{world_of_wards}
use Rattle.exh_page.specs.Config.{file_settings}
use Rattle.exh_page.specs.declared.config.Config.{Config}
use Rattle.exh_script.specs.Text.{Beginning, new_file}
use Rattle.exh_line.specs.declared.refusal.Refusal.TheVariants.{OtherFile}

-- whether settings are those of an opened file, with any number of copies
abbrev pub is_of_file : OpenedState → Config AnyKeyer → Bool
is_of_file opened file = are_same (settings_in opened) (file_settings file)

-- with these the world of its wards, each copy at the file's table; with others none
abbrev pub opened_file : OpenedState → Beginning
opened_file opened file = if is_of_file opened file then Ok (world_of_wards file opened.wards) else Err OtherFile

-- over an opened file, or over a new one
abbrev pub beginning : Option OpenedState → Beginning
beginning None = new_file
beginning (Some opened) = opened_file opened
