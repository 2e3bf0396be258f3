-- In which form wards are saved at a path.
use Rattle.std.specs.Prelude.{◌≡◌, ℕ, List, Option, None, Some}
use Rattle.exh_load.specs.Draft.{DraftState, IsGrown}
use Rattle.exh_load.specs.Opened.{OpenedState}
use Rattle.exh_load.specs.declared.Form.TheVariants.{Plain as PlainForm}
use Rattle.exh_report.specs.declared.FileForm.{FileForm}
use Rattle.exh_report.specs.declared.FileForm.TheVariants.{Placed, Plain}
use Rattle.exh_report.specs.declared.PlacedForm.{PlacedForm}
use Rattle.exh_job.specs.declared.held_file.HeldFile.{HeldFile}

-- the places of a file of version 3
abbrev pub placed_in : FileForm → Option PlacedForm
placed_in Plain = None
placed_in (Placed form) = Some form

-- the places in which wards are saved at a path are those of the file that was opened, where that path was named; else there are none
abbrev pub IsFormSaved : List ℕ → Option HeldFile → Option PlacedForm → Type 0
IsFormSaved path None found = found ≡ None
IsFormSaved path (Some held) found = (held.path.now ≡ path → found ≡ placed_in held.form) × ((held.path.now ≡ path → ⊥) → found ≡ None)

-- the draft of wards: in the version that is written; or grown from these places, with this stamp, and the file's own before it
abbrev pub IsDraftFrom : Option PlacedForm → ℕ → OpenedState → DraftState → Type 0
IsDraftFrom None own wards draft = draft ≡ record { opened = wards; form = PlainForm }
IsDraftFrom (Some form) own wards draft = IsGrown wards form.lows.items (record { own = own; before = form.stamp }) draft
