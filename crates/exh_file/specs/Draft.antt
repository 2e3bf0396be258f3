-- Wards that are to be written, and the form in which they are.
use Rattle.std.specs.Prelude.{◌≡◌, ⊤, ℕ, List, [], length, map, take}
use Rattle.exh_format.specs.FileVersion.{written_format}
use Rattle.exh_format.specs.PageFile.{file_bytes}
use Rattle.exh_placing.specs.PlacedFile.{lows_of, placed_bytes}
use Rattle.exh_placing.specs.declared.page_at.PageAt.{PageAt}
use Rattle.exh_placing.specs.Order.{first_pages, with_others}
use Rattle.exh_file.specs.declared.placing.Form.{Form}
use Rattle.exh_file.specs.declared.placing.Form.TheVariants.{Placed, Plain}
use Rattle.exh_file.specs.declared.placing.Placing.{Placing}
use Rattle.exh_file.specs.declared.placing.Stamps.{Stamps}
use Rattle.exh_file.specs.Opened.{OpenedState}
use Rattle.exh_file.specs.Placing.{IsGrownOrder, IsPlacedSaving, IsPlacingOf, ordered_pages, placed_file}
use Rattle.exh_file.specs.Reopened.{IsKept}
use Rattle.exh_file.specs.Saved.{IsLeft, pages_of_all, written_file}

pub record DraftState : Type 0 where
  pub opened : OpenedState
  pub form : Form

-- the form is one of these wards
abbrev pub Suits : OpenedState → Form → Type 0
Suits opened Plain = ⊤
Suits opened (Placed placing) = IsPlacingOf opened placing

-- the page file of wards in a form
abbrev pub bytes_as : OpenedState → Form → List ℕ
bytes_as opened Plain = file_bytes written_format (written_file opened)
bytes_as opened (Placed placing) = placed_bytes (placed_file opened placing)

abbrev pub bytes_in : DraftState → List ℕ
bytes_in draft = bytes_as draft.opened draft.form

-- the bytes are a legal page file of these wards
abbrev pub IsSaving : OpenedState → Form → List ℕ → Type 0
IsSaving opened Plain bytes = IsKept opened bytes
IsSaving opened (Placed placing) bytes = IsPlacedSaving opened placing bytes

abbrev pub IsDraftSaving : DraftState → List ℕ → Type 0
IsDraftSaving draft bytes = IsSaving draft.opened draft.form bytes

-- the same form, and the same wards, of which nothing but the counts of failures differs
pub record IsDraftLeft (old new : DraftState) : Type 0 where
  pub opened : IsLeft old.opened new.opened
  pub form : new.form ≡ old.form

-- ---- how a draft is made

-- it has these wards, in this order and with these stamps, and its first pages have these low bounds
pub record IsDraftedSo (opened : OpenedState) (order : List PageAt) (lows : List ℕ) (stamps : Stamps) (draft : DraftState) : Type 0 where
  pub opened_is : draft.opened ≡ opened
  pub placing : Placing
  pub form_is : draft.form ≡ Placed placing
  pub order_is : placing.order.items ≡ order
  pub stamps_are : placing.stamps ≡ stamps
  pub begins : take (length lows) (lows_of (ordered_pages opened.wards order)) ≡ lows

-- a file that is made anew: the wards' pages 0, and behind them the others, ward by ward
abbrev pub IsAnew : OpenedState → Stamps → DraftState → Type 0
IsAnew opened stamps draft = IsDraftedSo opened (with_others (map length (pages_of_all opened.wards)) (first_pages (length opened.wards))) [] stamps draft

-- a file that grew: the pages that had these low bounds in their places, and behind them the others, ward by ward
abbrev pub IsGrown : OpenedState → List ℕ → Stamps → DraftState → Type 0
IsGrown opened lows stamps draft = (order : List PageAt) × IsGrownOrder opened.ward_bits opened.wards lows order × IsDraftedSo opened order lows stamps draft
