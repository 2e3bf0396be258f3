-- The numbers of an import, as lines go by.
use Rattle.std.specs.Prelude.{ℕ, ◌+◌, ◌-◌, ◌^◌, ◌==◌, min, nat_le, Bool, true, false, not, ◌&&◌, ◌||◌, if◌then◌else◌, Option, Some, None}
use Rattle.exh_pair_text.specs.declared.line.Line.{Line}
use Rattle.exh_pair_text.specs.declared.line.Line.TheVariants.{Opening, End}
use Rattle.exh_pair_text.specs.declared.pair_format.PairFormat.{PairFormat}
use Rattle.exh_import.specs.declared.begun.Begun.{Begun}
use Rattle.exh_import.specs.declared.imported.Imported.{Imported}
use Rattle.exh_import.specs.declared.options.ImportOptions.{ImportOptions}
use Rattle.exh_import.specs.declared.taking.Taking.{Taking}

-- one more, up to the greatest number of 64 bits
abbrev pub more : ℕ → ℕ
more count = min (count + 1) (2 ^ 64 - 1)

-- as many lines were taken before the pairs are
abbrev pub lines_begun : Begun → ℕ
lines_begun begun = (if begun.is_opened then 1 else 0) + (if begun.has_header then 1 else 0)

-- of a text of which no line is taken but those: it is cut off where it has an opening and ends there
abbrev pub starts : ImportOptions → Taking
starts options = record {
  options = options;
  imported = record { lines = lines_begun options.begun; pairs = 0; rejected = 0; full = 0; is_cut_off = options.begun.is_opened; is_committed = false };
  is_opened = options.begun.is_opened;
  unsaved = 0;
  is_saved = false;
}

abbrev pub line_counted : Taking → Taking
line_counted taking = record taking { imported = record taking.imported { lines = more taking.imported.lines } }

abbrev pub pair_counted : Taking → Taking
pair_counted taking = record taking { imported = record taking.imported { pairs = more taking.imported.pairs }; unsaved = more taking.unsaved }

abbrev pub full_counted : Taking → Taking
full_counted taking = record taking { imported = record taking.imported { full = more taking.imported.full } }

abbrev pub rejected_counted : Taking → Taking
rejected_counted taking = record taking { imported = record taking.imported { rejected = more taking.imported.rejected } }

-- what was put is committed
abbrev pub saved : Taking → Taking
saved taking = record taking { unsaved = 0; is_saved = true }

-- the store rested if it was to
abbrev pub rested : Taking → Taking
rested taking = record taking { is_saved = false }

-- as many pairs are put as a batch has, and as were committed before
abbrev pub is_due : Taking → Bool
is_due taking = not taking.options.is_atomic && (nat_le taking.options.batch taking.unsaved && nat_le (taking.imported.pairs - taking.unsaved) taking.unsaved)

-- ---- exports

-- the format that the first line of a text opens with
abbrev pub first_opening : Bool → Line → Option PairFormat
first_opening true (Opening format) = Some format
first_opening first read = None

-- an opening that is the only line is cut off
abbrev pub opened : Bool → Taking → Taking
opened last taking = record taking { imported = record taking.imported { is_cut_off = last }; is_opened = true }

-- the lines that were put or rejected
abbrev pub told_lines : Imported → ℕ
told_lines imported = min (min (imported.pairs + imported.full) (2 ^ 64 - 1) + imported.rejected) (2 ^ 64 - 1)

-- whether a line is the end of so many
abbrev pub is_right_end : ℕ → Line → Bool
is_right_end count (End number) = number == count
is_right_end count read = false

-- by the last line
abbrev pub closed : Line → Taking → Taking
closed read taking = record taking { imported = record taking.imported { is_cut_off = not (is_right_end (told_lines taking.imported) read) } }

-- ---- the end

-- the text ended, and each line of it had its newline, or the last one hadn't: then that may be the beginning of a longer one
abbrev pub ended : Bool → Taking → Taking
ended true taking = taking
ended false taking = record taking { imported = record taking.imported { is_cut_off = taking.is_opened || taking.imported.is_cut_off } }

-- a line was rejected, a key is full, or the text is cut off
abbrev pub is_amiss : Imported → Bool
is_amiss imported = not (imported.rejected == 0) || (not (imported.full == 0) || imported.is_cut_off)

abbrev pub committed : Imported → Imported
committed imported = record imported { is_committed = true }
