use Rattle.std.proofs.Common.{◌≡◌, ℕ, List, [], ◌∷◌, length, leb, cond, Bool, true, false, None, Result, Ok, Err, refl}
use Rattle.exh_text.specs.TextLines.{lines_of}
use Rattle.exh_script.specs.Text.{Beginning, Start, start_of, ended_after, ended_of_lines, ended_of}
use Rattle.exh_script.specs.declared.ended.Ended.TheVariants.{Refused}
use Rattle.exh_line.specs.declared.refusal.Refusal.{Refusal}
use Rattle.exh_text.specs.declared.script.TheConstants.{SCRIPT_LIMIT}
use Rattle.exh_script.specs.Left.{ended_with, left_after, left_of_lines, left_of}
use Rattle.exh_script.proofs.serve_laws.done_runs_leave_wards.Goals as goal

by_start : (begun : Result Start Refusal) (lines : List (List ℕ)) → ended_with (left_after begun lines) ≡ ended_after begun
by_start (Ok start) lines = refl
by_start (Err refusal) lines = refl

by_lines : (begin : Beginning) (lines : List (List ℕ)) → ended_with (left_of_lines begin lines) ≡ ended_of_lines begin lines
by_lines begin [] = refl
by_lines begin (first ∷ lines) = by_start (start_of begin first) lines

by_length : (begin : Beginning) (lines : List (List ℕ)) (fits : Bool) → ended_with (cond fits (left_of_lines begin lines) None) ≡ cond fits (ended_of_lines begin lines) Refused
by_length begin lines true = by_lines begin lines
by_length begin lines false = refl

pub returns : goal.returns
unfolding left_of ended_of
returns c begin script = by_length begin (lines_of script) (leb (length script) SCRIPT_LIMIT)
