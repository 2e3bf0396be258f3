use Rattle.std.proofs.Common.{◌≡◌, ◌⊎◌, ℕ, List, Option, inl, inr, ap, ◌∙◌}
use Rattle.std.specs.Io.KnownBytes.{Appends}
use Rattle.exh_load.specs.Opened.{OpenedState}
use Rattle.exh_script.specs.Left.{ended_with}
use Rattle.exh_script.specs.ScriptLaws.{DoneRunsLeaveWards}
use Rattle.exh_script.specs.Served.{EndsUnread, PrintsToEnd, PrintsUnread, PrintsWhole}
use Rattle.exh_script.specs.Text.{Beginning, new_file}
use Rattle.exh_script.specs.declared.ended.Ended.{Ended}
use Rattle.exh_script.proofs.doors.serve.Goals as goal

-- how a run ended, by the wards that it left
to_end : DoneRunsLeaveWards → (begin : Beginning) (prints : List ℕ → Type 0) (known : Option (List ℕ)) (left : Option OpenedState) (ended : Ended) → ended ≡ ended_with left
    → PrintsWhole begin prints known left ⊎ PrintsUnread prints left → PrintsToEnd begin prints known ended ⊎ EndsUnread prints ended
to_end law begin prints known left ended is (inl whole) = inl (record { whole = whole.whole; ended_is = is ∙ ap ended_with whole.left_is ∙ law begin whole.whole.script })
to_end law begin prints known left ended is (inr unread) = inr (unread.0, is ∙ ap ended_with unread.1)

pub returns-clause-ok : goal.returns-clause-ok
returns-clause-ok g c =
    to_end c.done_runs_leave_wards.ensures new_file (Appends (g.W.Write.contents c.args.writer.now) (g.W.Write.contents c.serve_from.new.writer)) (g.R.Read.remaining c.args.reader.now) c.in_ok-ended.field-0-1 c.in_ok-ended.ended
    c.in_ok-ended.ensures.ended c.in_ok-ended.ensures.ok
