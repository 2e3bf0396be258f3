use Rattle.std.proofs.Common.{◌⊎◌, Bool, true, false, Result, Ok, Err, IfOk, inl, inr, rules}
use Rattle.std.specs.Prelude.{MatchBool}
use Rattle.std.specs.Io.KnownBytes.{Appends}
use Rattle.exh_stream.specs.Output.{held}
use Rattle.exh_stream.specs.Source.{reader_failed, unread}
use Rattle.exh_script.specs.OpenedScript.{beginning}
use Rattle.exh_script.specs.Served.{PrintsUnread, PrintsWhole}
use Rattle.exh_script.proofs.server.serve_over.Goals as goal

-- whether the reader failed or not
either_way : {T E : Type 0} (result : Result T E) (failed : Bool) (Unread Whole : T → Type 0) → IfOk result (λ left. MatchBool failed (Unread left) (Whole left)) → IfOk result (λ left. Whole left ⊎ Unread left)
either_way (Ok left) true Unread Whole told = inr told
either_way (Ok left) false Unread Whole told = inl told
either_way (Err fault) failed Unread Whole told = tt

pub returns-clause-ok : goal.returns-clause-ok
returns-clause-ok g c =
    let appends = Appends (held g.W.Write.contents c.new-2.result) (held g.W.Write.contents c.serve_source.new.output) in
    let told = either_way c.serve_source.result (reader_failed c.serve_source.new.source) (PrintsUnread appends) (PrintsWhole (beginning c.args.from) appends (unread g.R.Read.remaining c.new.result)) c.serve_source.ensures.text in
    search rules
