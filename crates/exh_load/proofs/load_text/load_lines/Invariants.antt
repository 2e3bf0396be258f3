use Rattle.std.proofs.Common.{◌≡◌, ◌+◌, ◌<◌, ◌≤◌, ◌^◌, List, ℕ, ◌++◌, IsFalse, length}
use Rattle.exh_stream.specs.Output.{SameWriter, Takes, writer_failed}
use Rattle.exh_load.specs.Load.{record_count}
use Rattle.exh_load.specs.LoadFault.{FallsNowhere}
use Rattle.exh_load.specs.Loader.{IsLoading, file_in}
use Rattle.exh_load.specs.Loading.{loading_of, load_text_from}
use Rattle.exh_load.proofs.Lines.{LeadTo}
use Rattle.exh_load.proofs.load_text.load_lines.Given as goal

-- the writer is the one it was, the loader can be used, no ward counts less, the text of the lines so far was taken, and their records counted
abbrev pub invariant-lines : goal.invariant-lines
invariant-lines g l = record {
  same_writer : SameWriter l.fn.output l.output;
  open_still : IsFalse (writer_failed l.output);
  loading : IsLoading l.loader;
  falls : FallsNowhere (file_in l.fn.loader) (file_in l.loader);
  answered : List (List ℕ);
  split : l.fn.lines ≡ answered ++ l.line-iterator;
  lead : LeadTo (loading_of l.fn.loader) (loading_of l.loader) answered;
  counted : length answered < 2 ^ 64 → l.records + record_count (loading_of l.fn.loader) ≡ record_count (loading_of l.loader);
  few : l.records ≤ length answered;
  passed : Takes g.W.Write.contents l.fn.output l.output (load_text_from (loading_of l.fn.loader) answered);
}
