use Rattle.std.proofs.Common.{◌≡◌, ◌+◌, ◌≤◌, List, ℕ, IsFalse}
use Rattle.exh_stream.specs.Output.{SameWriter, Takes, writer_failed}
use Rattle.exh_stream.specs.Source.{SameReader}
use Rattle.exh_load.specs.LineSource.{EndsRight, Passes}
use Rattle.exh_load.specs.Load.{record_count}
use Rattle.exh_load.specs.LoadFault.{FallsNowhere}
use Rattle.exh_load.specs.Loader.{IsLoading, file_in}
use Rattle.exh_load.specs.Loading.{loading_of, load_text_from}
use Rattle.exh_load.proofs.Lines.{LeadTo}
use Rattle.exh_load.proofs.long_load.put_lines.Given as goal

-- reader and writer are the ones they were, the loader can be used, no ward counts less, the lines so far were put, told and counted
abbrev pub invariant-turns : goal.invariant-turns
invariant-turns g l = record {
  same_reader : SameReader l.fn.lines.source l.lines.source;
  same_writer : SameWriter l.fn.output l.output;
  ends : EndsRight g.R.Read.remaining l.lines;
  open_still : IsFalse (writer_failed l.output);
  loading : IsLoading l.loader;
  falls : FallsNowhere (file_in l.fn.loader) (file_in l.loader);
  put : List (List ℕ);
  passed : Passes g.R.Read.remaining l.fn.lines l.lines put;
  lead : LeadTo (loading_of l.fn.loader) (loading_of l.loader) put;
  counted : l.records + record_count (loading_of l.fn.loader) ≡ record_count (loading_of l.loader);
  few : l.records ≤ l._line;
  taken : Takes g.W.Write.contents l.fn.output l.output (load_text_from (loading_of l.fn.loader) put);
}
