use Rattle.std.proofs.Common.{◌≡◌, ◌≢◌, [], length, IsTrue}
use Rattle.std.specs.Prelude.{IsFalse}
use Rattle.exh_stream.specs.Source.{SameReader}
use Rattle.exh_import.specs.Counting.{starts}
use Rattle.exh_import.specs.LineReader.{EndsRight, text_left, waiting}
use Rattle.exh_import.proofs.Texts.{IsAmid, IsWhole}
use Rattle.exh_import.proofs.importing.import.Given as goal

-- the lines up to here are taken, and more is left or nothing
abbrev pub invariant-lines : goal.invariant-lines
invariant-lines g l = record {
  same_reader : SameReader l.fn.lines.source l.lines.source;
  ends : EndsRight g.R.Read.remaining l.lines;
  over : IsTrue l.is_over → IsWhole g.S.ImportedStore.gives g.S.ImportedStore.saves g.S.ImportedStore.rests g.L.Rejects.told l.fn.options.format g.R.Read.remaining (text_left g.R.Read.remaining l.fn.lines)
      (record { taking = starts l.fn.options; store = l.fn.store; listener = l.fn.listener }) l.has_newline (record { taking = l.taking; store = l.store; listener = l.listener });
  amid : IsFalse l.is_over → (waiting l.lines ≢ []) × ((amid : IsAmid g.S.ImportedStore.gives g.S.ImportedStore.saves g.S.ImportedStore.rests g.L.Rejects.told l.fn.options.format g.R.Read.remaining (text_left g.R.Read.remaining l.fn.lines)
      (record { taking = starts l.fn.options; store = l.fn.store; listener = l.fn.listener }) l.lines (record { taking = l.taking; store = l.store; listener = l.listener })) × (length amid.front ≡ l._line));
}
