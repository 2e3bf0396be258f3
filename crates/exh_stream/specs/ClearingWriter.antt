-- A writer that takes a line away.
use Rattle.exh_stream.specs.declared.clearing_writer.ClearingWriter.{ClearingWriter}

-- the writer inside
abbrev pub writer_in : {W T : Type 0} → ClearingWriter W T → W
writer_in clearing = clearing.writer
