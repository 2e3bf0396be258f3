-- A writer that leaves the reason for which it fails.
use Rattle.exh_text.specs.declared.reason_writer.ReasonWriter.{ReasonWriter}

-- the writer inside
abbrev pub writer_in : {W : Type 0} → ReasonWriter W → W
writer_in writing = writing.writer
