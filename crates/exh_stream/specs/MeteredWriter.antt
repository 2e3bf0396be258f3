-- A writer whose bytes are counted.
use Rattle.exh_stream.specs.declared.metered_writer.MeteredWriter.{MeteredWriter}

-- the writer inside
abbrev pub writer_in : {W T : Type 0} → MeteredWriter W T → W
writer_in metered = metered.writer
