-- A reader that leaves the reason for which it fails.
use Rattle.exh_text.specs.declared.reason_reader.ReasonReader.{ReasonReader}

-- the reader inside
abbrev pub reader_in : {R : Type 0} → ReasonReader R → R
reader_in reading = reading.reader
