-- A reader whose bytes are counted.
use Rattle.exh_stream.specs.declared.metered_reader.MeteredReader.{MeteredReader}

-- the reader inside
abbrev pub reader_in : {R T : Type 0} → MeteredReader R T → R
reader_in metered = metered.reader
