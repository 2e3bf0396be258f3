use Rattle.std.proofs.Common.{Ok, Err}
use Rattle.exh_format.specs.FileParts.{file_of}
use Rattle.exh_report.specs.Report.{topic_lines}
use Rattle.exh_report.proofs.report.tell.Goals as goal

pub tell_parts-requires-clause-file : goal.tell_parts-requires-clause-file
tell_parts-requires-clause-file g c = let read = c.in-Ok.ensures.legal in (c.legal_bytes_are_files.ensures _ read.bytes read.legal).is_known

pub returns-in-Ok-clause-told : goal.returns-in-Ok-clause-told
returns-in-Ok-clause-told g c = record {
  finding = Ok (file_of c.in-Ok.found.file.parts);
  found = (let read = c.in-Ok.ensures.legal in (read.bytes, read.all, read.are_bytes, read.legal));
  printed = c.tell_parts.ensures.told;
  verdict = c.tell_parts.ensures.verdict;
}

pub returns-in-Err-clause-told : goal.returns-in-Err-clause-told
returns-in-Err-clause-told g c = record {
  finding = Err c.in-Err.fault;
  found = c.in-Err.ensures.fault;
  printed = c.refuse.ensures.told (topic_lines c.args.topic);
  verdict = c.refuse.ensures.verdict;
}
