use Rattle.exh_placing.proofs.Groups.{headers_begin, places_begin, places_follow, places_make_file}
use Rattle.exh_placing.proofs.laws.places_make_files.Goals as goal

pub returns : goal.returns
returns c = record { header = headers_begin; follow = places_follow; whole = places_make_file; beginning = places_begin }
