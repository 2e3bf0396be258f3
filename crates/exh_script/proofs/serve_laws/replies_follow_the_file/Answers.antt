use Rattle.exh_script.specs.OpenedScript.{opened_file}
use Rattle.exh_script.proofs.OpenedLemmas.{begins_sound}
use Rattle.exh_script.proofs.serve_laws.replies_follow_the_file.Goals as goal

pub returns : goal.returns
returns c opened are script = c.replies_follow_any_start.ensures.follow (opened_file opened) (begins_sound c.worlds_of_wards_are_sound.ensures opened are) script
