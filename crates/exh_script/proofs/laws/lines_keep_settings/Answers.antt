use Rattle.exh_script.proofs.KeptSettings.{lines_keep}
use Rattle.exh_script.proofs.KeptWorlds.{WorldLaws}
use Rattle.exh_script.proofs.laws.lines_keep_settings.Goals as goal

pub returns : goal.returns
returns c world sound lines copies =
    let laws : WorldLaws = record {
      outcomes = c.steps_have_outcomes.ensures;
      keep_sound = c.steps_keep_worlds_sound.ensures;
      wards = c.runs_keep_wards_sound_and_one_map.ensures.sound;
    } in
    lines_keep copies laws world sound lines
