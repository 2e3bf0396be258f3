use Rattle.exh_walk.proofs.RunOneMap.{run_one_maps, run_sound}
use Rattle.exh_walk.proofs.laws.runs_keep_wards_sound_and_one_map.Goals as goal

pub returns : goal.returns
returns g c = record {
  one_map = run_one_maps g.K.Keyer.pseudokey_of g.met.K.Keyer.pseudokey_fits c.splits_keep_legal.ensures c.merges_keep_legal.ensures c.answers_keep_legal.ensures c.histories_go_on.ensures;
  sound = run_sound g.K.Keyer.pseudokey_of g.met.K.Keyer.pseudokey_fits c.splits_keep_legal.ensures c.merges_keep_legal.ensures c.answers_keep_legal.ensures c.histories_go_on.ensures;
}
