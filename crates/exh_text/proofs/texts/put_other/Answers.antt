use Rattle.exh_text.proofs.PartLemmas.{three_parts}
use Rattle.exh_text.proofs.texts.put_other.Goals as goal

pub returns : goal.returns
returns c = three_parts c.args.note.now.items _ _ _ _ _ _ c.put.ensures c.put_setting.ensures.text c.put-2.ensures
