use Rattle.exh_codec.proofs.Rising.{item_at, rising_front}
use Rattle.exh_codec.proofs.pages.to_records.Goals as goal

pub to_record-requires : goal.to_record-requires
to_record-requires c = item_at c.args.records.now c.loop-item.item-index _ c.loop-item-test.true c.requires.sized

pub push-requires : goal.push-requires
push-requires c = rw (c.loop-item.invariant, c.to_record.ensures) (rising_front c.args.records.now c.loop-item.item-index _ c.loop-item-test.true c.requires.rising)
