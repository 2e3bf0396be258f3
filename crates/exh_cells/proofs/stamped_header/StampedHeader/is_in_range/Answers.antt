use Rattle.exh_cells.proofs.StampedPassed.{from_second, to_second}
use Rattle.exh_cells.proofs.stamped_header.StampedHeader.is_in_range.Goals as goal

pub returns : goal.returns
returns c = (λ yes. record { plain = from_second _ (c.is_in_range.ensures.0 yes); stamp = c.word_of-stamp.ensures.word; before = c.word_of-before.ensures.word }, λ valid. c.is_in_range.ensures.1 (to_second _ valid.plain))
