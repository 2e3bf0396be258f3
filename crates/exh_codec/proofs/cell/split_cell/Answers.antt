use Rattle.std.proofs.Common.{◌-◌, drop, length, arith}
use Rattle.std.proofs.lemmas.List.{length-drop, length-take}
use Rattle.exh_codec.specs.Cells.{IsSizedPair}
use Rattle.exh_codec.proofs.PairImages.{pair_at_front, pair_from_cuts}
use Rattle.exh_codec.proofs.cell.split_cell.Goals as goal
use Rattle.exh_codec.proofs.cell.split_cell.Goals.{then-key_len-eq0-via-then-key_len-eq0, then-key_len-eq0-via-else-key_len-eq0+then-key_len-gt-KEY_LIMIT, then-key_len-eq0-via-else-key_len-eq0+else-key_len-gt-KEY_LIMIT+then-value_len-gt-VALUE_LIMIT, then-key_len-eq0-via-else-key_len-eq0+else-key_len-gt-KEY_LIMIT+else-value_len-gt-VALUE_LIMIT+then-rest-key_len}

pub returns-in_default-clause-none : goal.returns-in_default-clause-none
returns-in_default-clause-none c pair rest sized is = omega (arith, pair_at_front c.args.bytes.now pair rest is, c.in_default.len_below)

pub returns-then-key_len-eq0-clause-none : goal.returns-then-key_len-eq0-clause-none
returns-then-key_len-eq0-clause-none c pair rest sized is =
    let front = pair_at_front c.args.bytes.now pair rest is in
    let tail = length-drop 2 c.args.bytes.now in
    let body = length-take (length c.args.bytes.now - 2) (drop 2 c.args.bytes.now) in
    elim c.then-key_len-eq0.branch [
      | then-key_len-eq0-via-then-key_len-eq0 w ↦ omega (arith, sized.some)
      | then-key_len-eq0-via-else-key_len-eq0+then-key_len-gt-KEY_LIMIT w ↦ omega (arith, sized.key)
      | then-key_len-eq0-via-else-key_len-eq0+else-key_len-gt-KEY_LIMIT+then-value_len-gt-VALUE_LIMIT w ↦ omega (arith, sized.value)
      | then-key_len-eq0-via-else-key_len-eq0+else-key_len-gt-KEY_LIMIT+else-value_len-gt-VALUE_LIMIT+then-rest-key_len w ↦ omega arith
    ]

pub returns-clause-some : goal.returns-clause-some
returns-clause-some c =
    let key_len = c.split_at.ensures.front_len in
    let value_len = c.split_at-2.ensures.front_len in
    let sized : IsSizedPair (c.split_at.result.0.now, c.split_at-2.result.0.now) = record {
      some = omega arith;
      key = omega arith;
      value = omega arith;
    } in (
      sized,
      pair_from_cuts c.args.bytes.now c.split_at.result.0.now c.split_at.result.1.now c.split_at-2.result.0.now c.split_at-2.result.1.now
          c.in-len2-up.len_at_least key_len value_len c.split_at.ensures.by_index.0 c.split_at-2.ensures.by_index.0,
    )
