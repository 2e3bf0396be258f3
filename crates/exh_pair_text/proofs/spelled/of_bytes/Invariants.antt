use Rattle.std.proofs.Common.{◌≡◌, ◌+◌, ◌-◌, ◌≤◌, ℕ, List, length, drop}
use Rattle.exh_page.specs.declared.value.TheConstants.{VALUE_LIMIT}
use Rattle.exh_pair_text.specs.Reading.{bytes_from}
use Rattle.exh_pair_text.proofs.Steps.{behind}
use Rattle.exh_pair_text.proofs.spelled.of_bytes.Given as goal

-- the bytes so far, and those of what is left
abbrev pub invariant-loop-taken : goal.invariant-loop-taken
invariant-loop-taken l = record {
  within : l.taken ≤ length l.text;
  few : l.count ≤ l.taken;
  front : List ℕ;
  counted : length front ≡ l.count;
  kept : l.count ≤ VALUE_LIMIT → l.bytes.items ≡ front;
  left : behind front (bytes_from l.is_hex (l.at + l.taken) 0 (drop l.taken l.text)) ≡ bytes_from l.is_hex l.at 0 l.text;
}

abbrev pub decreases-loop-taken : goal.decreases-loop-taken
decreases-loop-taken l = length l.text - l.taken
