use Rattle.std.proofs.Common.{◌≡◌, drop, map}
use Rattle.exh_request.specs.Line.{placed_word}
use Rattle.exh_request.specs.Request.{several_asked}
use Rattle.exh_request.proofs.KeysBefore.{behind_keys}
use Rattle.exh_request.proofs.asking.several.Given as goal

-- the keys so far stand before those of the words that are left
abbrev pub invariant-loop-word : goal.invariant-loop-word
invariant-loop-word l = several_asked l.is_hex (map placed_word l.words) ≡ behind_keys l.keys.items (several_asked l.is_hex (map placed_word (drop l.word-index l.words)))
