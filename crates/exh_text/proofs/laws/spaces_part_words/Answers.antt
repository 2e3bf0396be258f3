use Rattle.std.proofs.Common.{◌≡◌, ℕ, List, Bool, true, false, cond, Some, None}
use Rattle.std.specs.List.{join_with_byte}
use Rattle.std.proofs.lemmas.List.Splits.{join_with_byte-slice_split}
use Rattle.exh_text.specs.TextLines.{space, words_of}
use Rattle.exh_text.specs.TextLines.{parts_at}
use Rattle.exh_text.proofs.laws.spaces_part_words.Goals as goal

joined : (line : List ℕ) (words : List (List ℕ)) (empty : Bool) → cond empty None (Some (parts_at space line)) ≡ Some words → join_with_byte space words ≡ line
unfolding parts_at
joined line words true read = cc
joined line words false read = let same : parts_at space line ≡ words = cc in rw (← same) (join_with_byte-slice_split space line)

pub returns : goal.returns
unfolding words_of
returns c line words read = joined line words _ read
