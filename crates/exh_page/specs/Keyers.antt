-- The word, the byte and the equality of a file's keyer.
use Rattle.std.specs.Prelude.{ℕ, List, Bool, true, false, if◌then◌else◌, Option, Some, None}
use Rattle.std.specs.Str.{bytes_eq}
use Rattle.exh_keyer.specs.declared.any_keyer.AnyKeyer.{AnyKeyer}
use Rattle.exh_keyer.specs.declared.any_keyer.AnyKeyer.TheVariants.{Plain, Sha}
use Rattle.exh_keyer.specs.Pseudokey.{keyer_word}

-- the keyer that a word names
abbrev pub keyer_named : List ℕ → Option AnyKeyer
keyer_named word =
    if bytes_eq word (keyer_word Sha) then Some Sha
    else (if bytes_eq word (keyer_word Plain) then Some Plain else None)

-- the byte of a page file that names a keyer
abbrev pub keyer_byte : AnyKeyer → ℕ
keyer_byte Sha = 1
keyer_byte Plain = 2

abbrev pub is_same_keyer : AnyKeyer → AnyKeyer → Bool
is_same_keyer Plain Plain = true
is_same_keyer Sha Sha = true
is_same_keyer keyer other = false
