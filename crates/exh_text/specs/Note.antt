-- How words of a text are shown.
use Rattle.std.specs.Prelude.{ℕ, List, [], ◌++◌, map, length, nat_le, ◌&&◌, if◌then◌else◌, take, codes}
use Rattle.exh_text.specs.declared.note.TheConstants.{SHOWN_LEN}

-- a byte that is printed as it stands, or `?`
abbrev pub visible : ℕ → ℕ
visible byte = if nat_le 32 byte && nat_le byte 126 then byte else 63

-- the first bytes of a word, at most so many
unfoldable pub front : ℕ → List ℕ → List ℕ
front most word = if nat_le (length word) most then word else take most word

-- two dots where there are more
abbrev pub dots : ℕ → List ℕ → List ℕ
dots most word = if nat_le (length word) most then [] else codes ".."

abbrev pub shown : List ℕ → List ℕ
shown word = map visible (front SHOWN_LEN word) ++ dots SHOWN_LEN word
