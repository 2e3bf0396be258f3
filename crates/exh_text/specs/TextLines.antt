-- Lines and their words: parts of bytes that one byte cuts.
use Rattle.std.specs.Prelude.{ℕ, List, [], length, Bool, not, filter, if◌then◌else◌, Option, Some, None, ◌==◌}
use Rattle.std.specs.List.{slice_split, list_any}

-- the parts that a byte cuts
unfoldable pub parts_at : ℕ → List ℕ → List (List ℕ)
parts_at byte = slice_split (λ b. b == byte)

-- those of what is left, none where nothing is
abbrev pub parts_left : ℕ → Option (List ℕ) → List (List ℕ)
parts_left byte None = []
parts_left byte (Some rest) = parts_at byte rest

-- the bytes that part lines and words
abbrev pub newline : ℕ
newline = 10

abbrev pub space : ℕ
space = 32

abbrev pub is_empty : List ℕ → Bool
is_empty part = length part == 0

-- those that aren't empty
abbrev pub without_empty : List (List ℕ) → List (List ℕ)
without_empty = filter (λ part. not (is_empty part))

-- the lines of a text: what newlines part, without the empty ones
unfoldable pub lines_of : List ℕ → List (List ℕ)
lines_of text = without_empty (parts_at newline text)

-- the words of a line: what spaces part. There are none where one of them would be empty
unfoldable pub words_of : List ℕ → Option (List (List ℕ))
words_of line = if list_any is_empty (parts_at space line) then None else Some (parts_at space line)
