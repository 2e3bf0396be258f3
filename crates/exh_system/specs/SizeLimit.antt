-- The limit on the size of a file that a text of the system's tells, and how long a page file is.
use Rattle.std.specs.Prelude.{⊤, ◌≡◌, ◌<◌, ◌*◌, ℕ, ◌+◌, Bool, true, false, List, [], ◌∷◌, codes, drop, length, nat_eq, cond, Option, None}
use Rattle.std.specs.List.{starts_with, sum}
use Rattle.exh_file.specs.TextLines.{is_empty, newline, parts_at, space}
use Rattle.exh_file.specs.Numbers.{index_spelled}
use Rattle.exh_direct.specs.declared.Header.{Header}
use Rattle.exh_direct.specs.PageFile.{table_blocks}
use Rattle.exh_file.specs.Places.{end_block_of}
use Rattle.exh_codec.specs.declared.block.TheConstants.{BLOCK_LEN}
use Rattle.exh_system.specs.declared.in_place_fault.InPlaceFault.{InPlaceFault}
use Rattle.exh_system.specs.declared.in_place_fault.InPlaceFault.TheVariants.{AboveLimit as AboveLimitFault, Memory, System}
use Rattle.exh_system.specs.declared.size_limit.AboveLimit.{AboveLimit}

-- the first word that isn't empty, or an empty one
abbrev pub first_full : List (List ℕ) → List ℕ
first_full [] = []
first_full (word ∷ words) = cond (is_empty word) (first_full words) word

abbrev pub first_word : List ℕ → List ℕ
first_word line = first_full (parts_at space line)

-- the number that stands first behind these words, in the first of these lines that begins with them
abbrev pub number_behind : List ℕ → List (List ℕ) → Option ℕ
number_behind words [] = None
number_behind words (line ∷ lines) = cond (starts_with nat_eq line words) (index_spelled (first_word (drop (length words) line))) (number_behind words lines)

-- of the limits on a process, a line each, the soft one on the size of a file
abbrev pub limit_told : List ℕ → Option ℕ
limit_told text = number_behind (codes "Max file size ") (parts_at newline text)

-- the blocks of a page file of this header: it, the pages, and those of the table
abbrev pub blocks_told : Header → ℕ
blocks_told header = 1 + (sum header.page_counts + table_blocks header.entry_count)

-- those of one of version 3: the header, the pages, and a walk block for each group of them
abbrev pub placed_blocks : Header → ℕ
placed_blocks header = end_block_of (sum header.page_counts)

-- how many bytes a page file of this header has, of version 3 or of the version that is written
abbrev pub len_told : Header → Bool → ℕ
len_told header true = BLOCK_LEN * placed_blocks header
len_told header false = BLOCK_LEN * blocks_told header

-- it has so many bytes, and they are more than the limit
pub record IsAbove (header : Header) (is_placed : Bool) (above : AboveLimit) : Type 0 where
  pub size : above.size ≡ len_told header is_placed
  pub more : above.limit < above.size

-- the most bytes of a log of so many blocks: its header, a frame for each, and what it is made longer by at a time
abbrev pub log_len : ℕ → ℕ
log_len blocks = 32 + 4120 * blocks + 262144

-- a limit isn't kept, or the system doesn't say how long a file is
abbrev pub IsLimitFault : InPlaceFault → Type 0
IsLimitFault (AboveLimitFault limit) = ⊤
IsLimitFault (System error) = ⊤
IsLimitFault Memory = ⊤
IsLimitFault fault = ⊥
