-- The formats of texts of pairs.
use Rattle.std.specs.Prelude.{ℕ, List, if◌then◌else◌, Option, Some, None, codes}
use Rattle.std.specs.Str.{bytes_eq}
use Rattle.exh_pair_text.specs.declared.pair_format.PairFormat.{PairFormat}
use Rattle.exh_pair_text.specs.declared.pair_format.PairFormat.TheVariants.{Words, Tsv, Jsonl, Csv}
use Rattle.exh_pair_text.specs.declared.separated.Separated.{Separated}
use Rattle.exh_pair_text.specs.declared.separated.Separated.TheVariants as apart
use Rattle.exh_text.specs.TextLines.{space}

abbrev pub format_name : PairFormat → List ℕ
format_name Words = codes "words"
format_name Tsv = codes "tsv"
format_name Jsonl = codes "jsonl"
format_name Csv = codes "csv"

-- the format of a name
abbrev pub format_named : List ℕ → Option PairFormat
format_named word =
    if bytes_eq word (codes "words") then Some Words
    else (if bytes_eq word (codes "tsv") then Some Tsv
    else (if bytes_eq word (codes "jsonl") then Some Jsonl
    else (if bytes_eq word (codes "csv") then Some Csv else None)))

abbrev pub tab : ℕ
tab = 9

-- the byte between a key and its value
abbrev pub separator : Separated → ℕ
separator apart.Words = space
separator apart.Tsv = tab
