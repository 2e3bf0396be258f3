-- The text of a file's numbers, in lines.
use Rattle.std.specs.Prelude.{ℕ, ◌+◌, ◌*◌, ◌/◌, ◌==◌, List, [], ◌∷◌, ◌++◌, length, take, min, max, codes, decimal, fold, replicate, if◌then◌else◌}
use Rattle.exh_keyer.specs.Pseudokey.{keyer_word}
use Rattle.exh_prefix.specs.Prefix.{prefix_text}
use Rattle.exh_compact.specs.declared.stats.Stats.{Stats}
use Rattle.exh_compact.specs.declared.stats.TheConstants.{BIT_COUNTS, RECORD_COUNTS}
use Rattle.exh_compact.specs.declared.text.TheConstants.{WIDTH}
use Rattle.exh_compact.specs.declared.ward_counts.WardCounts.{WardCounts}

-- ---- pieces of texts

-- what is told of the items of a list with their numbers, from one on
abbrev pub each_from : {A : Type 0} → (ℕ → A → List ℕ) → ℕ → List A → List ℕ
each_from told from [] = []
each_from told from (item ∷ items) = told from item ++ each_from told (from + 1) items

-- a line of words and a number; words and a number, twice
abbrev pub line_text : List ℕ → ℕ → List ℕ
line_text words number = words ++ (decimal number ++ codes "\n")

abbrev pub pair_text : List ℕ → ℕ → List ℕ → ℕ → List ℕ
pair_text words number more other = words ++ (decimal number ++ (more ++ decimal other))

-- ---- counts

-- the greatest count, or 0
abbrev pub most_in : List ℕ → ℕ
most_in counts = fold max 0 counts

-- how long the bar of a count is beside the greatest
abbrev pub bar_len : ℕ → ℕ → ℕ
bar_len count most = min WIDTH (count * 39 / max most 1 + 1)

-- of a count that isn't 0: a space and its bar
abbrev pub bar_text : ℕ → ℕ → List ℕ
bar_text count most = if count == 0 then [] else codes " " ++ replicate (bar_len count most) 35

abbrev pub bar_line : List ℕ → ℕ → ℕ → ℕ → List ℕ
bar_line words most what count = pair_text words what (codes ": ") count ++ (bar_text count most ++ codes "\n")

-- a line for each count
abbrev pub bars_text : List ℕ → List ℕ → List ℕ
bars_text words counts = each_from (bar_line words (most_in counts)) 0 counts

-- ---- a file

abbrev pub settings_text : Stats → List ℕ
settings_text s =
    (line_text (codes "version ") s.version ++ (line_text (codes "cap ") s.settings.cap ++ line_text (codes "wards ") (length s.wards.items)))
    ++ (codes "keyer " ++ (keyer_word s.settings.keyer ++ codes "\n"))

abbrev pub depth_text : Stats → List ℕ
depth_text s = (codes "depth " ++ decimal (length s.longest)) ++ (codes ", longest prefix " ++ (prefix_text s.longest ++ codes "\n"))

abbrev pub pages_text : Stats → List ℕ
pages_text s = line_text (codes "records ") s.records ++ (pair_text (codes "pages ") s.live (codes " live, ") s.forwarding ++ codes " forwarding\n")

abbrev pub limit_text : Stats → List ℕ
limit_text s = pair_text (codes "pages that can't be split ") s.at_limit (codes ", full ") s.full_at_limit ++ codes "\n"

abbrev pub bytes_text : Stats → List ℕ
bytes_text s = pair_text (codes "bytes ") s.record_bytes (codes " of records in ") s.page_bytes ++ codes " of pages\n"

-- the live pages by their records, up to the cap, and by the bits of their prefixes, up to the longest
abbrev pub by_records_text : Stats → List ℕ
by_records_text s = bars_text (codes "pages with records ") (take (min RECORD_COUNTS (s.settings.cap + 1)) s.by_records)

abbrev pub by_bits_text : Stats → List ℕ
by_bits_text s = bars_text (codes "pages with bits ") (take (min BIT_COUNTS (length s.longest + 1)) s.by_bits)

abbrev pub ward_text : ℕ → WardCounts → List ℕ
ward_text number ward = pair_text (codes "ward ") number (codes ": pages ") ward.pages ++ line_text (codes ", records ") ward.records

-- its settings and totals; its counts and wards
abbrev pub head_text : Stats → List ℕ
head_text s = settings_text s ++ (pages_text s ++ (depth_text s ++ limit_text s))

abbrev pub body_text : Stats → List ℕ
body_text s = bytes_text s ++ (by_records_text s ++ (by_bits_text s ++ each_from ward_text 0 s.wards.items))

abbrev pub stats_text : Stats → List ℕ
stats_text s = head_text s ++ body_text s
