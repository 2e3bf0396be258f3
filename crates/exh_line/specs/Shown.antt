-- What is shown of a copy's table, and of a page.
use Rattle.std.specs.Prelude.{ℕ, Bool, List, ◌++◌, flat_map, decimal, codes}
use Rattle.std.specs.FinMap.{entries}
use Rattle.exh_prefix.specs.Leading.{ward_of}
use Rattle.exh_prefix.specs.Prefix.{low_of, prefix_text}
use Rattle.exh_notice.specs.declared.entry.Entry.{Entry}
use Rattle.exh_table.specs.Below.{depth_of, leaves_listed}
use Rattle.exh_table.specs.Table.{TableMap}
use Rattle.exh_table.specs.declared.leaf.Leaf.{Leaf}
use Rattle.exh_page.specs.declared.page.Page.{Page}
use Rattle.exh_page.specs.declared.page_head.PageHead.{PageHead}
use Rattle.exh_page.specs.declared.page_head.PageHead.TheVariants.{Live, Forward}
use Rattle.exh_page.specs.PageHead.{head_of}
use Rattle.exh_text.specs.Contents.{entry_words, forward_page_words, live_page_words, on_line}
use Rattle.exh_text.specs.Printing.{place_text}
use Rattle.exh_line.specs.LineAnswer.{copy_text}

-- ---- a table

-- an entry at a prefix
abbrev pub entry_line : List Bool × Entry → List ℕ
entry_line at = on_line (entry_words at)

-- a leaf, with its page in its ward, which is that of the leaf's pseudokeys
abbrev pub leaf_line : ℕ → Leaf → List ℕ
leaf_line ward_bits leaf = on_line (codes "leaf " ++ (prefix_text leaf.prefix ++ (codes " " ++ place_text (ward_of ward_bits (low_of leaf.prefix)) leaf.page)))

-- the directory's depth, the entries, and the leaves, each in the order of prefixes
abbrev pub table_text : ℕ → TableMap → List ℕ
table_text ward_bits table =
    on_line (codes " depth " ++ decimal (depth_of table ward_bits)) ++ (flat_map entry_line (entries table) ++ flat_map (leaf_line ward_bits) (leaves_listed table ward_bits))

abbrev pub shown_text : ℕ → ℕ → TableMap → List ℕ
shown_text ward_bits copy table = copy_text copy ++ table_text ward_bits table

-- ---- a page

-- what a page of a ward holds, or where it sends callers on to
abbrev pub page_head_text : ℕ → ℕ → PageHead → List ℕ
page_head_text ward number (Live prefix right count) = on_line (live_page_words ward number prefix right count)
page_head_text ward number (Forward low target) = on_line (forward_page_words ward number target)

abbrev pub page_text : ℕ → ℕ → Page → List ℕ
page_text ward number page = page_head_text ward number (head_of page)
