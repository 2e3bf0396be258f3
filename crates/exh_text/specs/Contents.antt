-- Lines that tell what a file has: a page, and an entry of a table.
use Rattle.std.specs.Prelude.{ℕ, Bool, List, [], ◌∷◌, ◌++◌, Option, Some, None, decimal, codes}
use Rattle.exh_prefix.specs.Prefix.{prefix_text}
use Rattle.exh_notice.specs.declared.entry.Entry.{Entry}
use Rattle.exh_notice.specs.declared.entry.Kind.{Kind}
use Rattle.exh_notice.specs.declared.entry.Kind.TheVariants.{Split, Merge}
use Rattle.exh_text.specs.TextLines.{newline}
use Rattle.exh_text.specs.Printing.{place_text}

-- a line of its own
abbrev pub on_line : List ℕ → List ℕ
on_line words = words ++ newline ∷ []

-- ---- a page of a ward

abbrev pub page_words : ℕ → ℕ → List ℕ
page_words ward number = codes "page " ++ place_text ward number

abbrev pub right_text : Option ℕ → List ℕ
right_text None = codes "none"
right_text (Some right) = decimal right

-- what a live page holds: its prefix, its right link, and how many records it has
abbrev pub live_text : List Bool → Option ℕ → ℕ → List ℕ
live_text prefix right count = codes " live prefix " ++ (prefix_text prefix ++ (codes " right " ++ (right_text right ++ (codes " records " ++ decimal count))))

-- where a forwarding page of a ward sends callers on to
abbrev pub forward_text : ℕ → ℕ → List ℕ
forward_text ward target = codes " forward " ++ place_text ward target

abbrev pub live_page_words : ℕ → ℕ → List Bool → Option ℕ → ℕ → List ℕ
live_page_words ward number prefix right count = page_words ward number ++ live_text prefix right count

abbrev pub forward_page_words : ℕ → ℕ → ℕ → List ℕ
forward_page_words ward number target = page_words ward number ++ forward_text ward target

-- ---- an entry

abbrev pub kind_text : Kind → List ℕ
kind_text (Split right) = codes " split right " ++ decimal right
kind_text Merge = codes " merge"

-- the number and the kind of what was done at a prefix
abbrev pub entry_text : List Bool → ℕ → Kind → List ℕ
entry_text prefix version kind = prefix_text prefix ++ (codes " number " ++ (decimal version ++ kind_text kind))

-- an entry at a prefix
abbrev pub entry_words : List Bool × Entry → List ℕ
entry_words at = codes "entry " ++ entry_text at.0 at.1.number at.1.kind
