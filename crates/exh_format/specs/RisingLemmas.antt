-- Prefixes that rise.
use Rattle.std.proofs.Common.{◌≡◌, Bool, List, [], ◌∷◌, ◌++◌}
use Rattle.std.specs.declared.cmp.Ordering.TheVariants.{Less}
use Rattle.std.specs.List.{AllByRecursion}
use Rattle.exh_prefix.specs.Prefix.{prefix_cmp}
use Rattle.exh_prefix.specs.PrefixLemmas.{prefix_cmp-total}
use Rattle.exh_format.specs.declared.file_entry.FileEntry.{FileEntry}
use Rattle.exh_format.specs.TableImage.{AreRising, prefixes_of}

-- what comes after the next one comes after the first
pub all_after : (first next : List Bool) (rest : List (List Bool)) → prefix_cmp first next ≡ Less → AllByRecursion (λ other. prefix_cmp next other ≡ Less) rest → AllByRecursion (λ other. prefix_cmp first other ≡ Less) rest
all_after first next [] comes all = tt
all_after first next (other ∷ rest) comes all = (prefix_cmp-total.trans first next other comes all.0, all_after first next rest comes all.1)

first_before : (one : FileEntry) (others : List FileEntry) (item : FileEntry) (rest : List FileEntry) → AllByRecursion (λ next. prefix_cmp one.prefix next ≡ Less) (prefixes_of (others ++ item ∷ rest)) → prefix_cmp one.prefix item.prefix ≡ Less
first_before one [] item rest all = all.0
first_before one (other ∷ others) item rest all = first_before one others item rest all.1

-- each of the front comes before what stands behind it
pub all_before : (front : List FileEntry) (item : FileEntry) (rest : List FileEntry) → AreRising (prefixes_of (front ++ item ∷ rest)) → AllByRecursion (λ (one : FileEntry). prefix_cmp one.prefix item.prefix ≡ Less) front
all_before [] item rest rising = tt
all_before (one ∷ front) item rest rising = (first_before one front item rest rising.0, all_before front item rest rising.1)
