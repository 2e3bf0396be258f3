-- Of which kind a file of the system is.
use Rattle.std.specs.Fs.{IsDir, IsFile, IsSymlink, file_type}
use Rattle.std.specs.declared.fs.Metadata.{Metadata}
use Rattle.exh_saving.specs.declared.found.Kind.{Kind}
use Rattle.exh_saving.specs.declared.found.Kind.TheVariants.{Folder, Link, Other, Regular}

-- by what the system tells of it
abbrev pub IsKindOf : Metadata → Kind → Type 0
IsKindOf about Regular = IsFile (file_type about)
IsKindOf about Folder = IsDir (file_type about)
IsKindOf about Link = IsSymlink (file_type about)
IsKindOf about Other = (IsFile (file_type about) → ⊥) × (IsDir (file_type about) → ⊥) × (IsSymlink (file_type about) → ⊥)
