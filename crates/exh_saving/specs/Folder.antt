-- The folder of a path's file.
use Rattle.std.specs.Prelude.{◌≡◌, ◌⊎◌, ◌++◌, ◌∷◌, ℕ, List, length, if◌then◌else◌, ◌==◌}
use Rattle.std.specs.Path.{HasNoSlash, cur_dir, root_dir, slash}

-- the folder that bytes before a slash name: the root where there are none
abbrev pub folder_named : List ℕ → List ℕ
folder_named bytes = if length bytes == 0 then root_dir else bytes

-- A path's folder is that of the bytes before its last slash; where it has no slash, the one in which the program runs.
abbrev pub IsFolderOf : List ℕ → List ℕ → Type 0
IsFolderOf path folder = (HasNoSlash path × (folder ≡ cur_dir))
    ⊎ ((before : List ℕ) × (name : List ℕ) × (path ≡ before ++ slash ∷ name) × HasNoSlash name × (folder ≡ folder_named before))

-- The name of a path's file is what stands behind its last slash, and all of it where it has none.
abbrev pub IsNameIn : List ℕ → List ℕ → Type 0
IsNameIn path name = HasNoSlash name × ((name ≡ path) ⊎ ((before : List ℕ) × (path ≡ before ++ slash ∷ name)))
