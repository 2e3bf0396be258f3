-- The places of a table: which bytes pass what is asked of them, and the first at which they fail.
use Rattle.std.proofs.Common.{◌≡◌, ℕ, zero, suc, ◌+◌, ◌*◌, ◌-◌, ◌<◌, ◌≤◌, min, Bool, true, false, List, [], ◌∷◌, ◌++◌, length, take, drop, Option, None, Some, refl, sym, ap, ◌∙◌, subst, append_assoc, take-append-drop, arith}
use Rattle.std.proofs.lemmas.List.{length-drop, length-take, length-take-le}
use Rattle.std.specs.List.{AllByRecursion}
use Rattle.std.specs.Option.{option_to_list}
use Rattle.exh_format.specs.declared.file_entry.FileEntry.{FileEntry}
use Rattle.exh_format.specs.declared.file_fault.FileFault.{FileFault}
use Rattle.exh_format.specs.FileVersion.{FileVersion, FitsFile}
use Rattle.exh_format.specs.BlockLaws.{IsOfTable, TablesAreBlocks, TablesPass}
use Rattle.exh_format.specs.TableImage.{AreRising, IsFileEntry, IsTableImage, prefixes_of}
use Rattle.exh_format.specs.TableTests.{PassesTable, table_tests}
use Rattle.exh_format.specs.FileTests.{FilePlace, OfTable, FileFailsFirst, NextFails, PassesAt, TableFails, block_at, bytes_from, last_prefix_in, prefix_before, table_places}
use Rattle.exh_format.specs.PageFile.{table_block, table_blocks, table_bytes}
use Rattle.exh_format.specs.Reading.{AreBytes, FailsInTable, last_prefix}
use Rattle.exh_prefix.specs.PrefixListLemmas.{AllByRecursion-append_left, AllByRecursion-append_right}
use Rattle.exh_format.specs.ReadingLemmas.{byte_at, last_of_join, rising_back, rising_front}
use Rattle.exh_format.proofs.LastPrefix.{last_said}
use Rattle.exh_format.proofs.Places.{block_there, fails_behind, fails_here, from_next, whole_there}

module _ (version : FileVersion) (pseudo : List ℕ → ℕ) (bytes : List ℕ) (fits : FitsFile version) (pass : TablesPass) (are_blocks : TablesAreBlocks) where
  -- a block of the table
  pub table_passes : (place : ℕ) (begins : Bool) (before : Option (List Bool)) (entries : List FileEntry) (rest : List ℕ) → length entries ≤ 254 → AllByRecursion (IsFileEntry version.images) entries
      → AreRising (option_to_list before ++ prefixes_of entries) → AreBytes (table_block version.images entries) → prefix_before version.images place begins bytes ≡ before
      → bytes_from place bytes ≡ table_block version.images entries ++ rest → PassesAt version pseudo bytes (OfTable place begins (length entries))
  unfolding table_block
  table_passes place begins before entries rest few valid rising small is_before is =
      let block = table_block version.images entries in
      let image : IsTableImage version.images entries block = record { few = few; valid = valid; whole = refl } in
      let len = are_blocks version.images fits.images entries block image in
      let of_table : IsOfTable version.images (length entries) before entries block = record { image = image; all = refl; rising = rising } in
      let passed = (pass version.images fits.images (length entries) before block len (byte_at block small) few).0 (entries, of_table) in (
        whole_there place bytes block rest is len,
        subst (λ (before : Option (List Bool)). AllByRecursion (PassesTable version.images (length entries) before (block_at place bytes)) (table_tests (length entries))) (sym is_before)
            (subst (λ (block : List ℕ). AllByRecursion (PassesTable version.images (length entries) before block) (table_tests (length entries))) (sym (block_there place bytes block rest is len)) passed),
      )

  length-table : (entries : List FileEntry) → length entries ≤ 254 → AllByRecursion (IsFileEntry version.images) entries → length (table_block version.images entries) ≡ 4096
  unfolding table_block
  length-table entries few valid = are_blocks version.images fits.images entries (table_block version.images entries) (record { few = few; valid = valid; whole = refl })

  -- what holds of the bytes from a place on, where blocks of these entries begin
  pub record Stands (place : ℕ) (begins : Bool) (before : Option (List Bool)) (blocks : ℕ) (entries : List FileEntry) (rest : List ℕ) : Type 0 where
    pub valid : AllByRecursion (IsFileEntry version.images) entries
    pub rising : AreRising (option_to_list before ++ prefixes_of entries)
    pub small : AreBytes (table_bytes version.images blocks entries)
    pub is_before : prefix_before version.images place begins bytes ≡ before
    pub whole : bytes_from place bytes ≡ table_bytes version.images blocks entries ++ rest

  few_first : (entries : List FileEntry) → length (take 254 entries) ≤ 254
  few_first entries = omega (arith, length-take 254 entries)

  split : (entries : List FileEntry) → take 254 entries ++ drop 254 entries ≡ entries
  split entries = take-append-drop 254 entries

  front_valid : (entries : List FileEntry) → AllByRecursion (IsFileEntry version.images) entries → AllByRecursion (IsFileEntry version.images) (take 254 entries)
  front_valid entries valid = AllByRecursion-append_left (IsFileEntry version.images) (take 254 entries) (drop 254 entries) (subst (AllByRecursion (IsFileEntry version.images)) (sym (split entries)) valid)

  -- the first block passes
  first_passes : (place : ℕ) (begins : Bool) (before : Option (List Bool)) (blocks : ℕ) (entries : List FileEntry) (rest : List ℕ) → Stands place begins before (suc blocks) entries rest
      → PassesAt version pseudo bytes (OfTable place begins (min 254 (length entries)))
  first_passes place begins before blocks entries rest stands =
      let front = take 254 entries in
      let back = drop 254 entries in
      let block = table_block version.images front in
      let others = table_bytes version.images blocks back in
      let count : length front ≡ min 254 (length entries) = length-take 254 entries in
      subst (λ (count : ℕ). PassesAt version pseudo bytes (OfTable place begins count)) count
      (table_passes place begins before front (others ++ rest) (few_first entries) (front_valid entries stands.valid)
      (rising_front before front back (subst (λ (entries : List FileEntry). AreRising (option_to_list before ++ prefixes_of entries)) (sym (split entries)) stands.rising))
      (AllByRecursion-append_left (λ (byte : ℕ). byte < 256) block others stands.small) stands.is_before (stands.whole ∙ append_assoc block others rest))

  -- and behind it, where it is full, the other blocks stand
  others_stand : (place : ℕ) (begins : Bool) (before : Option (List Bool)) (blocks : ℕ) (entries : List FileEntry) (rest : List ℕ) (d : FileEntry) → 254 ≤ length entries → Stands place begins before (suc blocks) entries rest
      → Stands (suc place) false (last_prefix before (take 254 entries)) blocks (drop 254 entries) rest
  others_stand place begins before blocks entries rest d full stands =
      let front = take 254 entries in
      let back = drop 254 entries in
      let block = table_block version.images front in
      let others = table_bytes version.images blocks back in
      let here : bytes_from place bytes ≡ block ++ (others ++ rest) = stands.whole ∙ append_assoc block others rest in
      let valid = front_valid entries stands.valid in
      let len = length-table front (few_first entries) valid in
      let count : suc place - 1 ≡ place = omega arith in
      let there : block_at (suc place - 1) bytes ≡ block = ap (λ (place : ℕ). block_at place bytes) count ∙ block_there place bytes block (others ++ rest) here len in
      record {
        valid = AllByRecursion-append_right (IsFileEntry version.images) front back (subst (AllByRecursion (IsFileEntry version.images)) (sym (split entries)) stands.valid);
        rising = rising_back before front back (subst (λ (entries : List FileEntry). AreRising (option_to_list before ++ prefixes_of entries)) (sym (split entries)) stands.rising);
        small = AllByRecursion-append_right (λ (byte : ℕ). byte < 256) block others stands.small;
        is_before = ap (λ (block : List ℕ). Some (last_prefix_in version.images block)) there ∙ last_said version.images fits.images before front d (length-take-le 254 entries full) valid;
        whole = from_next place bytes block (others ++ rest) here len;
      }

  -- all blocks of a table pass
  pub tables_pass : (place : ℕ) (begins : Bool) (before : Option (List Bool)) (blocks : ℕ) (entries : List FileEntry) (rest : List ℕ) (d : FileEntry) → 254 * blocks < length entries + 254 → Stands place begins before blocks entries rest
      → AllByRecursion (PassesAt version pseudo bytes) (table_places place begins blocks (length entries))
  tables_pass place begins before zero entries rest d room stands = tt
  tables_pass place begins before (suc zero) entries rest d room stands = (first_passes place begins before zero entries rest stands, tt)
  tables_pass place begins before (suc (suc blocks)) entries rest d room stands =
      let full : 254 ≤ length entries = omega (arith, room) in
      let left : length (drop 254 entries) ≡ length entries - 254 = length-drop 254 entries in (
        first_passes place begins before (suc blocks) entries rest stands,
        subst (λ (count : ℕ). AllByRecursion (PassesAt version pseudo bytes) (table_places (suc place) false (suc blocks) count)) left
            (tables_pass (suc place) false (last_prefix before (take 254 entries)) (suc blocks) (drop 254 entries) rest d (omega (arith, room, left)) (others_stand place begins before (suc blocks) entries rest d full stands)),
      )

  -- the first block that fails, behind full ones
  pub next_table_fails : (place : ℕ) (begins : Bool) (before : Option (List Bool)) (blocks more count : ℕ) (entries : List FileEntry) (rest : List ℕ) (places : List FilePlace) (fault : FileFault) (d : FileEntry) → length entries ≡ 254 * blocks → length entries < count
      → Stands place begins before blocks entries rest
      → NextFails (TableFails version.images (place + blocks) (min 254 (count - length entries)) (last_prefix before entries)) rest fault
      → FileFailsFirst version pseudo bytes (table_places place begins (blocks + suc more) count ++ places) fault
  next_table_fails place begins before zero more count (item ∷ entries) rest places fault d full fewer stands fails = absurd (omega (arith, full))
  next_table_fails place begins before zero more count [] rest places fault d full fewer stands fails =
      let one : zero + suc more ≡ suc more = omega arith in
      let here : place + 0 ≡ place = omega arith in
      let all : count - 0 ≡ count = omega arith in
      let there : NextFails (TableFails version.images place (min 254 count) before) (bytes_from place bytes) fault =
      subst (λ (rest : List ℕ). NextFails (TableFails version.images place (min 254 count) before) rest fault) (sym stands.whole)
      (subst (λ (place : ℕ). NextFails (TableFails version.images place (min 254 count) before) rest fault) here
      (subst (λ (count : ℕ). NextFails (TableFails version.images (place + 0) (min 254 count) before) rest fault) all fails)) in
      subst (λ (n : ℕ). FileFailsFirst version pseudo bytes (table_places place begins n count ++ places) fault) (sym one)
      (fails_here version pseudo bytes (OfTable place begins (min 254 count)) (table_places (suc place) false more (count - 254) ++ places) fault
      (subst (λ (before : Option (List Bool)). NextFails (TableFails version.images place (min 254 count) before) (bytes_from place bytes) fault) (sym stands.is_before) there))
  next_table_fails place begins before (suc blocks) more count entries rest places fault d full fewer stands fails =
      let enough : 254 ≤ length entries = omega (arith, full) in
      let left : length (drop 254 entries) ≡ length entries - 254 = length-drop 254 entries in
      let number : suc blocks + suc more ≡ suc (blocks + suc more) = omega arith in
      let some : min 254 (length entries) ≡ min 254 count = omega (arith, enough, fewer) in
      let there : place + suc blocks ≡ suc place + blocks = omega arith in
      let others : count - length entries ≡ count - 254 - length (drop 254 entries) = omega (arith, left, enough, fewer) in
      let last : last_prefix before entries ≡ last_prefix (last_prefix before (take 254 entries)) (drop 254 entries) =
      ap (last_prefix before) (sym (split entries)) ∙ last_of_join before (take 254 entries) (drop 254 entries) in
      let later : NextFails (TableFails version.images (suc place + blocks) (min 254 (count - 254 - length (drop 254 entries))) (last_prefix (last_prefix before (take 254 entries)) (drop 254 entries))) rest fault =
      subst (λ (place : ℕ). NextFails (TableFails version.images place (min 254 (count - 254 - length (drop 254 entries))) (last_prefix (last_prefix before (take 254 entries)) (drop 254 entries))) rest fault) there
      (subst (λ (left : ℕ). NextFails (TableFails version.images (place + suc blocks) (min 254 left) (last_prefix (last_prefix before (take 254 entries)) (drop 254 entries))) rest fault) others
      (subst (λ (last : Option (List Bool)). NextFails (TableFails version.images (place + suc blocks) (min 254 (count - length entries)) last) rest fault) last fails)) in
      subst (λ (n : ℕ). FileFailsFirst version pseudo bytes (table_places place begins n count ++ places) fault) (sym number)
      (fails_behind version pseudo bytes (OfTable place begins (min 254 count) ∷ []) (table_places (suc place) false (blocks + suc more) (count - 254) ++ places) fault
      (subst (λ (count : ℕ). PassesAt version pseudo bytes (OfTable place begins count)) some (first_passes place begins before blocks entries rest stands), tt)
      (next_table_fails (suc place) false (last_prefix before (take 254 entries)) blocks more (count - 254) (drop 254 entries) rest places fault d (omega (arith, left, full)) (omega (arith, left, enough, fewer))
      (others_stand place begins before blocks entries rest d enough stands) later))

  -- a table that fails
  pub table_fails : (place count : ℕ) (places : List FilePlace) (fault : FileFault) (d : FileEntry) → FailsInTable version.images place count (bytes_from place bytes) fault
      → FileFailsFirst version pseudo bytes (table_places place true (table_blocks count) count ++ places) fault
  table_fails place count places fault d fails =
      let more = table_blocks count - suc fails.blocks in
      let number : fails.blocks + suc more ≡ table_blocks count = omega (arith, fails.fewer, fails.full) in
      subst (λ (n : ℕ). FileFailsFirst version pseudo bytes (table_places place true n count ++ places) fault) number
      (next_table_fails place true None fails.blocks more count fails.entries fails.rest places fault d fails.full fails.fewer
      (record { valid = fails.valid; rising = fails.rising; small = fails.are_bytes; is_before = refl; whole = fails.whole }) fails.fails)

  -- behind so many blocks
  pub tables_behind : (place : ℕ) (begins : Bool) (before : Option (List Bool)) (blocks : ℕ) (entries : List FileEntry) (rest : List ℕ) → AllByRecursion (IsFileEntry version.images) entries
      → bytes_from place bytes ≡ table_bytes version.images blocks entries ++ rest → bytes_from (place + blocks) bytes ≡ rest
  tables_behind place begins before zero entries rest valid is = let same : place + 0 ≡ place = omega arith in ap (λ (place : ℕ). bytes_from place bytes) same ∙ is
  tables_behind place begins before (suc blocks) entries rest valid is =
      let block = table_block version.images (take 254 entries) in
      let others = table_bytes version.images blocks (drop 254 entries) in
      let same : place + suc blocks ≡ suc place + blocks = omega arith in
      let back = AllByRecursion-append_right (IsFileEntry version.images) (take 254 entries) (drop 254 entries) (subst (AllByRecursion (IsFileEntry version.images)) (sym (split entries)) valid) in
      ap (λ (place : ℕ). bytes_from place bytes) same
      ∙ tables_behind (suc place) begins before blocks (drop 254 entries) rest back
      (from_next place bytes block (others ++ rest) (is ∙ append_assoc block others rest) (length-table (take 254 entries) (few_first entries) (front_valid entries valid)))
