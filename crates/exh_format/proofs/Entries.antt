-- Entries that are read block by block.
use Rattle.std.proofs.Common.{◌≡◌, ℕ, zero, suc, ◌+◌, ◌*◌, ◌-◌, ◌<◌, ◌≤◌, min, List, [], ◌∷◌, ◌++◌, length, take, drop, Option, None, Some, IfSome, sym, ap, ◌∙◌, subst, append_assoc, append-nil, arith}
use Rattle.std.proofs.lemmas.List.{length-drop, take_all, take-append-le}
use lib.Seq.{drop-append-le}
use Rattle.std.specs.Option.{option_to_list}
use Rattle.std.specs.Io.KnownBytes.{Consumes}
use Rattle.std.proofs.KnownBytes.{Consumes-nil, Consumes-trans}
use Rattle.exh_prefix.specs.Version.{Version}
use Rattle.exh_format.specs.declared.file_entry.FileEntry.{FileEntry}
use Rattle.exh_format.specs.declared.file_fault.FileFault.{FileFault}
use Rattle.exh_format.specs.TableImage.{AreRising, IsFileEntry, IsTableImage, prefixes_of}
use Rattle.exh_format.specs.FileTests.{NextFails, TableFails}
use Rattle.exh_format.specs.PageFile.{table_block, table_bytes}
use Rattle.exh_format.specs.ReadingLemmas.{rising_join}
use Rattle.exh_format.specs.Reading.{AreBytes, FailsInTable, GivesEntries, IsBlock, last_prefix}
use Rattle.exh_prefix.specs.PrefixListLemmas.{AllByRecursion-append}

-- ---- blocks

module _ (version : Version) where
  -- one block more, behind full ones
  pub table_more : (blocks : ℕ) (entries more : List FileEntry) → length entries ≡ 254 * blocks → length more ≤ 254 → table_bytes version (blocks + 1) (entries ++ more) ≡ table_bytes version blocks entries ++ table_block version more
  table_more zero [] more full few = ap (λ (more : List FileEntry). table_block version more ++ []) (take_all 254 more few) ∙ append-nil (table_block version more)
  table_more zero (item ∷ entries) more full few = absurd (omega (arith, full))
  table_more (suc blocks) entries more full few =
      let room : 254 ≤ length entries = omega (arith, full) in
      let front : take 254 (entries ++ more) ≡ take 254 entries = take-append-le 254 entries more room in
      let back : drop 254 (entries ++ more) ≡ drop 254 entries ++ more = drop-append-le 254 entries more room in
      let rest = table_more blocks (drop 254 entries) more (omega (arith, length-drop 254 entries, full)) few in
      let count : suc blocks + 1 ≡ suc (blocks + 1) = omega arith in
      ap (λ (count : ℕ). table_bytes version count (entries ++ more)) count
      ∙ (λ i. table_block version (front i) ++ table_bytes version (blocks + 1) (back i))
      ∙ ap (λ (rest : List ℕ). table_block version (take 254 entries) ++ rest) rest
      ∙ sym (append_assoc (table_block version (take 254 entries)) (table_bytes version blocks (drop 254 entries)) (table_block version more))

  pub no_entries : (known : Option (List ℕ)) → GivesEntries version known known 0 []
  no_entries known = record { given = Consumes-nil known; are_bytes = tt; valid = tt; rising = tt }

  pub more_entries : (a b c : Option (List ℕ)) (blocks : ℕ) (entries more : List FileEntry) (block : List ℕ) → length entries ≡ 254 * blocks → GivesEntries version a b blocks entries
      → Consumes b c block → IsTableImage version more block → IsBlock block → AreRising (option_to_list (last_prefix None entries) ++ prefixes_of more) → GivesEntries version a c (blocks + 1) (entries ++ more)
  unfolding table_block
  more_entries a b c blocks entries more block full gives given image is rising =
      let whole : table_bytes version (blocks + 1) (entries ++ more) ≡ table_bytes version blocks entries ++ block =
      table_more blocks entries more full image.few ∙ ap (λ (block : List ℕ). table_bytes version blocks entries ++ block) (sym image.whole) in
      record {
        given = subst (Consumes a c) (sym whole) (Consumes-trans a b c (table_bytes version blocks entries) block gives.given given);
        are_bytes = subst AreBytes (sym whole) (AllByRecursion-append (λ (byte : ℕ). byte < 256) (table_bytes version blocks entries) block gives.are_bytes is.1);
        valid = AllByRecursion-append (IsFileEntry version) entries more gives.valid image.valid;
        rising = rising_join None entries more gives.rising rising;
      }

  pub fails_next : (a b : Option (List ℕ)) (place count blocks : ℕ) (entries : List FileEntry) (fault : FileFault) → length entries < count → length entries ≡ 254 * blocks → GivesEntries version a b blocks entries
      → IfSome b (λ bytes. NextFails (TableFails version (place + blocks) (min 254 (count - length entries)) (last_prefix None entries)) bytes fault)
      → IfSome a (λ bytes. FailsInTable version place count bytes fault)
  fails_next None b place count blocks entries fault fewer full gives fails = tt
  fails_next (Some bytes) None place count blocks entries fault fewer full gives fails = absurd gives.given
  fails_next (Some bytes) (Some rest) place count blocks entries fault fewer full gives fails = record {
    blocks = blocks;
    entries = entries;
    rest = rest;
    fewer = fewer;
    full = full;
    whole = gives.given;
    are_bytes = gives.are_bytes;
    valid = gives.valid;
    rising = gives.rising;
    fails = fails;
  }
