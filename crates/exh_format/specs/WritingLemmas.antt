-- A page file that is written part by part: what a writer took of it, for the crates above.
use Rattle.std.proofs.Common.{◌≡◌, ℕ, zero, suc, ◌+◌, ◌*◌, ◌-◌, ◌<◌, ◌≤◌, List, [], ◌∷◌, ◌++◌, length, take, drop, replicate, Option, refl, sym, ap, ◌∙◌, subst, append_assoc, append-nil, take-append-drop, length-append, arith}
use Rattle.std.proofs.lemmas.List.{take_all, take_at, drop_at, length-take, length-drop, take-append-le}
use Rattle.std.proofs.lemmas.List.Concat.{flat_map-append}
use lib.Seq.{drop-append-le}
use Rattle.std.specs.List.{flat_map}
use Rattle.std.specs.Io.KnownBytes.{Appends}
use Rattle.std.proofs.KnownBytes.{Appends-trans}
use Rattle.exh_prefix.specs.Version.{Fits, Version}
use Rattle.exh_stream.specs.Output.{AppendsAllBut, AppendsBeginning, Takes, TakesBeginning, held, pending}
use Rattle.exh_stream.specs.declared.output.Output.{Output}
use Rattle.exh_stream.specs.OutputLemmas.{AppendsAllBut-more, AppendsBeginning-after, AppendsBeginning-from, Takes-none, Takes-then, TakesBeginning-of_more, TakesBeginning-then}
use Rattle.exh_legal.specs.ImageLemmas.{length-entry_image}
use Rattle.exh_codec.specs.Block.{sealed}
use Rattle.exh_codec.specs.PageImage.{padded}
use Rattle.exh_format.specs.declared.file_entry.FileEntry.{FileEntry}
use Rattle.exh_format.specs.FileVersion.{FileVersion}
use Rattle.exh_format.specs.TableImage.{image_of}
use Rattle.exh_format.specs.PageFile.{PageFile, file_bytes, header_block, page_block, pages_of, table_block, table_blocks, table_bytes}
use Rattle.exh_format.specs.Writing.{OnItsWay, TakesEntries, TakesEntriesBeginning, full_blocks, last_block, unsent}

-- ---- blocks that are full of images

-- those of some images and then of others
pub full_blocks-append : (blocks more : ℕ) (a b : List ℕ) → length a ≡ 4064 * blocks → full_blocks (blocks + more) (a ++ b) ≡ full_blocks blocks a ++ full_blocks more b
full_blocks-append zero more [] b full = let same : zero + more ≡ more = omega arith in ap (λ (n : ℕ). full_blocks n b) same
full_blocks-append zero more (byte ∷ a) b full = absurd (omega (arith, full))
full_blocks-append (suc blocks) more a b full =
    let room : 4064 ≤ length a = omega (arith, full) in
    let count : suc blocks + more ≡ suc (blocks + more) = omega arith in
    let front : take 4064 (a ++ b) ≡ take 4064 a = take-append-le 4064 a b room in
    let back : drop 4064 (a ++ b) ≡ drop 4064 a ++ b = drop-append-le 4064 a b room in
    let rest = full_blocks-append blocks more (drop 4064 a) b (omega (arith, length-drop 4064 a, full)) in
    ap (λ (n : ℕ). full_blocks n (a ++ b)) count
    ∙ (λ i. sealed (front i) ++ full_blocks (blocks + more) (back i))
    ∙ ap (λ (rest : List ℕ). sealed (take 4064 a) ++ rest) rest
    ∙ sym (append_assoc (sealed (take 4064 a)) (full_blocks blocks (drop 4064 a)) (full_blocks more b))

-- images that fill a block
pub padded_full : (images : List ℕ) → length images ≡ 4064 → padded 4064 images ≡ images
padded_full images full = let none : 4064 - length images ≡ 0 = omega (arith, full) in ap (λ (n : ℕ). images ++ replicate n 0) none ∙ append-nil images

-- the block of some entries
pub last_block-some : (images : List ℕ) → 0 < length images → last_block images ≡ sealed (padded 4064 images)
last_block-some [] some = absurd (omega (arith, some))
last_block-some (byte ∷ images) some = refl

-- ---- entries, one after the other

-- of images that waited and of others, some go and the rest waits; then of the rest and of more
split_then : (before a b gone waiting more last : List ℕ) → before ++ a ≡ gone ++ waiting → waiting ++ b ≡ more ++ last → before ++ (a ++ b) ≡ (gone ++ more) ++ last
split_then before a b gone waiting more last first second =
    sym (append_assoc before a b) ∙ ap (λ (l : List ℕ). l ++ b) first ∙ append_assoc gone waiting b ∙ ap (λ (l : List ℕ). gone ++ l) second ∙ sym (append_assoc gone more last)

module _ {W : Type 0} {contents : W → Option (List ℕ)} {version : Version} where
  pub TakesEntries-none : (file : OnItsWay W) → TakesEntries contents version file file []
  TakesEntries-none file = record { blocks = 0; images = []; split = append-nil file.images; full = refl; passed = Takes-none contents file.output }

  -- taking some entries and then others takes both
  pub TakesEntries-then : {old mid new : OnItsWay W} {a b : List FileEntry} → TakesEntries contents version old mid a → TakesEntries contents version mid new b → TakesEntries contents version old new (a ++ b)
  TakesEntries-then {old} {mid} {new} {a} {b} first second = record {
    blocks = first.blocks + second.blocks;
    images = first.images ++ second.images;
    split =
        ap (λ (images : List ℕ). old.images ++ images) (flat_map-append (image_of version) a b)
        ∙ split_then old.images (flat_map (image_of version) a) (flat_map (image_of version) b) first.images mid.images second.images new.images first.split second.split;
    full = omega (arith, first.full, second.full, length-append first.images second.images);
    passed = subst (Takes contents old.output new.output) (sym (full_blocks-append first.blocks second.blocks first.images second.images first.full)) (Takes-then first.passed second.passed);
  }

  pub TakesEntriesBeginning-then : {old mid new : OnItsWay W} {a b : List FileEntry} → TakesEntries contents version old mid a → TakesEntriesBeginning contents version mid new b → TakesEntriesBeginning contents version old new (a ++ b)
  TakesEntriesBeginning-then {old} {mid} {new} {a} {b} first second = record {
    blocks = first.blocks + second.blocks;
    images = first.images ++ second.images;
    rest = second.rest;
    split =
        ap (λ (images : List ℕ). old.images ++ images) (flat_map-append (image_of version) a b)
        ∙ split_then old.images (flat_map (image_of version) a) (flat_map (image_of version) b) first.images mid.images second.images second.rest first.split second.split;
    full = omega (arith, first.full, second.full, length-append first.images second.images);
    passed = subst (TakesBeginning contents old.output new.output) (sym (full_blocks-append first.blocks second.blocks first.images second.images first.full)) (TakesBeginning-then first.passed second.passed);
  }

  -- all of some entries is a beginning of them
  pub TakesEntriesBeginning-from : {old new : OnItsWay W} {a : List FileEntry} → TakesEntries contents version old new a → TakesEntriesBeginning contents version old new a
  TakesEntriesBeginning-from {old} {new} all = record {
    blocks = all.blocks;
    images = all.images;
    rest = new.images;
    split = all.split;
    full = all.full;
    passed = record { passed = AppendsBeginning-from all.passed.passed };
  }

  -- and one of more entries
  pub TakesEntriesBeginning-of_more : {old new : OnItsWay W} {a : List FileEntry} (b : List FileEntry) → TakesEntriesBeginning contents version old new a → TakesEntriesBeginning contents version old new (a ++ b)
  TakesEntriesBeginning-of_more {old} {new} {a} b begun = record {
    blocks = begun.blocks;
    images = begun.images;
    rest = begun.rest ++ flat_map (image_of version) b;
    split =
        ap (λ (images : List ℕ). old.images ++ images) (flat_map-append (image_of version) a b)
        ∙ sym (append_assoc old.images (flat_map (image_of version) a) (flat_map (image_of version) b))
        ∙ ap (λ (l : List ℕ). l ++ flat_map (image_of version) b) begun.split
        ∙ append_assoc begun.images begun.rest (flat_map (image_of version) b);
    full = begun.full;
    passed = begun.passed;
  }

-- ---- the table's blocks

module _ (version : Version) (fits : Fits 4 version) where
  length-images : (entries : List FileEntry) → length (flat_map (image_of version) entries) ≡ 16 * length entries
  length-images [] = refl
  length-images (item ∷ entries) =
      omega (arith, length-append (image_of version item) (flat_map (image_of version) entries), length-entry_image version fits item.ward item.prefix item.entry, length-images entries)

  -- entries that have room in one block
  last_table : (entries : List FileEntry) → length (flat_map (image_of version) entries) ≤ 4064 → table_bytes version (table_blocks (length entries)) entries ≡ last_block (flat_map (image_of version) entries)
  unfolding table_block
  last_table [] few = refl
  last_table (item ∷ entries) few =
      let all = item ∷ entries in
      let images = flat_map (image_of version) all in
      let len = length-images all in
      let one : table_blocks (length all) ≡ 1 = omega (arith, len, few) in
      let front : take 254 all ≡ all = take_all 254 all (omega (arith, len, few)) in
      let some : 0 < length images = omega (arith, len) in
      ap (λ (n : ℕ). table_bytes version n all) one ∙ append-nil (table_block version (take 254 all)) ∙ ap (table_block version) front ∙ sym (last_block-some images some)

  -- entries of which some fill so many blocks
  pub record IsSplit (blocks : ℕ) (images rest : List ℕ) (entries : List FileEntry) : Type 0 where
    pub later : List FileEntry
    pub left : flat_map (image_of version) later ≡ rest
    pub table : table_bytes version (table_blocks (length entries)) entries ≡ full_blocks blocks images ++ table_bytes version (table_blocks (length later)) later

  table_split : (blocks : ℕ) (images rest : List ℕ) (entries : List FileEntry) → flat_map (image_of version) entries ≡ images ++ rest → length images ≡ 4064 * blocks → IsSplit blocks images rest entries
  unfolding table_block
  table_split zero [] rest entries is full = record { later = entries; left = is; table = refl }
  table_split zero (byte ∷ images) rest entries is full = absurd (omega (arith, full))
  table_split (suc blocks) images rest entries is full =
      let front = take 254 entries in
      let others = drop 254 entries in
      let fronts = flat_map (image_of version) front in
      let room : 4064 ≤ length images = omega (arith, full) in
      let enough : 254 ≤ length entries = omega (arith, length-images entries, ap length is, length-append images rest, room) in
      let len : length fronts ≡ 4064 = omega (arith, length-images front, length-take 254 entries, enough) in
      let joined : fronts ++ flat_map (image_of version) others ≡ images ++ rest = sym (flat_map-append (image_of version) front others) ∙ ap (flat_map (image_of version)) (take-append-drop 254 entries) ∙ is in
      let here : fronts ≡ take 4064 images = sym (take_at fronts (flat_map (image_of version) others) 4064 len) ∙ ap (take 4064) joined ∙ take-append-le 4064 images rest room in
      let there : flat_map (image_of version) others ≡ drop 4064 images ++ rest = sym (drop_at fronts (flat_map (image_of version) others) 4064 len) ∙ ap (drop 4064) joined ∙ drop-append-le 4064 images rest room in
      let split = table_split blocks (drop 4064 images) rest others there (omega (arith, length-drop 4064 images, full)) in
      let count : table_blocks (length entries) ≡ suc (table_blocks (length others)) = omega (arith, length-drop 254 entries, enough) in
      let block : table_block version front ≡ sealed (take 4064 images) = ap sealed (padded_full fronts len ∙ here) in
      let whole =
      ap (λ (n : ℕ). table_bytes version n entries) count
      ∙ (λ i. block i ++ split.table i)
      ∙ sym (append_assoc (sealed (take 4064 images)) (full_blocks blocks (drop 4064 images)) (table_bytes version (table_blocks (length split.later)) split.later)) in
      record { later = split.later; left = split.left; table = whole }

  -- those that fill blocks, and those that are left
  table_ends : (blocks : ℕ) (images rest : List ℕ) (entries : List FileEntry) → flat_map (image_of version) entries ≡ images ++ rest → length images ≡ 4064 * blocks → length rest ≤ 4064
      → table_bytes version (table_blocks (length entries)) entries ≡ full_blocks blocks images ++ last_block rest
  table_ends blocks images rest entries is full few =
      let split = table_split blocks images rest entries is full in
      let last : table_bytes version (table_blocks (length split.later)) split.later ≡ last_block rest = last_table split.later (omega (arith, ap length split.left, few)) ∙ ap last_block split.left in
      split.table ∙ ap (λ (last : List ℕ). full_blocks blocks images ++ last) last

-- ---- a whole file

abbrev pub blocks_before : FileVersion → PageFile → List ℕ
blocks_before version file = header_block version file.header ++ flat_map page_block (pages_of file.wards)

abbrev table_of : FileVersion → PageFile → List ℕ
table_of version file = table_bytes version.images (table_blocks (length file.entries)) file.entries

-- an output before the table, of which no entry waits
abbrev pub before_table : {W : Type 0} → Output W → OnItsWay W
before_table output = record { output = output; images = [] }

module _ {W : Type 0} (contents : W → Option (List ℕ)) (version : FileVersion) (fits : Fits 4 version.images) (file : PageFile) (start : Output W) (bare : pending start ≡ []) where
  whole_is : blocks_before version file ++ table_of version file ≡ file_bytes version file
  whole_is = append_assoc (header_block version file.header) (flat_map page_block (pages_of file.wards)) (table_of version file)

  -- a beginning of the file, where nothing was on its way before
  begun_is : (new : Output W) (bytes more : List ℕ) → bytes ++ more ≡ file_bytes version file → TakesBeginning contents start new bytes → AppendsBeginning (held contents start) (held contents new) (file_bytes version file)
  begun_is new bytes more is begun =
      let all : TakesBeginning contents start new (file_bytes version file) = subst (TakesBeginning contents start new) is (TakesBeginning-of_more more begun) in
      subst (λ (waited : List ℕ). AppendsBeginning (held contents start) (held contents new) (waited ++ file_bytes version file)) bare all.passed

  -- the writer failed amid the header or the pages
  pub cut_in_blocks : (new : Output W) → TakesBeginning contents start new (blocks_before version file) → AppendsBeginning (held contents start) (held contents new) (file_bytes version file)
  cut_in_blocks new begun = begun_is new (blocks_before version file) (table_of version file) whole_is begun

  module _ (mid : Output W) (front : Takes contents start mid (blocks_before version file)) where
    -- or amid the table
    pub cut_in_table : (new : OnItsWay W) → TakesEntriesBeginning contents version.images (before_table mid) new file.entries → AppendsBeginning (held contents start) (held contents new.output) (file_bytes version file)
    cut_in_table new begun =
        let split = table_split version.images fits begun.blocks begun.images begun.rest file.entries begun.split begun.full in
        let later = table_bytes version.images (table_blocks (length split.later)) split.later in
        let blocks = full_blocks begun.blocks begun.images in
        let is : (blocks_before version file ++ blocks) ++ later ≡ file_bytes version file = append_assoc (blocks_before version file) blocks later ∙ ap (λ (table : List ℕ). blocks_before version file ++ table) (sym split.table) ∙ whole_is in
        begun_is new.output (blocks_before version file ++ blocks) later is (TakesBeginning-then front begun.passed)

    module _ (last : OnItsWay W) (table : TakesEntries contents version.images (before_table mid) last file.entries) (few : length last.images ≤ 4064) where
      -- all but what is on its way in the end
      nearly : AppendsAllBut (held contents start) (held contents last.output) (file_bytes version file) (unsent last)
      nearly =
          let blocks = full_blocks table.blocks table.images in
          let end = last_block last.images in
          let is : (blocks_before version file ++ blocks) ++ end ≡ file_bytes version file =
          append_assoc (blocks_before version file) blocks end
          ∙ ap (λ (table : List ℕ). blocks_before version file ++ table) (sym (table_ends version.images fits table.blocks table.images last.images file.entries table.split table.full few))
          ∙ whole_is in
          let taken = (Takes-then front table.passed).passed in
          let bared : AppendsAllBut (held contents start) (held contents last.output) (blocks_before version file ++ blocks) (pending last.output) =
          subst (λ (waited : List ℕ). AppendsAllBut (held contents start) (held contents last.output) (waited ++ (blocks_before version file ++ blocks)) (pending last.output)) bare taken in
          subst (λ (bytes : List ℕ). AppendsAllBut (held contents start) (held contents last.output) bytes (unsent last)) is (AppendsAllBut-more end bared)

      -- or at the end
      pub cut_at_end : (new : Output W) → AppendsBeginning (held contents last.output) (held contents new) (unsent last) → AppendsBeginning (held contents start) (held contents new) (file_bytes version file)
      cut_at_end new gone = AppendsBeginning-after nearly gone

      -- or got the file whole
      pub whole_file : (new : Output W) → Appends (held contents last.output) (held contents new) (unsent last) → Appends (held contents start) (held contents new) (file_bytes version file)
      whole_file new gone = subst (Appends (held contents start) (held contents new)) (sym nearly.split) (Appends-trans _ _ _ nearly.front (unsent last) nearly.gone gone)
