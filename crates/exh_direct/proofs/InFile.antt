-- What is answered of a key of a legal file: nothing but its map.
use Rattle.std.proofs.Common.{◌≡◌, ℕ, zero, suc, ◌+◌, ◌*◌, ◌<◌, ◌≤◌, ◌^◌, Bool, cond, List, [], ◌∷◌, ◌++◌, length, map, take, drop, get_or, slice_get, inl, inr, Option, None, Some, Result, Ok, Err, refl, sym, ap, ◌∙◌, subst, take-append-drop, arith}
use Rattle.std.specs.Prelude.{IfErr, IfOk, MatchResult}
use Rattle.std.specs.List.{AllByRecursion}
use Rattle.std.specs.FinMap.{empty, get}
use Rattle.std.specs.Option.{option_to_list}
use Rattle.std.specs.Io.KnownBytes.{Appends}
use Rattle.std.proofs.KnownBytes.{Appends-trans}
use Rattle.std.proofs.lemmas.Bool.{cases_lt, false≢true, le-leb}
use Rattle.std.proofs.lemmas.List.{length-drop, length-map, length-take, length-take-le, get_or-take}
use Rattle.std.proofs.lemmas.Nat.{pow_below}
use Rattle.std.proofs.lemmas.Option.{slice_get-get_or, slice_get_within}
use Rattle.exh_keyer.specs.Pseudokey.{any_pseudokey}
use Rattle.exh_keyer.specs.PseudokeyFits.{any_pseudokey-lt}
use Rattle.exh_prefix.specs.BitLemmas.{bits_of-number_of}
use Rattle.exh_prefix.specs.Bits.{bits_of, word_bits}
use Rattle.exh_prefix.specs.Leading.{ward_prefix}
use Rattle.exh_prefix.specs.LeadingLemmas.{leading-lt, length-leading_bits}
use Rattle.exh_prefix.specs.Prefix.{Begins, begins, low_of}
use Rattle.exh_prefix.specs.PrefixLemmas.{begins_low, is_front-true}
use Rattle.exh_prefix.specs.declared.version.Version.{Version as KnownVersion}
use Rattle.exh_prefix.specs.Version.{Fits}
use Rattle.exh_prefix.specs.LayoutLemmas.{fits_wider}
use Rattle.exh_format.specs.declared.Leaf.{Leaf}
use Rattle.exh_format.specs.Table.{TableMap}
use Rattle.exh_format.specs.TableWalk.{walk_in, walk_of}
use Rattle.exh_page.specs.declared.page.Page.{Page}
use Rattle.exh_page.specs.declared.page.Page.TheVariants.{Live}
use Rattle.exh_page.specs.declared.record.Record.{Record}
use Rattle.exh_page.specs.Page.{records_of}
use Rattle.exh_page.specs.Records.{value_at}
use Rattle.exh_format.specs.LegalLaws.{IsWard, WalksNameHomes}
use Rattle.exh_format.specs.MapLemmas.{get-map_of}
use Rattle.exh_format.specs.Pages.{IsAt, IsLegal}
use Rattle.exh_format.specs.WardMapLemmas.{get_in_ward, legal_from}
use Rattle.exh_codec.specs.ImageTestLemmas.{none_first as none_image_first}
use Rattle.exh_codec.specs.CodecLaws.{ImagesAreBlocks, ImagesPass, OnePage}
use Rattle.exh_codec.specs.PageImage.{IsImage}
use Rattle.exh_format.specs.declared.file_entry.FileEntry.{FileEntry}
use Rattle.exh_format.specs.declared.file_fault.FileFault.{FileFault}
use Rattle.exh_format.specs.declared.header.Header.{Header}
use Rattle.exh_format.specs.FileVersion.{FileVersion, FitsFile, file_version, format_of, version_of}
use Rattle.exh_format.specs.FileVersionLemmas.{image_says, known_file_fits, version_from_front}
use Rattle.exh_format.specs.FirstFailingLemmas.{none_first}
use Rattle.exh_format.specs.HeaderImage.{IsHeaderImage}
use Rattle.exh_format.specs.BlockLaws.{HeadersAreBlocks, HeadersPass, IsOfTable, OneHeader, OneTable, TablesAreBlocks, TablesPass}
use Rattle.exh_format.specs.TableImage.{AreRising, IsTableImage, prefixes_of}
use Rattle.exh_format.specs.FileTests.{HeaderFails, IsWhole, PageFails, TableFails, block_at, bytes_from}
use Rattle.exh_format.specs.PageFile.{PageFile, page_block, table_block, table_blocks}
use Rattle.exh_format.specs.Reading.{AreBytes, last_prefix}
use Rattle.exh_format.specs.ReadingLemmas.{rising_back, rising_front}
use Rattle.exh_format.specs.LegalFile.{IsLegalPageFile, parts_in, table_naming}
use Rattle.exh_format.specs.LegalFileLemmas.{count_of_wards, few_bits, table_naming_at}
use Rattle.exh_direct.specs.declared.direct_fault.DirectFault.{DirectFault}
use Rattle.exh_direct.specs.declared.direct_fault.DirectFault.TheVariants.{File, Astray, Read, Memory}
use Rattle.exh_direct.specs.declared.lead.Lead.TheVariants.{Home, Nowhere, To}
use Rattle.exh_direct.specs.declared.table_block.TableBlock.{TableBlock}
use Rattle.exh_direct.specs.DirectAnswer.{FailsAtEnd, FailsOnWay, Finds, FindsOnWay, IsPageIn, IsWay, NamesPage, Refuses, RefusesBehind, page_place, pages_in, place_in, pseudokey_in, ward_in}
use Rattle.exh_direct.specs.TableSearch.{AreBlocksOf, FailsBehind, IsBlockOf, IsEntryAt, entries_in, numbers_of, places_in, table_place}
use Rattle.exh_direct.specs.KnownBlocks.{BlockFails, IsHeaderAt}
use Rattle.exh_direct.specs.DirectLaws.{FindsInFile, IsOtherFault, map_in}
use Rattle.exh_direct.specs.Way.{lead_of, lead_right}
use Rattle.exh_direct.proofs.Searches.{all_at, places_by_number}
use Rattle.exh_direct.proofs.Told.{walk_is}
use Rattle.exh_direct.specs.BlockFaultLemmas.{no_fault}
use Rattle.exh_direct.specs.StandingBlocks.{StandsAt, bytes_of_block}
use Rattle.exh_direct.proofs.FileBlocks.{block_image, block_of, header_is, header_stands, page_image, page_stands, table_stands}

-- ---- entries by their blocks

slice_take : {X : Type 0} (n : ℕ) (xs : List X) (i : ℕ) (x : X) → slice_get (take n xs) i ≡ Some x → slice_get xs i ≡ Some x
slice_take zero xs i x is = cc
slice_take (suc n) [] i x is = is
slice_take (suc n) (y ∷ xs) zero x is = is
slice_take (suc n) (y ∷ xs) (suc i) x is = slice_take n xs i x is

slice_drop : {X : Type 0} (n : ℕ) (xs : List X) (i : ℕ) → slice_get (drop n xs) i ≡ slice_get xs (n + i)
slice_drop zero xs i = let same : i ≡ 0 + i = omega arith in ap (slice_get xs) same
slice_drop (suc n) [] i = refl
slice_drop (suc n) (y ∷ xs) i = slice_drop n xs i ∙ (let same : suc (n + i) ≡ suc n + i = omega arith in ap (slice_get (y ∷ xs)) same)

slice_of_block : (number : ℕ) (entries : List FileEntry) (at : ℕ) (item : FileEntry) → slice_get (block_of number entries) at ≡ Some item → slice_get entries (254 * number + at) ≡ Some item
slice_of_block number entries at item is = sym (slice_drop (254 * number) entries at) ∙ slice_take 254 (drop (254 * number) entries) at item is

-- ---- prefixes of one block

rising_alone : (before : Option (List Bool)) (entries : List FileEntry) → AreRising (option_to_list before ++ prefixes_of entries) → AreRising (prefixes_of entries)
rising_alone None entries rising = rising
rising_alone (Some prefix) entries rising = rising.1

rising_block : (number : ℕ) (entries : List FileEntry) → AreRising (prefixes_of entries) → AreRising (prefixes_of (block_of number entries))
rising_block number entries rising =
    let front = take (254 * number) entries in
    let back = drop (254 * number) entries in
    let behind = rising_back None front back (subst (λ (all : List FileEntry). AreRising (prefixes_of all)) (sym (take-append-drop (254 * number) entries)) rising) in
    rising_front None (take 254 back) (drop 254 back) (subst (λ (all : List FileEntry). AreRising (prefixes_of all)) (sym (take-append-drop 254 back)) (rising_alone (last_prefix None front) back behind))

-- ---- a legal file

-- the laws that are cited
pub record Laws : Type 0 where
  pub one_page : OnePage
  pub pages_pass : ImagesPass
  pub page_blocks : ImagesAreBlocks
  pub one_header : OneHeader
  pub one_table : OneTable
  pub headers_pass : HeadersPass
  pub tables_pass : TablesPass
  pub header_blocks : HeadersAreBlocks
  pub table_blocks : TablesAreBlocks
  pub walks : WalksNameHomes

module _ (laws : Laws) (known_version : KnownVersion) (file : PageFile) (bytes : List ℕ) (small : AreBytes bytes) (legal : IsLegalPageFile (file_version known_version) file bytes) where
  abbrev version : FileVersion
  version = file_version known_version

  fits : FitsFile version
  fits = known_file_fits known_version

  abbrev header : Header
  header = file.header

  abbrev pseudo : List ℕ → ℕ
  pseudo = any_pseudokey file.header.settings.keyer

  -- ---- its header

  same_header : (other : Header) → IsHeaderAt version (Some bytes) other → other ≡ file.header
  same_header other (block, at, image) =
      let here : IsHeaderImage version other (block_at 0 bytes) = subst (IsHeaderImage version other) at.1 image in
      laws.one_header version fits (block_at 0 bytes) other file.header here (header_is version fits laws.page_blocks laws.header_blocks laws.table_blocks file bytes legal.is)

  pub header_passes : (fault : FileFault) → HeaderFails version (block_at 0 bytes) fault → ⊥
  header_passes fault first =
      let stands = header_stands version fits laws.page_blocks laws.header_blocks laws.table_blocks file bytes legal.is in
      let passed = (laws.headers_pass version fits (block_at 0 bytes) (length-take-le 4096 (bytes_from 0 bytes) stands.whole) (bytes_of_block 0 bytes small)).0
      (file.header, header_is version fits laws.page_blocks laws.header_blocks laws.table_blocks file bytes legal.is) in
      none_first _ _ fault first passed

  pub whole_header : IsWhole 0 bytes
  whole_header = (header_stands version fits laws.page_blocks laws.header_blocks laws.table_blocks file bytes legal.is).whole

  -- ---- its table

  table_at : (number : ℕ) → number < table_blocks file.header.entry_count → StandsAt (table_place file.header + number) bytes (table_block version.images (block_of number file.entries))
  table_at number less = table_stands version fits laws.page_blocks laws.header_blocks laws.table_blocks file bytes legal.is number less

  image_of_block : (number : ℕ) → IsTableImage version.images (block_of number file.entries) (table_block version.images (block_of number file.entries))
  image_of_block number = block_image version fits laws.page_blocks laws.header_blocks laws.table_blocks file bytes legal.is number

  same_block : (block : TableBlock) → IsBlockOf version (Some bytes) file.header block → block.entries.items ≡ block_of block.number file.entries
  same_block block read =
      let number = block.number in
      let stands = table_at number read.within in
      let is : read.is.0 ≡ table_block version.images (block_of number file.entries) = read.is.1.1 ∙ stands.is in
      laws.one_table version.images fits.images (table_block version.images (block_of number file.entries)) block.entries.items (block_of number file.entries)
      (subst (IsTableImage version.images block.entries.items) is read.is.2) (image_of_block number)

  -- an entry that was read is the file's of its place
  same_entry : (blocks : List TableBlock) → AreBlocksOf version (Some bytes) file.header blocks → (place : ℕ) (item : FileEntry) → IsEntryAt blocks place item → slice_get file.entries place ≡ Some item
  same_entry blocks are place item entry =
      let block = entry.block in
      let same = same_block block (all_at (IsBlockOf version (Some bytes) file.header) blocks entry.index block are.each entry.read) in
      ap (slice_get file.entries) entry.is ∙ slice_of_block block.number file.entries entry.at item (ap (λ (items : List FileEntry). slice_get items entry.at) (sym same) ∙ entry.there)

  no_table_fault : (blocks : List TableBlock) (number : ℕ) (fault : DirectFault) → FailsBehind version (Some bytes) file.header fault blocks number → IsOtherFault fault
  no_table_fault blocks number fault behind =
      let entries = block_of number file.entries in
      let count = entries_in file.header number in
      let place = table_place file.header + number in
      let stands = table_at number behind.within in
      let all : length entries ≡ count = (let full = legal.is.valid.count in omega (arith, length-take 254 (drop (254 * number) file.entries), length-drop (254 * number) file.entries, full)) in
      let of_table : IsOfTable version.images count None entries (block_at place bytes) = record {
        image = subst (IsTableImage version.images entries) (sym stands.is) (image_of_block number);
        all = all;
        rising = rising_block number file.entries legal.is.valid.rising;
      } in
      let passed = (laws.tables_pass version.images fits.images count None (block_at place bytes) (length-take-le 4096 (bytes_from place bytes) stands.whole) (bytes_of_block place bytes small) (omega arith)).0 (entries, of_table) in
      no_fault (TableFails version.images place count None) bytes place fault stands.whole
      (λ (fault : FileFault). λ (named : TableFails version.images place count None (block_at place bytes) fault). none_first _ _ named.1.0 named.1.1 passed) behind.fails

  -- ---- the page of a key

  module _ (key : List ℕ) where
    abbrev k : ℕ
    k = pseudokey_in file.header key

    abbrev bits : ℕ
    bits = file.header.settings.ward_bits

    abbrev w : ℕ
    w = ward_in file.header key

    few_bits_there : bits ≤ 4
    few_bits_there = few_bits file (known_version, legal.is.valid)

    small_key : k < 2 ^ 64
    small_key = any_pseudokey-lt file.header.settings.keyer key

    ward_less : w < 2 ^ bits
    ward_less = leading-lt bits k (omega (arith, few_bits_there))

    abbrev own_pages : List Page
    own_pages = get_or file.wards w []

    ward_there : slice_get file.wards w ≡ Some own_pages
    ward_there = slice_get-get_or file.wards w [] (omega (arith, count_of_wards file (known_version, legal.is.valid), ward_less))

    front_len : length (take bits (word_bits k)) ≡ bits
    front_len = length-leading_bits bits k (omega (arith, few_bits_there))

    ward_prefix_is : ward_prefix bits w ≡ take bits (word_bits k)
    ward_prefix_is = ap (λ (n : ℕ). bits_of n w) (sym front_len) ∙ bits_of-number_of (take bits (word_bits k))

    ward_begins : Begins (ward_prefix bits w) k
    ward_begins = subst (λ (prefix : List Bool). Begins prefix k) (sym ward_prefix_is) (ap (λ (n : ℕ). take n (word_bits k)) front_len)

    abbrev own_table : TableMap
    own_table = get_or (parts_in file).tables w empty

    own_ward : IsWard file.header.settings.cap pseudo (ward_prefix bits w) own_table [] own_table own_pages
    own_ward = legal.legal.wards w own_pages ward_there

    table_is : own_table ≡ table_naming file.entries w
    table_is = table_naming_at file.entries w (omega (arith, ward_less, pow_most bits few_bits_there))
      where
        pow_most : (bits : ℕ) → bits ≤ 4 → 2 ^ bits ≤ 16
        pow_most bits few = elim (cases_lt bits 4) [
          | inl less ↦ (let lower = pow_below bits 4 less in omega (arith, lower))
          | inr past ↦ (let same : bits ≡ 4 = omega (arith, few, past) in subst (λ (n : ℕ). 2 ^ n ≤ 16) (sym same) (omega arith))
        ]

    -- a page that begins the pseudokey, at the number that the table names
    pub record HasHome : Type 0 where
      pub number : ℕ
      pub prefix : List Bool
      pub right : Option ℕ
      pub records : List Record
      pub at : IsAt own_pages number (Live prefix right records)
      pub begins : Begins prefix k
      pub named : (walk_of (table_naming file.entries w) bits k).page ≡ number

    has_home : HasHome
    has_home =
        let names = laws.walks file.header.settings.cap pseudo (ward_prefix bits w) own_table [] own_table own_pages k own_ward small_key ward_begins in
        let live = names.live in
        record {
          number = names.leaf.page;
          prefix = names.leaf.prefix;
          right = live.0;
          records = live.1;
          at = live.2;
          begins = names.name.begins;
          named = ap (λ (leaf : Leaf). leaf.page) ((λ i. walk_in (sym table_is i) (sym ward_prefix_is i) k) ∙ names.walk);
        }

    -- the page that the walk over some blocks comes to
    page_is : (old new : Option (List ℕ)) (page : ℕ) → NamesPage version (Some bytes) file.header k old new page → page ≡ (walk_of (table_naming file.entries w) bits k).page
    page_is old new page names =
        names.is ∙ ap (λ (leaf : Leaf). leaf.page)
        (walk_is names.blocks file.header file.entries legal.is.valid.rising legal.is.valid.count (same_entry names.blocks names.are) k (omega (arith, few_bits_there)) names.leaf names.ends)

    module _ (home : HasHome) where
      abbrev own : Page
      own = Live home.prefix home.right home.records

      abbrev own_place : ℕ
      own_place = page_place file.header w home.number

      few_ward : w ≤ 2 ^ bits
      few_ward = omega (arith, ward_less)

      own_image : IsImage version.images pseudo own (block_at own_place bytes)
      own_image = page_image version fits laws.page_blocks laws.header_blocks laws.table_blocks file bytes legal.is w home.number own_pages own few_ward ward_there home.at

      own_stands : StandsAt own_place bytes (page_block own)
      own_stands = page_stands version fits laws.page_blocks laws.header_blocks laws.table_blocks file bytes legal.is w home.number own_pages own few_ward ward_there home.at

      fits_page : Fits 8 version.images
      fits_page = fits_wider 8 version.images (omega arith) fits.images

      same_page : (page : Page) → IsPageIn version (Some bytes) file.header key home.number page → page ≡ own
      same_page page there =
          let read = there.is in
          laws.one_page version.images fits_page pseudo (block_at own_place bytes) page own (subst (IsImage version.images pseudo page) read.1.1 read.2) own_image

      leads_home : lead_of own k ≡ Home
      leads_home =
          let short : length home.prefix ≤ version.images.limit = own_image.valid.in_range.0 in
          let low : low_of home.prefix ≤ k = (begins_low home.prefix k (omega (arith, short, fits.limit)) small_key home.begins).0 in
          ap (λ (b : Bool). cond b (cond (begins home.prefix k) Home (lead_right home.right)) Nowhere) (le-leb (low_of home.prefix) k low)
          ∙ ap (λ (b : Bool). cond b Home (lead_right home.right)) (is_front-true home.prefix (word_bits k) home.begins)

      -- so a way that begins there ends there
      pub record Stays (way : List ℕ) (number : ℕ) : Type 0 where
        pub none : way ≡ []
        pub is : number ≡ home.number

      stays : (first : ℕ) (way : List ℕ) (number : ℕ) → first ≡ home.number → IsWay version (Some bytes) file.header key first way number → Stays way number
      stays first [] number begins leads = record { none = refl; is = sym leads ∙ begins }
      stays first (one ∷ way) number begins (same, page, there, next, on, rest) =
          let here : one ≡ home.number = same ∙ begins in
          let is = same_page page (subst (λ (n : ℕ). IsPageIn version (Some bytes) file.header key n page) here there) in
          let never : Home ≡ To next = sym leads_home ∙ ap (λ (page : Page). lead_of page k) (sym is) ∙ on in
          cc

      counted : pages_in file.header key ≡ length own_pages
      counted =
          let many : get_or (take (2 ^ bits) file.header.page_counts) w 0 ≡ get_or file.header.page_counts w 0 = get_or-take (2 ^ bits) file.header.page_counts w 0 ward_less in
          sym many ∙ ap (λ (counts : List ℕ). get_or counts w 0) (sym legal.is.valid.counts) ∙ count_at file.wards w own_pages ward_there
        where
          count_at : (wards : List (List Page)) (ward : ℕ) (pages : List Page) → slice_get wards ward ≡ Some pages → get_or (map length wards) ward 0 ≡ length pages
          count_at [] ward pages there = cc
          count_at (one ∷ wards) zero pages there = let same : one ≡ pages = cc in ap (λ (pages : List Page). length pages) same
          count_at (one ∷ wards) (suc ward) pages there = count_at wards ward pages there

      within : home.number < pages_in file.header key
      within = omega (arith, counted, slice_get_within own_pages home.number own home.at)

      no_page_fault : (fault : DirectFault) → BlockFails (PageFails version.images pseudo own_place) (Some bytes) own_place fault → IsOtherFault fault
      no_page_fault fault fails =
          let passed = (laws.pages_pass version.images fits_page pseudo (block_at own_place bytes) (length-take-le 4096 (bytes_from own_place bytes) own_stands.whole) (bytes_of_block own_place bytes small)).0 (own, own_image) in
          no_fault (PageFails version.images pseudo own_place) bytes own_place fault own_stands.whole
          (λ (fault : FileFault). λ (named : PageFails version.images pseudo own_place (block_at own_place bytes) fault). none_image_first _ _ named.0 named.1 passed) fails

      no_end_fault : (whole number : ℕ) (fault : DirectFault) → number ≡ home.number → FailsAtEnd version (Some bytes) file.header key whole [] number fault → IsOtherFault fault
      no_end_fault whole number (File fault) here fails =
          no_page_fault (File fault) (subst (λ (n : ℕ). BlockFails (PageFails version.images pseudo (page_place file.header w n)) (Some bytes) (page_place file.header w n) (File fault)) here fails.1)
      no_end_fault whole number Astray here (inl (inl passed)) = absurd (false≢true passed)
      no_end_fault whole number Astray here (inl (inr none)) = absurd (omega (arith, none.0, none.1))
      no_end_fault whole number Astray here (inr (inl outside)) = absurd (omega (arith, outside, within, here))
      no_end_fault whole number Astray here (inr (inr (page, there, nowhere))) =
          let is = same_page page (subst (λ (n : ℕ). IsPageIn version (Some bytes) file.header key n page) here there) in
          let never : Home ≡ Nowhere = sym leads_home ∙ ap (λ (page : Page). lead_of page k) (sym is) ∙ nowhere in
          cc
      no_end_fault whole number Read here fails = tt
      no_end_fault whole number Memory here fails = tt

      no_way_fault : (whole first : ℕ) (old new : Option (List ℕ)) (fault : DirectFault) → first ≡ home.number → FailsOnWay version (Some bytes) file.header key whole first old new fault → IsOtherFault fault
      no_way_fault whole first old new fault named fails =
          let end = stays first fails.way fails.number named fails.leads in
          no_end_fault whole fails.number fault end.is (subst (λ (way : List ℕ). FailsAtEnd version (Some bytes) file.header key whole way fails.number fault) end.none fails.fails)

      -- ---- its value

      value_is : value_at (k, key) home.records ≡ get (map_in file) key
      value_is =
          let legal_pages = own_ward.legal.legal in
          let all_legal = legal_from file.header.settings.cap pseudo bits 0 file.wards (λ number pages there.
          (let same : number ≡ 0 + number = omega arith in subst (λ (n : ℕ). IsLegal file.header.settings.cap pseudo (ward_prefix bits n) pages) same (legal.legal.wards number pages there).legal.legal)) in
          sym (get_in_ward file.header.settings.cap pseudo bits w file.wards own_pages key all_legal (count_of_wards file (known_version, legal.is.valid)) ward_there legal_pages.each ward_begins
          ∙ get-map_of file.header.settings.cap pseudo (ward_prefix bits w) own_pages home.number own key legal_pages home.at home.begins)

      found_in_file : (whole first : ℕ) (old header between new : Option (List ℕ)) (value : Option (List ℕ)) → first ≡ home.number → Appends old header (0 ∷ []) → NamesPage version (Some bytes) file.header k header between first
          → FindsOnWay version (Some bytes) file.header key whole first between new value → FindsInFile file key old new value
      found_in_file whole first old header between new value named head names found =
          let end = stays first found.way found.number named found.leads in
          let page = same_page found.page (subst (λ (n : ℕ). IsPageIn version (Some bytes) file.header key n found.page) end.is found.there) in
          let places : map (place_in file.header key) (found.way ++ found.number ∷ []) ≡ own_place ∷ [] = (λ i. map (place_in file.header key) (end.none i ++ end.is i ∷ [])) in
          let numbers = numbers_of names.blocks in
          let tables : places_in file.header names.blocks ≡ map (λ (number : ℕ). table_place file.header + number) numbers = places_by_number file.header names.blocks in
          record {
            is = found.is ∙ ap (λ (page : Page). value_at (k, key) (records_of page)) page ∙ value_is;
            numbers = numbers;
            within = all_within names.blocks names.are.each;
            once = names.are.once;
            few = omega (arith, names.few, length-map names.blocks (λ (block : TableBlock). block.number));
            ward = w;
            number = home.number;
            reads = Appends-trans old header new (0 ∷ []) _ head
                (Appends-trans header between new _ (own_place ∷ []) (subst (Appends header between) tables names.reads) (subst (Appends between new) places found.reads));
          }
        where
          all_within : (blocks : List TableBlock) → AllByRecursion (IsBlockOf version (Some bytes) file.header) blocks → AllByRecursion (λ (number : ℕ). number < table_blocks file.header.entry_count) (numbers_of blocks)
          all_within [] all = tt
          all_within (block ∷ blocks) all = (all.0.within, all_within blocks all.1)

    -- ---- the answer

    pub answers : (whole first : ℕ) (old head between new : Option (List ℕ)) (value : Option (List ℕ)) (other : Header) → IsHeaderAt version (Some bytes) other → Appends old head (0 ∷ [])
        → NamesPage version (Some bytes) other (pseudokey_in other key) head between first → FindsOnWay version (Some bytes) other key whole first between new value → FindsInFile file key old new value
    answers whole first old head between new value other header heads names found =
        let same = same_header other header in
        let named = subst (λ (header : Header). NamesPage version (Some bytes) header (pseudokey_in header key) head between first) same names in
        found_in_file has_home whole first old head between new value (page_is head between first named ∙ has_home.named) heads named
        (subst (λ (header : Header). FindsOnWay version (Some bytes) header key whole first between new value) same found)

    pub no_refusal_behind : (whole : ℕ) (old new : Option (List ℕ)) (fault : DirectFault) (other : Header) → RefusesBehind version (Some bytes) whole key old new fault other → IsOtherFault fault
    no_refusal_behind whole old new fault other (header, head, heads, inl fails) =
        no_table_fault fails.more fails.number fault (subst (λ (header : Header). FailsBehind version (Some bytes) header fault fails.more fails.number) (same_header other header) fails.behind)
    no_refusal_behind whole old new fault other (header, head, heads, inr (first, between, names, way)) =
        let same = same_header other header in
        let named = subst (λ (header : Header). NamesPage version (Some bytes) header (pseudokey_in header key) head between first) same names in
        no_way_fault has_home whole first between new fault (page_is head between first named ∙ has_home.named)
        (subst (λ (header : Header). FailsOnWay version (Some bytes) header key whole first between new fault) same way)

-- ---- the version that the bytes say

-- a header stands there in no other
header_says : (version : KnownVersion) (header : Header) (bytes : List ℕ) → IsHeaderAt (file_version version) (Some bytes) header → version_of bytes ≡ version
header_says version header bytes (block, at, image) =
    image_says version header block (drop 4096 bytes) bytes image (sym (take-append-drop 4096 bytes) ∙ ap (λ (front : List ℕ). front ++ drop 4096 bytes) (sym at.1))

module _ (laws : Laws) (file : PageFile) (bytes : List ℕ) (small : AreBytes bytes) (legal : IsLegalPageFile (format_of bytes) file bytes) where
  legal_in : (version : KnownVersion) (header : Header) → IsHeaderAt (file_version version) (Some bytes) header → IsLegalPageFile (file_version version) file bytes
  legal_in version header head = subst (λ (version : KnownVersion). IsLegalPageFile (file_version version) file bytes) (header_says version header bytes head) legal

  no_header_fault : (fault : DirectFault) → BlockFails (λ (block : List ℕ). HeaderFails (format_of block) block) (Some bytes) 0 fault → IsOtherFault fault
  no_header_fault fault fails =
      let version = version_of bytes in
      let block = block_at 0 bytes in
      let same : version_of block ≡ version = version_from_front block bytes 4096 (omega arith) refl in
      no_fault (λ (block : List ℕ). HeaderFails (format_of block) block) bytes 0 fault (whole_header laws version file bytes small legal)
      (λ (fault : FileFault). λ (first : HeaderFails (format_of block) block fault).
      header_passes laws version file bytes small legal fault (subst (λ (version : KnownVersion). HeaderFails (file_version version) block fault) same first)) fails

  pub finds_in_file : (whole : ℕ) (old new : Option (List ℕ)) (key : List ℕ) (value : Option (List ℕ)) → Finds (Some bytes) whole key old new value → FindsInFile file key old new value
  finds_in_file whole old new key value finds =
      answers laws finds.version file bytes small (legal_in finds.version finds.header finds.head) key whole finds.page old finds.first finds.between new value finds.header finds.head finds.reads finds.names finds.found

  pub no_refusal : (whole : ℕ) (old new : Option (List ℕ)) (key : List ℕ) (fault : DirectFault) → Refuses (Some bytes) whole key old new fault → IsOtherFault fault
  no_refusal whole old new key fault (inl refused) = no_header_fault fault refused.0
  no_refusal whole old new key fault (inr (version, header, behind)) =
      no_refusal_behind laws version file bytes small (legal_in version header behind.0) key whole old new fault header behind

-- ---- where the file's bytes are known

pub every : Laws → (whole : ℕ) (known old new : Option (List ℕ)) (key : List ℕ) (result : Result (Option (List ℕ)) DirectFault) → IfOk result (Finds known whole key old new) → IfErr result (Refuses known whole key old new)
    → (file : PageFile) (bytes : List ℕ) → known ≡ Some bytes → AreBytes bytes → IsLegalPageFile (format_of bytes) file bytes → MatchResult result (FindsInFile file key old new) IsOtherFault
every laws whole known old new key (Ok value) found refused file bytes knows small legal =
    finds_in_file laws file bytes small legal whole old new key value (subst (λ (known : Option (List ℕ)). Finds known whole key old new value) knows found)
every laws whole known old new key (Err fault) found refused file bytes knows small legal =
    no_refusal laws file bytes small legal whole old new key fault (subst (λ (known : Option (List ℕ)). Refuses known whole key old new fault) knows refused)
