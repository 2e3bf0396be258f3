-- What is read part by part: bytes, pages of wards, and entries whose prefixes rise.
use Rattle.std.proofs.Common.{◌≡◌, ℕ, zero, suc, ◌+◌, ◌-◌, ◌<◌, Bool, List, [], ◌∷◌, ◌++◌, length, map, take, get_or, Option, None, Some, refl, sym, ap, ◌∙◌, subst, arith}
use Rattle.std.specs.declared.cmp.Ordering.TheVariants.{Less}
use Rattle.std.specs.List.{AllByRecursion, sum}
use Rattle.std.specs.Option.{option_to_list}
use Rattle.std.proofs.lemmas.List.{length-append, map-append, take_all, take_more}
use Rattle.std.proofs.lemmas.List.Sums.{sum_by-cons}
use Rattle.exh_prefix.specs.PrefixListLemmas.{AllByRecursion-append_left}
use Rattle.exh_prefix.specs.Prefix.{prefix_cmp}
use Rattle.exh_legal.specs.declared.Page.{Page}
use Rattle.exh_format.specs.declared.file_entry.FileEntry.{FileEntry}
use Rattle.exh_format.specs.RisingLemmas.{all_after}
use Rattle.exh_format.specs.TableImage.{AreRising, prefixes_of}
use Rattle.exh_format.specs.PageFile.{pages_of}
use Rattle.exh_format.specs.Reading.{AreBytes, last_prefix}

pub byte_at : (bytes : List ℕ) → AreBytes bytes → (i : ℕ) → get_or bytes i 0 < 256
byte_at [] all i = omega arith
byte_at (byte ∷ bytes) all zero = all.0
byte_at (byte ∷ bytes) all (suc i) = byte_at bytes all.1 i

pub length-pages_of : (wards : List (List Page)) → length (pages_of wards) ≡ sum (map length wards)
length-pages_of [] = refl
length-pages_of (ward ∷ wards) = omega (arith, length-append ward (pages_of wards), sum_by-cons (λ (count : ℕ). count) (length ward) (map length wards), length-pages_of wards)

-- ---- prefixes

-- one entry more
pub last_of_more : (before : Option (List Bool)) (entries : List FileEntry) (item : FileEntry) → last_prefix before (entries ++ item ∷ []) ≡ Some item.prefix
last_of_more before [] item = refl
last_of_more before (one ∷ entries) item = last_of_more (Some one.prefix) entries item

-- the last entry of some is there
pub last_there : (before : Option (List Bool)) (entries : List FileEntry) (d : FileEntry) → 0 < length entries → last_prefix before entries ≡ Some (get_or entries (length entries - 1) d).prefix
last_there before entries d some =
    let i = length entries - 1 in
    let whole : take (i + 1) entries ≡ entries = take_all (i + 1) entries (omega arith) in
    ap (last_prefix before) (sym whole ∙ take_more entries i d (omega arith)) ∙ last_of_more before (take i entries) (get_or entries i d)

pub last_of_join : (before : Option (List Bool)) (entries more : List FileEntry) → last_prefix before (entries ++ more) ≡ last_prefix (last_prefix before entries) more
last_of_join before [] more = refl
last_of_join before (one ∷ entries) more = last_of_join (Some one.prefix) entries more

-- prefixes that rise, and others that rise from the last of them
pub rising_join : (before : Option (List Bool)) (entries more : List FileEntry) → AreRising (option_to_list before ++ prefixes_of entries) → AreRising (option_to_list (last_prefix before entries) ++ prefixes_of more)
    → AreRising (option_to_list before ++ prefixes_of (entries ++ more))
rising_join before [] more first second = second
rising_join None (item ∷ entries) more first second = rising_join (Some item.prefix) entries more first second
rising_join (Some prefix) (item ∷ entries) more first second =
    let rest = rising_join (Some item.prefix) entries more first.1 second in
    ((first.0.0, all_after prefix item.prefix (prefixes_of (entries ++ more)) first.0.0 rest.0), rest)

-- ---- prefixes of the first entries, and of the others

pub rising_front : (before : Option (List Bool)) (front back : List FileEntry) → AreRising (option_to_list before ++ prefixes_of (front ++ back)) → AreRising (option_to_list before ++ prefixes_of front)
rising_front None [] back rising = tt
rising_front (Some prefix) [] back rising = (tt, tt)
rising_front None (item ∷ front) back rising = rising_front (Some item.prefix) front back rising
rising_front (Some prefix) (item ∷ front) back rising =
    let parts = map-append (λ (item : FileEntry). item.prefix) (item ∷ front) back in (
      AllByRecursion-append_left (λ (other : List Bool). prefix_cmp prefix other ≡ Less) (prefixes_of (item ∷ front)) (prefixes_of back) (subst (AllByRecursion (λ (other : List Bool). prefix_cmp prefix other ≡ Less)) parts rising.0),
      rising_front (Some item.prefix) front back rising.1,
    )

pub rising_back : (before : Option (List Bool)) (front back : List FileEntry) → AreRising (option_to_list before ++ prefixes_of (front ++ back)) → AreRising (option_to_list (last_prefix before front) ++ prefixes_of back)
rising_back before [] back rising = rising
rising_back None (item ∷ front) back rising = rising_back (Some item.prefix) front back rising
rising_back (Some prefix) (item ∷ front) back rising = rising_back (Some item.prefix) front back rising.1
