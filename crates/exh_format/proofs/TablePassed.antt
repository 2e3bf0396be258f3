-- The tests of a table block: which fails first, and that images pass them.
use Rattle.std.proofs.Common.{◌≡◌, ◌≢◌, ℕ, zero, suc, ◌+◌, ◌*◌, ◌-◌, ◌<◌, ◌≤◌, inl, inr, Bool, List, [], ◌∷◌, ◌++◌, length, take, drop, slice_index, replicate, Option, Result, Ok, Err, refl, sym, ap, ◌∙◌, append_assoc, append-nil, subst, arith}
use Rattle.std.specs.Prelude.{IsErrAnd, IfErr, MatchResult}
use Rattle.std.specs.List.{AllByRecursion, flat_map}
use Rattle.std.specs.Option.{option_to_list}
use Rattle.std.proofs.lemmas.Bool.{cases_lt}
use Rattle.std.proofs.lemmas.List.{get_or-take, get_or-drop, get_or_past, length-take, length-take-le, length-drop}
use Rattle.exh_prefix.specs.Version.{Version, Fits}
use Rattle.exh_legal.specs.declared.NoticeFault.{NoticeFault}
use Rattle.exh_legal.specs.declared.NoticeFault.TheVariants as entries
use Rattle.exh_legal.specs.NoticeImages.{FailsFirst, PassesAll}
use Rattle.exh_legal.specs.ImageLemmas.{entry_passes, image_passes, image_from_tests}
use Rattle.exh_codec.specs.declared.image_fault.ImageFault.{ImageFault}
use Rattle.exh_codec.specs.declared.image_fault.ImageFault.TheVariants as images
use Rattle.exh_codec.specs.Block.{IsSealed}
use Rattle.exh_codec.specs.BlockLemmas.{length-padded, padded_front, padded_rest, padded_from, sealed_content, sealed_is_sealed, sealed_from}
use Rattle.exh_codec.specs.PageImage.{padded}
use Rattle.exh_format.specs.declared.file_entry.FileEntry.{FileEntry}
use Rattle.exh_format.specs.ReadEntries.{FailsAtEntry}
use Rattle.exh_format.specs.TableImage.{AreEntries, AreRising, IsTableImage, image_of, prefixes_of}
use Rattle.exh_format.specs.TableTests.{TableTest, Digest, OfEntry, Behind, Order, PassesTable, PassesEntry, IsPaddedBehind, IsFirstFault, IsOrdered, entry_bytes, entry_tests, table_tests}
use Rattle.exh_format.specs.BlockLaws.{IsOfTable}
use Rattle.exh_prefix.specs.PrefixListLemmas.{AllByRecursion-append_left, AllByRecursion-append_right, AllByRecursion-append}
use Rattle.exh_format.proofs.TableBytes.{length-images, rest_behind, front_before, next_entry, entry_at, same_entries, same_padded}

-- ---- tests of entries

abbrev tests_of : ℕ → List TableTest
tests_of number = OfEntry number entries.Kind ∷ OfEntry number entries.Padding ∷ OfEntry number entries.Prefix ∷ []

-- behind the tests of an entry come those of the later ones
later_tests : (number more : ℕ) → (tests : List TableTest) × (entry_tests (number + suc more) ≡ entry_tests number ++ (tests_of number ++ tests))
later_tests number zero =
    let count : number + 1 ≡ suc number = omega arith in
    ([], ap entry_tests count ∙ ap (λ (tests : List TableTest). entry_tests number ++ tests) (sym (append-nil (tests_of number))))
later_tests number (suc more) =
    let fewer = later_tests number more in
    let count : number + suc (suc more) ≡ suc (number + suc more) = omega arith in
    let last = tests_of (number + suc more) in (
      fewer.0 ++ last,
      ap entry_tests count ∙ ap (λ (tests : List TableTest). tests ++ last) fewer.1 ∙ append_assoc (entry_tests number) (tests_of number ++ fewer.0) last
          ∙ ap (λ (tests : List TableTest). entry_tests number ++ tests) (append_assoc (tests_of number) fewer.0 last),
    )

entry_tests_split : (number count : ℕ) → number < count → (tests : List TableTest) × (entry_tests count ≡ entry_tests number ++ (tests_of number ++ tests))
entry_tests_split number count fewer =
    let more : number + suc (count - suc number) ≡ count = omega arith in
    let later = later_tests number (count - suc number) in
    (later.0, ap entry_tests (sym more) ∙ later.1)

module _ (version : Version) (fits : Fits 4 version) where
  passes_at : (number : ℕ) (bytes : List ℕ) (count : ℕ) (items : List FileEntry) (rest : List ℕ) → number < count → AreEntries version count bytes items rest → PassesAll version (entry_bytes number bytes)
  passes_at number bytes count items rest fewer are =
      let there = entry_at version fits number bytes items rest (omega (arith, fewer, are.all)) are.valid are.whole in
      entry_passes version fits there.1

  -- where a block begins with so many entries, it passes their tests
  pub entries_pass : (number whole : ℕ) (before : Option (List Bool)) (bytes : List ℕ) (count : ℕ) (items : List FileEntry) (rest : List ℕ) → number ≤ count → AreEntries version count bytes items rest
      → AllByRecursion (PassesTable version whole before bytes) (entry_tests number)
  entries_pass zero whole before bytes count items rest within are = tt
  entries_pass (suc number) whole before bytes count items rest within are =
      let passed = passes_at number bytes count items rest (omega arith) are in
      AllByRecursion-append (PassesTable version whole before bytes) (entry_tests number) (tests_of number) (entries_pass number whole before bytes count items rest (omega arith) are) (passed.0, (passed.1, (passed.2, tt)))

  -- ---- the first that fails

  before_fault : ℕ → NoticeFault → List TableTest
  before_fault number entries.Kind = []
  before_fault number entries.Padding = OfEntry number entries.Kind ∷ []
  before_fault number entries.Prefix = OfEntry number entries.Kind ∷ OfEntry number entries.Padding ∷ []

  after_fault : ℕ → NoticeFault → List TableTest
  after_fault number entries.Kind = OfEntry number entries.Padding ∷ OfEntry number entries.Prefix ∷ []
  after_fault number entries.Padding = OfEntry number entries.Prefix ∷ []
  after_fault number entries.Prefix = []

  stands_among : (number : ℕ) (fault : NoticeFault) → tests_of number ≡ before_fault number fault ++ OfEntry number fault ∷ after_fault number fault
  unfolding before_fault after_fault
  stands_among number entries.Kind = refl
  stands_among number entries.Padding = refl
  stands_among number entries.Prefix = refl

  passed_before : (whole : ℕ) (before : Option (List Bool)) (bytes : List ℕ) (number : ℕ) (fault : NoticeFault) → FailsFirst version fault (entry_bytes number bytes)
      → AllByRecursion (PassesTable version whole before bytes) (before_fault number fault)
  unfolding before_fault
  passed_before whole before bytes number entries.Kind fails = tt
  passed_before whole before bytes number entries.Padding fails = (fails.0, tt)
  passed_before whole before bytes number entries.Prefix fails = (fails.0, (fails.1, tt))

  fails_there : (bytes : List ℕ) (fault : NoticeFault) → FailsFirst version fault bytes → PassesEntry version bytes fault → ⊥
  fails_there bytes entries.Kind fails passes = fails passes
  fails_there bytes entries.Padding fails passes = fails.1 passes
  fails_there bytes entries.Prefix fails passes = fails.2 passes

  pub first_digest : (count : ℕ) (before : Option (List Bool)) (block : List ℕ) → (IsSealed block → ⊥) → IsFirstFault version count before block images.Digest
  first_digest count before block fails =
      (Digest, record { before = []; after = entry_tests count ++ Behind ∷ Order ∷ []; stands = refl; passed = tt; fails = fails }, refl)

  pub first_entry : (count : ℕ) (before : Option (List Bool)) (block : List ℕ) (fault : ImageFault) → IsSealed block → FailsAtEntry version count block fault → IsFirstFault version count before block fault
  first_entry count before block fault is_sealed fails =
      let number = fails.number in
      let test = OfEntry number fails.first in
      let split = entry_tests_split number count fails.fewer in
      let front = entry_tests number ++ before_fault number fails.first in
      let back = after_fault number fails.first ++ split.0 in
      let last = Behind ∷ Order ∷ [] in
      let inner : entry_tests count ≡ front ++ test ∷ back =
      split.1 ∙ ap (λ (tests : List TableTest). entry_tests number ++ (tests ++ split.0)) (stands_among number fails.first)
      ∙ ap (λ (tests : List TableTest). entry_tests number ++ tests) (append_assoc (before_fault number fails.first) (test ∷ after_fault number fails.first) split.0)
      ∙ sym (append_assoc (entry_tests number) (before_fault number fails.first) (test ∷ back)) in
      let passed = AllByRecursion-append (PassesTable version count before block) (entry_tests number) (before_fault number fails.first)
      (entries_pass number count before block number fails.entries fails.rest (omega arith) fails.before) (passed_before count before block number fails.first fails.fails) in (
        test,
        record {
          before = Digest ∷ front;
          after = back ++ last;
          stands = ap (λ (tests : List TableTest). Digest ∷ tests) (ap (λ (tests : List TableTest). tests ++ last) inner ∙ append_assoc front (test ∷ back) last);
          passed = (is_sealed, passed);
          fails = fails_there (entry_bytes number block) fails.first fails.fails;
        },
        fails.named,
      )

  pub first_behind : (count : ℕ) (before : Option (List Bool)) (block : List ℕ) (items : List FileEntry) (rest : List ℕ) → IsSealed block → AreEntries version count block items rest
      → (IsPaddedBehind count block → ⊥) → IsFirstFault version count before block images.Padding
  first_behind count before block items rest is_sealed are fails = (
    Behind,
    record {
      before = Digest ∷ entry_tests count;
      after = Order ∷ [];
      stands = refl;
      passed = (is_sealed, entries_pass count count before block count items rest (omega arith) are);
      fails = fails;
    },
    refl,
  )

  -- the entries of a block are one list
  pub one_list : (count : ℕ) (block : List ℕ) (one other : List FileEntry) (rest after : List ℕ) → AreEntries version count block one rest → AreEntries version count block other after → one ≡ other
  one_list count block one other rest after first second = same_entries version fits one other rest after (first.all ∙ sym second.all) first.valid second.valid (sym first.whole ∙ second.whole)

  pub first_order : (count : ℕ) (before : Option (List Bool)) (block : List ℕ) (items : List FileEntry) (rest : List ℕ) → IsSealed block → AreEntries version count block items rest → IsPaddedBehind count block
      → (AreRising (option_to_list before ++ prefixes_of items) → ⊥) → IsFirstFault version count before block images.Order
  first_order count before block items rest is_sealed are padded_behind fails =
      let front = entry_tests count in
      let passed = AllByRecursion-append (PassesTable version count before block) front (Behind ∷ []) (entries_pass count count before block count items rest (omega arith) are) (padded_behind, tt) in (
        Order,
        record {
          before = Digest ∷ front ++ Behind ∷ [];
          after = [];
          stands = ap (λ (tests : List TableTest). Digest ∷ tests) (sym (append_assoc front (Behind ∷ []) (Order ∷ [])));
          passed = (is_sealed, passed);
          fails = λ ordered. fails (ordered items rest are);
        },
        refl,
      )

  -- ---- images

  -- the tests that an image passes, and its entries
  pub record Says (count : ℕ) (items : List FileEntry) (block : List ℕ) : Type 0 where
    pub is_sealed : IsSealed block
    pub are : AreEntries version count block items (drop (16 * count) block)
    pub behind : IsPaddedBehind count block

  pub says : (items : List FileEntry) (block : List ℕ) → IsTableImage version items block → Says (length items) items block
  says items block image =
      let used = flat_map (image_of version) items in
      let len : length used ≡ 16 * length items = length-images version fits items in
      let short : length used ≤ 4064 = omega (arith, len, image.few) in
      let whole = length-padded 4064 used short in
      let content = sealed_content block (padded 4064 used) whole image.whole in
      let are : AreEntries version (length items) block items (replicate (4064 - length used) 0 ++ drop 4064 block) = record { all = refl; valid = image.valid; whole = padded_front block used 4064 content } in
      record {
        is_sealed = sealed_is_sealed block (padded 4064 used) whole image.whole;
        are = subst (AreEntries version (length items) block items) (rest_behind version fits (length items) block items (replicate (4064 - length used) 0 ++ drop 4064 block) are) are;
        behind = padded_rest block used 4064 (16 * length items) len content;
      }

  -- what passes the tests is an image
  pub image_from : (count : ℕ) (items : List FileEntry) (block : List ℕ) → length block ≡ 4096 → count ≤ 254 → Says count items block → IsTableImage version items block
  image_from count items block long few said =
      let used = flat_map (image_of version) items in
      let len : length used ≡ 16 * count = length-images version fits items ∙ ap (λ (n : ℕ). 16 * n) said.are.all in
      let content : take 4064 block ≡ padded 4064 used =
      padded_from block used 4064 (16 * count) len (omega (arith, few)) (omega (arith, long)) (front_before version fits count block items (drop (16 * count) block) said.are) said.behind in
      record { few = omega (arith, few, said.are.all); valid = said.are.valid; whole = sealed_from block (padded 4064 used) content said.is_sealed }

  -- a block whose entries are so many fails no test of them
  pub none_fails : (count : ℕ) (block : List ℕ) (items : List FileEntry) (rest : List ℕ) (fault : ImageFault) → AreEntries version count block items rest → FailsAtEntry version count block fault → ⊥
  none_fails count block items rest fault are fails =
      let there = entry_at version fits fails.number block items rest (omega (arith, fails.fewer, are.all)) are.valid are.whole in
      image_passes version fits fails.first there.1 fails.fails

  -- a block is the image of one list of entries
  pub one_table : (one other : List FileEntry) (block : List ℕ) → IsTableImage version one block → IsTableImage version other block → one ≡ other
  one_table one other block first second =
      let content : (entries : List FileEntry) → IsTableImage version entries block → take 4064 block ≡ padded 4064 (flat_map (image_of version) entries) = λ entries image.
      let used = flat_map (image_of version) entries in
      sealed_content block (padded 4064 used) (length-padded 4064 used (omega (arith, length-images version fits entries, image.few))) image.whole in
      same_padded version fits one other _ _ first.valid second.valid (sym (content one first) ∙ content other second)

  -- ---- entries from their tests

  small_part : (m n : ℕ) (bytes : List ℕ) → ((k : ℕ) → slice_index bytes k < 256) → (k : ℕ) → slice_index (take m (drop n bytes)) k < 256
  small_part m n bytes small k = elim (cases_lt k m) [
    | inl within ↦ rw (get_or-take m (drop n bytes) k 0 within, get_or-drop n bytes k 0) (small (n + k))
    | inr past ↦ rw (get_or_past (take m (drop n bytes)) k 0 (omega (arith, past, length-take m (drop n bytes)))) (omega arith)
  ]

  pub entries_from : (number whole : ℕ) (before : Option (List Bool)) (bytes : List ℕ) → 16 * number ≤ length bytes → ((k : ℕ) → slice_index bytes k < 256)
      → AllByRecursion (PassesTable version whole before bytes) (entry_tests number) → (items : List FileEntry) × AreEntries version number bytes items (drop (16 * number) bytes)
  entries_from zero whole before bytes room small passed = ([], record { all = refl; valid = tt; whole = refl })
  entries_from (suc number) whole before bytes room small passed =
      let Passes = PassesTable version whole before bytes in
      let fewer = entries_from number whole before bytes (omega (arith, room)) small (AllByRecursion-append_left Passes (entry_tests number) (tests_of number) passed) in
      let last = AllByRecursion-append_right Passes (entry_tests number) (tests_of number) passed in
      let image = take 16 (drop (16 * number) bytes) in
      let long : length image ≡ 16 = length-take-le 16 (drop (16 * number) bytes) (omega (arith, room, length-drop (16 * number) bytes)) in
      let found = image_from_tests version fits image long (small_part 16 (16 * number) bytes small) last.0 last.1.0 last.1.1.0 in
      let item : FileEntry = record { ward = slice_index image 0; prefix = found.0; entry = found.1 } in
      let count : number + 1 ≡ suc number = omega arith in
      let items = fewer.0 ++ item ∷ [] in (
        items,
        subst (λ (n : ℕ). AreEntries version n bytes items (drop (16 * n) bytes)) count
            (next_entry version fits number bytes fewer.0 (slice_index image 0) found.0 found.1 image fewer.1 refl found.2),
      )

  -- a block that passes all tests is the image of so many entries that rise
  pub table_from_tests : (count : ℕ) (before : Option (List Bool)) (block : List ℕ) → length block ≡ 4096 → ((k : ℕ) → slice_index block k < 256) → count ≤ 254
      → AllByRecursion (PassesTable version count before block) (table_tests count) → (entries : List FileEntry) × IsOfTable version count before entries block
  table_from_tests count before block long small few passed =
      let Passes = PassesTable version count before block in
      let found = entries_from count count before block (omega (arith, long, few)) small (AllByRecursion-append_left Passes (entry_tests count) (Behind ∷ Order ∷ []) passed.1) in
      let last = AllByRecursion-append_right Passes (entry_tests count) (Behind ∷ Order ∷ []) passed.1 in (
        found.0,
        record {
          image = image_from count found.0 block long few (record { is_sealed = passed.0; are = found.1; behind = last.0 });
          all = found.1.all;
          rising = last.1.0 found.0 (drop (16 * count) block) found.1;
        },
      )

  pub table_passes : (count : ℕ) (before : Option (List Bool)) (entries : List FileEntry) (block : List ℕ) → IsOfTable version count before entries block
      → AllByRecursion (PassesTable version count before block) (table_tests count)
  table_passes count before entries block is =
      let said : Says count entries block = subst (λ (n : ℕ). Says n entries block) is.all (says entries block is.image) in
      let ordered : IsOrdered version count before block = λ items rest are.
      subst (λ (items : List FileEntry). AreRising (option_to_list before ++ prefixes_of items)) (one_list count block entries items _ rest said.are are) is.rising in
      (said.is_sealed, AllByRecursion-append (PassesTable version count before block) (entry_tests count) (Behind ∷ Order ∷ []) (entries_pass count count before block count entries _ (omega arith) said.are) (said.behind, (ordered, tt)))

-- ---- what is answered

-- the fault is want of memory, since no other comes
pub memory_else : (fault : ImageFault) → (fault ≢ images.Memory → ⊥) → fault ≡ images.Memory
memory_else images.Memory none = refl
memory_else images.Kind none = absurd (none (λ same. cc))
memory_else images.Length none = absurd (none (λ same. cc))
memory_else images.Order none = absurd (none (λ same. cc))
memory_else images.Padding none = absurd (none (λ same. cc))
memory_else images.Digest none = absurd (none (λ same. cc))
memory_else images.Prefix none = absurd (none (λ same. cc))

-- of an error that is passed on
pub err_given : {V E : Type 0} (result : Result V E) (fault : E) (P : E → Type 0) → IsErrAnd result (λ e. e ≡ fault) → P fault → IfErr result P
err_given (Ok value) fault P is holds = tt
err_given (Err e) fault P is holds = subst P (sym is) holds

pub err_match : {V E : Type 0} (result : Result V E) (fault : E) (Q : V → Type 0) (P : E → Type 0) → IsErrAnd result (λ e. e ≡ fault) → P fault → MatchResult result Q P
err_match (Ok value) fault Q P is holds = absurd is
err_match (Err e) fault Q P is holds = subst P (sym is) holds
