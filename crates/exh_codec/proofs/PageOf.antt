-- A block that was laid out for a page is read as that page.
use Rattle.std.proofs.Common.{◌≡◌, ◌≢◌, ℕ, ◌+◌, ◌-◌, ◌^◌, ◌≤◌, Bool, true, false, cond, nat_eq, List, [], ◌∷◌, ◌++◌, length, map, take, drop, slice_index, Option, None, Some, refl, sym, ap, ◌∙◌, subst, append_assoc, arith}
use Rattle.std.specs.List.{flat_map}
use Rattle.std.proofs.lemmas.Bool.{eq-eqb, eqb-true}
use Rattle.std.proofs.lemmas.List.{take_at, drop_at, drop-drop}
use Rattle.byteorder.specs.Endian.{big_number}
use Rattle.exh_page.specs.PrefixLimits.{LIMIT}
use Rattle.exh_page.specs.Bits.{word_bits}
use Rattle.exh_page.specs.Prefix.{low_of, HasPrefix}
use Rattle.exh_page.specs.PrefixLemmas.{take-low_of, take-low_of-word, HasPrefix-low_of}
use Rattle.exh_page.specs.Version.{Version, Fits}
use Rattle.exh_page.specs.declared.page.Page.{Page}
use Rattle.exh_page.specs.declared.page.Page.TheVariants.{Live, Forward}
use Rattle.exh_page.specs.declared.page_head.PageHead.TheVariants.{Live as LiveHead, Forward as ForwardHead}
use Rattle.exh_page.specs.KeyMap.{pair_of}
use Rattle.exh_page.specs.PageHead.{head_of as without_records}
use Rattle.exh_codec.specs.declared.head.Head.{Head}
use Rattle.exh_codec.specs.declared.kind.Kind.{Kind}
use Rattle.exh_codec.specs.declared.kind.Kind.TheVariants as kinds
use Rattle.exh_codec.specs.Cells.{Pair, pair_image, AreCells}
use Rattle.exh_codec.specs.Head.{head_of, link_number, page_kind_byte, IsReadHead}
use Rattle.exh_codec.specs.ImageTests.{prefix_len_of, count_of, low_in, record_of}
use Rattle.exh_codec.specs.PageImage.{IsLaidOut}
use Rattle.exh_codec.specs.PageOf.{first_pair, first_pairs, link_of, page_of}
use Rattle.exh_codec.proofs.HeadReading.{same_heads}
use Rattle.exh_codec.proofs.ImagesPass.{records_of_pairs}
use Rattle.exh_codec.proofs.LaidOut.{says, pairs_in, zeros_of}

-- ---- pairs

first_of : (pair : Pair) (rest : List ℕ) → first_pair (pair_image pair ++ rest) ≡ pair
unfolding pair_image
first_of pair rest =
    let body : (pair.0 ++ pair.1) ++ rest ≡ pair.0 ++ (pair.1 ++ rest) = append_assoc pair.0 pair.1 rest in
    let key : take (length pair.0) ((pair.0 ++ pair.1) ++ rest) ≡ pair.0 = ap (take (length pair.0)) body ∙ take_at pair.0 (pair.1 ++ rest) (length pair.0) refl in
    let behind : drop (2 + length pair.0) (pair_image pair ++ rest) ≡ pair.1 ++ rest =
    sym (drop-drop (length pair.0) 2 (pair_image pair ++ rest)) ∙ ap (drop (length pair.0)) body ∙ drop_at pair.0 (pair.1 ++ rest) (length pair.0) refl in
    let value : take (length pair.1) (drop (2 + length pair.0) (pair_image pair ++ rest)) ≡ pair.1 = ap (take (length pair.1)) behind ∙ take_at pair.1 rest (length pair.1) refl in
    ap (λ (k : List ℕ). (k, take (length pair.1) (drop (2 + length pair.0) (pair_image pair ++ rest)))) key ∙ ap (λ (v : List ℕ). (pair.0, v)) value

first_of_all : (pairs : List Pair) (rest : List ℕ) → first_pairs (length pairs) (flat_map pair_image pairs ++ rest) ≡ pairs
unfolding first_pairs
first_of_all [] rest = refl
first_of_all (pair ∷ pairs) rest =
    let more = flat_map pair_image pairs ++ rest in
    let bytes : flat_map pair_image (pair ∷ pairs) ++ rest ≡ pair_image pair ++ more = append_assoc (pair_image pair) (flat_map pair_image pairs) rest in
    let first : first_pair (flat_map pair_image (pair ∷ pairs) ++ rest) ≡ pair = ap first_pair bytes ∙ first_of pair more in
    let left : drop (length (pair_image (first_pair (flat_map pair_image (pair ∷ pairs) ++ rest)))) (flat_map pair_image (pair ∷ pairs) ++ rest) ≡ more =
    ap (λ (p : Pair). drop (length (pair_image p)) (flat_map pair_image (pair ∷ pairs) ++ rest)) first ∙ ap (drop (length (pair_image pair))) bytes
    ∙ drop_at (pair_image pair) more (length (pair_image pair)) refl in
    ap (λ (p : Pair). p ∷ first_pairs (length pairs) (drop (length (pair_image (first_pair (flat_map pair_image (pair ∷ pairs) ++ rest)))) (flat_map pair_image (pair ∷ pairs) ++ rest))) first
    ∙ ap (λ (l : List ℕ). pair ∷ first_pairs (length pairs) l) left ∙ ap (λ (ps : List Pair). pair ∷ ps) (first_of_all pairs rest)

pairs_read : (count : ℕ) (bytes : List ℕ) (pairs : List Pair) (rest : List ℕ) → AreCells count bytes pairs rest → first_pairs count bytes ≡ pairs
pairs_read count bytes pairs rest cells =
    ap (λ (n : ℕ). first_pairs n bytes) (sym cells.all) ∙ ap (first_pairs (length pairs)) cells.whole ∙ first_of_all pairs rest

-- ---- links

link_none : (number : ℕ) → number ≡ 2 ^ 32 - 1 → link_of number ≡ None
link_none number is = ap (λ b. cond b None (Some number)) (eq-eqb number (2 ^ 32 - 1) is)

link_some : (number : ℕ) → number ≢ 2 ^ 32 - 1 → link_of number ≡ Some number
link_some number other = elim (nat_eq number (2 ^ 32 - 1)) as (λ b. nat_eq number (2 ^ 32 - 1) ≡ b → cond b None (Some number) ≡ Some number) [
  | true ↦ λ is. absurd (other (eqb-true number (2 ^ 32 - 1) is))
  | false ↦ λ _. refl
] refl

pub link_read : (right : Option ℕ) → right ≢ Some (2 ^ 32 - 1) → link_of (link_number right) ≡ right
link_read None named = link_none (2 ^ 32 - 1) refl
link_read (Some page) named = link_some page (λ is. named (ap Some is))

-- ---- pages

module _ (version : Version) (fits : Fits 8 version) (pseudo : List ℕ → ℕ) where
  pub page_read : (page : Page) (block : List ℕ) → IsLaidOut version pseudo page block → page_of version pseudo block ≡ page
  unfolding page_of
  page_read (Live prefix right records) block laid =
      let page = Live prefix right records in
      let said = says version fits pseudo page block laid in
      let short : length prefix ≤ 64 = omega (arith, laid.valid.in_range.0, fits.limit, fits.bytes) in
      let kind : nat_eq (slice_index block 0) 2 ≡ false = ap (λ n. nat_eq n 2) said.head.kind in
      let bits : take (prefix_len_of block) (word_bits (low_in version block)) ≡ prefix =
      ap (λ (n : ℕ). take n (word_bits (low_in version block))) said.head.prefix_len ∙ ap (λ (n : ℕ). take (length prefix) (word_bits n)) said.low ∙ take-low_of-word prefix short in
      let link : link_of (big_number 4 (drop 4 block)) ≡ right = ap link_of said.head.link ∙ link_read right laid.valid.formed.2 in
      let pairs : first_pairs (count_of block) (drop 16 (take 4064 block)) ≡ map pair_of records = pairs_read _ _ (pairs_in page) (zeros_of page) said.cells in
      let all : map (record_of pseudo) (first_pairs (count_of block) (drop 16 (take 4064 block))) ≡ records = ap (map (record_of pseudo)) pairs ∙ records_of_pairs pseudo records laid.valid.formed.0.hashed in
      rw (kind, bits, link, all) refl
  page_read (Forward low target) block laid =
      let page = Forward low target in
      let said = says version fits pseudo page block laid in
      let kind : nat_eq (slice_index block 0) 2 ≡ true = ap (λ n. nat_eq n 2) said.head.kind in
      rw (kind, said.low, said.head.link) refl

-- ---- heads

module _ (version : Version) (fits : Fits 8 version) (known : version.limit ≤ LIMIT) where
  pub kind_said : (pseudo : List ℕ → ℕ) (page : Page) (block : List ℕ) → IsLaidOut version pseudo page block → (kind : Kind) × (slice_index block 0 ≡ page_kind_byte kind)
  kind_said pseudo page block laid = ((head_of page).kind, (says version fits pseudo page block laid).head.kind)

  pub head_read : (pseudo : List ℕ → ℕ) (page : Page) (block : List ℕ) (head : Head) → IsReadHead block head → IsLaidOut version pseudo page block → head ≡ head_of page
  head_read pseudo page block head read laid = same_heads block head (head_of page) read (says version fits pseudo page block laid).head

  -- a live head is that of a live page, whose prefix is one
  pub live_head : (pseudo : List ℕ → ℕ) (page : Page) (block : List ℕ) (head : Head) → IsReadHead block head → IsLaidOut version pseudo page block → head.kind ≡ kinds.Live
      → HasPrefix head.prefix_len head.low × ((right : Option ℕ) → link_number right ≡ head.link → right ≢ Some (2 ^ 32 - 1) → LiveHead (take head.prefix_len (word_bits head.low)) right head.count ≡ without_records page)
  live_head pseudo (Live prefix right records) block head read laid kind =
      let is = head_read pseudo (Live prefix right records) block head read laid in
      let len : head.prefix_len ≡ length prefix = ap (λ (h : Head). h.prefix_len) is in
      let low : head.low ≡ low_of prefix = ap (λ (h : Head). h.low) is in
      let count : head.count ≡ length records = ap (λ (h : Head). h.count) is in
      let link : head.link ≡ link_number right = ap (λ (h : Head). h.link) is in
      let short : length prefix ≤ LIMIT = omega (arith, laid.valid.in_range.0, known) in
      let stored : HasPrefix (length prefix) (low_of prefix) = HasPrefix-low_of prefix short in
      let bits : take head.prefix_len (word_bits head.low) ≡ prefix =
      ap (λ (n : ℕ). take n (word_bits head.low)) len ∙ ap (λ (n : ℕ). take (length prefix) (word_bits n)) low ∙ take-low_of prefix short in (
        subst (λ (n : ℕ). HasPrefix n head.low) (sym len) (subst (HasPrefix (length prefix)) (sym low) stored),
        λ other said named.
            let same : other ≡ right = sym (link_read other named) ∙ ap link_of (said ∙ link) ∙ link_read right laid.valid.formed.2 in
            ap (λ (p : List Bool). LiveHead p other head.count) bits ∙ ap (λ (r : Option ℕ). LiveHead prefix r head.count) same ∙ ap (λ (n : ℕ). LiveHead prefix right n) count,
      )
  live_head pseudo (Forward low target) block head read laid kind =
      let is = head_read pseudo (Forward low target) block head read laid in
      let other : kinds.Forward ≡ kinds.Live = sym (ap (λ (h : Head). h.kind) is) ∙ kind in absurd cc

  pub forward_head : (pseudo : List ℕ → ℕ) (page : Page) (block : List ℕ) (head : Head) → IsReadHead block head → IsLaidOut version pseudo page block → head.kind ≡ kinds.Forward
      → ForwardHead head.low head.link ≡ without_records page
  forward_head pseudo (Live prefix right records) block head read laid kind =
      let is = head_read pseudo (Live prefix right records) block head read laid in
      let other : kinds.Live ≡ kinds.Forward = sym (ap (λ (h : Head). h.kind) is) ∙ kind in absurd cc
  forward_head pseudo (Forward low target) block head read laid kind =
      let is = head_read pseudo (Forward low target) block head read laid in
      ap (λ (n : ℕ). ForwardHead n head.link) (ap (λ (h : Head). h.low) is) ∙ ap (λ (n : ℕ). ForwardHead low n) (ap (λ (h : Head). h.link) is)
