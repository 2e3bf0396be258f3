-- What a block says where a record begins.
use Rattle.std.proofs.Common.{◌≡◌, ℕ, ◌+◌, ◌<◌, ◌≤◌, List, [], ◌∷◌, ◌++◌, length, take, drop, get_or, slice_index, refl, sym, ap, ◌∙◌, append_assoc, arith}
use Rattle.std.proofs.lemmas.List.{take_at, take_more, drop_at, drop_more, drop-drop, get_or-drop, length-append, length-drop, take-append-drop}
use Rattle.exh_page.specs.declared.record.Record.{Record}
use Rattle.exh_page.specs.KeyMap.{pair_of}
use Rattle.exh_codec.specs.Cells.{Pair, pair_image}
use Rattle.exh_frames.specs.InPlace.{bytes_of}
use Rattle.exh_frames.proofs.Edited.{bytes_of-append}

pub record IsCell (block : List ℕ) (start : ℕ) (pair : Pair) : Type 0 where
  pub key_len : slice_index block start ≡ length pair.0
  pub value_len : slice_index block (start + 1) ≡ length pair.1
  pub fits : start + 2 + length pair.0 + length pair.1 ≤ length block
  pub key : take (length pair.0) (drop (start + 2) block) ≡ pair.0
  pub value : take (length pair.1) (drop (start + 2 + length pair.0) block) ≡ pair.1

pub cell_bytes : (block : List ℕ) (start : ℕ) (pair : Pair) (rest : List ℕ) → drop start block ≡ pair_image pair ++ rest → IsCell block start pair
unfolding pair_image
cell_bytes block start pair rest is = record {
  key_len = ap (λ (n : ℕ). get_or block n 0) same ∙ sym (get_or-drop start block 0 0) ∙ ap (λ (l : List ℕ). get_or l 0 0) is;
  value_len = sym (get_or-drop start block 1 0) ∙ ap (λ (l : List ℕ). get_or l 1 0) is;
  fits = omega (arith, ap length is, length-drop start block, length-append (pair.0 ++ pair.1) rest, length-append pair.0 pair.1);
  key = ap (take (length pair.0)) behind ∙ take_at pair.0 (pair.1 ++ rest) (length pair.0) refl;
  value = ap (take (length pair.1)) (sym (drop-drop (length pair.0) (start + 2) block) ∙ ap (drop (length pair.0)) behind ∙ drop_at pair.0 (pair.1 ++ rest) (length pair.0) refl)
      ∙ take_at pair.1 rest (length pair.1) refl;
}
  where
    same : start ≡ start + 0
    same = omega arith

    behind : drop (start + 2) block ≡ pair.0 ++ (pair.1 ++ rest)
    behind = sym (drop-drop 2 start block) ∙ ap (drop 2) is ∙ append_assoc pair.0 pair.1 rest

-- behind the records before it stands the record itself
pub at_record : (block : List ℕ) (front back : List Record) (one : Record) (rest : List ℕ) (start : ℕ) → drop 16 block ≡ bytes_of (front ++ one ∷ back) ++ rest → start ≡ 16 + length (bytes_of front)
    → drop start block ≡ pair_image (pair_of one) ++ (bytes_of back ++ rest)
at_record block front back one rest start is start_is =
    let cell : List ℕ = pair_image (pair_of one) in
    ap (λ (n : ℕ). drop n block) start_is ∙ sym (drop-drop (length (bytes_of front)) 16 block)
    ∙ ap (drop (length (bytes_of front))) (is ∙ ap (λ (l : List ℕ). l ++ rest) (bytes_of-append front (one ∷ back)) ∙ append_assoc (bytes_of front) (cell ++ bytes_of back) rest)
    ∙ drop_at (bytes_of front) ((cell ++ bytes_of back) ++ rest) (length (bytes_of front)) refl
    ∙ append_assoc cell (bytes_of back) rest

-- records, cut at the one of an index
pub cut_at : (records : List Record) (i : ℕ) (d : Record) → i < length records → records ≡ take i records ++ get_or records i d ∷ drop (i + 1) records
cut_at records i d within = sym (take-append-drop i records) ∙ ap (λ (l : List Record). take i records ++ l) (drop_more records i d within)

-- where the record of an index begins, it stands
pub at_index : (block : List ℕ) (records : List Record) (rest : List ℕ) (i start : ℕ) (d : Record) → drop 16 block ≡ bytes_of records ++ rest → i < length records → start ≡ 16 + length (bytes_of (take i records))
    → drop start block ≡ pair_image (pair_of (get_or records i d)) ++ (bytes_of (drop (i + 1) records) ++ rest)
at_index block records rest i start d is within start_is =
    at_record block (take i records) (drop (i + 1) records) (get_or records i d) rest start (is ∙ ap (λ (l : List Record). bytes_of l ++ rest) (cut_at records i d within)) start_is

-- and the next one begins where it ends
pub next_index : (records : List Record) (i start end : ℕ) (d : Record) → i < length records → start ≡ 16 + length (bytes_of (take i records)) → end ≡ start + length (pair_image (pair_of (get_or records i d)))
    → end ≡ 16 + length (bytes_of (take (i + 1) records))
next_index records i start end d within start_is end_is =
    let front : List Record = take i records in
    let one : Record = get_or records i d in
    let more : bytes_of (take (i + 1) records) ≡ bytes_of front ++ bytes_of (one ∷ []) = ap bytes_of (take_more records i d within) ∙ bytes_of-append front (one ∷ []) in
    omega (arith, start_is, end_is, ap length more, length-append (bytes_of front) (bytes_of (one ∷ [])), length-append (pair_image (pair_of one)) [])

-- a record, for what no index is past
abbrev pub nothing : Record
nothing = record { pseudokey = 0; key = []; value = [] }
