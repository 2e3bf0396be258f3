-- A block in which the bytes of records are replaced by those of others.
use Rattle.std.proofs.Common.{◌≡◌, ℕ, ◌+◌, ◌-◌, ◌≤◌, List, ◌++◌, length, map, set, take, drop, replicate, slice_index, refl, sym, ap, ◌∙◌, append_assoc, arith}
use Rattle.std.specs.List.{flat_map}
use Rattle.std.proofs.lemmas.List.{take_at, drop_at, drop-drop, drop-append-le, drop-replicate, length-append, length-replicate, map-append, replicate-append-replicate}
use Rattle.std.proofs.lemmas.List.Concat.{flat_map-append}
use Rattle.exh_page.specs.declared.record.Record.{Record}
use Rattle.exh_page.specs.declared.page.Page.{Page}
use Rattle.exh_page.specs.declared.page.Page.TheVariants.{Live, Forward}
use Rattle.exh_page.specs.KeyMap.{pair_of}
use Rattle.exh_page.specs.Page.{IsLive, records_of, with_records}
use Rattle.exh_codec.specs.BlockLemmas.{padded_front, length-padded}
use Rattle.exh_codec.specs.Cells.{pair_image}
use Rattle.exh_codec.specs.Head.{head_bytes, head_of}
use Rattle.exh_codec.specs.PageImage.{padded}
use Rattle.exh_frames.specs.InPlace.{bytes_of}

pub bytes_of-append : (one other : List Record) → bytes_of (one ++ other) ≡ bytes_of one ++ bytes_of other
bytes_of-append one other = ap (flat_map pair_image) (map-append pair_of one other) ∙ flat_map-append pair_image (map pair_of one) (map pair_of other)

-- a block that begins with some bytes and zeros has that content
from_parts : (block used rest : List ℕ) → length used ≤ 4064 → block ≡ used ++ (replicate (4064 - length used) 0 ++ rest) → take 4064 block ≡ padded 4064 used
from_parts block used rest fits is =
    ap (take 4064) (is ∙ sym (append_assoc used (replicate (4064 - length used) 0) rest))
    ∙ take_at (padded 4064 used) rest 4064 (length-padded 4064 used fits)

-- bytes that are written behind all others
pub appended : (block front put new : List ℕ) → take 4064 block ≡ padded 4064 front → length front + length put ≤ 4064
    → new ≡ take (length front) block ++ (put ++ drop (length front + length put) block) → take 4064 new ≡ padded 4064 (front ++ put)
appended block front put new has room is =
    let rest : List ℕ = drop 4064 block in
    let zeros : List ℕ = replicate (4064 - length front) 0 in
    let parts : block ≡ front ++ (zeros ++ rest) = padded_front block front 4064 has in
    let fore : take (length front) block ≡ front = ap (take (length front)) parts ∙ take_at front (zeros ++ rest) (length front) refl in
    let behind : drop (length front + length put) block ≡ replicate (4064 - length front - length put) 0 ++ rest =
    sym (drop-drop (length put) (length front) block) ∙ ap (λ (l : List ℕ). drop (length put) (drop (length front) l)) parts
    ∙ ap (drop (length put)) (drop_at front (zeros ++ rest) (length front) refl)
    ∙ drop-append-le (length put) zeros rest (omega (arith, room, length-replicate {A = ℕ} (4064 - length front) 0))
    ∙ ap (λ (l : List ℕ). l ++ rest) (drop-replicate (length put) (4064 - length front) 0) in
    let whole : 4064 - length front - length put ≡ 4064 - length (front ++ put) = omega (arith, length-append front put) in
    from_parts new (front ++ put) rest (omega (arith, room, length-append front put))
    (is ∙ ap (λ (l : List ℕ). l ++ (put ++ drop (length front + length put) block)) fore
    ∙ ap (λ (l : List ℕ). front ++ (put ++ l)) behind
    ∙ sym (append_assoc front put (replicate (4064 - length front - length put) 0 ++ rest))
    ∙ ap (λ (n : ℕ). (front ++ put) ++ (replicate n 0 ++ rest)) whole)

-- the last bytes are cleared
pub cleared : (block front back new : List ℕ) → take 4064 block ≡ padded 4064 (front ++ back) → length front + length back ≤ 4064
    → new ≡ take (length front) block ++ (replicate (length back) 0 ++ drop (length front + length back) block) → take 4064 new ≡ padded 4064 front
cleared block front back new has room is =
    let rest : List ℕ = drop 4064 block in
    let zeros : List ℕ = replicate (4064 - length (front ++ back)) 0 in
    let parts : block ≡ (front ++ back) ++ (zeros ++ rest) = padded_front block (front ++ back) 4064 has in
    let fore : take (length front) block ≡ front = ap (take (length front)) (parts ∙ append_assoc front back (zeros ++ rest)) ∙ take_at front (back ++ (zeros ++ rest)) (length front) refl in
    let behind : drop (length front + length back) block ≡ zeros ++ rest =
    ap (drop (length front + length back)) parts ∙ drop_at (front ++ back) (zeros ++ rest) (length front + length back) (length-append front back) in
    let whole : length back + (4064 - length (front ++ back)) ≡ 4064 - length front = omega (arith, room, length-append front back) in
    from_parts new front rest (omega (arith, room))
    (is ∙ ap (λ (l : List ℕ). l ++ (replicate (length back) 0 ++ drop (length front + length back) block)) fore
    ∙ ap (λ (l : List ℕ). front ++ (replicate (length back) 0 ++ l)) behind
    ∙ ap (λ (l : List ℕ). front ++ l) (sym (append_assoc (replicate (length back) 0) zeros rest))
    ∙ ap (λ (l : List ℕ). front ++ (l ++ rest)) (replicate-append-replicate {A = ℕ} (length back) (4064 - length (front ++ back)) 0)
    ∙ ap (λ (n : ℕ). front ++ (replicate n 0 ++ rest)) whole)

-- other bytes as long as the first ones are written over these
pub headed : (block old new bytes : List ℕ) → take 4064 block ≡ padded 4064 (old ++ bytes) → length old ≡ 16 → length new ≡ 16 → length bytes ≤ 4048 → take 4064 (new ++ drop 16 block) ≡ padded 4064 (new ++ bytes)
headed block old new bytes has old_len new_len room =
    let rest : List ℕ = drop 4064 block in
    let zeros : ℕ → List ℕ = λ (n : ℕ). replicate (4064 - n) 0 ++ rest in
    let long : length (old ++ bytes) ≡ length (new ++ bytes) = omega (arith, length-append old bytes, length-append new bytes, old_len, new_len) in
    let behind : drop 16 block ≡ bytes ++ zeros (length (old ++ bytes)) =
    ap (drop 16) (padded_front block (old ++ bytes) 4064 has ∙ append_assoc old bytes (zeros (length (old ++ bytes)))) ∙ drop_at old (bytes ++ zeros (length (old ++ bytes))) 16 old_len in
    from_parts (new ++ drop 16 block) (new ++ bytes) rest (omega (arith, length-append new bytes, new_len, room))
    (ap (λ (l : List ℕ). new ++ l) behind ∙ sym (append_assoc new bytes (zeros (length (old ++ bytes)))) ∙ ap (λ (n : ℕ). (new ++ bytes) ++ zeros n) long)

-- the bytes between a front and a back are replaced by others: the back is moved, and there are so many zeros fewer, or more
pub edited : (block front middle back put new : List ℕ) (start end used len new_used : ℕ)
    → take 4064 block ≡ padded 4064 (front ++ (middle ++ back))
    → start ≡ length front → end ≡ start + length middle → used ≡ end + length back → len ≡ length put → new_used ≡ start + len + length back → used ≤ 4064 → new_used ≤ 4064
    → new ≡ take start block ++ (put ++ (take (used - end) (drop end block) ++ (replicate (used - new_used) 0 ++ drop (used + (new_used - used)) block)))
    → take 4064 new ≡ padded 4064 (front ++ (put ++ back))
edited block front middle back put new start end used len new_used has start_is end_is used_is len_is new_used_is fits new_fits is =
    let rest : List ℕ = drop 4064 block in
    let whole : List ℕ = front ++ (middle ++ back) in
    let zeros : List ℕ = replicate (4064 - length whole) 0 in
    let all : length whole ≡ used = omega (arith, length-append front (middle ++ back), length-append middle back) in
    let parts : block ≡ whole ++ (zeros ++ rest) = padded_front block whole 4064 has in
    let cut : whole ≡ (front ++ middle) ++ back = sym (append_assoc front middle back) in
    let fore : take start block ≡ front = ap (take start) (parts ∙ append_assoc front (middle ++ back) (zeros ++ rest)) ∙ take_at front ((middle ++ back) ++ (zeros ++ rest)) start (sym start_is) in
    let behind : drop end block ≡ back ++ (zeros ++ rest) =
    ap (drop end) (parts ∙ ap (λ (l : List ℕ). l ++ (zeros ++ rest)) cut ∙ append_assoc (front ++ middle) back (zeros ++ rest))
    ∙ drop_at (front ++ middle) (back ++ (zeros ++ rest)) end (omega (arith, length-append front middle)) in
    let moved : take (used - end) (drop end block) ≡ back = ap (take (used - end)) behind ∙ take_at back (zeros ++ rest) (used - end) (omega arith) in
    let more : ℕ = new_used - used in
    let room : more ≤ length zeros = omega (arith, length-replicate {A = ℕ} (4064 - length whole) 0) in
    let past : drop (used + more) block ≡ replicate (4064 - length whole - more) 0 ++ rest =
    sym (drop-drop more used block) ∙ ap (λ (l : List ℕ). drop more (drop used l)) parts
    ∙ ap (drop more) (drop_at whole (zeros ++ rest) used all) ∙ drop-append-le more zeros rest room
    ∙ ap (λ (l : List ℕ). l ++ rest) (drop-replicate more (4064 - length whole) 0) in
    let zeros_behind : replicate (used - new_used) 0 ++ drop (used + more) block ≡ replicate (4064 - length (front ++ (put ++ back))) 0 ++ rest =
    ap (λ (l : List ℕ). replicate (used - new_used) 0 ++ l) past ∙ sym (append_assoc (replicate (used - new_used) 0) (replicate (4064 - length whole - more) 0) rest)
    ∙ ap (λ (l : List ℕ). l ++ rest) (replicate-append-replicate {A = ℕ} (used - new_used) (4064 - length whole - more) 0)
    ∙ ap (λ (n : ℕ). replicate n 0 ++ rest) (omega (arith, all, length-append front (put ++ back), length-append put back)) in
    from_parts new (front ++ (put ++ back)) rest (omega (arith, length-append front (put ++ back), length-append put back))
    (is ∙ ap (λ (l : List ℕ). l ++ (put ++ (take (used - end) (drop end block) ++ (replicate (used - new_used) 0 ++ drop (used + more) block)))) fore
    ∙ ap (λ (l : List ℕ). front ++ (put ++ (l ++ (replicate (used - new_used) 0 ++ drop (used + more) block)))) moved
    ∙ ap (λ (l : List ℕ). front ++ (put ++ (back ++ l))) zeros_behind
    ∙ ap (λ (l : List ℕ). front ++ l) (sym (append_assoc put back (replicate (4064 - length (front ++ (put ++ back))) 0 ++ rest)))
    ∙ sym (append_assoc front (put ++ back) (replicate (4064 - length (front ++ (put ++ back))) 0 ++ rest)))

-- ---- the head of a live page

pub length-head : (page : Page) → length (head_bytes (head_of page)) ≡ 16
unfolding head_bytes
length-head page = refl

-- says how many records there are
pub read_count : (page : Page) (bytes : List ℕ) → IsLive page → slice_index (head_bytes (head_of page) ++ bytes) 2 ≡ length (records_of page)
unfolding head_bytes
read_count (Live prefix right records) bytes live = refl
read_count (Forward low target) bytes live = absurd live

-- and with another count it is that of the page with other records
set_count : (records : List Record) (page : Page) (bytes : List ℕ) → IsLive page → set (head_bytes (head_of page) ++ bytes) 2 (length records) ≡ head_bytes (head_of (with_records records page)) ++ bytes
unfolding head_bytes
set_count records (Live prefix right old) bytes live = refl
set_count records (Forward low target) bytes live = absurd live

pub counted : (block bytes : List ℕ) (records : List Record) (page : Page) → IsLive page → length bytes ≤ 4048 → take 4064 block ≡ padded 4064 (head_bytes (head_of page) ++ bytes)
    → take 4064 (set block 2 (length records)) ≡ padded 4064 (head_bytes (head_of (with_records records page)) ++ bytes)
counted block bytes records page live fits has =
    let rest : List ℕ = drop 4064 block in
    let old : List ℕ = head_bytes (head_of page) in
    let new : List ℕ = head_bytes (head_of (with_records records page)) in
    let zeros : ℕ → List ℕ = λ (n : ℕ). replicate (4064 - n) 0 ++ rest in
    let long : length (old ++ bytes) ≡ length (new ++ bytes) = omega (arith, length-append old bytes, length-append new bytes, length-head page, length-head (with_records records page)) in
    from_parts (set block 2 (length records)) (new ++ bytes) rest (omega (arith, length-append new bytes, length-head (with_records records page)))
    (ap (λ (l : List ℕ). set l 2 (length records)) (padded_front block (old ++ bytes) 4064 has ∙ append_assoc old bytes (zeros (length (old ++ bytes))))
    ∙ set_count records page (bytes ++ zeros (length (old ++ bytes))) live
    ∙ sym (append_assoc new bytes (zeros (length (old ++ bytes))))
    ∙ ap (λ (n : ℕ). (new ++ bytes) ++ zeros n) long)
