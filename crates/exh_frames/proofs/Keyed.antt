-- Numbers that begin with the pseudokeys of records.
use Rattle.std.proofs.Common.{◌≡◌, ℕ, zero, suc, ◌+◌, ◌<◌, ◌≤◌, List, [], ◌∷◌, ◌++◌, length, take, drop, set, get_or, slice_index, refl, sym, ap, ◌∙◌, subst, arith}
use Rattle.std.proofs.lemmas.List.{length-take-le}
use Rattle.exh_page.specs.declared.record.Record.{Record}
use Rattle.exh_frames.specs.InPlace.{AreKeyed}

-- so do more numbers
pub keyed_front : (records : List Record) (numbers rest : List ℕ) → AreKeyed records numbers → AreKeyed records (numbers ++ rest)
keyed_front [] numbers rest keyed = tt
keyed_front (r ∷ records) [] rest keyed = absurd keyed
keyed_front (r ∷ records) (number ∷ numbers) rest keyed = (keyed.0, keyed_front records numbers rest keyed.1)

-- and so many of them
keyed_all : (records : List Record) (numbers : List ℕ) → AreKeyed records numbers → AreKeyed records (take (length records) numbers)
keyed_all [] numbers keyed = tt
keyed_all (r ∷ records) [] keyed = absurd keyed
keyed_all (r ∷ records) (number ∷ numbers) keyed = (keyed.0, keyed_all records numbers keyed.1)

pub keyed_some : (records : List Record) (numbers : List ℕ) (n : ℕ) → length records ≡ n → AreKeyed records numbers → AreKeyed records (take n numbers)
keyed_some records numbers n all keyed = subst (λ (n : ℕ). AreKeyed records (take n numbers)) all (keyed_all records numbers keyed)

-- there are no fewer of them
pub keyed_long : (records : List Record) (numbers : List ℕ) → AreKeyed records numbers → length records ≤ length numbers
keyed_long [] numbers keyed = omega arith
keyed_long (r ∷ records) [] keyed = absurd keyed
keyed_long (r ∷ records) (number ∷ numbers) keyed = omega (arith, keyed_long records numbers keyed.1)

-- the number of an index is that of the record
pub keyed_at : (records : List Record) (numbers : List ℕ) (i : ℕ) (d : Record) → AreKeyed records numbers → i < length records → slice_index numbers i ≡ (get_or records i d).pseudokey
keyed_at [] numbers i d keyed within = absurd (omega (arith, within))
keyed_at (r ∷ records) [] i d keyed within = absurd keyed
keyed_at (r ∷ records) (number ∷ numbers) zero d keyed within = keyed.0
keyed_at (r ∷ records) (number ∷ numbers) (suc i) d keyed within = keyed_at records numbers i d keyed.1 (omega (arith, within))

-- the first records, and the others
pub keyed_take : (records : List Record) (numbers : List ℕ) (i : ℕ) → AreKeyed records numbers → AreKeyed (take i records) numbers
keyed_take [] numbers zero keyed = tt
keyed_take [] numbers (suc i) keyed = tt
keyed_take (r ∷ records) [] i keyed = absurd keyed
keyed_take (r ∷ records) (number ∷ numbers) zero keyed = tt
keyed_take (r ∷ records) (number ∷ numbers) (suc i) keyed = (keyed.0, keyed_take records numbers i keyed.1)

pub keyed_drop : (records : List Record) (numbers : List ℕ) (i : ℕ) → AreKeyed records numbers → AreKeyed (drop i records) (drop i numbers)
keyed_drop records numbers zero keyed = keyed
keyed_drop [] numbers (suc i) keyed = tt
keyed_drop (r ∷ records) [] (suc i) keyed = absurd keyed
keyed_drop (r ∷ records) (number ∷ numbers) (suc i) keyed = keyed_drop records numbers i keyed.1

-- those of records behind others
pub keyed_joined : (front back : List Record) (numbers others : List ℕ) → length numbers ≡ length front → AreKeyed front numbers → AreKeyed back others → AreKeyed (front ++ back) (numbers ++ others)
keyed_joined [] back [] others all keyed behind = behind
keyed_joined [] back (number ∷ numbers) others all keyed behind = absurd (omega (arith, all))
keyed_joined (r ∷ front) back [] others all keyed behind = absurd keyed
keyed_joined (r ∷ front) back (number ∷ numbers) others all keyed behind = (keyed.0, keyed_joined front back numbers others (omega (arith, all)) keyed.1 behind)

-- the first ones of both
pub keyed_both : (records : List Record) (numbers : List ℕ) (i : ℕ) → i ≤ length records → AreKeyed records numbers → (length (take i numbers) ≡ length (take i records)) × AreKeyed (take i records) (take i numbers)
keyed_both records numbers i within keyed =
    let len : length (take i records) ≡ i = length-take-le i records within in
    let long : length (take i numbers) ≡ i = length-take-le i numbers (omega (arith, within, keyed_long records numbers keyed)) in
    (long ∙ sym len, keyed_some (take i records) numbers i len (keyed_take records numbers i keyed))

-- a record in place of another of its pseudokey
pub keyed_over : (front back : List Record) (one item : Record) (numbers : List ℕ) → one.pseudokey ≡ item.pseudokey → AreKeyed (front ++ one ∷ back) numbers → AreKeyed (front ++ item ∷ back) numbers
keyed_over [] back one item [] same keyed = absurd keyed
keyed_over [] back one item (number ∷ numbers) same keyed = (keyed.0 ∙ same, keyed.1)
keyed_over (r ∷ front) back one item [] same keyed = absurd keyed
keyed_over (r ∷ front) back one item (number ∷ numbers) same keyed = (keyed.0, keyed_over front back one item numbers same keyed.1)

-- a record between others
pub keyed_between : (records : List Record) (item : Record) (numbers rest : List ℕ) (i n : ℕ) → i ≤ length records → length (drop i records) ≡ n → AreKeyed records numbers
    → AreKeyed (take i records ++ item ∷ drop i records) (take i numbers ++ item.pseudokey ∷ (take n (drop i numbers) ++ rest))
keyed_between records item numbers rest i n within all keyed =
    let first = keyed_both records numbers i within keyed in
    keyed_joined (take i records) (item ∷ drop i records) (take i numbers) _ first.0 first.1
    (refl, keyed_front (drop i records) (take n (drop i numbers)) rest (keyed_some (drop i records) (drop i numbers) n all (keyed_drop records numbers i keyed)))

-- without the record of an index
pub keyed_without : (records : List Record) (numbers rest : List ℕ) (i n : ℕ) → i ≤ length records → length (drop (i + 1) records) ≡ n → AreKeyed records numbers
    → AreKeyed (take i records ++ drop (i + 1) records) (take i numbers ++ (take n (drop (i + 1) numbers) ++ rest))
keyed_without records numbers rest i n within all keyed =
    let first = keyed_both records numbers i within keyed in
    keyed_joined (take i records) (drop (i + 1) records) (take i numbers) _ first.0 first.1
    (keyed_front (drop (i + 1) records) (take n (drop (i + 1) numbers)) rest (keyed_some (drop (i + 1) records) (drop (i + 1) numbers) n all (keyed_drop records numbers (i + 1) keyed)))

-- the number of one more record is put in its place
pub keyed_next : (front : List Record) (item : Record) (numbers : List ℕ) (i : ℕ) → i ≡ length front → i < length numbers → AreKeyed front numbers → AreKeyed (front ++ item ∷ []) (set numbers i item.pseudokey)
keyed_next [] item [] i is room keyed = absurd (omega (arith, room))
keyed_next [] item (number ∷ numbers) zero is room keyed = (refl, tt)
keyed_next [] item (number ∷ numbers) (suc i) is room keyed = absurd (omega (arith, is))
keyed_next (r ∷ front) item [] i is room keyed = absurd keyed
keyed_next (r ∷ front) item (number ∷ numbers) zero is room keyed = absurd (omega (arith, is))
keyed_next (r ∷ front) item (number ∷ numbers) (suc i) is room keyed = (keyed.0, keyed_next front item numbers i (omega (arith, is)) (omega (arith, room)) keyed.1)

-- a number is put where one stands
pub set_behind : (i : ℕ) (numbers rest : List ℕ) (word : ℕ) → i < length numbers → set (take (i + 1) numbers ++ rest) i word ≡ take i numbers ++ word ∷ rest
set_behind i [] rest word within = absurd (omega (arith, within))
set_behind zero (number ∷ numbers) rest word within = refl
set_behind (suc i) (number ∷ numbers) rest word within =
    let more : suc i + 1 ≡ suc (i + 1) = omega arith in
    ap (λ (n : ℕ). set (take n (number ∷ numbers) ++ rest) (suc i) word) more ∙ ap (λ (l : List ℕ). number ∷ l) (set_behind i numbers rest word (omega (arith, within)))
