-- What the rounds of keepers and couriers come to.
use Rattle.std.specs.Prelude.{◌≡◌, ⊤, ℕ, ◌+◌, ◌*◌, ◌^◌, ◌≤◌, Bool, true, false, ◌&&◌, nat_eq, leb, if◌then◌else◌, List, [], ◌∷◌, ◌++◌, length, slice_get, sum_by, count_by, map, Some, All, Contains}
use Rattle.std.specs.FinMap.{entries}
use Rattle.exh_prefix.specs.Leading.{ward_of}
use Rattle.exh_prefix.specs.Prefix.{low_of}
use Rattle.exh_notice.specs.declared.entry.Entry.{Entry}
use Rattle.exh_notice.specs.declared.notice.Notice.{Notice}
use Rattle.exh_table.specs.Table.{TableMap}
use Rattle.exh_copy.specs.Additions.{Additions}
use Rattle.exh_copy.specs.declared.addition.Addition.TheVariants.{Take}
use Rattle.exh_ward.specs.BuddySum.{HasBuddySum}
use Rattle.exh_ward.specs.MergeStep.{IsMergeStep}
use Rattle.exh_ward.specs.WardFault.{MergeRefused}
use Rattle.exh_ward.specs.WardState.{WardState, IsSoundWard, notices_above}
use Rattle.exh_ward.specs.declared.ward_fault.WardFault.{WardFault}
use Rattle.exh_ward.specs.declared.ward_fault.WardFault.TheVariants.{Worn, Memory, Page}
use Rattle.exh_live.specs.CursorPlaceLemmas.{AreFirst}

-- ---- keepers

-- the page and its right buddy have together at most half as many records as a page may
abbrev pub AreSparse : {K : Type 0} → WardState K → ℕ → Type 0
AreSparse ward at = (sum : ℕ) × HasBuddySum ward at sum × (2 * sum ≤ ward.cap)

-- a keeper's turn at a page: they were sparse and are merged, or nothing changed, since they aren't sparse or the number at the parent is the greatest
abbrev pub IsKeeperTurn : {K : Type 0} → WardState K → ℕ → Bool → WardState K → Type 0
IsKeeperTurn old at true new = AreSparse old at × ((notice : Notice) × IsMergeStep old at notice new)
IsKeeperTurn old at false new = (new ≡ old) × (AreSparse old at → MergeRefused old at Worn)

-- such a turn in the ward of a number
abbrev pub IsKeeperTurnOf : {K : Type 0} → ℕ → WardState K → ℕ → Bool → WardState K → Type 0
IsKeeperTurnOf number old at merged new = (old.number ≡ number) × IsKeeperTurn old at merged new

-- so in some sound ward
abbrev pub IsSomeKeeperTurn : {K : Type 0} → (K → List ℕ → ℕ) → ℕ → ℕ → Bool → Type 0
IsSomeKeeperTurn {K} pseudokey_of number at merged = (old new : WardState K) × IsSoundWard pseudokey_of old × IsKeeperTurnOf number old at merged new

-- a turn at each of the first so many pages of the ward of a number, in order, by which so many merges were made
abbrev pub AreKeeperTurns : {K : Type 0} → (K → List ℕ → ℕ) → ℕ → ℕ → ℕ → Type 0
AreKeeperTurns {K} pseudokey_of number pages merges = (turns : List Bool) × AreFirst (IsSomeKeeperTurn {K = K} pseudokey_of number) pages turns × (merges ≡ count_by (λ merged. merged) turns)

-- it is the ward of a number, and has so many pages
abbrev pub HasSoManyPages : {K : Type 0} → ℕ → WardState K → ℕ → Type 0
HasSoManyPages number ward count = (ward.number ≡ number) × (count ≡ length ward.pages)

-- so of some sound ward
abbrev pub HadSoManyPages : {K : Type 0} → (K → List ℕ → ℕ) → ℕ → ℕ → Type 0
HadSoManyPages {K} pseudokey_of number count = (ward : WardState K) × IsSoundWard pseudokey_of ward × HasSoManyPages number ward count

-- a keeper's round over the ward of a number that made so many merges: a turn at each page that there was
abbrev pub IsKeeperRound : {K : Type 0} → (K → List ℕ → ℕ) → ℕ → ℕ → Type 0
IsKeeperRound {K} pseudokey_of number merges = (pages : ℕ) × HadSoManyPages {K = K} pseudokey_of number pages × AreKeeperTurns {K = K} pseudokey_of number pages merges

-- what a merge of sparse pages may be refused for
abbrev pub MayRefuseKeeper : WardFault → Type 0
MayRefuseKeeper Worn = ⊤
MayRefuseKeeper Memory = ⊤
MayRefuseKeeper Page = ⊤
MayRefuseKeeper fault = ⊥

-- ---- couriers

-- the prefix begins with the ward's own
abbrev pub is_of_ward : ℕ → ℕ → List Bool → Bool
is_of_ward ward_bits number prefix = leb ward_bits (length prefix) && nat_eq (ward_of ward_bits (low_of prefix)) number

-- what an entry at a prefix adds to the cursor in a ward: its number, where the prefix is the ward's
abbrev pub told_of : ℕ → ℕ → List Bool × Entry → ℕ
told_of ward_bits number e = if is_of_ward ward_bits number e.0 then e.1.number else 0

-- how many changes of a ward's pages a table tells of: the sum of the numbers at the ward's prefixes
abbrev pub changes_told : ℕ → TableMap → ℕ → ℕ
changes_told ward_bits table number = sum_by (told_of ward_bits number) (entries table)

-- the first cursors are those that a table tells of
abbrev pub AreToldCursors : ℕ → TableMap → ℕ → List ℕ → Type 0
AreToldCursors ward_bits table count cursors = (length cursors ≡ count) × ((number cursor : ℕ) → slice_get cursors number ≡ Some cursor → cursor ≡ changes_told ward_bits table number)

-- a courier's cursors at first, one a ward: what the copy's start table tells of
abbrev pub AreFirstCursors : ℕ → TableMap → List ℕ → Type 0
AreFirstCursors ward_bits table cursors = AreToldCursors ward_bits table (2 ^ ward_bits) cursors

-- notices of a ward with consecutive indexes, from the one after a cursor to another
abbrev pub AreFromTo : ℕ → ℕ → List Notice → ℕ → Type 0
AreFromTo ward cursor [] last = last ≡ cursor
AreFromTo ward cursor (notice ∷ notices) last = (notice.ward ≡ ward) × (notice.index ≡ cursor + 1) × AreFromTo ward notice.index notices last

-- some sound ward of the notice's number had the notice
abbrev pub IsSomeWardsNotice : {K : Type 0} → (K → List ℕ → ℕ) → Notice → Type 0
IsSomeWardsNotice {K} pseudokey_of notice = (ward : WardState K) × IsSoundWard pseudokey_of ward × (ward.number ≡ notice.ward) × Contains ward.notices notice

-- so it is of each of the notices
abbrev pub AreSomeWardsNotices : {K : Type 0} → (K → List ℕ → ℕ) → List Notice → Type 0
AreSomeWardsNotices {K} pseudokey_of notices = All (IsSomeWardsNotice {K = K} pseudokey_of) notices

-- such notices ward by ward, from a number on, each ward's from its old cursor to its new one
abbrev pub AreCarried : ℕ → List ℕ → List Notice → List ℕ → Type 0
AreCarried ward [] notices new = (notices ≡ []) × (new ≡ [])
AreCarried ward (cursor ∷ cursors) notices new =
    (first rest : List Notice) × (last : ℕ) × (lasts : List ℕ)
    × (notices ≡ first ++ rest) × (new ≡ last ∷ lasts) × AreFromTo ward cursor first last × AreCarried (ward + 1) cursors rest lasts

-- a copy took these notices, which are pending, and nothing else of it changed
abbrev pub TakesAll : Additions → List Notice → Additions → Type 0
TakesAll old notices new = new ≡ record old { pending = old.pending ++ map Take notices }

-- a copy took a beginning of these notices
abbrev pub TakesFirst : Additions → List Notice → Additions → Type 0
TakesFirst old notices new = (taken rest : List Notice) × (notices ≡ taken ++ rest) × TakesAll old taken new

-- a courier's round that was refused: no cursor moved, and a copy took a beginning of such notices of all wards, from its cursors on, each ward's own
abbrev pub IsRefusedRound : {K : Type 0} → (K → List ℕ → ℕ) → Additions → List ℕ → Additions → List ℕ → Type 0
IsRefusedRound {K} pseudokey_of old cursors new after =
    (after ≡ cursors) × ((notices : List Notice) × (lasts : List ℕ) × AreCarried 0 cursors notices lasts × TakesFirst old notices new × AreSomeWardsNotices {K = K} pseudokey_of notices)

-- such notices of a ward were pushed to a list, from a cursor to another
abbrev pub PushesFromTo : ℕ → List Notice → ℕ → List Notice → ℕ → Type 0
PushesFromTo ward old cursor new last = (notices : List Notice) × AreFromTo ward cursor notices last × (new ≡ old ++ notices)

-- some sound ward had so many notices above a cursor
abbrev pub HadSoMany : {K : Type 0} → (K → List ℕ → ℕ) → ℕ → ℕ → Type 0
HadSoMany {K} pseudokey_of cursor count = (ward : WardState K) × IsSoundWard pseudokey_of ward × (count ≡ length (notices_above cursor ward.notices))

-- the notice is of the ward, and its index is the next one
abbrev pub Follows : ℕ → ℕ → Notice → Type 0
Follows ward cursor notice = (notice.ward ≡ ward) × (notice.index ≡ cursor + 1)

-- the first of the notices, where there is one, doesn't follow
abbrev pub NoneFollows : ℕ → ℕ → List Notice → Type 0
NoneFollows ward cursor [] = ⊤
NoneFollows ward cursor (notice ∷ notices) = ¬ Follows ward cursor notice

-- of a batch of notices all that go on from a cursor were pushed to a list, to another cursor
abbrev pub PushesBatch : ℕ → List Notice → List Notice → ℕ → List Notice → ℕ → Type 0
PushesBatch ward batch old cursor new last = (pushed rest : List Notice) × (batch ≡ pushed ++ rest) × AreFromTo ward cursor pushed last × (new ≡ old ++ pushed) × NoneFollows ward last rest
