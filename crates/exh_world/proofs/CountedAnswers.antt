-- What an answer tells, counted from a world before it; and the hops of a request that began at a current copy.
use Rattle.std.proofs.Common.{◌≡◌, ℕ, ◌+◌, List, length, take, Some, inl, inr, refl, sym, ap, ◌∙◌, subst, arith}
use Rattle.std.specs.FinMap.{get}
use Rattle.exh_prefix.specs.Bits.{bits_of, number_of, word_bits}
use Rattle.exh_prefix.specs.BitLemmas.{bits_of-number_of, length-bits_of}
use Rattle.exh_prefix.specs.Leading.{ward_of, ward_prefix}
use Rattle.exh_prefix.specs.LeadingLemmas.{length-leading_bits}
use Rattle.exh_prefix.specs.Prefix.{Begins, IsFront}
use Rattle.exh_prefix.specs.PrefixListLemmas.{one_there}
use Rattle.exh_table.specs.Table.{TableMap, IsEntryOf}
use Rattle.exh_table.specs.TableWalk.{walk_in}
use Rattle.exh_calls.specs.Call.{key_of}
use Rattle.exh_calls.specs.declared.call.Call.{Call}
use Rattle.exh_calls.specs.declared.reply.Reply.{Reply}
use Rattle.exh_ward.specs.WardState.{WardState, own_prefix}
use Rattle.exh_ward.specs.Distance.{IsDistance}
use Rattle.exh_walk.specs.DistanceLaws.{IsTableWithin, WholeCopiesNameHomes}
use Rattle.exh_walk.specs.RouteLaws.{MovesComeNearer, OneDistance}
use Rattle.exh_world.specs.InFlight.{request_named}
use Rattle.exh_world.specs.RequestProgress.{bound_in}
use Rattle.exh_world.specs.Sound.{IsOnTheWay, IsSoundWorld}
use Rattle.exh_world.specs.Step.{HasBegun, HasHopped, pseudokey_in}
use Rattle.exh_world.specs.World.{WorldState, changes_in, numbered}
use Rattle.exh_walk.specs.EventProgress.{Progress, Done, Moved, MustSplit, Stray}
use Rattle.exh_world.specs.declared.request.Request.{Request}
use Rattle.exh_world.specs.Current.{IsCurrentIn, LooksOnce}
use Rattle.exh_world.specs.Counted.{IsAway, GoesOn, TellsMoves}
use Rattle.exh_world.proofs.GoingOn.{way_of, no_stray, nearer_by}

-- ---- an answer

module _ {K : Type 0} (pseudokey_of : K → List ℕ → ℕ) (now answering after : WorldState K) (sound : IsSoundWorld pseudokey_of answering) (name : ℕ) (request : Request) (distance counted : ℕ) (goes : GoesOn now name request distance counted answering)
    (ward : ℕ) (reply : Reply) (moves bound : ℕ) (has : HasHopped pseudokey_of answering name ward (Done reply moves bound) after) where
  abbrev later : Request
  later = record request { page = goes.page; moves = request.moves + counted }

  is_later : has.request ≡ later
  is_later = let both : Some has.request ≡ Some later = sym has.there ∙ goes.there in cc

  pub counted_of : TellsMoves now request distance counted answering moves bound
  counted_of =
      let way : IsOnTheWay pseudokey_of answering has.request = way_of pseudokey_of answering sound name ward (Done reply moves bound) after has in
      let told : Done reply moves bound ≡ Done reply has.request.moves (bound_in answering has.request) = has.counted in
      let moves_are : moves ≡ has.request.moves = cc in
      let bound_is : bound ≡ bound_in answering has.request = cc in
      let few = way.few in
      record {
        told = moves_are ∙ ap (λ (r : Request). r.moves) is_later;
        few = omega (arith, goes.few);
        bound_is = bound_is ∙ ap (bound_in answering) is_later;
        within = omega (arith, moves_are, bound_is, few);
      }

-- ---- a current copy

module _ {K : Type 0} (pseudokey_of : K → List ℕ → ℕ) (old : WorldState K) (sound : IsSoundWorld pseudokey_of old) where
  ward_prefix_is : (pseudokey : ℕ) → ward_prefix old.ward_bits (ward_of old.ward_bits pseudokey) ≡ take old.ward_bits (word_bits pseudokey)
  ward_prefix_is pseudokey =
      let bits = take old.ward_bits (word_bits pseudokey) in
      ap (λ n. bits_of n (number_of bits)) (sym (length-leading_bits old.ward_bits pseudokey (omega (arith, sound.bits)))) ∙ bits_of-number_of bits

  ward_begins : (pseudokey : ℕ) → Begins (ward_prefix old.ward_bits (ward_of old.ward_bits pseudokey)) pseudokey
  ward_begins pseudokey = ap (λ n. take n (word_bits pseudokey)) (length-bits_of old.ward_bits (ward_of old.ward_bits pseudokey)) ∙ sym (ward_prefix_is pseudokey)

  module _ (name client copy : ℕ) (call : Call) (ward page : ℕ) (now : WorldState K) (has : HasBegun pseudokey_of old name client copy call ward page now) where
    abbrev k : ℕ
    k = pseudokey_in pseudokey_of old call

    own_is : own_prefix has.before ≡ ward_prefix old.ward_bits ward
    own_is = let own = sound.wards ward has.before has.found in ap (λ bits. ward_prefix bits has.before.number) own.bits ∙ ap (ward_prefix old.ward_bits) own.number_is

    -- the ward is the pseudokey's, and the page the one that the copy's walk in the ward names
    pub own_begins : Begins (own_prefix has.before) k
    own_begins = subst (λ p. Begins p k) (sym own_is) (subst (λ n. Begins (ward_prefix old.ward_bits n) k) (sym has.ward_is) (ward_begins k))

    pub walks_to : (walk_in has.table (own_prefix has.before) k).page ≡ page
    walks_to = ap (λ p. (walk_in has.table p k).page) (own_is ∙ ap (ward_prefix old.ward_bits) has.ward_is ∙ ward_prefix_is k) ∙ sym has.page_is

    module _ (homes : WholeCopiesNameHomes) (one : OneDistance) (table : TableMap) (there : numbered old.copies copy ≡ Some table) (current : IsCurrentIn old ward table) where
      -- of a current copy that is the home
      pub at_home : IsDistance has.before.pages page k 0
      at_home =
          let before = has.before in
          let own = sound.wards ward before has.found in
          let same_ward : current.ward ≡ before = one_there old.wards ward current.ward before current.there has.found in
          let same_table : table ≡ has.table = let both : Some table ≡ Some has.table = sym there ∙ has.there in cc in
          let whole : IsTableWithin (own_prefix before) before.start before.notices before.table = λ prefix front. own.sound.since prefix in
          let copied : IsTableWithin (own_prefix before) before.start before.notices table = λ prefix front.
          subst (IsEntryOf _ prefix) (sym (current.same prefix (subst (λ p. IsFront p prefix) own_is front) ∙ ap (λ (w : WardState K). get w.table prefix) same_ward)) (own.sound.since prefix) in
          let zero = homes before.cap (pseudokey_of before.keyer) (own_prefix before) before.start before.notices before.table before.pages table k own.sound.legal whole copied (sound.words (key_of call)) own_begins in
          subst (λ p. IsDistance before.pages p k 0) (ap (λ t. (walk_in t (own_prefix before) k).page) same_table ∙ walks_to) zero

      pub no_distance : has.distance ≡ 0
      no_distance = one has.before.pages page k has.distance 0 has.is_distance at_home

-- the first hop of such a request
module _ {K : Type 0} (pseudokey_of : K → List ℕ → ℕ) (moves : MovesComeNearer) (now later after : WorldState K) (sound : IsSoundWorld pseudokey_of later) (name : ℕ) (begun : Request) (none : begun.moves ≡ 0) (near : begun.distance ≡ 0)
    (counted : ℕ) (goes : GoesOn now name begun 0 counted later) (kept : changes_in later begun.ward ≡ changes_in now begun.ward) (since : begun.changes ≡ length (changes_in now begun.ward)) where
  many : length (changes_in later begun.ward) ≡ length (changes_in now begun.ward)
  many = ap length kept

  no_move : counted ≡ 0
  no_move = omega (arith, goes.few, many)

  nothing_left : goes.left ≡ 0
  nothing_left = omega (arith, goes.few, many)

  pub stands_still : request_named name later.in_flight ≡ Some begun
  stands_still =
      let page_is = goes.stays no_move in
      let moves_are : begun.moves + counted ≡ begun.moves = omega (arith, no_move) in
      goes.there ∙ ap (λ p. Some (record begun { page = p; moves = begun.moves + counted })) page_is ∙ ap (λ n. Some (record begun { moves = n })) moves_are

  module _ (number : ℕ) where
    is_begun : (hop : Progress) (has : HasHopped pseudokey_of later name number hop after) → has.request ≡ begun
    is_begun hop has = let both : Some has.request ≡ Some begun = sym has.there ∙ stands_still in cc

    pub first_hop : (hop : Progress) → HasHopped pseudokey_of later name number hop after → LooksOnce begun name later hop
    first_hop (Done reply told bound) has =
        let counts : Done reply told bound ≡ Done reply has.request.moves (bound_in later has.request) = has.counted in
        let told_is : told ≡ has.request.moves = cc in
        let bound_is : bound ≡ bound_in later has.request = cc in
        let told_none : told ≡ 0 = told_is ∙ ap (λ (r : Request). r.moves) (is_begun (Done reply told bound) has) ∙ none in
        let own_bound : bound_in later has.request ≡ bound_in later begun = ap (bound_in later) (is_begun (Done reply told bound) has) in
        let bound_none : bound ≡ 0 = omega (arith, bound_is, own_bound, near, since, many) in
        record { stands = stands_still; ends = inl (reply, ap (λ n. Done reply n bound) told_none ∙ ap (Done reply 0) bound_none) }
    first_hop (Moved next) has =
        let still : IsAway later has.request goes.left =
        let P : Request → Type 0 = λ r. IsAway later r goes.left in
        subst P (sym (is_begun (Moved next) has)) (subst (λ p. IsAway later (record begun { page = p }) goes.left) (goes.stays no_move) goes.is_left) in
        let nearer = nearer_by pseudokey_of later sound name number (Moved next) after has moves next refl goes.left still in
        absurd (omega (arith, nearer.1, nothing_left))
    first_hop MustSplit has = record { stands = stands_still; ends = inr refl }
    first_hop Stray has = absurd (no_stray pseudokey_of later sound name number Stray after has refl)
